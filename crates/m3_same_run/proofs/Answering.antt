-- What an answer sets in both procedures fits.
use Rattle.std.proofs.Common.{◌≡◌, ℕ, suc, Bool, List, sym, ◌∙◌, subst}
use Rattle.std.specs.Prelude.{◌==◌, not, Option, Some, None}
use Rattle.m3_isa.specs.Arithmetic.{flag}
use Rattle.m3_mid.specs.declared.calls.Raised.{Raised}
use Rattle.m3_mid_meaning.specs.Words.{Word, IsNormal, number, normal}
use Rattle.m3_mid_meaning.specs.Memory.{Memory, Around}
use Rattle.m3_mid_meaning.specs.States.{State, state_with, with_memory}
use Rattle.m3_mid_meaning.specs.Points.{Answer, state_with_any, state_with_raised}
use Rattle.m3_mid_meaning.proofs.WordSums.{normal_is, times_normal, number_normal}
use Rattle.m3_same_forms.specs.declared.forms.Symbol.{Symbol}
use Rattle.m3_same_forms.specs.Forms.{Form}
use Rattle.m3_same_forms.specs.Facts.{lasts}
use Rattle.m3_same_run.specs.Check.{Standing, forget, new_word, newest, set_left, set_right, told, told_raised}
use Rattle.m3_same_forms.specs.Meaning.{Means, with_new}
use Rattle.m3_same_run.specs.Fits.{Fits}
use Rattle.m3_same_forms.proofs.Sums.{new_is, means_still}
use Rattle.m3_same_run.proofs.Fitting.{fits_left, fits_right, fits_new, fits_memory, newest_old}

abbrev pub alerted : Answer → Word
alerted answer = number (flag (not (answer.exception == 0)))

module _ (around : Around) (common : List Bool) where
  -- ---- words that an answer has

  abbrev pub v1 : (Symbol → Word) → ℕ → Answer → Symbol → Word
  v1 v n answer = with_new v n (normal answer.result)

  abbrev pub v2 : (Symbol → Word) → ℕ → Answer → Symbol → Word
  v2 v n answer = with_new (v1 v n answer) (suc n) (number answer.exception)

  abbrev pub v3 : (Symbol → Word) → ℕ → Answer → Symbol → Word
  v3 v n answer = with_new (v2 v n answer) (suc (suc n)) (normal answer.number)

  abbrev pub v4 : (Symbol → Word) → ℕ → Answer → Symbol → Word
  v4 v n answer = with_new (v3 v n answer) (suc (suc (suc n))) (normal answer.tidy)

  abbrev pub v5 : (Symbol → Word) → ℕ → Answer → Symbol → Word
  v5 v n answer = with_new (v4 v n answer) (suc (suc (suc (suc n)))) (alerted answer)

  -- behind a point, before any temporary is set
  abbrev pub behind_point : Standing → Standing
  behind_point st = new_word (new_word (new_word (new_word (new_word (forget lasts st)))))

  pub fits_answer : (v : Symbol → Word) (st : Standing) (s s' : State) (m : Memory) (answer : Answer) → Fits around common v st s s' → Fits around common (v5 v st.fresh answer) (behind_point st) (with_memory s m) (with_memory s' m)
  fits_answer v st s s' m answer fits =
      let n = st.fresh in
      let t = with_memory s m in
      let t' = with_memory s' m in
      let st0 = forget lasts st in
      let f0 = fits_memory around common v st s s' fits m in
      let f1 = fits_new around common v st0 t t' f0 (normal answer.result) (times_normal 1 answer.result) in
      let f2 = fits_new around common (v1 v n answer) (new_word st0) t t' f1 (number answer.exception) (number_normal answer.exception) in
      let f3 = fits_new around common (v2 v n answer) (new_word (new_word st0)) t t' f2 (normal answer.number) (times_normal 1 answer.number) in
      let f4 = fits_new around common (v3 v n answer) (new_word (new_word (new_word st0))) t t' f3 (normal answer.tidy) (times_normal 1 answer.tidy) in
      fits_new around common (v4 v n answer) (new_word (new_word (new_word (new_word st0)))) t t' f4 (alerted answer) (number_normal (flag (not (answer.exception == 0))))

  module _ (v : Symbol → Word) (n : ℕ) (answer : Answer) where
    abbrev pub five : ℕ
    five = suc (suc (suc (suc (suc n))))

    abbrev now : Symbol → Word
    now = v5 v n answer

    fresh_means : (u : Symbol → Word) (k : ℕ) (w : Word) → IsNormal w → Means (with_new u k w) (suc k) (newest k) w
    fresh_means u k w h = (newest_old k, new_is u k w h)

    pub result_means : Means now five (newest n) (normal answer.result)
    result_means =
        let m1 = fresh_means v n (normal answer.result) (times_normal 1 answer.result) in
        let m2 = means_still (v1 v n answer) (suc n) (number answer.exception) (newest n) (normal answer.result) m1 in
        let m3 = means_still (v2 v n answer) (suc (suc n)) (normal answer.number) (newest n) (normal answer.result) m2 in
        let m4 = means_still (v3 v n answer) (suc (suc (suc n))) (normal answer.tidy) (newest n) (normal answer.result) m3 in
        means_still (v4 v n answer) (suc (suc (suc (suc n)))) (alerted answer) (newest n) (normal answer.result) m4

    itself_normal : (m : ℕ) → normal (number m) ≡ number m
    itself_normal m = normal_is (number m) (number_normal m)

    pub exception_means : Means now five (newest (suc n)) (normal (number answer.exception))
    exception_means =
        let w = number answer.exception in
        let m2 = fresh_means (v1 v n answer) (suc n) w (number_normal answer.exception) in
        let m3 = means_still (v2 v n answer) (suc (suc n)) (normal answer.number) (newest (suc n)) w m2 in
        let m4 = means_still (v3 v n answer) (suc (suc (suc n))) (normal answer.tidy) (newest (suc n)) w m3 in
        let m5 = means_still (v4 v n answer) (suc (suc (suc (suc n)))) (alerted answer) (newest (suc n)) w m4 in
        (m5.0, itself_normal answer.exception ∙ m5.1)

    pub number_means : Means now five (newest (suc (suc n))) (normal answer.number)
    number_means =
        let w = normal answer.number in
        let m3 = fresh_means (v2 v n answer) (suc (suc n)) w (times_normal 1 answer.number) in
        let m4 = means_still (v3 v n answer) (suc (suc (suc n))) (normal answer.tidy) (newest (suc (suc n))) w m3 in
        means_still (v4 v n answer) (suc (suc (suc (suc n)))) (alerted answer) (newest (suc (suc n))) w m4

    pub tidy_means : Means now five (newest (suc (suc (suc n)))) (normal answer.tidy)
    tidy_means =
        let w = normal answer.tidy in
        let m4 = fresh_means (v3 v n answer) (suc (suc (suc n))) w (times_normal 1 answer.tidy) in
        means_still (v4 v n answer) (suc (suc (suc (suc n)))) (alerted answer) (newest (suc (suc (suc n)))) w m4

    pub alerted_means : Means now five (newest (suc (suc (suc (suc n))))) (normal (alerted answer))
    alerted_means =
        let m5 = fresh_means (v4 v n answer) (suc (suc (suc (suc n)))) (alerted answer) (number_normal (flag (not (answer.exception == 0)))) in
        (m5.0, itself_normal (flag (not (answer.exception == 0))) ∙ m5.1)

  -- ---- temporaries that are set, where any is

  module _ (v : Symbol → Word) where
    pub told_left : (st : Standing) (s s' : State) → Fits around common v st s s' → (to : Option ℕ) (k : ℕ) (w : Word) → Means v st.fresh (newest k) (normal w) → Fits around common v (record st { left = told to k st.left }) (state_with_any s to w) s'
    told_left st s s' fits None k w m = fits
    told_left st s s' fits (Some to) k w m = fits_left around common v st s s' fits to (newest k) w m

    pub told_right : (st : Standing) (s s' : State) → Fits around common v st s s' → (to : Option ℕ) (k : ℕ) (w : Word) → Means v st.fresh (newest k) (normal w) → Fits around common v (record st { right = told to k st.right }) s (state_with_any s' to w)
    told_right st s s' fits None k w m = fits
    told_right st s s' fits (Some to) k w m = fits_right around common v st s s' fits to (newest k) w m

    module _ (n : ℕ) (answer : Answer) (fresh : ℕ) (e : Means v fresh (newest (suc n)) (normal (number answer.exception))) (m : Means v fresh (newest (suc (suc n))) (normal answer.number)) (t : Means v fresh (newest (suc (suc (suc n)))) (normal answer.tidy)) where
      pub raised_left : (st : Standing) (s s' : State) → st.fresh ≡ fresh → Fits around common v st s s' → (raised : Option Raised) → Fits around common v (record st { left = told_raised raised (suc n) (suc (suc n)) (suc (suc (suc n))) st.left }) (state_with_raised s raised answer) s'
      raised_left st s s' same fits None = fits
      raised_left st s s' same fits (Some raised) =
          let back : (a : Form) (w : Word) → Means v fresh a w → Means v st.fresh a w = λ a w x. subst (λ z. Means v z a w) (sym same) x in
          let s1 = state_with s raised.exception (number answer.exception) in
          let s2 = state_with s1 raised.number answer.number in
          let st1 = set_left st raised.exception (newest (suc n)) in
          let st2 = set_left st1 raised.number (newest (suc (suc n))) in
          let f1 = fits_left around common v st s s' fits raised.exception (newest (suc n)) (number answer.exception) (back (newest (suc n)) (normal (number answer.exception)) e) in
          let f2 = fits_left around common v st1 s1 s' f1 raised.number (newest (suc (suc n))) answer.number (back (newest (suc (suc n))) (normal answer.number) m) in
          fits_left around common v st2 s2 s' f2 raised.tidy (newest (suc (suc (suc n)))) answer.tidy (back (newest (suc (suc (suc n)))) (normal answer.tidy) t)

      pub raised_right : (st : Standing) (s s' : State) → st.fresh ≡ fresh → Fits around common v st s s' → (raised : Option Raised) → Fits around common v (record st { right = told_raised raised (suc n) (suc (suc n)) (suc (suc (suc n))) st.right }) s (state_with_raised s' raised answer)
      raised_right st s s' same fits None = fits
      raised_right st s s' same fits (Some raised) =
          let back : (a : Form) (w : Word) → Means v fresh a w → Means v st.fresh a w = λ a w x. subst (λ z. Means v z a w) (sym same) x in
          let s1 = state_with s' raised.exception (number answer.exception) in
          let s2 = state_with s1 raised.number answer.number in
          let st1 = set_right st raised.exception (newest (suc n)) in
          let st2 = set_right st1 raised.number (newest (suc (suc n))) in
          let f1 = fits_right around common v st s s' fits raised.exception (newest (suc n)) (number answer.exception) (back (newest (suc n)) (normal (number answer.exception)) e) in
          let f2 = fits_right around common v st1 s s1 f1 raised.number (newest (suc (suc n))) answer.number (back (newest (suc (suc n))) (normal answer.number) m) in
          fits_right around common v st2 s s2 f2 raised.tidy (newest (suc (suc (suc n)))) answer.tidy (back (newest (suc (suc (suc n)))) (normal answer.tidy) t)
