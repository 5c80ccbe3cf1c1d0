-- Each activation that waits lives.
use Rattle.std.proofs.Common.{◌≡◌, ℕ, zero, suc, ◌<◌, true, false, List, [], ◌∷◌, ◌++◌, length, Option, Some, None, refl, sym, ap, ◌∙◌, subst, arith, ⊎_elim}
use Rattle.std.specs.Prelude.{◌≢◌, ◌==◌, slice_get, slice_set}
use Rattle.std.proofs.lemmas.Bool.{cases_Bool}
use Rattle.std.proofs.lemmas.Bool.Decides.{nat_tests}
use Rattle.std.proofs.lemmas.Option.{slice_get_within}
use Rattle.m3_mid_programs.specs.Activations.{Frame}
use Rattle.m3_mid_programs.specs.Programs.{MidState}
use Rattle.m3_mid_programs.specs.Living.{IsOneOf, first, later, AllLive, AreApart, HasFrames, Others}
use Rattle.m3_mid_programs.proofs.Cells.{get_other}

-- ---- lists

get_behind : {A : Type 0} (xs ys : List A) (k : ℕ) (x : A) → slice_get xs k ≡ Some x → slice_get (xs ++ ys) k ≡ Some x
get_behind [] ys k x e = absurd (let bad : None ≡ Some x = e in cc)
get_behind (z ∷ zs) ys zero x e = e
get_behind (z ∷ zs) ys (suc k) x e = get_behind zs ys k x e

get_last : {A : Type 0} (xs : List A) (y : A) → slice_get (xs ++ y ∷ []) (length xs) ≡ Some y
get_last [] y = refl
get_last (x ∷ xs) y = get_last xs y

less_differs : (a b : ℕ) → a < b → a ≢ b
less_differs a b h e = omega (arith, h, e)

-- ---- frames that live

module _ (frames : List (Option ℕ)) where
  low : (f : Frame) (fs : List Frame) → AllLive frames fs → IsOneOf f fs → f.number < length frames
  low f fs h of = slice_get_within frames f.number (Some f.around.frame) (h.there f of)

  live_more : (x : Option ℕ) (fs : List Frame) → AllLive frames fs → AllLive (frames ++ x ∷ []) fs
  live_more x fs h = record { there = λ f of. get_behind frames (x ∷ []) f.number (Some f.around.frame) (h.there f of); falling = h.falling }

  live_tail : (f : Frame) (fs : List Frame) → AllLive frames (f ∷ fs) → AllLive frames fs
  live_tail f fs h = record { there = λ g of. h.there g (later f fs of); falling = h.falling.1 }

  live_less : (k : ℕ) (fs : List Frame) → ((g : Frame) → IsOneOf g fs → g.number ≢ k) → AllLive frames fs → AllLive (slice_set frames k None) fs
  live_less k fs differ h = record { there = λ f of. get_other frames k f.number None (differ f of) ∙ h.there f of; falling = h.falling }

  new_there : (f g : Frame) (fs : List Frame) → AllLive frames fs → f.number ≡ length frames → IsOneOf g (f ∷ fs) → slice_get (frames ++ Some f.around.frame ∷ []) g.number ≡ Some (Some g.around.frame)
  new_there f g fs h e (first _) = ap (λ k. slice_get (frames ++ Some f.around.frame ∷ []) k) e ∙ get_last frames (Some f.around.frame)
  new_there f g fs h e (later _ _ of) = get_behind frames (Some f.around.frame ∷ []) g.number (Some g.around.frame) (h.there g of)

  live_new : (f : Frame) (fs : List Frame) → AllLive frames fs → f.number ≡ length frames → AllLive (frames ++ Some f.around.frame ∷ []) (f ∷ fs)
  live_new f fs h e = record {
    there = λ g of. new_there f g fs h e of;
    falling = (λ g of. subst (λ k. g.number < k) (sym e) (low g fs h of), h.falling);
  }

-- ---- the turn of a thread

module _ (s : MidState) (n : ℕ) (frames : List (Option ℕ)) where
  new_apart : (f : Frame) (own fs : List Frame) (k : ℕ) → Others s n frames own → f.number ≡ length frames → k ≢ n → HasFrames s k fs → AreApart (f ∷ own) fs
  new_apart f own fs k h e differ has f' g (first _) of' same = less_differs g.number f.number (subst (λ i. g.number < i) (sym e) (low frames g fs (h.others k fs differ has) of')) (sym same)
  new_apart f own fs k h e differ has f' g (later _ _ of) of' same = h.apart k fs differ has f' g of of' same

  pub enters : (f : Frame) (own : List Frame) → Others s n frames own → f.number ≡ length frames → Others s n (frames ++ Some f.around.frame ∷ []) (f ∷ own)
  enters f own h e = record {
    its = live_new frames f own h.its e;
    others = λ k fs differ has. live_more frames (Some f.around.frame) fs (h.others k fs differ has);
    apart = λ k fs differ has. new_apart f own fs k h e differ has;
    among = h.among;
  }

  pub leaves : (f : Frame) (own : List Frame) → Others s n frames (f ∷ own) → Others s n (slice_set frames f.number None) own
  leaves f own h = record {
    its = live_less frames f.number own (λ g of. less_differs g.number f.number (h.its.falling.0 g of)) (live_tail frames f own h.its);
    others = λ k fs differ has. live_less frames f.number fs (λ g of same. h.apart k fs differ has f g (first own) of (sym same)) (h.others k fs differ has);
    apart = λ k fs differ has g g' of of'. h.apart k fs differ has g g' (later f own of) of';
    among = h.among;
  }

  -- the same in a state in which the other threads have the same frames
  pub others_as : (after : MidState) (own : List Frame) → ((k : ℕ) (fs : List Frame) → k ≢ n → HasFrames after k fs → HasFrames s k fs) → Others s n frames own → Others after n frames own
  others_as after own same h = record {
    its = h.its;
    others = λ k fs differ has. h.others k fs differ (same k fs differ has);
    apart = λ k fs differ has. h.apart k fs differ (same k fs differ has);
    among = λ k j fs gs dk dj d hk hj. h.among k j fs gs dk dj d (same k fs dk hk) (same j gs dj hj);
  }

pub one_of_both : (k n : ℕ) (P : Type 0) → ((k ≡ n) → P) → ((k ≢ n) → P) → P
one_of_both k n P same differ = ⊎_elim
    (λ e. same (grind (arith, nat_tests, e)))
    (λ e. differ (λ h. let bad : (k == n) ≡ true = grind (arith, nat_tests, h) in let no : true ≡ false = sym bad ∙ e in cc))
    (cases_Bool (k == n))
