-- Who goes, found from the front of the list.
use Rattle.std.proofs.Common.{◌≡◌, ℕ, zero, suc, ◌+◌, ◌<◌, ◌≤◌, ◌==◌, List, [], ◌∷◌, length, Option, Some, None, Bool, true, false, cond, refl, sym, ap, subst, ◌∙◌, inl, inr, arith}
use Rattle.std.specs.Prelude.{find, slice_get}
use Rattle.std.proofs.lemmas.Bool.{cases_lt}
use Rattle.m3_isa.specs.Memory.{Memory}
use Rattle.m3_threads.specs.declared.status.Thread.{Thread}
use Rattle.m3_threads.specs.All.{Everyone, AreOrderedBy, is_named}
use Rattle.m3_threads.specs.Spaces.{held}
use Rattle.m3_threads.specs.Going.{may_go, may_go_if, may_go_in, entry_goes, IsLowest, NoneGoes, IsChoice}
use Rattle.m3_threads.proofs.Places.{some_same, get_within, found-number, place_here}

-- no thread below k passes a test
pub record Fails (p : Thread → Bool) (threads : List Thread) (k : ℕ) : Type 0 where
  pub others : (j : ℕ) (t : Thread) → j < k → slice_get threads j ≡ Some t → p t ≡ false

pub fails_none : (p : Thread → Bool) (ts : List Thread) → Fails p ts 0
fails_none p ts = record { others = λ j t l e. absurd (omega arith) }

pub fails_more : (p : Thread → Bool) (ts : List Thread) (k : ℕ) (t : Thread) → Fails p ts k → slice_get ts k ≡ Some t → p t ≡ false → Fails p ts (k + 1)
fails_more p ts k t h e m = record {
  others = λ j u l g. elim (cases_lt j k) [
    | inl low ↦ h.others j u low g
    | inr high ↦
        let same : j ≡ k = omega arith in
        ap p (some_same (sym g ∙ ap (slice_get ts) same ∙ e)) ∙ m
  ];
}

-- where a thread that is found stands
found-at : (n : ℕ) (ts : List Thread) (t : Thread) → find (is_named n) ts ≡ Some t → (j : ℕ) × (slice_get ts j ≡ Some t)
found-at n [] t e = cc
found-at n (x ∷ xs) t e =
    elim (x.number == n) as (λ b. cond b (Some x) (find (is_named n) xs) ≡ Some t → (j : ℕ) × (slice_get (x ∷ xs) j ≡ Some t)) [
      | true ↦ λ h. (zero, h)
      | false ↦ λ h. let r = found-at n xs t h in (suc r.0, r.1)
    ] e

-- a thread that none of the list's can be may not go
unable : (memory : Memory) (ts : List Thread) (n : ℕ) (o : Option Thread) → find (is_named n) ts ≡ o → ((j : ℕ) (t : Thread) → slice_get ts j ≡ Some t → t.number ≡ n → may_go_in memory t ≡ false) → may_go_if memory o ≡ false
unable memory ts n None e h = refl
unable memory ts n (Some t) e h = let r = found-at n ts t e in h r.0 t r.1 (found-number n ts t e)

-- the first of the list that may go is the lowest-numbered that may
lowest_here : (all : Everyone) (memory : Memory) (k : ℕ) (t : Thread) → AreOrderedBy (λ t u. t.number < u.number) all.threads → Fails (may_go_in (held all memory)) all.threads k → slice_get all.threads k ≡ Some t → may_go_in (held all memory) t ≡ true → IsLowest all memory t.number
lowest_here all memory k t rising h e g =
    let ts = all.threads in
    let here = place_here t.number ts k t (record { others = λ j u l m s. let less = rising j k u t l m e in absurd (omega arith) }) e refl in
    record {
      goes = ap (may_go_if (held all memory)) (here.found ∙ e) ∙ g;
      lower = λ m below. unable (held all memory) ts m (find (is_named m) ts) refl (λ j u f n. elim (cases_lt j k) [
        | inl low ↦ h.others j u low f
        | inr high ↦ elim (cases_lt k j) [
          | inl after ↦ let more = rising k j t u after e f in absurd (omega arith)
          | inr same ↦
              let place : j ≡ k = omega arith in
              let one = ap (λ v. v.number) (some_same (sym f ∙ ap (slice_get ts) place ∙ e)) in
              absurd (omega arith)
        ]
      ]);
    }

pub lowest_found : (all : Everyone) (memory : Memory) (ts : List Thread) (k : ℕ) (t : Thread) → ts ≡ all.threads → AreOrderedBy (λ t u. t.number < u.number) ts → Fails (may_go_in (held all memory)) ts k → slice_get ts k ≡ Some t → may_go_in (held all memory) t ≡ true → (n : ℕ) → Some t.number ≡ Some n → IsLowest all memory n
lowest_found all memory ts k t same rising h e g n is =
    let ordered = subst (λ us. AreOrderedBy (λ t u. t.number < u.number) us) same rising in
    let fails = subst (λ us. Fails (may_go_in (held all memory)) us k) same h in
    let got = ap (λ us. slice_get us k) (sym same) ∙ e in
    subst (IsLowest all memory) (some_same is) (lowest_here all memory k t ordered fails got g)

pub none_found : (all : Everyone) (memory : Memory) (ts : List Thread) (k : ℕ) → ts ≡ all.threads → Fails (may_go_in (held all memory)) ts k → length ts ≤ k → NoneGoes all memory
none_found all memory ts k same h l = λ n.
    let all_fail = λ (j : ℕ) (u : Thread) (f : slice_get ts j ≡ Some u) (m : u.number ≡ n). let within = get_within ts j u f in let low : j < k = omega arith in h.others j u low f in
    ap (λ us. may_go_if (held all memory) (find (is_named n) us)) (sym same) ∙ unable (held all memory) ts n (find (is_named n) ts) refl all_fail

none_exactly : (all : Everyone) (memory : Memory) (choice : Option ℕ) → ((n : ℕ) → choice ≡ Some n → IsLowest all memory n) → NoneGoes all memory → choice ≡ None
none_exactly all memory None found none = refl
none_exactly all memory (Some n) found none = let goes = (found n refl).goes in let not = none n in cc

-- the lowest-numbered that may go is the choice where neither the entry's thread nor the running one may
pub choice_lowest : (all : Everyone) (memory : Memory) (entry : Option ℕ) (running : ℕ) (choice : Option ℕ) → entry_goes all memory entry ≡ false → may_go all memory running ≡ false → ((n : ℕ) → choice ≡ Some n → IsLowest all memory n) → (choice ≡ None → NoneGoes all memory) → IsChoice all memory entry running choice
choice_lowest all memory entry running choice e r found none = record {
  named = λ n is goes. let not = sym (ap (entry_goes all memory) is) ∙ e in cc;
  stays = λ _ goes. cc;
  lowest = λ _ _. found;
  none = (none, none_exactly all memory choice found);
}
