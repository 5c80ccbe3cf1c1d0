-- Who is chosen, and when nobody may go.
use Rattle.std.proofs.Common.{◌≡◌, ℕ, zero, suc, ◌+◌, ◌<◌, ◌⊎◌, inl, inr, ⊎_elim, Bool, true, false, List, [], ◌∷◌, Option, Some, None, refl, sym, ap, ◌∙◌, subst, arith}
use Rattle.m3_runs.specs.Languages.{Thread, Parts, Language}
use Rattle.m3_runs.specs.States.{thread_at}
use Rattle.m3_runs.specs.Choice.{if_so, may_go_if, may_go, lowest_from, lowest, named_or, choice}
use Rattle.m3_runs.specs.Laws.{NoneGoes, entry_goes, IsLowest, IsChoice, Chooses}

if_none : (b : Bool) (n : ℕ) (o : Option ℕ) → if_so b n o ≡ None → (b ≡ false) × (o ≡ None)
if_none true n o e = absurd (let bad : Some n ≡ None = e in cc)
if_none false n o e = (refl, e)

if_some : (b : Bool) (n j : ℕ) (o : Option ℕ) → if_so b n o ≡ Some j → ((b ≡ true) × (n ≡ j)) ⊎ ((b ≡ false) × (o ≡ Some j))
if_some true n j o e = let same : n ≡ j = cc in inl (refl, same)
if_some false n j o e = inr (refl, e)

if_true : (b : Bool) (n : ℕ) (o : Option ℕ) → b ≡ true → if_so b n o ≡ Some n
if_true b n o e = ap (λ i. if_so i n o) e

if_false : (b : Bool) (n : ℕ) (o : Option ℕ) → b ≡ false → if_so b n o ≡ o
if_false b n o e = ap (λ i. if_so i n o) e

module _ {S V M : Type 0} (L : Language S V M) where
  none_goes : (memory : M) (n : ℕ) (ts : List (Option (Thread S V))) → lowest_from L memory n ts ≡ None → (k : ℕ) → may_go_if L memory (thread_at ts k) ≡ false
  none_goes memory n [] e k = refl
  none_goes memory n (t ∷ ts) e zero = (if_none (may_go_if L memory t) n (lowest_from L memory (suc n) ts) e).0
  none_goes memory n (t ∷ ts) e (suc k) = none_goes memory (suc n) ts (if_none (may_go_if L memory t) n (lowest_from L memory (suc n) ts) e).1 k

  none_lowest : (memory : M) (n : ℕ) (ts : List (Option (Thread S V))) → ((k : ℕ) → may_go_if L memory (thread_at ts k) ≡ false) → lowest_from L memory n ts ≡ None
  none_lowest memory n [] h = refl
  none_lowest memory n (t ∷ ts) h = if_false (may_go_if L memory t) n (lowest_from L memory (suc n) ts) (h 0) ∙ none_lowest memory (suc n) ts (λ k. h (suc k))

  -- it is so many places behind the number from which it was looked for
  record Found (memory : M) (n j : ℕ) (ts : List (Option (Thread S V))) : Type 0 where
    place : ℕ
    is : j ≡ n + place
    goes : may_go_if L memory (thread_at ts place) ≡ true
    lower : (k : ℕ) → k < place → may_go_if L memory (thread_at ts k) ≡ false

  lower_too : (memory : M) (t : Option (Thread S V)) (ts : List (Option (Thread S V))) (place : ℕ) → may_go_if L memory t ≡ false → ((k : ℕ) → k < place → may_go_if L memory (thread_at ts k) ≡ false) →
      (k : ℕ) → k < suc place → may_go_if L memory (thread_at (t ∷ ts) k) ≡ false
  lower_too memory t ts place h g zero lt = h
  lower_too memory t ts place h g (suc k) lt = g k (omega (arith, lt))

  found_lowest : (memory : M) (n j : ℕ) (ts : List (Option (Thread S V))) → lowest_from L memory n ts ≡ Some j → Found memory n j ts
  found_lowest memory n j [] e = absurd (let bad : None ≡ Some j = e in cc)
  found_lowest memory n j (t ∷ ts) e = ⊎_elim
      (λ h. let q = h.1 in record { place = 0; is = omega (arith, q); goes = h.0; lower = λ k lt. absurd (omega (arith, lt)) })
      (λ h.
      let f = found_lowest memory (suc n) j ts h.1 in
      let q = f.is in
      record { place = suc f.place; is = omega (arith, q); goes = f.goes; lower = lower_too memory t ts f.place h.0 f.lower })
      (if_some (may_go_if L memory t) n j (lowest_from L memory (suc n) ts) e)

  module _ (parts : Parts S V M) where
    lowest_is : (n : ℕ) → lowest L parts ≡ Some n → IsLowest L parts n
    lowest_is n e =
        let f = found_lowest parts.memory 0 n parts.threads e in
        let q = f.is in
        let same : f.place ≡ n = omega (arith, q) in
        record {
          goes = subst (λ i. may_go_if L parts.memory (thread_at parts.threads i) ≡ true) same f.goes;
          lower = λ m lt. f.lower m (omega (arith, lt, same));
        }

    -- the entry's thread doesn't go
    not_named : (entry other : Option ℕ) → entry_goes L parts entry ≡ false → named_or L parts entry other ≡ other
    not_named None other e = refl
    not_named (Some n) other e = if_false (may_go L parts n) n other e

    none_named : (entry other : Option ℕ) → named_or L parts entry other ≡ None → other ≡ None
    none_named None other e = e
    none_named (Some n) other e = (if_none (may_go L parts n) n other e).1

    entry_none : (entry : Option ℕ) → NoneGoes L parts → entry_goes L parts entry ≡ false
    entry_none None h = refl
    entry_none (Some n) h = h n

    module _ (entry : Option ℕ) (running : ℕ) where
      abbrev Behind : Option ℕ
      Behind = if_so (may_go L parts running) running (lowest L parts)

      named_so : (n : ℕ) → entry ≡ Some n → may_go L parts n ≡ true → choice L parts entry running ≡ Some n
      named_so n e h = ap (λ i. named_or L parts i Behind) e ∙ if_true (may_go L parts n) n Behind h

      none_so : choice L parts entry running ≡ None → NoneGoes L parts
      none_so e = none_goes parts.memory 0 parts.threads (if_none (may_go L parts running) running (lowest L parts) (none_named entry Behind e)).1

      so_none : NoneGoes L parts → choice L parts entry running ≡ None
      so_none h = not_named entry Behind (entry_none entry h) ∙ if_false (may_go L parts running) running (lowest L parts) (h running) ∙ none_lowest parts.memory 0 parts.threads h

      is_choice : IsChoice L parts entry running (choice L parts entry running)
      is_choice = record {
        named = named_so;
        stays = λ e h. not_named entry Behind e ∙ if_true (may_go L parts running) running (lowest L parts) h;
        lowest = λ e h n is. lowest_is n (sym (not_named entry Behind e ∙ if_false (may_go L parts running) running (lowest L parts) h) ∙ is);
        none = (none_so, so_none);
      }

  pub chooses : Chooses L
  chooses parts entry running = record {
    chosen = is_choice parts entry running;
    nobody = (none_goes parts.memory 0 parts.threads, none_lowest parts.memory 0 parts.threads);
  }
