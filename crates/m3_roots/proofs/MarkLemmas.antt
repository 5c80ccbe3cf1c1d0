-- Marks that go together, in plain words.
use Rattle.std.proofs.Common.{◌≡◌, ◌≢◌, ◌⊎◌, ℕ, Bool, true, false, not, ◌&&◌, ◌||◌, List, [], ◌∷◌, refl, inl, inr, arith}
use Rattle.std.specs.Prelude.{◌==◌}
use Rattle.std.proofs.lemmas.Bool.Decides.{nat_tests}
use Rattle.m3_tables.specs.Numbers.{has, is_once}
use Rattle.m3_tables.proofs.KeepingLemmas.{choice, and_parts, not_true}
use Rattle.m3_roots.specs.Marking.{Act, Lists, Derives, Bars, Uses, Marked, may_list, marked_by, all_go}
use Rattle.m3_roots.proofs.WordLemmas.{has_first, has_more}

-- the places that some acts list, and those that they bar
abbrev pub listed_of : List Act → List ℕ
listed_of [] = []
listed_of (Lists q ∷ acts) = q ∷ listed_of acts
listed_of (Derives q ∷ acts) = q ∷ listed_of acts
listed_of (Bars q ∷ acts) = listed_of acts
listed_of (Uses q ∷ acts) = listed_of acts

abbrev pub barred_of : List Act → List ℕ
barred_of [] = []
barred_of (Lists q ∷ acts) = barred_of acts
barred_of (Derives q ∷ acts) = barred_of acts
barred_of (Bars q ∷ acts) = q ∷ barred_of acts
barred_of (Uses q ∷ acts) = barred_of acts

-- no base is that of a derived word that was listed before
abbrev pub UsesArePlain : (ℕ → Bool) → List Act → Type 0
UsesArePlain derived [] = Unit {0}
UsesArePlain derived (Lists q ∷ acts) = UsesArePlain derived acts
UsesArePlain derived (Derives q ∷ acts) = UsesArePlain (λ n. q == n || derived n) acts
UsesArePlain derived (Bars q ∷ acts) = UsesArePlain derived acts
UsesArePlain derived (Uses q ∷ acts) = (derived q ≡ false) × UsesArePlain derived acts

pub record GoTogether (s : Marked) (acts : List Act) : Type 0 where
  pub once : is_once (listed_of acts) ≡ true
  pub fresh : (q : ℕ) → has (listed_of acts) q ≡ true → has s.listed q ≡ false
  pub free : (q : ℕ) → has (listed_of acts) q ≡ true → (has (barred_of acts) q ≡ false) × (has s.barred q ≡ false)
  pub unlisted : (q : ℕ) → has (barred_of acts) q ≡ true → has s.listed q ≡ false
  pub plain : UsesArePlain (has s.derived) acts

-- ---- tests

pub false_if : (b : Bool) → (b ≡ true → ⊥) → b ≡ false
false_if true h = absurd (h refl)
false_if false h = refl

pub or_parts : (a b : Bool) → (a || b) ≡ false → (a ≡ false) × (b ≡ false)
or_parts true b e = absurd cc
or_parts false b e = (refl, e)

or_none : (a b : Bool) → a ≡ false → b ≡ false → (a || b) ≡ false
or_none true b e f = absurd cc
or_none false b e f = f

pub not_false : (b : Bool) → b ≡ false → not b ≡ true
not_false true e = absurd cc
not_false false e = refl

pub and_true : (a b : Bool) → a ≡ true → b ≡ true → (a && b) ≡ true
and_true true b e f = f
and_true false b e f = absurd cc

same_place : (a b : ℕ) → (a == b) ≡ true → a ≡ b
same_place a b e = grind (arith, nat_tests)

-- a place of a list with one more is the new one, or was there
pub has_cases : (x n : ℕ) (xs : List ℕ) → has (x ∷ xs) n ≡ true → (x ≡ n) ⊎ (has xs n ≡ true)
has_cases x n xs h = elim (choice (x == n)) [ inl same ↦ inl (same_place x n same) | inr other ↦ inr (rw other at h) ]

pub gone : (x n : ℕ) (xs : List ℕ) → has (x ∷ xs) n ≡ false → (x ≢ n) × (has xs n ≡ false)
gone x n xs h =
    let parts = or_parts (x == n) (has xs n) h in
    let f = parts.0 in
    (λ e. (let t : (x == n) ≡ true = grind (arith, nat_tests) in cc), parts.1)

pub absent_from : (x n : ℕ) (xs : List ℕ) → x ≢ n → has xs n ≡ false → has (x ∷ xs) n ≡ false
absent_from x n xs ne h = let t : (x == n) ≡ false = grind (arith, nat_tests) in or_none (x == n) (has xs n) t h

pub clash : (b : Bool) → b ≡ true → b ≡ false → ⊥
clash b e f = cc

-- ---- what goes together

together_listed : (s t : Marked) (q : ℕ) (acts : List Act) → has s.listed q ≡ false → has s.barred q ≡ false → t.listed ≡ q ∷ s.listed → t.barred ≡ s.barred → GoTogether t acts
    → (is_once (q ∷ listed_of acts) ≡ true) × ((n : ℕ) → has (q ∷ listed_of acts) n ≡ true → has s.listed n ≡ false) × ((n : ℕ) → has (q ∷ listed_of acts) n ≡ true → (has (barred_of acts) n ≡ false) × (has s.barred n ≡ false))
    × ((n : ℕ) → has (barred_of acts) n ≡ true → has s.listed n ≡ false)
together_listed s t q acts fresh free e f h =
    let here : has t.listed q ≡ true = rw e (has_first q s.listed) in
    let once : has (listed_of acts) q ≡ false = false_if (has (listed_of acts) q) (λ k. clash (has t.listed q) here (h.fresh q k)) in
    let unbarred : has (barred_of acts) q ≡ false = false_if (has (barred_of acts) q) (λ k. clash (has t.listed q) here (h.unlisted q k)) in (
      and_true (not (has (listed_of acts) q)) (is_once (listed_of acts)) (not_false (has (listed_of acts) q) once) h.once,
      λ n k. elim (has_cases q n (listed_of acts) k) [ inl same ↦ rw (← same) fresh | inr more ↦ (gone q n s.listed (rw e at (h.fresh n more))).1 ],
      λ n k. elim (has_cases q n (listed_of acts) k) [ inl same ↦ rw (← same) (unbarred, free) | inr more ↦ (let g = h.free n more in (g.0, rw f at g.1)) ],
      λ n k. (gone q n s.listed (rw e at (h.unlisted n k))).1,
    )

pub together_from : (s : Marked) (acts : List Act) → all_go s acts ≡ true → GoTogether s acts
together_from s [] e = record { once = refl; fresh = λ q h. absurd cc; free = λ q h. absurd cc; unlisted = λ q h. absurd cc; plain = tt }
together_from s (Lists q ∷ acts) e =
    let parts = and_parts (may_list s q) (all_go (marked_by s (Lists q)) acts) e in
    let open_ = and_parts (not (has s.listed q)) (not (has s.barred q)) parts.0 in
    let rest = together_from (marked_by s (Lists q)) acts parts.1 in
    let all = together_listed s (marked_by s (Lists q)) q acts (not_true _ open_.0) (not_true _ open_.1) refl refl rest in
    record { once = all.0; fresh = all.1; free = all.2; unlisted = all.3; plain = rest.plain }
together_from s (Derives q ∷ acts) e =
    let parts = and_parts (may_list s q) (all_go (marked_by s (Derives q)) acts) e in
    let open_ = and_parts (not (has s.listed q)) (not (has s.barred q)) parts.0 in
    let rest = together_from (marked_by s (Derives q)) acts parts.1 in
    let all = together_listed s (marked_by s (Derives q)) q acts (not_true _ open_.0) (not_true _ open_.1) refl refl rest in
    record { once = all.0; fresh = all.1; free = all.2; unlisted = all.3; plain = rest.plain }
together_from s (Bars q ∷ acts) e =
    let parts = and_parts (not (has s.listed q)) (all_go (marked_by s (Bars q)) acts) e in
    let rest = together_from (marked_by s (Bars q)) acts parts.1 in
    record {
      once = rest.once;
      fresh = rest.fresh;
      free = λ n h. (let g = rest.free n h in let k = gone q n s.barred g.1 in (absent_from q n (barred_of acts) k.0 g.0, k.1));
      unlisted = λ n h. elim (has_cases q n (barred_of acts) h) [ inl same ↦ rw (← same) (not_true _ parts.0) | inr more ↦ rest.unlisted n more ];
      plain = rest.plain;
    }
together_from s (Uses q ∷ acts) e =
    let parts = and_parts (not (has s.derived q)) (all_go s acts) e in
    let rest = together_from s acts parts.1 in
    record { once = rest.once; fresh = rest.fresh; free = rest.free; unlisted = rest.unlisted; plain = (not_true _ parts.0, rest.plain) }

-- ---- and the other way

listed_after : (s t : Marked) (q : ℕ) (acts : List Act) → t.listed ≡ q ∷ s.listed → t.barred ≡ s.barred → is_once (q ∷ listed_of acts) ≡ true → ((n : ℕ) → has (q ∷ listed_of acts) n ≡ true → has s.listed n ≡ false)
    → ((n : ℕ) → has (q ∷ listed_of acts) n ≡ true → (has (barred_of acts) n ≡ false) × (has s.barred n ≡ false)) → ((n : ℕ) → has (barred_of acts) n ≡ true → has s.listed n ≡ false) → UsesArePlain (has t.derived) acts → GoTogether t acts
listed_after s t q acts e f once fresh free unlisted plain =
    let parts = and_parts (not (has (listed_of acts) q)) (is_once (listed_of acts)) once in
    record {
      once = parts.1;
      fresh = λ n h. rw e (absent_from q n s.listed (λ same. clash (has (listed_of acts) q) (rw same h) (not_true _ parts.0)) (fresh n (has_more q n (listed_of acts) h)));
      free = λ n h. (let g = free n (has_more q n (listed_of acts) h) in (g.0, rw f g.1));
      unlisted = λ n h. rw e (absent_from q n s.listed (λ same. clash (has (barred_of acts) q) (rw same h) (free q (has_first q (listed_of acts))).0) (unlisted n h));
      plain = plain;
    }

pub together_go : (s : Marked) (acts : List Act) → GoTogether s acts → all_go s acts ≡ true
together_go s [] h = refl
together_go s (Lists q ∷ acts) h =
    let here = has_first q (listed_of acts) in
    let goes : may_list s q ≡ true = and_true (not (has s.listed q)) (not (has s.barred q)) (not_false _ (h.fresh q here)) (not_false _ (h.free q here).1) in
    rw goes (together_go (marked_by s (Lists q)) acts (listed_after s (marked_by s (Lists q)) q acts refl refl h.once h.fresh h.free h.unlisted h.plain))
together_go s (Derives q ∷ acts) h =
    let here = has_first q (listed_of acts) in
    let goes : may_list s q ≡ true = and_true (not (has s.listed q)) (not (has s.barred q)) (not_false _ (h.fresh q here)) (not_false _ (h.free q here).1) in
    rw goes (together_go (marked_by s (Derives q)) acts (listed_after s (marked_by s (Derives q)) q acts refl refl h.once h.fresh h.free h.unlisted h.plain))
together_go s (Bars q ∷ acts) h =
    let goes : not (has s.listed q) ≡ true = not_false _ (h.unlisted q (has_first q (barred_of acts))) in
    rw goes (together_go (marked_by s (Bars q)) acts (record {
      once = h.once;
      fresh = h.fresh;
      free = λ n k. (let g = h.free n k in let away = gone q n (barred_of acts) g.0 in (away.1, absent_from q n s.barred away.0 g.1));
      unlisted = λ n k. h.unlisted n (has_more q n (barred_of acts) k);
      plain = h.plain;
    }))
together_go s (Uses q ∷ acts) h =
    let goes : not (has s.derived q) ≡ true = not_false _ h.plain.0 in
    rw goes (together_go s acts (record { once = h.once; fresh = h.fresh; free = h.free; unlisted = h.unlisted; plain = h.plain.1 }))
