-- A derived word that grows by as much as its bases is as far from them as before.
use Rattle.std.proofs.Common.{◌≡◌, ℕ, zero, suc, ◌+◌, ◌%◌, ◌^◌, ◌<◌, true, false, List, [], ◌∷◌, map, Option, None, Some, refl, ap, ◌∙◌, inl, inr, subst, arith}
use Rattle.std.specs.Prelude.{◌==◌, Contains, sum}
use Rattle.std.specs.List.{slice_get, AllByRecursion}
use Rattle.std.proofs.lemmas.List.Elements.{All-from_recursion, All-contains}
use Rattle.std.proofs.lemmas.List.Sums.{sum_by-cons}
use Rattle.std.proofs.lemmas.Bool.Decides.{nat_tests}
use Rattle.std.proofs.lemmas.Option.{slice_get-get_or}
use Rattle.m3_base.specs.Words.{add_words, sub_words}
use Rattle.m3_tables.specs.Numbers.{has}
use Rattle.m3_tables.specs.Rows.{Bases}
use Rattle.m3_tables.proofs.KeepingLemmas.{choice}
use Rattle.m3_heap.specs.Moves.{Move}
use Rattle.m3_image_sections.specs.Parts.{Program}
use Rattle.m3_run_frames.specs.declared.frame.Frame.{Frame}
use Rattle.m3_roots.specs.ThreadWords.{word_at_place, places_from, Derived, place_of, path_places, way_at, bases_by_way}
use Rattle.m3_roots.specs.RowMeaning.{tidy_places, derived_words}
use Rattle.m3_roots.specs.RowLists.{ListsFit}
use Rattle.m3_roots.specs.Moving.{MovesWords}
use Rattle.m3_roots.specs.Offsets.{bases_by, replaced, KeepsOffsets}
use Rattle.m3_roots.proofs.WordLemmas.{way_same, has_first, has_more}
use Rattle.m3_roots.proofs.ApartLemmas.{PathsAreFree}
use Rattle.m3_roots.proofs.FitLemmas.{paths_free}

-- one number grows as another does, modulo 2 ^ 64
abbrev pub GrowAlike : ℕ → ℕ → ℕ → ℕ → Type 0
GrowAlike old new less more = (new + less) % 2 ^ 64 ≡ (old + more) % 2 ^ 64

sum_first : (x : ℕ) (xs : List ℕ) → sum (x ∷ xs) ≡ x + sum xs
sum_first x xs = sum_by-cons (λ (n : ℕ). n) x xs

sums_alike : (a b c d : ℕ → ℕ) → ((q : ℕ) → GrowAlike (a q) (b q) (c q) (d q)) → (qs : List ℕ) → GrowAlike (sum (map a qs)) (sum (map b qs)) (sum (map c qs)) (sum (map d qs))
sums_alike a b c d each [] = refl
sums_alike a b c d each (q ∷ qs) =
    let here = each q in
    let rest = sums_alike a b c d each qs in
    let of_a : sum (map a (q ∷ qs)) ≡ a q + sum (map a qs) = sum_first (a q) (map a qs) in
    let of_b : sum (map b (q ∷ qs)) ≡ b q + sum (map b qs) = sum_first (b q) (map b qs) in
    let of_c : sum (map c (q ∷ qs)) ≡ c q + sum (map c qs) = sum_first (c q) (map c qs) in
    let of_d : sum (map d (q ∷ qs)) ≡ d q + sum (map d qs) = sum_first (d q) (map d qs) in
    omega arith

-- a difference of sums grows as the sums do
differ_alike : (wa va ws vs pa qa ps qs : ℕ) → GrowAlike wa va pa qa → GrowAlike ws vs ps qs
    → GrowAlike (sub_words (wa % 2 ^ 64) (ws % 2 ^ 64)) (sub_words (va % 2 ^ 64) (vs % 2 ^ 64)) (sub_words (pa % 2 ^ 64) (ps % 2 ^ 64)) (sub_words (qa % 2 ^ 64) (qs % 2 ^ 64))
differ_alike wa va ws vs pa qa ps qs h k = omega arith

grown_alike : (x y b c p q : ℕ) → y ≡ add_words x (sub_words c b) → GrowAlike b c p q → b < 2 ^ 64 → c < 2 ^ 64 → GrowAlike x y p q
grown_alike x y b c p q e h lt gt = omega arith

-- each takes a way, and grows by as much as its bases
pub record GrowsBy (old new : List ℕ) (d : Derived) : Type 0 where
  pub way : Bases
  pub takes : way_at old d ≡ Some way
  pub still : way_at new d ≡ Some way
  pub word : word_at_place new (place_of d) ≡ add_words (word_at_place old (place_of d)) (sub_words (bases_by_way new d.first way) (bases_by_way old d.first way))

pub replaced_alike : (ds : List Derived) (old new : List ℕ) → AllByRecursion (GrowsBy old new) ds → (q : ℕ) → GrowAlike (word_at_place old q) (word_at_place new q) (replaced old ds q) (replaced new ds q)
replaced_alike [] old new h q = ap (λ (n : ℕ). n % 2 ^ 64) (let e : word_at_place new q + word_at_place old q ≡ word_at_place old q + word_at_place new q = omega arith in e)
replaced_alike (d ∷ ds) old new h q = elim (choice (place_of d == q)) [
  | inr other ↦ rw other (replaced_alike ds old new h.1 q)
  | inl here ↦ (
      let same : place_of d ≡ q = grind (arith, nat_tests) in
      let way = h.0.way in
      let each = replaced_alike ds old new h.1 in
      let added = sums_alike (word_at_place old) (word_at_place new) (replaced old ds) (replaced new ds) each (places_from d.first way.added) in
      let subtracted = sums_alike (word_at_place old) (word_at_place new) (replaced old ds) (replaced new ds) each (places_from d.first way.subtracted) in
      let bases = differ_alike (sum (map (word_at_place old) (places_from d.first way.added))) (sum (map (word_at_place new) (places_from d.first way.added)))
      (sum (map (word_at_place old) (places_from d.first way.subtracted))) (sum (map (word_at_place new) (places_from d.first way.subtracted)))
      (sum (map (replaced old ds) (places_from d.first way.added))) (sum (map (replaced new ds) (places_from d.first way.added)))
      (sum (map (replaced old ds) (places_from d.first way.subtracted))) (sum (map (replaced new ds) (places_from d.first way.subtracted))) added subtracted in
      let grown = grown_alike (word_at_place old (place_of d)) (word_at_place new (place_of d)) (bases_by_way old d.first way) (bases_by_way new d.first way)
      (bases_by (replaced old ds) d.first (Some way)) (bases_by (replaced new ds) d.first (Some way)) h.0.word bases (omega arith) (omega arith) in
      let of_old : bases_by (replaced old ds) d.first (way_at old d) ≡ bases_by (replaced old ds) d.first (Some way) = ap (bases_by (replaced old ds) d.first) h.0.takes in
      let of_new : bases_by (replaced new ds) d.first (way_at new d) ≡ bases_by (replaced new ds) d.first (Some way) = ap (bases_by (replaced new ds) d.first) h.0.still in
      rw here (subst (λ (n : ℕ). GrowAlike (word_at_place old n) (word_at_place new n) (bases_by (replaced old ds) d.first (way_at old d)) (bases_by (replaced new ds) d.first (way_at new d))) same
      (rw (of_old, of_new) grown)))
]

offset_stays : (x y p q : ℕ) → GrowAlike x y p q → p < 2 ^ 64 → q < 2 ^ 64 → sub_words y q ≡ sub_words x p
offset_stays x y p q h lt gt = omega arith

bases_small : (value : ℕ → ℕ) (first : ℕ) (o : Option Bases) → bases_by value first o < 2 ^ 64
bases_small value first None = omega arith
bases_small value first (Some way) = omega arith

replaced_small : (words : List ℕ) (ds : List Derived) (q : ℕ) → has (map place_of ds) q ≡ true → replaced words ds q < 2 ^ 64
replaced_small words [] q h = absurd cc
replaced_small words (d ∷ ds) q h = elim (choice (place_of d == q)) [
  | inl here ↦ rw here (bases_small (replaced words ds) d.first (way_at words d))
  | inr other ↦ (let rest = rw other at h in rw other (replaced_small words ds q rest))
]

among_places : (ds : List Derived) (d : Derived) (k : ℕ) → slice_get ds k ≡ Some d → has (map place_of ds) (place_of d) ≡ true
among_places [] d k e = absurd cc
among_places (x ∷ xs) d zero e = let same : x ≡ d = cc in rw (← same) (has_first (place_of x) (map place_of xs))
among_places (x ∷ xs) d (suc k) e = has_more (place_of x) (place_of d) (map place_of xs) (among_places xs d k e)

free_in : (all ds : List Derived) (tidy : List ℕ) (d : Derived) → PathsAreFree all tidy ds → Contains ds d → (q : ℕ) → has (path_places d) q ≡ true → (has (map place_of all) q ≡ false) × (has tidy q ≡ false)
free_in all ds tidy d free among =
    All-contains (λ (e : Derived). (q : ℕ) → has (path_places e) q ≡ true → (has (map place_of all) q ≡ false) × (has tidy q ≡ false)) ds d
    (All-from_recursion (λ (e : Derived). (q : ℕ) → has (path_places e) q ≡ true → (has (map place_of all) q ≡ false) × (has tidy q ≡ false)) ds free) among

takes_way : (p : Program) (frames : List Frame) (moves : List Move) (old new : List ℕ) → ListsFit p frames → MovesWords p moves frames old new → (d : Derived) → Contains (derived_words p frames) d → (way : Bases) → way_at old d ≡ Some way → GrowsBy old new d
takes_way p frames moves old new fit moved d among way takes =
    let free = free_in (derived_words p frames) (derived_words p frames) (tidy_places p frames) d (paths_free p frames fit) among in
    let same : way_at new d ≡ way_at old d = way_same d old new (λ q h. (let f = free q h in moved.others q f.1 f.0)) in
    record { way = way; takes = takes; still = same ∙ takes; word = moved.derived d way among takes }

has_way : (o : Option Bases) → (o ≡ None → ⊥) → (way : Bases) × (o ≡ Some way)
has_way None h = absurd (h refl)
has_way (Some way) h = (way, refl)

grow_each : (all ds : List Derived) (old new : List ℕ) → ((d : Derived) → Contains all d → GrowsBy old new d) → ((d : Derived) → Contains ds d → Contains all d) → AllByRecursion (GrowsBy old new) ds
grow_each all [] old new each among = tt
grow_each all (d ∷ ds) old new each among =
    (each d (among d (0, omega arith, refl)), grow_each all ds old new each (λ e h. among e (suc h.0, (let lt = h.1 in omega arith), h.2)))

pub keeps_offsets : (p : Program) (frames : List Frame) (moves : List Move) (old new : List ℕ) → ListsFit p frames → ((d : Derived) → Contains (derived_words p frames) d → way_at old d ≡ None → ⊥) → MovesWords p moves frames old new → KeepsOffsets (derived_words p frames) old new
keeps_offsets p frames moves old new fit ways moved = λ d among.
    (let ds = derived_words p frames in
    let each = grow_each ds ds old new (λ e h. (let way = has_way (way_at old e) (ways e h) in takes_way p frames moves old new fit moved e h way.0 way.1)) (λ e h. h) in
    let alike = replaced_alike ds old new each (place_of d) in
    let there = among_places ds d among.0 (slice_get-get_or ds among.0 d among.1 ∙ ap Some among.2) in
    offset_stays (word_at_place old (place_of d)) (word_at_place new (place_of d)) (replaced old ds (place_of d)) (replaced new ds (place_of d)) alike (replaced_small old ds (place_of d) there) (replaced_small new ds (place_of d) there))
