-- Words of a thread that are set, and what a derived word reads.
use Rattle.std.proofs.Common.{◌≡◌, ℕ, zero, suc, ◌%◌, ◌^◌, Bool, true, false, ◌||◌, List, [], ◌∷◌, ◌++◌, map, Option, None, Some, refl, ap, ◌∙◌, arith}
use Rattle.std.specs.Prelude.{◌==◌, sum}
use Rattle.std.specs.List.{slice_get, flat_map}
use Rattle.std.proofs.lemmas.Bool.Decides.{nat_tests}
use Rattle.m3_tables.specs.Numbers.{has}
use Rattle.m3_tables.specs.Rows.{Bases}
use Rattle.m3_tables.proofs.SectionLemmas.{has_append}
use Rattle.m3_roots.specs.ThreadWords.{word_at_place, place_from, places_from, Derived, way_number, way_at, sum_at, bases_by_way, path_list, path_places, bases_in_way, base_places}

-- two lists of words have the same words at some places
abbrev pub SameAt : List ℕ → List ℕ → List ℕ → Type 0
SameAt places old new = (q : ℕ) → has places q ≡ true → word_at_place new q ≡ word_at_place old q

or_first : (a b : Bool) → a ≡ true → (a || b) ≡ true
or_first true b e = refl
or_first false b e = absurd cc

or_second : (a b : Bool) → b ≡ true → (a || b) ≡ true
or_second true b e = refl
or_second false b e = e

same_number : (n : ℕ) → (n == n) ≡ true
same_number n = grind (arith, nat_tests)

pub has_first : (x : ℕ) (xs : List ℕ) → has (x ∷ xs) x ≡ true
has_first x xs = or_first (x == x) (has xs x) (same_number x)

pub has_more : (x n : ℕ) (xs : List ℕ) → has xs n ≡ true → has (x ∷ xs) n ≡ true
has_more x n xs h = or_second (x == n) (has xs n) h

pub has_left : (xs ys : List ℕ) (n : ℕ) → has xs n ≡ true → has (xs ++ ys) n ≡ true
has_left xs ys n h = has_append xs ys n ∙ or_first (has xs n) (has ys n) h

pub has_right : (xs ys : List ℕ) (n : ℕ) → has ys n ≡ true → has (xs ++ ys) n ≡ true
has_right xs ys n h = has_append xs ys n ∙ or_second (has xs n) (has ys n) h

-- sums over the same words are the same
pub map_same : (places old new : List ℕ) → SameAt places old new → map (word_at_place new) places ≡ map (word_at_place old) places
map_same [] old new same = refl
map_same (q ∷ qs) old new same =
    let here = same q (has_first q qs) in
    let rest = map_same qs old new (λ n h. same n (has_more q n qs h)) in
    cc

sum_same : (places old new : List ℕ) → SameAt places old new → sum_at new places ≡ sum_at old places
sum_same places old new same = ap (λ (xs : List ℕ). sum xs % 2 ^ 64) (map_same places old new same)

pub places_append : (first : ℕ) (xs ys : List ℕ) → places_from first (xs ++ ys) ≡ places_from first xs ++ places_from first ys
places_append first [] ys = refl
places_append first (x ∷ xs) ys = ap (λ (zs : List ℕ). place_from first x ∷ zs) (places_append first xs ys)

-- the bases of a way are among those of all ways
has_in_way : (first : ℕ) (ways : List Bases) (n : ℕ) (way : Bases) (q : ℕ) → slice_get ways n ≡ Some way → has (places_from first (bases_in_way way)) q ≡ true → has (places_from first (flat_map bases_in_way ways)) q ≡ true
has_in_way first [] n way q e h = absurd cc
has_in_way first (w ∷ ws) zero way q e h =
    let same : w ≡ way = cc in
    rw (places_append first (bases_in_way w) (flat_map bases_in_way ws)) (has_left (places_from first (bases_in_way w)) (places_from first (flat_map bases_in_way ws)) q (rw same h))
has_in_way first (w ∷ ws) (suc n) way q e h =
    rw (places_append first (bases_in_way w) (flat_map bases_in_way ws)) (has_right (places_from first (bases_in_way w)) (places_from first (flat_map bases_in_way ws)) q (has_in_way first ws n way q e h))

-- a derived word takes the same way where its path has the same word
number_same : (first : ℕ) (path : Option ℕ) (old new : List ℕ) → SameAt (places_from first (path_list path)) old new → way_number new first path ≡ way_number old first path
number_same first None old new same = refl
number_same first (Some path) old new same = same (place_from first path) (has_first (place_from first path) [])

pub way_same : (d : Derived) (old new : List ℕ) → SameAt (path_places d) old new → way_at new d ≡ way_at old d
way_same d old new same = ap (λ (n : ℕ). slice_get d.entry.ways n) (number_same d.first d.entry.path old new same)

-- its bases come to the same where they have the same words
pub bases_same : (d : Derived) (n : ℕ) (way : Bases) (old new : List ℕ) → slice_get d.entry.ways n ≡ Some way → SameAt (base_places d) old new → bases_by_way new d.first way ≡ bases_by_way old d.first way
bases_same d n way old new e same =
    let added : SameAt (places_from d.first way.added) old new = λ q h. same q (has_in_way d.first d.entry.ways n way q e (rw (places_append d.first way.added way.subtracted) (has_left (places_from d.first way.added) (places_from d.first way.subtracted) q h))) in
    let subtracted : SameAt (places_from d.first way.subtracted) old new = λ q h. same q (has_in_way d.first d.entry.ways n way q e (rw (places_append d.first way.added way.subtracted) (has_right (places_from d.first way.added) (places_from d.first way.subtracted) q h))) in
    let a = sum_same (places_from d.first way.added) old new added in
    let s = sum_same (places_from d.first way.subtracted) old new subtracted in
    cc
