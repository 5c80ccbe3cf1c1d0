-- The lowest place that derived words name: they name none before it.
use Rattle.std.proofs.Common.{◌≡◌, ℕ, ◌≤◌, Bool, true, ◌&&◌, List, [], ◌∷◌, Option, Some, None, refl, sym, subst, arith}
use Rattle.std.specs.Prelude.{IfSome}
use Rattle.std.specs.Option.{option_map_or}
use Rattle.std.specs.List.{list_all}
use Rattle.std.proofs.lemmas.Bool.{and_from, and_parts}
use Rattle.std.proofs.lemmas.Bool.Decides.{nat_tests}
use Rattle.m3_tables.specs.Rows.{Bases, Entry}
use Rattle.m3_tables.specs.Windows.{way_names, entry_names, all_names, is_skipped, lower, lowest, lowest_in_way, lowest_path, lowest_in_ways, lowest_in_entry, lowest_of_all}

lower_keeps : (from : ℕ) (least : Option ℕ) (place l : ℕ) → is_skipped from least l ≡ true → is_skipped from (lower from least place) l ≡ true
lower_keeps from None place l h = grind (arith, nat_tests)
lower_keeps from (Some n) place l h = grind (arith, nat_tests)

lower_has : (from : ℕ) (least : Option ℕ) (place : ℕ) → is_skipped from (lower from least place) place ≡ true
lower_has from None place = grind (arith, nat_tests)
lower_has from (Some n) place = grind (arith, nat_tests)

lower_from : (from : ℕ) (least : Option ℕ) (place : ℕ) → IfSome least (λ n. from ≤ n) → IfSome (lower from least place) (λ n. from ≤ n)
lower_from from None place h = grind (arith, nat_tests)
lower_from from (Some n) place h = grind (arith, nat_tests)

lowest_keeps : (from : ℕ) (least : Option ℕ) (places : List ℕ) (l : ℕ) → is_skipped from least l ≡ true → is_skipped from (lowest from least places) l ≡ true
lowest_keeps from least [] l h = h
lowest_keeps from least (place ∷ places) l h = lowest_keeps from (lower from least place) places l (lower_keeps from least place l h)

lowest_has : (from : ℕ) (least : Option ℕ) (places : List ℕ) → list_all (is_skipped from (lowest from least places)) places ≡ true
lowest_has from least [] = refl
lowest_has from least (place ∷ places) =
    let first = lowest_keeps from (lower from least place) places place (lower_has from least place) in
    let rest = lowest_has from (lower from least place) places in
    rw first rest

lowest_from : (from : ℕ) (least : Option ℕ) (places : List ℕ) → IfSome least (λ n. from ≤ n) → IfSome (lowest from least places) (λ n. from ≤ n)
lowest_from from least [] h = h
lowest_from from least (place ∷ places) h = lowest_from from (lower from least place) places (lower_from from least place h)

-- what passes one test passes another one
all_more : {X : Type 0} (p q : X → Bool) (xs : List X) → ((x : X) → p x ≡ true → q x ≡ true) → list_all p xs ≡ true → list_all q xs ≡ true
all_more p q [] h e = refl
all_more p q (x ∷ xs) h e =
    let parts = and_parts (p x) (list_all p xs) e in
    let first = h x parts.0 in
    let rest = all_more p q xs h parts.1 in
    rw first rest

way_keeps : (from : ℕ) (least : Option ℕ) (way : Bases) (l : ℕ) → is_skipped from least l ≡ true → is_skipped from (lowest_in_way from least way) l ≡ true
way_keeps from least way l h = lowest_keeps from (lowest from least way.added) way.subtracted l (lowest_keeps from least way.added l h)

way_has : (from : ℕ) (least : Option ℕ) (way : Bases) → way_names (is_skipped from (lowest_in_way from least way)) way ≡ true
way_has from least way =
    let middle = lowest from least way.added in
    let last = lowest from middle way.subtracted in
    and_from (list_all (is_skipped from last) way.added) (list_all (is_skipped from last) way.subtracted)
    (all_more (is_skipped from middle) (is_skipped from last) way.added (lowest_keeps from middle way.subtracted) (lowest_has from least way.added))
    (lowest_has from middle way.subtracted)

way_more : (p q : ℕ → Bool) → ((l : ℕ) → p l ≡ true → q l ≡ true) → (way : Bases) → way_names p way ≡ true → way_names q way ≡ true
way_more p q h way e =
    let parts = and_parts (list_all p way.added) (list_all p way.subtracted) e in
    and_from (list_all q way.added) (list_all q way.subtracted) (all_more p q way.added h parts.0) (all_more p q way.subtracted h parts.1)

ways_keep : (from : ℕ) (least : Option ℕ) (ways : List Bases) (l : ℕ) → is_skipped from least l ≡ true → is_skipped from (lowest_in_ways from least ways) l ≡ true
ways_keep from least [] l h = h
ways_keep from least (way ∷ ways) l h = ways_keep from (lowest_in_way from least way) ways l (way_keeps from least way l h)

ways_have : (from : ℕ) (least : Option ℕ) (ways : List Bases) → list_all (way_names (is_skipped from (lowest_in_ways from least ways))) ways ≡ true
ways_have from least [] = refl
ways_have from least (way ∷ ways) =
    let next = lowest_in_way from least way in
    let last = lowest_in_ways from next ways in
    let first = way_more (is_skipped from next) (is_skipped from last) (ways_keep from next ways) way (way_has from least way) in
    let rest = ways_have from next ways in
    rw first rest

path_keeps : (from : ℕ) (least : Option ℕ) (path : Option ℕ) (l : ℕ) → is_skipped from least l ≡ true → is_skipped from (lowest_path from least path) l ≡ true
path_keeps from least None l h = h
path_keeps from least (Some path) l h = lower_keeps from least path l h

path_has : (from : ℕ) (least : Option ℕ) (path : Option ℕ) → option_map_or (is_skipped from (lowest_path from least path)) path true ≡ true
path_has from least None = refl
path_has from least (Some path) = lower_has from least path

path_more : (p q : ℕ → Bool) → ((l : ℕ) → p l ≡ true → q l ≡ true) → (path : Option ℕ) → option_map_or p path true ≡ true → option_map_or q path true ≡ true
path_more p q h None e = refl
path_more p q h (Some path) e = h path e

entry_keeps : (from : ℕ) (least : Option ℕ) (e : Entry) (l : ℕ) → is_skipped from least l ≡ true → is_skipped from (lowest_in_entry from least e) l ≡ true
entry_keeps from least e l h =
    let first = lower from least e.location in
    ways_keep from (lowest_path from first e.path) e.ways l (path_keeps from first e.path l (lower_keeps from least e.location l h))

entry_has : (from : ℕ) (least : Option ℕ) (e : Entry) → entry_names (is_skipped from (lowest_in_entry from least e)) e ≡ true
entry_has from least e =
    let first = lower from least e.location in
    let next = lowest_path from first e.path in
    let last = lowest_in_ways from next e.ways in
    let t = is_skipped from last in
    let place : t e.location ≡ true = ways_keep from next e.ways e.location (path_keeps from first e.path e.location (lower_has from least e.location)) in
    let path : option_map_or t e.path true ≡ true = path_more (is_skipped from next) t (ways_keep from next e.ways) e.path (path_has from first e.path) in
    and_from (t e.location && option_map_or t e.path true) (list_all (way_names t) e.ways)
    (and_from (t e.location) (option_map_or t e.path true) place path)
    (ways_have from next e.ways)

entry_more : (p q : ℕ → Bool) → ((l : ℕ) → p l ≡ true → q l ≡ true) → (e : Entry) → entry_names p e ≡ true → entry_names q e ≡ true
entry_more p q h e passes =
    let parts = and_parts (p e.location && option_map_or p e.path true) (list_all (way_names p) e.ways) passes in
    let own = and_parts (p e.location) (option_map_or p e.path true) parts.0 in
    and_from (q e.location && option_map_or q e.path true) (list_all (way_names q) e.ways)
    (and_from (q e.location) (option_map_or q e.path true) (h e.location own.0) (path_more p q h e.path own.1))
    (all_more (way_names p) (way_names q) e.ways (way_more p q h) parts.1)

all_keep : (from : ℕ) (least : Option ℕ) (es : List Entry) (l : ℕ) → is_skipped from least l ≡ true → is_skipped from (lowest_of_all from least es) l ≡ true
all_keep from least [] l h = h
all_keep from least (e ∷ es) l h = all_keep from (lowest_in_entry from least e) es l (entry_keeps from least e l h)

-- no place that derived words name lies before the lowest one
pub all_have : (from : ℕ) (least : Option ℕ) (es : List Entry) → all_names (is_skipped from (lowest_of_all from least es)) es ≡ true
all_have from least [] = refl
all_have from least (e ∷ es) =
    let next = lowest_in_entry from least e in
    let last = lowest_of_all from next es in
    let first = entry_more (is_skipped from next) (is_skipped from last) (all_keep from next es) e (entry_has from least e) in
    let rest = all_have from next es in
    rw first rest

path_from : (from : ℕ) (least : Option ℕ) (path : Option ℕ) → IfSome least (λ n. from ≤ n) → IfSome (lowest_path from least path) (λ n. from ≤ n)
path_from from least None h = h
path_from from least (Some path) h = lower_from from least path h

ways_from : (from : ℕ) (least : Option ℕ) (ways : List Bases) → IfSome least (λ n. from ≤ n) → IfSome (lowest_in_ways from least ways) (λ n. from ≤ n)
ways_from from least [] h = h
ways_from from least (way ∷ ways) h =
    ways_from from (lowest_in_way from least way) ways (lowest_from from (lowest from least way.added) way.subtracted (lowest_from from least way.added h))

-- and it isn't below the place from which it was looked for
pub all_from : (from : ℕ) (least : Option ℕ) (es : List Entry) → IfSome least (λ n. from ≤ n) → IfSome (lowest_of_all from least es) (λ n. from ≤ n)
all_from from least [] h = h
all_from from least (e ∷ es) h =
    all_from from (lowest_in_entry from least e) es (ways_from from (lowest_path from (lower from least e.location) e.path) e.ways (path_from from (lower from least e.location) e.path (lower_from from least e.location h)))

pub found : (from place : ℕ) (es : List Entry) → Some place ≡ lowest_of_all from None es → (from ≤ place) × (all_names (is_skipped from (Some place)) es ≡ true)
found from place es e = (
  subst (λ (o : Option ℕ). IfSome o (λ n. from ≤ n)) (sym e) (all_from from None es tt),
  subst (λ (o : Option ℕ). all_names (is_skipped from o) es ≡ true) (sym e) (all_have from None es),
)

pub none_found : (from : ℕ) (es : List Entry) → None ≡ lowest_of_all from None es → all_names (is_skipped from None) es ≡ true
none_found from es e = subst (λ (o : Option ℕ). all_names (is_skipped from o) es ≡ true) (sym e) (all_have from None es)
