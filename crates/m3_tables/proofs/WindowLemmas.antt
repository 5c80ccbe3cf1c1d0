-- Derived words compared with each other at some places, and then at the others.
use Rattle.std.proofs.Common.{◌≡◌, ℕ, ◌+◌, ◌≤◌, Bool, true, false, ◌&&◌, ◌||◌, not, List, [], ◌∷◌, length, Option, Some, None, refl, sym, ◌∙◌, ap, arith}
use Rattle.std.specs.Prelude.{◌==◌, nat_lt}
use Rattle.std.specs.Option.{option_map_or}
use Rattle.std.specs.List.{list_all}
use Rattle.std.proofs.lemmas.Bool.Decides.{nat_tests}
use Rattle.m3_tables.specs.Rows.{Bases, Entry}
use Rattle.m3_tables.specs.Sections.{is_between, is_derived, is_path, bases_known, path_fits, entries_fit}
use Rattle.m3_tables.specs.Windows.{has_mark, places_fit, places_apart, path_apart, paths_apart, bases_come, window_fits, way_names, entry_names, all_names, is_skipped}
use Rattle.m3_tables.proofs.KeepingLemmas.{and_parts}

-- ---- tests

shuffle : (a b c d : Bool) → ((a && b) && (c && d)) ≡ ((a && c) && (b && d))
shuffle true b true d = refl
shuffle true true false d = refl
shuffle true false false d = refl
shuffle false b c d = refl

twice : (a : Bool) → (a && a) ≡ a
twice true = refl
twice false = refl

both : (a b : Bool) → a ≡ true → b ≡ true → (a && b) ≡ true
both true b e f = f
both false b e f = absurd cc

not_either : (u v d : Bool) → not ((u || v) && d) ≡ (not (u && d) && not (v && d))
not_either true true d = sym (twice (not d))
not_either true false true = refl
not_either true false false = refl
not_either false v d = refl

known_either : (u v k d : Bool) → ((not (u || v) || k) || d) ≡ (((not u || k) || d) && ((not v || k) || d))
known_either true true k d = sym (twice (k || d))
known_either true false true d = refl
known_either true false false true = refl
known_either true false false false = refl
known_either false v k d = refl

-- what passes a test passes another one where it passes two
pub all_split : {X : Type 0} (t p a b : X → Bool) (xs : List X) → list_all t xs ≡ true → ((x : X) → t x ≡ true → p x ≡ (a x && b x)) → list_all p xs ≡ (list_all a xs && list_all b xs)
all_split t p a b [] h e = refl
all_split t p a b (x ∷ xs) h e =
    let parts = and_parts (t x) (list_all t xs) h in
    let first = e x parts.0 in
    let rest = all_split t p a b xs parts.1 e in
    rw (first, rest) (shuffle (a x) (b x) (list_all a xs) (list_all b xs))

pub all_same : {X : Type 0} (t p q : X → Bool) (xs : List X) → list_all t xs ≡ true → ((x : X) → t x ≡ true → p x ≡ q x) → list_all p xs ≡ list_all q xs
all_same t p q [] h e = refl
all_same t p q (x ∷ xs) h e =
    let parts = and_parts (t x) (list_all t xs) h in
    let first = e x parts.0 in
    let rest = all_same t p q xs parts.1 e in
    rw (first, rest) refl

-- ---- from one test to another

-- a test that says the same as two where a third one passes
abbrev pub SplitsAt : (ℕ → Bool) → (ℕ → Bool) → (ℕ → Bool) → (ℕ → Bool) → Type 0
SplitsAt t w u v = (l : ℕ) → t l ≡ true → w l ≡ (u l || v l)

places_split : (t w u v : ℕ → Bool) (es : List Entry) → all_names t es ≡ true → SplitsAt t w u v → places_apart w es ≡ (places_apart u es && places_apart v es)
places_split t w u v [] names s = refl
places_split t w u v (e ∷ later) names s =
    let parts = and_parts (entry_names t e) (all_names t later) names in
    let own = and_parts (t e.location && option_map_or t e.path true) (list_all (way_names t) e.ways) parts.0 in
    let here = and_parts (t e.location) (option_map_or t e.path true) own.0 in
    let d = is_derived later e.location in
    let first = s e.location here.0 in
    let rest = places_split t w u v later parts.1 s in
    rw (first, not_either (u e.location) (v e.location) d, rest) (shuffle (not (u e.location && d)) (not (v e.location && d)) (places_apart u later) (places_apart v later))

path_split : (t w u v : ℕ → Bool) (all : List Entry) (p : Option ℕ) → option_map_or t p true ≡ true → SplitsAt t w u v → option_map_or (λ n. not (w n && is_derived all n)) p true ≡ (option_map_or (λ n. not (u n && is_derived all n)) p true && option_map_or (λ n. not (v n && is_derived all n)) p true)
path_split t w u v all None h s = refl
path_split t w u v all (Some p) h s = let first = s p h in rw first (not_either (u p) (v p) (is_derived all p))

paths_split : (t w u v : ℕ → Bool) (all es : List Entry) → all_names t es ≡ true → SplitsAt t w u v → paths_apart w all es ≡ (paths_apart u all es && paths_apart v all es)
paths_split t w u v all es names s =
    all_split (entry_names t) (path_apart w all) (path_apart u all) (path_apart v all) es names (λ e h.
    let own = and_parts (t e.location && option_map_or t e.path true) (list_all (way_names t) e.ways) h in
    let here = and_parts (t e.location) (option_map_or t e.path true) own.0 in
    path_split t w u v all e.path here.1 s)

way_split : (t w u v listed : ℕ → Bool) (later : List Entry) (way : Bases) → way_names t way ≡ true → SplitsAt t w u v → bases_known (λ l. not (w l) || listed l) later way ≡ (bases_known (λ l. not (u l) || listed l) later way && bases_known (λ l. not (v l) || listed l) later way)
way_split t w u v listed later way names s =
    let parts = and_parts (list_all t way.added) (list_all t way.subtracted) names in
    let P : ℕ → Bool = λ l. (not (w l) || listed l) || is_derived later l in
    let A : ℕ → Bool = λ l. (not (u l) || listed l) || is_derived later l in
    let B : ℕ → Bool = λ l. (not (v l) || listed l) || is_derived later l in
    let each : (l : ℕ) → t l ≡ true → P l ≡ (A l && B l) = λ l h. (let first = s l h in rw first (known_either (u l) (v l) (listed l) (is_derived later l))) in
    let added = all_split t P A B way.added parts.0 each in
    let subtracted = all_split t P A B way.subtracted parts.1 each in
    rw (added, subtracted) (shuffle (list_all A way.added) (list_all B way.added) (list_all A way.subtracted) (list_all B way.subtracted))

bases_split : (t w u v listed : ℕ → Bool) (es : List Entry) → all_names t es ≡ true → SplitsAt t w u v → bases_come w listed es ≡ (bases_come u listed es && bases_come v listed es)
bases_split t w u v listed [] names s = refl
bases_split t w u v listed (e ∷ later) names s =
    let parts = and_parts (entry_names t e) (all_names t later) names in
    let own = and_parts (t e.location && option_map_or t e.path true) (list_all (way_names t) e.ways) parts.0 in
    let P = bases_known (λ l. not (w l) || listed l) later in
    let A = bases_known (λ l. not (u l) || listed l) later in
    let B = bases_known (λ l. not (v l) || listed l) later in
    let first = all_split (way_names t) P A B e.ways own.1 (λ way h. way_split t w u v listed later way h s) in
    let rest = bases_split t w u v listed later parts.1 s in
    rw (first, rest) (shuffle (list_all A e.ways) (list_all B e.ways) (bases_come u listed later) (bases_come v listed later))

pub window_split : (t w u v listed : ℕ → Bool) (es : List Entry) → all_names t es ≡ true → SplitsAt t w u v → window_fits w listed es ≡ (window_fits u listed es && window_fits v listed es)
window_split t w u v listed es names s =
    let places = places_split t w u v es names s in
    let paths = paths_split t w u v es es names s in
    let bases = bases_split t w u v listed es names s in
    rw (places, paths, bases) (
    let front = shuffle (places_apart u es) (places_apart v es) (paths_apart u es es) (paths_apart v es es) in
    rw front (shuffle (places_apart u es && paths_apart u es es) (places_apart v es && paths_apart v es es) (bases_come u listed es) (bases_come v listed es)))

-- ---- all places, and none

all_pass : {X : Type 0} (t : X → Bool) (xs : List X) → ((x : X) → t x ≡ true) → list_all t xs ≡ true
all_pass t [] h = refl
all_pass t (x ∷ xs) h = let first = h x in let rest = all_pass t xs h in rw first rest

way_names_all : (t : ℕ → Bool) → ((l : ℕ) → t l ≡ true) → (way : Bases) → way_names t way ≡ true
way_names_all t h way = both (list_all t way.added) (list_all t way.subtracted) (all_pass t way.added h) (all_pass t way.subtracted h)

path_names_all : (t : ℕ → Bool) → ((l : ℕ) → t l ≡ true) → (p : Option ℕ) → option_map_or t p true ≡ true
path_names_all t h None = refl
path_names_all t h (Some p) = h p

names_all : (t : ℕ → Bool) → ((l : ℕ) → t l ≡ true) → (es : List Entry) → all_names t es ≡ true
names_all t h es = all_pass (entry_names t) es (λ e.
    both (t e.location && option_map_or t e.path true) (list_all (way_names t) e.ways)
    (both (t e.location) (option_map_or t e.path true) (h e.location) (path_names_all t h e.path))
    (all_pass (way_names t) e.ways (way_names_all t h)))

abbrev pub everywhere : ℕ → Bool
everywhere l = true

or_everywhere : (b : Bool) → true ≡ (b || true)
or_everywhere true = refl
or_everywhere false = refl

-- what doesn't fit at some places doesn't fit
pub window_stops : (w listed : ℕ → Bool) (es : List Entry) → window_fits w listed es ≡ false → window_fits everywhere listed es ≡ false
window_stops w listed es h =
    let split = window_split everywhere everywhere w everywhere listed es (names_all everywhere (λ l. refl) es) (λ l passes. or_everywhere (w l)) in
    split ∙ rw h refl

-- what fits at all places that are named fits
pub window_whole : (w listed : ℕ → Bool) (es : List Entry) → all_names w es ≡ true → window_fits w listed es ≡ window_fits everywhere listed es
window_whole w listed es names =
    let split = window_split w w everywhere everywhere listed es names (λ l passes. passes) in
    split ∙ twice (window_fits everywhere listed es)

places_none : (w : ℕ → Bool) → ((l : ℕ) → w l ≡ false) → (es : List Entry) → places_apart w es ≡ true
places_none w h [] = refl
places_none w h (e ∷ later) = let first = h e.location in let rest = places_none w h later in rw first rest

path_none : (w : ℕ → Bool) → ((l : ℕ) → w l ≡ false) → (all : List Entry) (p : Option ℕ) → option_map_or (λ n. not (w n && is_derived all n)) p true ≡ true
path_none w h all None = refl
path_none w h all (Some p) = let first = h p in rw first refl

way_none : (w listed : ℕ → Bool) → ((l : ℕ) → w l ≡ false) → (later : List Entry) (way : Bases) → bases_known (λ l. not (w l) || listed l) later way ≡ true
way_none w listed h later way =
    let P : ℕ → Bool = λ l. (not (w l) || listed l) || is_derived later l in
    let each : (l : ℕ) → P l ≡ true = λ l. (let first = h l in rw first refl) in
    both (list_all P way.added) (list_all P way.subtracted) (all_pass P way.added each) (all_pass P way.subtracted each)

bases_none : (w listed : ℕ → Bool) → ((l : ℕ) → w l ≡ false) → (es : List Entry) → bases_come w listed es ≡ true
bases_none w listed h [] = refl
bases_none w listed h (e ∷ later) =
    both (list_all (bases_known (λ l. not (w l) || listed l) later) e.ways) (bases_come w listed later)
    (all_pass (bases_known (λ l. not (w l) || listed l) later) e.ways (way_none w listed h later))
    (bases_none w listed h later)

below_none : (l : ℕ) → nat_lt l 0 ≡ false
below_none l = grind (arith, nat_tests)

-- nothing is below 0
pub window_none : (listed : ℕ → Bool) (es : List Entry) → window_fits (λ l. nat_lt l 0) listed es ≡ true
window_none listed es =
    let w : ℕ → Bool = λ l. nat_lt l 0 in
    both (places_apart w es && paths_apart w es es) (bases_come w listed es)
    (both (places_apart w es) (paths_apart w es es) (places_none w below_none es) (all_pass (path_apart w es) es (λ e. path_none w below_none es e.path)))
    (bases_none w listed below_none es)

skipped_splits : (from place end l : ℕ) → from ≤ place → is_skipped from (Some place) l ≡ true → nat_lt l (place + end) ≡ (nat_lt l from || is_between place (place + end) l)
skipped_splits from place end l h s = grind (arith, nat_tests)

-- from the places below one to those below the next
pub window_next : (listed : ℕ → Bool) (marks : List Bool) (from place end : ℕ) (es : List Entry) → end ≡ place + length marks → from ≤ place → all_names (is_skipped from (Some place)) es ≡ true → window_fits (λ l. nat_lt l from) listed es ≡ true → true ≡ window_fits (has_mark marks place) listed es → window_fits (λ l. nat_lt l end) listed es ≡ true
window_next listed marks from place end es is order names before here =
    let split = window_split (is_skipped from (Some place)) (λ l. nat_lt l (place + length marks)) (λ l. nat_lt l from) (has_mark marks place) listed es names (λ l s. skipped_splits from place (length marks) l order s) in
    let fits : window_fits (λ l. nat_lt l (place + length marks)) listed es ≡ true = split ∙ rw (before, ← here) refl in
    ap (λ (k : ℕ). window_fits (λ l. nat_lt l k) listed es) is ∙ fits

or_no : (b : Bool) → (b || false) ≡ true → b ≡ (true || true)
or_no true h = refl
or_no false h = absurd cc

-- where no place that is named is left
pub window_end : (listed : ℕ → Bool) (from : ℕ) (es : List Entry) → all_names (is_skipped from None) es ≡ true → window_fits (λ l. nat_lt l from) listed es ≡ true → window_fits everywhere listed es ≡ true
window_end listed from es names before =
    let split = window_split (is_skipped from None) (λ l. nat_lt l from) everywhere everywhere listed es names (λ l s. or_no (nat_lt l from) s) in
    sym (split ∙ twice (window_fits everywhere listed es)) ∙ before

-- ---- the form of the derived words

not_or : (a b : Bool) → (not a && not b) ≡ not (a || b)
not_or true b = refl
not_or false b = refl

swap_path : (es : List Entry) (p : Option ℕ) → list_all (λ e. not (option_map_or (λ n. n == e.location) p false)) es ≡ option_map_or (λ n. not (true && is_derived es n)) p true
swap_path es None = all_pass (λ e. true) es (λ e. refl)
swap_path [] (Some p) = refl
swap_path (e ∷ es) (Some p) =
    let rest = swap_path es (Some p) in
    let same : (p == e.location) ≡ (e.location == p) = grind (arith, nat_tests) in
    rw (same, rest) (not_or (e.location == p) (is_derived es p))

paths_swap : (owners es : List Entry) → list_all (λ e. not (is_path owners e.location)) es ≡ list_all (path_apart everywhere es) owners
paths_swap [] es = all_pass (λ e. true) es (λ e. refl)
paths_swap (a ∷ owners) es =
    let P : Entry → Bool = λ e. not (option_map_or (λ n. n == e.location) a.path false || is_path owners e.location) in
    let A : Entry → Bool = λ e. not (option_map_or (λ n. n == e.location) a.path false) in
    let B : Entry → Bool = λ e. not (is_path owners e.location) in
    let each : (e : Entry) → true ≡ true → P e ≡ (A e && B e) = λ e h. sym (not_or (option_map_or (λ n. n == e.location) a.path false) (is_path owners e.location)) in
    let split = all_split (λ e. true) P A B es (all_pass (λ e. true) es (λ e. refl)) each in
    split ∙ rw (swap_path es a.path, paths_swap owners es) refl

and_false : (b : Bool) → (b && false) ≡ false
and_false true = refl
and_false false = refl

and_no : (a b : Bool) → b ≡ false → false ≡ (a && b)
and_no true b e = sym e
and_no false b e = refl

no_and : (a b : Bool) → a ≡ false → (a && b) ≡ false
no_and true b e = absurd cc
no_and false b e = refl

reach : (p q r s : Bool) → ((p && q) && (r && s)) ≡ (p && ((q && r) && s))
reach true true r s = refl
reach true false r s = refl
reach false q r s = refl

-- the tests of an entry and of those behind it, by what they ask
regroup : (a b c d e p q r s : Bool) → (((a && b) && (c && (d && e))) && ((p && q) && ((r && s)))) ≡ (((a && d) && p) && (((b && q) && (c && r)) && (e && s)))
regroup true true true true true p q r s = reach p q r s
regroup true true true true false p q r s = and_no p ((q && r) && false) (and_false (q && r))
regroup true true true false e p q r s = refl
regroup true true false true e p q r s = and_no p ((q && false) && (e && s)) (no_and (q && false) (e && s) (and_false q))
regroup true true false false e p q r s = refl
regroup true false c true e p q r s = and_no p false refl
regroup true false c false e p q r s = refl
regroup false b c d e p q r s = refl

by_parts : (listed : ℕ → Bool) (all es : List Entry) → entries_fit listed all es ≡ (places_fit listed es && ((places_apart everywhere es && list_all (λ e. not (is_path all e.location)) es) && bases_come everywhere listed es))
by_parts listed all [] = refl
by_parts listed all (e ∷ later) =
    let a = not (listed e.location) in
    let b = not (is_derived later e.location) in
    let c = not (is_path all e.location) in
    let d = path_fits listed e in
    let k = list_all (bases_known listed later) e.ways in
    let p = places_fit listed later in
    let q = places_apart everywhere later in
    let r = list_all (λ x. not (is_path all x.location)) later in
    let s = bases_come everywhere listed later in
    ap (λ (rest : Bool). ((a && b) && (c && (d && k))) && rest) (by_parts listed all later ∙ sym (reach p q r s)) ∙ regroup a b c d k p q r s

-- the derived words fit where none is listed and they fit at all places
pub fit_whole : (listed : ℕ → Bool) (es : List Entry) → entries_fit listed es es ≡ (places_fit listed es && window_fits everywhere listed es)
fit_whole listed es = by_parts listed es es ∙ rw (paths_swap es es) refl

pub fit_stops : (listed : ℕ → Bool) (es : List Entry) → false ≡ places_fit listed es → false ≡ entries_fit listed es es
fit_stops listed es h = sym (fit_whole listed es ∙ no_and (places_fit listed es) (window_fits everywhere listed es) (sym h))

pub fit_breaks : (w listed : ℕ → Bool) (es : List Entry) → false ≡ window_fits w listed es → false ≡ entries_fit listed es es
fit_breaks w listed es h =
    let stops = window_stops w listed es (sym h) in
    and_no (places_fit listed es) (window_fits everywhere listed es) stops ∙ sym (fit_whole listed es)

pub fit_ends : (listed : ℕ → Bool) (from : ℕ) (es : List Entry) → true ≡ places_fit listed es → all_names (is_skipped from None) es ≡ true → window_fits (λ l. nat_lt l from) listed es ≡ true → true ≡ entries_fit listed es es
fit_ends listed from es places names before =
    let whole = window_end listed from es names before in
    sym (fit_whole listed es ∙ both (places_fit listed es) (window_fits everywhere listed es) (sym places) whole)
