-- Marks that are set and taken away, one derived word after the other.
use Rattle.std.proofs.Common.{◌≡◌, ℕ, ◌+◌, ◌-◌, ◌≤◌, Bool, true, false, ◌&&◌, ◌||◌, not, List, [], ◌∷◌, length, replicate, slice_index_or, inl, inr, refl, sym, ◌∙◌, ap, subst, arith}
use Rattle.std.specs.Prelude.{◌==◌, nat_lt, if◌then◌else◌}
use Rattle.std.specs.List.{list_all}
use Rattle.std.proofs.lemmas.Bool.{cases_lt}
use Rattle.std.proofs.lemmas.Bool.Decides.{nat_tests}
use Rattle.std.proofs.lemmas.List.{get_or-replicate, length-replicate, get_or_past}
use Rattle.m3_tables.specs.Rows.{Entry}
use Rattle.m3_tables.specs.Sections.{is_between, is_derived, bases_known}
use Rattle.m3_tables.specs.Windows.{has_mark, mark_at, AreClear, MarkThose, places_apart, paths_apart, bases_come, window_fits}
use Rattle.m3_tables.proofs.KeepingLemmas.{choice, and_parts, not_true}

-- ---- tests

and_false : (b : Bool) → (b && false) ≡ false
and_false true = refl
and_false false = refl

and_assoc : (a b c : Bool) → ((a && b) && c) ≡ (a && (b && c))
and_assoc true b c = refl
and_assoc false b c = refl

or_true : (b : Bool) → true ≡ (b || true)
or_true true = refl
or_true false = refl

mark_step : (a h o d : Bool) → ((if a && h then true else o) || (h && d)) ≡ (o || (h && (a || d)))
mark_step true true o d = or_true o
mark_step true false o d = refl
mark_step false h o d = refl

unmark_step : (a h d : Bool) → (a ≡ true → h ≡ true → d ≡ false) → (if a && h then false else (h && (a || d))) ≡ (h && d)
unmark_step true true d x = sym (x refl refl)
unmark_step true false d x = refl
unmark_step false h d x = refl

-- ---- marks

pub clear_at : (marks : List Bool) (from l : ℕ) → AreClear marks → mark_at marks from l ≡ false
clear_at marks from l clear = ap (λ (b : Bool). not (nat_lt l from) && b) (clear (l - from)) ∙ and_false (not (nat_lt l from))

pub start_marked : (marks : List Bool) (from : ℕ) (rest all : List Entry) → rest ≡ all → AreClear marks → (n : ℕ) → (mark_at marks from n || (has_mark marks from n && is_derived rest n)) ≡ (has_mark marks from n && is_derived all n)
start_marked marks from rest all is clear n =
    ap (λ (b : Bool). b || (has_mark marks from n && is_derived rest n)) (clear_at marks from n clear) ∙ ap (λ (es : List Entry). has_mark marks from n && is_derived es n) is

free_all : (marks : List Bool) (from : ℕ) (es : List Entry) → AreClear marks → list_all (λ e. not (mark_at marks from e.location)) es ≡ true
free_all marks from [] clear = refl
free_all marks from (e ∷ es) clear =
    ap (λ (b : Bool). not b && list_all (λ e. not (mark_at marks from e.location)) es) (clear_at marks from e.location clear) ∙ free_all marks from es clear

pub start_apart : (marks : List Bool) (from : ℕ) (rest all : List Entry) → rest ≡ all → AreClear marks → (list_all (λ e. not (mark_at marks from e.location)) rest && places_apart (has_mark marks from) rest) ≡ places_apart (has_mark marks from) all
start_apart marks from rest all is clear =
    ap (λ (b : Bool). b && places_apart (has_mark marks from) rest) (free_all marks from rest clear) ∙ ap (λ (es : List Entry). places_apart (has_mark marks from) es) is

-- the marks with one more, or one less
abbrev pub SetsTo : Bool → List Bool → List Bool → ℕ → ℕ → Type 0
SetsTo mark now next from place = (l : ℕ) → mark_at next from l ≡ (if place == l && has_mark now from l then mark else mark_at now from l)

pub next_marked : (first now next : List Bool) (from : ℕ) (e : Entry) (before later all : List Entry) → length now ≡ length first → before ≡ e ∷ later → SetsTo true now next from e.location → ((n : ℕ) → (mark_at now from n || (has_mark first from n && is_derived before n)) ≡ (has_mark first from n && is_derived all n)) → (n : ℕ) → (mark_at next from n || (has_mark first from n && is_derived later n)) ≡ (has_mark first from n && is_derived all n)
next_marked first now next from e before later all len is sets marked n =
    let a = e.location == n in
    let h = has_mark first from n in
    let o = mark_at now from n in
    let d = is_derived later n in
    let same : has_mark now from n ≡ h = ap (λ (k : ℕ). is_between from (from + k) n) len in
    let old : (o || (h && (a || d))) ≡ (h && is_derived all n) = ap (λ (es : List Entry). o || (h && is_derived es n)) (sym is) ∙ marked n in
    ap (λ (b : Bool). b || (h && d)) (sets n) ∙ (ap (λ (x : Bool). (if a && x then true else o) || (h && d)) same ∙ (mark_step a h o d ∙ old))

same_order : (a b : ℕ) → (a == b) ≡ (b == a)
same_order a b = grind (arith, nat_tests)

equal : (a b : ℕ) → (a == b) ≡ true → a ≡ b
equal a b h = grind (arith, nat_tests)

free_here : (m h l d : Bool) → (not (if h then true else m) && (l && not (h && d))) ≡ ((not m && l) && not (h && true))
free_here m true l d = sym (and_false (not m && l))
free_here m false l d = sym (and_assoc (not m) l true)

free_there : (m l d : Bool) → (not m && (l && d)) ≡ ((not m && l) && d)
free_there m l d = sym (and_assoc (not m) l d)

not_none : (h : Bool) → not (h && false) ≡ true
not_none true = refl
not_none false = refl

-- those that are free of one more place were free, and are no place like it
next_free : (now next : List Bool) (from : ℕ) (e : Entry) (later : List Entry) → SetsTo true now next from e.location → list_all (λ x. not (mark_at next from x.location)) later ≡ (list_all (λ x. not (mark_at now from x.location)) later && not (has_mark now from e.location && is_derived later e.location))
next_free now next from e [] sets = sym (not_none (has_mark now from e.location))
next_free now next from e (x ∷ later) sets =
    let m = mark_at now from x.location in
    let l = list_all (λ y. not (mark_at now from y.location)) later in
    let h = has_mark now from e.location in
    let d = is_derived later e.location in
    let goal : Bool → Bool → Type 0 = λ a b. (not (if a && has_mark now from x.location then true else m) && (l && not (h && d))) ≡ ((not m && l) && not (h && (b || d))) in
    let rest = next_free now next from e later sets in
    let turned : (x.location == e.location) ≡ (e.location == x.location) = same_order x.location e.location in
    let done : goal (e.location == x.location) (x.location == e.location) = elim (choice (e.location == x.location)) [
      | inl here ↦ (
          let at : x.location ≡ e.location = sym (equal e.location x.location here) in
          let same : has_mark now from x.location ≡ h = ap (λ (k : ℕ). has_mark now from k) at in
          let first : goal true true = ap (λ (y : Bool). not (if y then true else m) && (l && not (h && d))) same ∙ free_here m h l d in
          subst (λ (b : Bool). goal (e.location == x.location) b) (sym (turned ∙ here)) (subst (λ (a : Bool). goal a true) (sym here) first)
          )
      | inr there ↦ (
          let first : goal false false = free_there m l (not (h && d)) in
          subst (λ (b : Bool). goal (e.location == x.location) b) (sym (turned ∙ there)) (subst (λ (a : Bool). goal a false) (sym there) first)
          )
    ] in
    ap (λ (b : Bool). not b && list_all (λ y. not (mark_at next from y.location)) later) (sets x.location) ∙ (ap (λ (b : Bool). not (if e.location == x.location && has_mark now from x.location then true else m) && b) rest ∙ done)

pub next_apart : (first now next : List Bool) (from : ℕ) (e : Entry) (before later all : List Entry) → length now ≡ length first → before ≡ e ∷ later → SetsTo true now next from e.location → false ≡ mark_at now from e.location → (list_all (λ x. not (mark_at now from x.location)) before && places_apart (has_mark first from) before) ≡ places_apart (has_mark first from) all → (list_all (λ x. not (mark_at next from x.location)) later && places_apart (has_mark first from) later) ≡ places_apart (has_mark first from) all
next_apart first now next from e before later all len is sets free apart =
    let l = list_all (λ x. not (mark_at now from x.location)) later in
    let d = is_derived later e.location in
    let p = places_apart (has_mark first from) later in
    let rest = next_free now next from e later sets in
    let same : has_mark now from e.location ≡ has_mark first from e.location = ap (λ (k : ℕ). is_between from (from + k) e.location) len in
    let old : ((not (mark_at now from e.location) && l) && (not (has_mark first from e.location && d) && p)) ≡ places_apart (has_mark first from) all = ap (λ (es : List Entry). list_all (λ x. not (mark_at now from x.location)) es && places_apart (has_mark first from) es) (sym is) ∙ apart in
    let shown : (l && (not (has_mark first from e.location && d) && p)) ≡ places_apart (has_mark first from) all = ap (λ (b : Bool). (not b && l) && (not (has_mark first from e.location && d) && p)) free ∙ old in
    ap (λ (b : Bool). b && p) rest ∙ (ap (λ (h : Bool). (l && not (h && d)) && p) same ∙ (and_assoc l (not (has_mark first from e.location && d)) p ∙ shown))

-- the mark of a derived word goes, and those of later ones are left
pub next_those : (first now next : List Bool) (from : ℕ) (e : Entry) (before later : List Entry) → length now ≡ length first → length next ≡ length now → before ≡ e ∷ later → SetsTo false now next from e.location → MarkThose now from before → places_apart (has_mark first from) before ≡ true → MarkThose next from later
next_those first now next from e before later len kept is sets those apart n =
    let a = e.location == n in
    let h = has_mark now from n in
    let d = is_derived later n in
    let once : not (has_mark first from e.location && is_derived later e.location) ≡ true = (and_parts (not (has_mark first from e.location && is_derived later e.location)) (places_apart (has_mark first from) later) (ap (λ (es : List Entry). places_apart (has_mark first from) es) (sym is) ∙ apart)).0 in
    let old : mark_at now from n ≡ (h && (a || d)) = those n ∙ ap (λ (es : List Entry). h && is_derived es n) is in
    let same : h ≡ has_mark first from n = ap (λ (k : ℕ). is_between from (from + k) n) len in
    let gone : a ≡ true → h ≡ true → d ≡ false = λ here has. (
    let at : e.location ≡ n = equal e.location n here in
    let none : not (has_mark first from n && is_derived later n) ≡ true = subst (λ (k : ℕ). not (has_mark first from k && is_derived later k) ≡ true) at once in
    let there : has_mark first from n ≡ true = sym same ∙ has in
    not_true d (ap (λ (b : Bool). not (b && d)) (sym there) ∙ none)
    ) in
    let after : has_mark next from n ≡ h = ap (λ (k : ℕ). is_between from (from + k) n) kept in
    sets n ∙ (ap (λ (b : Bool). if a && h then false else b) old ∙ (unmark_step a h d gone ∙ ap (λ (b : Bool). b && d) (sym after)))

pub no_marks : (marks : List Bool) (from : ℕ) (es : List Entry) → es ≡ [] → MarkThose marks from es → AreClear marks
no_marks marks from es is those q =
    let far : nat_lt (from + q) from ≡ false = grind (arith, nat_tests) in
    let back : from + q - from ≡ q = omega arith in
    let at : mark_at marks from (from + q) ≡ slice_index_or marks q false = ap (λ (b : Bool). not b && slice_index_or marks (from + q - from) false) far ∙ ap (λ (k : ℕ). slice_index_or marks k false) back in
    let none : mark_at marks from (from + q) ≡ false = those (from + q) ∙ (ap (λ (e : List Entry). has_mark marks from (from + q) && is_derived e (from + q)) is ∙ and_false (has_mark marks from (from + q))) in
    sym at ∙ none

-- ---- one after the other

pub list_stops : {X : Type 0} (test : X → Bool) (before later all : List X) (x : X) → before ≡ x ∷ later → list_all test before ≡ list_all test all → false ≡ test x → false ≡ list_all test all
list_stops test before later all x is so_far stops = ap (λ (b : Bool). b && list_all test later) stops ∙ (ap (list_all test) (sym is) ∙ so_far)

pub list_goes_on : {X : Type 0} (test : X → Bool) (before later all : List X) (x : X) → before ≡ x ∷ later → list_all test before ≡ list_all test all → true ≡ test x → list_all test later ≡ list_all test all
list_goes_on test before later all x is so_far passes = ap (λ (b : Bool). b && list_all test later) passes ∙ (ap (list_all test) (sym is) ∙ so_far)

pub list_ends : {X : Type 0} (test : X → Bool) (before all : List X) → before ≡ [] → list_all test before ≡ list_all test all → true ≡ list_all test all
list_ends test before all is so_far = ap (list_all test) (sym is) ∙ so_far

pub bases_stop : (first next : List Bool) (from : ℕ) (listed : ℕ → Bool) (e : Entry) (before later all : List Entry) → length next ≡ length first → before ≡ e ∷ later → bases_come (has_mark first from) listed before ≡ bases_come (has_mark first from) listed all → false ≡ list_all (bases_known (λ l. not (has_mark next from l) || listed l) later) e.ways → false ≡ bases_come (has_mark first from) listed all
bases_stop first next from listed e before later all len is so_far stops =
    let here : false ≡ list_all (bases_known (λ l. not (has_mark first from l) || listed l) later) e.ways = stops ∙ ap (λ (k : ℕ). list_all (bases_known (λ l. not (is_between from (from + k) l) || listed l) later) e.ways) len in
    ap (λ (b : Bool). b && bases_come (has_mark first from) listed later) here ∙ (ap (λ (es : List Entry). bases_come (has_mark first from) listed es) (sym is) ∙ so_far)

pub bases_go_on : (first next : List Bool) (from : ℕ) (listed : ℕ → Bool) (e : Entry) (before later all : List Entry) → length next ≡ length first → before ≡ e ∷ later → bases_come (has_mark first from) listed before ≡ bases_come (has_mark first from) listed all → true ≡ list_all (bases_known (λ l. not (has_mark next from l) || listed l) later) e.ways → bases_come (has_mark first from) listed later ≡ bases_come (has_mark first from) listed all
bases_go_on first next from listed e before later all len is so_far passes =
    let here : true ≡ list_all (bases_known (λ l. not (has_mark first from l) || listed l) later) e.ways = passes ∙ ap (λ (k : ℕ). list_all (bases_known (λ l. not (is_between from (from + k) l) || listed l) later) e.ways) len in
    ap (λ (b : Bool). b && bases_come (has_mark first from) listed later) here ∙ (ap (λ (es : List Entry). bases_come (has_mark first from) listed es) (sym is) ∙ so_far)

pub apart_later : (test : ℕ → Bool) (e : Entry) (before later : List Entry) → before ≡ e ∷ later → places_apart test before ≡ true → places_apart test later ≡ true
apart_later test e before later is apart = (and_parts (not (test e.location && is_derived later e.location)) (places_apart test later) (ap (λ (es : List Entry). places_apart test es) (sym is) ∙ apart)).1

pub window_by : (first next : List Bool) (from : ℕ) (listed : ℕ → Bool) (es : List Entry) (fits : Bool) → length next ≡ length first → true ≡ places_apart (has_mark first from) es → true ≡ paths_apart (has_mark next from) es es → fits ≡ bases_come (has_mark next from) listed es → fits ≡ window_fits (has_mark first from) listed es
window_by first next from listed es fits len places paths bases =
    let free : true ≡ paths_apart (has_mark first from) es es = paths ∙ ap (λ (k : ℕ). paths_apart (is_between from (from + k)) es es) len in
    let come : fits ≡ bases_come (has_mark first from) listed es = bases ∙ ap (λ (k : ℕ). bases_come (is_between from (from + k)) listed es) len in
    come ∙ (ap (λ (b : Bool). (true && b) && bases_come (has_mark first from) listed es) free ∙ ap (λ (b : Bool). (b && paths_apart (has_mark first from) es es) && bases_come (has_mark first from) listed es) places)

pub fresh : (n q : ℕ) → slice_index_or (replicate n false) q false ≡ false
fresh n q = elim (cases_lt q n) [
  | inl inside ↦ get_or-replicate n q false false inside
  | inr past ↦ (let end : length (replicate n false) ≤ q = rw (length-replicate n false) past in get_or_past (replicate n false) q false end)
]
