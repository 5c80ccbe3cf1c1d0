-- Derived words that don't disturb each other: taken apart, each is less its bases as they were, and put together
-- again, each is more by its bases as they are.
use Rattle.std.proofs.Common.{◌≡◌, ◌≢◌, ℕ, ◌^◌, ◌<◌, ◌≤◌, Bool, true, false, ◌||◌, List, [], ◌∷◌, ◌++◌, map, length, set, Option, None, Some, refl, sym, ap, ◌∙◌, arith, length-set, get_or-set_same, get_or-set_other}
use Rattle.std.specs.Prelude.{◌==◌}
use Rattle.std.specs.List.{slice_get, AllByRecursion}
use Rattle.std.proofs.lemmas.Bool.Decides.{nat_tests}
use Rattle.m3_base.specs.Words.{add_words, sub_words}
use Rattle.m3_tables.specs.Numbers.{has}
use Rattle.m3_tables.specs.Rows.{Bases}
use Rattle.m3_roots.specs.ThreadWords.{word_at_place, Derived, place_of, way_number, way_at, bases_by_way, path_places, base_places}
use Rattle.m3_roots.specs.TakingApart.{apart, together}
use Rattle.m3_roots.proofs.WordLemmas.{SameAt, way_same, bases_same, has_first, has_more}

-- ---- lists

pub each_weaker : {X : Type 0} (P Q : X → Type 0) → ((x : X) → P x → Q x) → (xs : List X) → AllByRecursion P xs → AllByRecursion Q xs
each_weaker P Q f [] h = tt
each_weaker P Q f (x ∷ xs) h = (f x h.0, each_weaker P Q f xs h.1)

pub each_both : {X : Type 0} (P Q : X → Type 0) (xs : List X) → AllByRecursion P xs → AllByRecursion Q xs → AllByRecursion (λ x. P x × Q x) xs
each_both P Q [] h k = tt
each_both P Q (x ∷ xs) h k = ((h.0, k.0), each_both P Q xs h.1 k.1)

pub each_three : {X : Type 0} (P Q R : X → Type 0) (xs : List X) → AllByRecursion P xs → AllByRecursion Q xs → AllByRecursion R xs → AllByRecursion (λ x. P x × Q x × R x) xs
each_three P Q R [] h k l = tt
each_three P Q R (x ∷ xs) h k l = ((h.0, k.0, l.0), each_three P Q R xs h.1 k.1 l.1)

-- ---- derived words that don't disturb each other

-- a later derived word isn't at this one's place, doesn't read it, and isn't at this one's path
pub record Spares (d later : Derived) : Type 0 where
  pub place : place_of later ≢ place_of d
  pub way : has (path_places later) (place_of d) ≡ false
  pub bases : has (base_places later) (place_of d) ≡ false
  pub path : has (path_places d) (place_of later) ≡ false

abbrev pub AreApart : List Derived → Type 0
AreApart [] = Unit {0}
AreApart (d ∷ ds) = (has (path_places d) (place_of d) ≡ false) × (has (base_places d) (place_of d) ≡ false) × AllByRecursion (Spares d) ds × AreApart ds

abbrev pub AreWithin : ℕ → List Derived → Type 0
AreWithin count ds = AllByRecursion (λ d. place_of d < count) ds

-- ---- one word set

differs : (q p : ℕ) (places : List ℕ) → has places q ≡ true → has places p ≡ false → q ≢ p
differs q p places h free = λ e. (let same : has places p ≡ true = rw (← e) h in cc)

set_same : (words : List ℕ) (p v : ℕ) (places : List ℕ) → has places p ≡ false → SameAt places words (set words p v)
set_same words p v places free = λ q h. (let ne : q ≢ p = differs q p places h free in get_or-set_other words p q v 0 ne)

-- ---- taken apart

-- a derived word is less the bases of its way
pub record IsLess (old new : List ℕ) (d : Derived) : Type 0 where
  pub way : Bases
  pub takes : way_at old d ≡ Some way
  pub word : word_at_place new (place_of d) ≡ sub_words (word_at_place old (place_of d)) (bases_by_way old d.first way)

pub record AreLess (ds : List Derived) (old new : List ℕ) : Type 0 where
  pub count : length new ≡ length old
  pub each : AllByRecursion (IsLess old new) ds
  pub others : (q : ℕ) → has (map place_of ds) q ≡ false → word_at_place new q ≡ word_at_place old q

not_here : (a b : Bool) → (a || b) ≡ false → (a ≡ false) × (b ≡ false)
not_here true b e = absurd cc
not_here false b e = (refl, e)

other_place : (p q : ℕ) → (p == q) ≡ false → q ≢ p
other_place p q e = λ s. (let t : (p == q) ≡ true = grind (arith, nat_tests) in cc)

-- what holds after one derived word was set holds as before of the later ones
less_after : (d : Derived) (v : ℕ) (old new : List ℕ) (e : Derived) → Spares d e × IsLess (set old (place_of d) v) new e → IsLess old new e
less_after d v old new e h =
    let p = place_of d in
    let less = h.1 in
    let takes = way_same e old (set old p v) (set_same old p v (path_places e) h.0.way) in
    let goes : way_at old e ≡ Some less.way = sym takes ∙ less.takes in
    let bases = bases_same e _ less.way old (set old p v) goes (set_same old p v (base_places e) h.0.bases) in
    let word = get_or-set_other old p (place_of e) v 0 h.0.place in
    record { way = less.way; takes = goes; word = rw (← bases, ← word) less.word }

absent : (d : Derived) (ds : List Derived) → AllByRecursion (Spares d) ds → has (map place_of ds) (place_of d) ≡ false
absent d [] h = refl
absent d (e ∷ ds) h =
    let ne = h.0.place in
    let t : (place_of e == place_of d) ≡ false = grind (arith, nat_tests) in
    rw t (absent d ds h.1)

pub apart_less : (ds : List Derived) (old new : List ℕ) → AreApart ds → AreWithin (length old) ds → apart ds old ≡ Some new → AreLess ds old new
apart_less [] old new free within e =
    let same : new ≡ old = cc in
    record { count = rw same refl; each = tt; others = λ q h. rw same refl }
apart_less (d ∷ ds) old new free within e = elim (way_at old d) as (λ (o : Option Bases). o ≡ way_at old d → AreLess (d ∷ ds) old new) [
  | None ↦ λ w. (let f : apart (d ∷ ds) old ≡ None = rw (← w) refl in absurd cc)
  | Some way ↦ λ w. (
      let p = place_of d in
      let v = sub_words (word_at_place old p) (bases_by_way old d.first way) in
      let middle = set old p v in
      let f : apart (d ∷ ds) old ≡ apart ds middle = rw (← w) refl in
      let len : length middle ≡ length old = length-set old p v in
      let rest = apart_less ds middle new free.3 (rw len within.1) (sym f ∙ e) in
      let here = rest.others p (absent d ds free.2) ∙ get_or-set_same old p v 0 within.0 in
      record {
        count = rest.count ∙ len;
        each = (record { way = way; takes = sym w; word = here }, each_weaker _ (IsLess old new) (less_after d v old new) ds (each_both (Spares d) (IsLess middle new) ds free.2 rest.each));
        others = λ q h. (let parts = not_here (p == q) (has (map place_of ds) q) h in rest.others q parts.1 ∙ get_or-set_other old p q v 0 (other_place p q parts.0));
      })
] refl

-- none comes where a path is past its ways
pub record IsPast (words : List ℕ) (ds : List Derived) : Type 0 where
  pub derived : Derived
  pub front : List Derived
  pub back : List Derived
  pub split : ds ≡ front ++ derived ∷ back
  pub past : way_at words derived ≡ None

spared_in : (d : Derived) (front : List Derived) (e : Derived) (back : List Derived) → AllByRecursion (Spares d) (front ++ e ∷ back) → Spares d e
spared_in d [] e back h = h.0
spared_in d (x ∷ front) e back h = spared_in d front e back h.1

past_after : (d : Derived) (v : ℕ) (old : List ℕ) (ds : List Derived) → AllByRecursion (Spares d) ds → IsPast (set old (place_of d) v) ds → IsPast old (d ∷ ds)
past_after d v old ds spared past =
    let e = past.derived in
    let h = spared_in d past.front e past.back (rw (← past.split) spared) in
    record {
      derived = e;
      front = d ∷ past.front;
      back = past.back;
      split = ap (λ (xs : List Derived). d ∷ xs) past.split;
      past = sym (way_same e old (set old (place_of d) v) (set_same old (place_of d) v (path_places e) h.way)) ∙ past.past;
    }

pub apart_past : (ds : List Derived) (old : List ℕ) → AreApart ds → apart ds old ≡ None → IsPast old ds
apart_past [] old free e = absurd cc
apart_past (d ∷ ds) old free e = elim (way_at old d) as (λ (o : Option Bases). o ≡ way_at old d → IsPast old (d ∷ ds)) [
  | None ↦ λ w. record { derived = d; front = []; back = ds; split = refl; past = sym w }
  | Some way ↦ λ w. (
      let p = place_of d in
      let v = sub_words (word_at_place old p) (bases_by_way old d.first way) in
      let f : apart (d ∷ ds) old ≡ apart ds (set old p v) = rw (← w) refl in
      past_after d v old ds free.2 (apart_past ds (set old p v) free.3 (sym f ∙ e)))
] refl

-- ---- put together

-- a derived word is more by the bases of the way that it took
pub record IsMore (way_of : Derived → Option Bases) (old new : List ℕ) (d : Derived) : Type 0 where
  pub way : Bases
  pub takes : way_of d ≡ Some way
  pub word : word_at_place new (place_of d) ≡ add_words (word_at_place old (place_of d)) (bases_by_way new d.first way)

pub record AreMore (way_of : Derived → Option Bases) (ds : List Derived) (old new : List ℕ) : Type 0 where
  pub count : length new ≡ length old
  pub each : AllByRecursion (IsMore way_of old new) ds
  pub others : (q : ℕ) → has (map place_of ds) q ≡ false → word_at_place new q ≡ word_at_place old q

-- each takes the way that it took
abbrev pub TakeWays : (Derived → Option Bases) → List ℕ → List Derived → Type 0
TakeWays way_of words ds = AllByRecursion (λ d. (way : Bases) × (way_of d ≡ Some way) × (way_at words d ≡ Some way)) ds

paths_absent : (d : Derived) (ds : List Derived) → AllByRecursion (Spares d) ds → (q : ℕ) → has (path_places d) q ≡ true → has (map place_of ds) q ≡ false
paths_absent d [] h q k = refl
paths_absent d (e ∷ ds) h q k =
    let ne : q ≢ place_of e = differs q (place_of e) (path_places d) k h.0.path in
    let t : (place_of e == q) ≡ false = grind (arith, nat_tests) in
    rw t (paths_absent d ds h.1 q k)

more_after : (way_of : Derived → Option Bases) (d : Derived) (v : ℕ) (old middle : List ℕ) (e : Derived) → Spares d e × ((n : ℕ) × (way : Bases) × (way_of e ≡ Some way) × (slice_get e.entry.ways n ≡ Some way)) × IsMore way_of old middle e
    → IsMore way_of old (set middle (place_of d) v) e
more_after way_of d v old middle e h =
    let p = place_of d in
    let more = h.2 in
    let found : slice_get e.entry.ways h.1.0 ≡ Some more.way = cc in
    let bases = bases_same e h.1.0 more.way middle (set middle p v) found (set_same middle p v (base_places e) h.0.bases) in
    let word = get_or-set_other middle p (place_of e) v 0 h.0.place in
    record { way = more.way; takes = more.takes; word = rw (bases, word) more.word }

pub together_more : (way_of : Derived → Option Bases) (ds : List Derived) (old : List ℕ) → AreApart ds → AreWithin (length old) ds → TakeWays way_of old ds → (new : List ℕ) × (together ds old ≡ Some new) × AreMore way_of ds old new
together_more way_of [] old free within takes = (old, refl, record { count = refl; each = tt; others = λ q h. refl })
together_more way_of (d ∷ ds) old free within takes =
    let rest = together_more way_of ds old free.3 within.1 takes.1 in
    let middle = rest.0 in
    let p = place_of d in
    let way = takes.0.0 in
    let goes : way_at middle d ≡ Some way = way_same d old middle (λ q h. rest.2.others q (paths_absent d ds free.2 q h)) ∙ takes.0.2 in
    let v = add_words (word_at_place middle p) (bases_by_way middle d.first way) in
    let made : together (d ∷ ds) old ≡ Some (set middle p v) = rw (rest.1, goes) refl in
    let within_middle : p < length middle = rw rest.2.count within.0 in
    let here : word_at_place (set middle p v) p ≡ v = get_or-set_same middle p v 0 within_middle in
    let stays : word_at_place middle p ≡ word_at_place old p = rest.2.others p (absent d ds free.2) in
    let bases : bases_by_way (set middle p v) d.first way ≡ bases_by_way middle d.first way = bases_same d _ way middle (set middle p v) goes (set_same middle p v (base_places d) free.1) in
    let found : AllByRecursion (λ e. (n : ℕ) × (way : Bases) × (way_of e ≡ Some way) × (slice_get e.entry.ways n ≡ Some way)) ds = each_weaker _ _ (λ e t. (way_number old e.first e.entry.path, t.0, t.1, t.2)) ds takes.1 in (
      set middle p v,
      made,
      record {
        count = length-set middle p v ∙ rest.2.count;
        each = (record { way = way; takes = takes.0.1; word = here ∙ rw (bases, ← stays) refl }, each_weaker _ (IsMore way_of old (set middle p v)) (more_after way_of d v old middle) ds (each_three (Spares d) _ (IsMore way_of old middle) ds free.2 found rest.2.each));
        others = λ q h. (let parts = not_here (p == q) (has (map place_of ds) q) h in get_or-set_other middle p q v 0 (other_place p q parts.0) ∙ rest.2.others q parts.1);
      },
    )

-- ---- taken apart, changed elsewhere, and put together again

back_and_forth : (x less more : ℕ) → less ≤ 2 ^ 64 → add_words (sub_words x less) more ≡ add_words x (sub_words more less)
back_and_forth x less more le = omega arith

-- a derived word grows by as much as its bases grow
abbrev pub Grows : List ℕ → List ℕ → Derived → Type 0
Grows old new d = (way : Bases) → way_at old d ≡ Some way → word_at_place new (place_of d) ≡ add_words (word_at_place old (place_of d)) (sub_words (bases_by_way new d.first way) (bases_by_way old d.first way))

pub record AreMended (ds : List Derived) (tidy : List ℕ) (old visited new : List ℕ) : Type 0 where
  pub count : length new ≡ length old
  pub each : AllByRecursion (Grows old new) ds
  pub visited_words : (q : ℕ) → has tidy q ≡ true → word_at_place new q ≡ word_at_place visited q
  pub others : (q : ℕ) → has tidy q ≡ false → has (map place_of ds) q ≡ false → word_at_place new q ≡ word_at_place old q

-- the paths are no derived words and no tidy ones
abbrev pub PathsAreFree : List Derived → List ℕ → List Derived → Type 0
PathsAreFree all tidy ds = AllByRecursion (λ d. (q : ℕ) → has (path_places d) q ≡ true → (has (map place_of all) q ≡ false) × (has tidy q ≡ false)) ds

-- tidy words alone were changed
pub record AreVisited (tidy : List ℕ) (old new : List ℕ) : Type 0 where
  pub count : length new ≡ length old
  pub others : (q : ℕ) → has tidy q ≡ false → word_at_place new q ≡ word_at_place old q

way_kept : (all : List Derived) (tidy old taken visited : List ℕ) (d : Derived) → AreLess all old taken → AreVisited tidy taken visited → ((q : ℕ) → has (path_places d) q ≡ true → (has (map place_of all) q ≡ false) × (has tidy q ≡ false)) → way_at visited d ≡ way_at old d
way_kept all tidy old taken visited d less changed free = way_same d old visited (λ q h. (let f = free q h in changed.others q f.1 ∙ less.others q f.0))

grown : (old taken visited new : List ℕ) (tidy : List ℕ) (d : Derived) → AreVisited tidy taken visited → has tidy (place_of d) ≡ false → IsLess old taken d × IsMore (way_at old) visited new d → Grows old new d
grown old taken visited new tidy d changed apart h way takes =
    let p = place_of d in
    let less = h.0 in
    let more = h.1 in
    let a : less.way ≡ way = let t = less.takes in cc in
    let b : more.way ≡ way = let t = more.takes in cc in
    let stays : word_at_place visited p ≡ word_at_place taken p = changed.others p apart in
    let w : word_at_place new p ≡ add_words (word_at_place visited p) (bases_by_way new d.first way) = rw b at more.word in
    let l : word_at_place taken p ≡ sub_words (word_at_place old p) (bases_by_way old d.first way) = rw a at less.word in
    rw (w, stays, l) (back_and_forth (word_at_place old p) (bases_by_way old d.first way) (bases_by_way new d.first way) (omega arith))

apart_from : (tidy : List ℕ) (p : ℕ) (b : Bool) → b ≡ has tidy p → (b ≡ true → ⊥) → has tidy p ≡ false
apart_from tidy p true e h = absurd (h refl)
apart_from tidy p false e h = sym e

untidy_in : (all ds : List Derived) (tidy : List ℕ) → ((q : ℕ) → has tidy q ≡ true → has (map place_of all) q ≡ false) → ((q : ℕ) → has (map place_of ds) q ≡ true → has (map place_of all) q ≡ true) → AllByRecursion (λ d. has tidy (place_of d) ≡ false) ds
untidy_in all [] tidy separate among = tt
untidy_in all (d ∷ ds) tidy separate among = (
  apart_from tidy (place_of d) (has tidy (place_of d)) refl (λ h. (let a = separate (place_of d) h in let b = among (place_of d) (has_first (place_of d) (map place_of ds)) in cc)),
  untidy_in all ds tidy separate (λ q h. among q (has_more (place_of d) q (map place_of ds) h)),
)

untidy : (ds : List Derived) (tidy : List ℕ) → ((q : ℕ) → has tidy q ≡ true → has (map place_of ds) q ≡ false) → AllByRecursion (λ d. has tidy (place_of d) ≡ false) ds
untidy ds tidy separate = untidy_in ds ds tidy separate (λ q h. h)

pub mended : (ds : List Derived) (tidy old taken visited : List ℕ) → AreApart ds → AreWithin (length old) ds → apart ds old ≡ Some taken → AreVisited tidy taken visited → PathsAreFree ds tidy ds → ((q : ℕ) → has tidy q ≡ true → has (map place_of ds) q ≡ false)
    → (new : List ℕ) × (together ds visited ≡ Some new) × AreMended ds tidy old visited new
mended ds tidy old taken visited free within e changed paths separate =
    let less = apart_less ds old taken free within e in
    let same_length : length visited ≡ length old = changed.count ∙ less.count in
    let takes : TakeWays (way_at old) visited ds = each_weaker _ _ (λ d h. (let l = h.0 in (l.way, l.takes, way_kept ds tidy old taken visited d less changed h.1 ∙ l.takes))) ds (each_both (IsLess old taken) _ ds less.each paths) in
    let more = together_more (way_at old) ds visited free (rw same_length within) takes in
    let new = more.0 in (
      new,
      more.1,
      record {
        count = more.2.count ∙ same_length;
        each = each_weaker _ (Grows old new) (λ d h. grown old taken visited new tidy d changed h.0 (h.1, h.2)) ds (each_three _ (IsLess old taken) (IsMore (way_at old) visited new) ds (untidy ds tidy separate) less.each more.2.each);
        visited_words = λ q h. more.2.others q (separate q h);
        others = λ q h k. more.2.others q k ∙ (changed.others q h ∙ less.others q k);
      },
    )
