-- What becomes of words that are visited, and of the forwarding list.
use Rattle.std.proofs.Common.{◌≡◌, ◌≢◌, ◌⊎◌, ℕ, ◌<◌, ◌≤◌, Bool, true, false, not, ◌||◌, List, [], ◌∷◌, ◌++◌, map, length, set, refl, sym, ap, ◌∙◌, inl, inr, arith, length-set, get_or-set_same, get_or-set_other}
use Rattle.std.specs.Prelude.{◌==◌, nat_lt}
use Rattle.std.specs.Bool.{MatchBool}
use Rattle.std.proofs.lemmas.List.{append-nil, append_assoc}
use Rattle.std.proofs.lemmas.Bool.Decides.{nat_tests}
use Rattle.m3_tables.specs.Numbers.{has, is_once}
use Rattle.m3_tables.proofs.KeepingLemmas.{choice, and_parts, not_true}
use Rattle.m3_heap.specs.Cells.{Cell, heap_base}
use Rattle.m3_heap.specs.Moves.{Move, new_start, is_kept, forwarded, kept_starts}
use Rattle.m3_heap.specs.Reach.{IsBadPointer}
use Rattle.m3_roots.specs.ThreadWords.{word_at_place}
use Rattle.m3_heap.specs.Heap.{Heap}
use Rattle.m3_roots.specs.Visiting.{Visits, VisitsAll, StopsVisit, VisitsPart, KeepsHeap}
use Rattle.m3_roots.proofs.WordLemmas.{has_first, has_more}
use Rattle.m3_roots.proofs.MarkLemmas.{has_cases, gone}

-- ---- forwarding lists that grow

-- what was kept stays where it went
pub record Grew (old new : List Move) : Type 0 where
  pub more : List Move
  pub is : new ≡ old ++ more

pub grew_not : (moves : List Move) → Grew moves moves
grew_not moves = record { more = []; is = sym (append-nil moves) }

pub grew_twice : (a b c : List Move) → Grew a b → Grew b c → Grew a c
grew_twice a b c h k = record { more = h.more ++ k.more; is = k.is ∙ ap (λ (m : List Move). m ++ k.more) h.is ∙ append_assoc a h.more k.more }

start_stays : (moves more : List Move) (at : ℕ) → is_kept moves at ≡ true → new_start (moves ++ more) at ≡ new_start moves at
start_stays [] more at h = absurd cc
start_stays (move ∷ moves) more at h = elim (choice (move.from == at)) [
  | inl here ↦ rw here refl
  | inr other ↦ (let k = rw other at h in rw other (start_stays moves more at k))
]

kept_stays : (moves more : List Move) (at : ℕ) → is_kept moves at ≡ true → is_kept (moves ++ more) at ≡ true
kept_stays moves more at h = rw (start_stays moves more at h) h

-- a word is below the heaps, or its cell is kept
abbrev pub IsKnown : List Move → ℕ → Type 0
IsKnown moves word = (word < heap_base) ⊎ (is_kept moves word ≡ true)

low_word : (word : ℕ) → word < heap_base → nat_lt word heap_base ≡ true
low_word word lt = grind (arith, nat_tests)

high_word : (word : ℕ) → nat_lt word heap_base ≡ false → heap_base ≤ word
high_word word e = grind (arith, nat_tests)

pub known_stays : (old new : List Move) (word : ℕ) → Grew old new → IsKnown old word → IsKnown new word
known_stays old new word grew (inl low) = inl low
known_stays old new word grew (inr kept) = inr (rw grew.is (kept_stays old grew.more word kept))

pub forwarded_stays : (old new : List Move) (word : ℕ) → Grew old new → IsKnown old word → forwarded new word ≡ forwarded old word
forwarded_stays old new word grew (inl low) = rw (low_word word low) refl
forwarded_stays old new word grew (inr kept) = rw (grew.is, start_stays old grew.more word kept) refl

-- ---- one word visited

kept_last : (moves : List Move) (from to : ℕ) → is_kept (moves ++ record { from = from; to = to } ∷ []) from ≡ true
kept_last [] from to = let t : (from == from) ≡ true = grind (arith, nat_tests) in rw t refl
kept_last (move ∷ moves) from to = elim (choice (move.from == from)) [
  | inl here ↦ rw here refl
  | inr other ↦ rw other (kept_last moves from to)
]

pub visit_grew : (cells : List Cell) (word : ℕ) (old : List Move) (to : ℕ) (new : List Move) → Visits cells word old to new → Grew old new
visit_grew cells word old to new h = elim (choice (nat_lt word heap_base || is_kept old word)) [
  | inl there ↦ record { more = []; is = h.kept ∙ rw there (sym (append-nil old)) }
  | inr new_one ↦ record { more = record { from = word; to = to } ∷ []; is = h.kept ∙ rw new_one refl }
]

or_cases : (a b : Bool) → (a || b) ≡ true → (a ≡ true) ⊎ (b ≡ true)
or_cases true b e = inl refl
or_cases false b e = inr e

pub visit_known : (cells : List Cell) (word : ℕ) (old : List Move) (to : ℕ) (new : List Move) → Visits cells word old to new → IsKnown new word
visit_known cells word old to new h = elim (choice (nat_lt word heap_base || is_kept old word)) [
  | inl there ↦ (elim (or_cases (nat_lt word heap_base) (is_kept old word) there) [
    | inl low ↦ inl (let l = low in grind (arith, nat_tests))
    | inr kept ↦ (let same : new ≡ old = h.kept ∙ rw there refl in inr (rw same kept))
  ])
  | inr new_one ↦ (let is : new ≡ old ++ record { from = word; to = to } ∷ [] = h.kept ∙ rw new_one refl in inr (rw is (kept_last old word to)))
]

starts_append : (moves more : List Move) → kept_starts (moves ++ more) ≡ kept_starts moves ++ kept_starts more
starts_append [] more = refl
starts_append (move ∷ moves) more = ap (λ (xs : List ℕ). move.from ∷ xs) (starts_append moves more)

last_or : (xs : List ℕ) (x n : ℕ) → has (xs ++ x ∷ []) n ≡ true → (has xs n ≡ true) ⊎ (n ≡ x)
last_or [] x n h = elim (has_cases x n [] h) [ inl same ↦ inr (sym same) | inr none ↦ absurd cc ]
last_or (y ∷ xs) x n h = elim (has_cases y n (xs ++ x ∷ []) h) [
  | inl same ↦ (let e : y ≡ n = same in inl (rw e (has_first n xs)))
  | inr more ↦ (elim (last_or xs x n more) [ inl there ↦ inl (has_more y n xs there) | inr last ↦ inr last ])
]

-- what is kept was kept before, or is the word
pub visit_starts : (cells : List Cell) (word : ℕ) (old : List Move) (to : ℕ) (new : List Move) → Visits cells word old to new → (start : ℕ) → has (kept_starts new) start ≡ true → (has (kept_starts old) start ≡ true) ⊎ (start ≡ word)
visit_starts cells word old to new h start k = elim (choice (nat_lt word heap_base || is_kept old word)) [
  | inl there ↦ (let same : new ≡ old = h.kept ∙ rw there refl in inl (rw same at k))
  | inr new_one ↦ (
      let is : new ≡ old ++ record { from = word; to = to } ∷ [] = h.kept ∙ rw new_one refl in
      let starts : kept_starts new ≡ kept_starts old ++ word ∷ [] = ap kept_starts is ∙ starts_append old (record { from = word; to = to } ∷ []) in
      last_or (kept_starts old) word start (rw starts at k))
]

-- ---- several, each of whose places is there once

pub record AreForwarded (cells : List Cell) (places words : List ℕ) (old : List Move) (new_words : List ℕ) (new : List Move) : Type 0 where
  pub count : length new_words ≡ length words
  pub grew : Grew old new
  pub each : (q : ℕ) → has places q ≡ true → (word_at_place new_words q ≡ forwarded new (word_at_place words q)) × IsKnown new (word_at_place words q) × (IsBadPointer cells (word_at_place words q) → ⊥)
  pub others : (q : ℕ) → has places q ≡ false → word_at_place new_words q ≡ word_at_place words q
  pub starts : (start : ℕ) → has (kept_starts new) start ≡ true → (has (kept_starts old) start ≡ true) ⊎ (has (map (word_at_place words) places) start ≡ true)

abbrev pub AllBefore : ℕ → List ℕ → Type 0
AllBefore end places = (q : ℕ) → has places q ≡ true → q < end

map_unset : (words : List ℕ) (p v : ℕ) (places : List ℕ) → has places p ≡ false → map (word_at_place (set words p v)) places ≡ map (word_at_place words) places
map_unset words p v [] h = refl
map_unset words p v (q ∷ qs) h =
    let away = gone q p qs h in
    let here : word_at_place (set words p v) q ≡ word_at_place words q = get_or-set_other words p q v 0 away.0 in
    let rest = map_unset words p v qs away.1 in
    cc

pub visits_forward : (cells : List Cell) (places words : List ℕ) (old : List Move) (new_words : List ℕ) (new : List Move) → is_once places ≡ true → AllBefore (length words) places → VisitsAll cells places words old new_words new → AreForwarded cells places words old new_words new
visits_forward cells [] words old new_words new once within h =
    let e = h.0 in
    let f = h.1 in
    record {
      count = ap length e;
      grew = rw f (grew_not old);
      each = λ q k. absurd cc;
      others = λ q k. ap (λ (ws : List ℕ). word_at_place ws q) e;
      starts = λ start k. inl (rw f at k);
    }
visits_forward cells (p ∷ ps) words old new_words new once within h =
    let to = h.0 in
    let next = h.1 in
    let visit = h.2 in
    let parts = and_parts (not (has ps p)) (is_once ps) once in
    let absent : has ps p ≡ false = not_true _ parts.0 in
    let middle = set words p to in
    let len : length middle ≡ length words = length-set words p to in
    let rest = visits_forward cells ps middle next new_words new parts.1 (λ q k. rw len (within q (has_more p q ps k))) h.3 in
    let known = visit_known cells (word_at_place words p) old to next visit in
    let here : word_at_place new_words p ≡ forwarded new (word_at_place words p) =
    rest.others p absent ∙ get_or-set_same words p to 0 (within p (has_first p ps)) ∙ visit.goes ∙ sym (forwarded_stays next new (word_at_place words p) rest.grew known) in
    let same : (q : ℕ) → p ≢ q → word_at_place middle q ≡ word_at_place words q = λ q ne. get_or-set_other words p q to 0 (λ e. ne (sym e)) in
    record {
      count = rest.count ∙ len;
      grew = grew_twice old next new (visit_grew cells (word_at_place words p) old to next visit) rest.grew;
      each = λ q k. elim (choice (p == q)) [
        | inl here_it_is ↦ (let e : p ≡ q = grind (arith, nat_tests) in rw (← e) (here, known_stays next new (word_at_place words p) rest.grew known, visit.good))
        | inr other ↦ (
            let ne : p ≢ q = grind (arith, nat_tests) in
            let more = rest.each q (rw other at k) in
            let s = same q ne in
            rw s at more)
      ];
      others = λ q k. (let away = gone p q ps k in rest.others q away.1 ∙ same q away.0);
      starts = λ start k. elim (rest.starts start k) [
        | inl before ↦ (elim (visit_starts cells (word_at_place words p) old to next visit start before) [
          | inl first ↦ inl first
          | inr new_one ↦ inr (rw new_one (has_first (word_at_place words p) (map (word_at_place words) ps)))
        ])
        | inr later ↦ inr (has_more (word_at_place words p) start (map (word_at_place words) ps) (rw (map_unset words p to ps absent) at later))
      ];
    }

-- where the visit stops, a word was a bad pointer from the first
pub stops_bad : (cells : List Cell) (places words : List ℕ) (old : List Move) → is_once places ≡ true → StopsVisit cells places words old → (q : ℕ) × (has places q ≡ true) × IsBadPointer cells (word_at_place words q)
stops_bad cells [] words old once h = elim h [ ]
stops_bad cells (p ∷ ps) words old once (inl bad) = (p, has_first p ps, bad)
stops_bad cells (p ∷ ps) words old once (inr later) =
    let parts = and_parts (not (has ps p)) (is_once ps) once in
    let absent : has ps p ≡ false = not_true _ parts.0 in
    let found = stops_bad cells ps (set words p later.0) later.1 parts.1 later.3 in
    let q = found.0 in
    let ne : q ≢ p = λ e. (let t : has ps p ≡ true = rw (← e) found.1 in cc) in
    let same : word_at_place (set words p later.0) q ≡ word_at_place words q = get_or-set_other words p q later.0 0 ne in
    (q, has_more p q ps found.1, rw same at found.2)

-- ---- one list of places after another

pub visits_append : (cells : List Cell) (ps qs words : List ℕ) (a : List Move) (middle : List ℕ) (b : List Move) (end : List ℕ) (c : List Move) → VisitsAll cells ps words a middle b → VisitsAll cells qs middle b end c → VisitsAll cells (ps ++ qs) words a end c
visits_append cells [] qs words a middle b end c h k = let e = h.0 in let f = h.1 in rw (← e, ← f) k
visits_append cells (p ∷ ps) qs words a middle b end c h k = (h.0, h.1, h.2, visits_append cells ps qs (set words p h.0) h.1 middle b end c h.3 k)

pub stops_first : (cells : List Cell) (ps qs words : List ℕ) (a : List Move) → StopsVisit cells ps words a → StopsVisit cells (ps ++ qs) words a
stops_first cells [] qs words a h = elim h [ ]
stops_first cells (p ∷ ps) qs words a (inl bad) = inl bad
stops_first cells (p ∷ ps) qs words a (inr later) = inr (later.0, later.1, later.2, stops_first cells ps qs (set words p later.0) later.1 later.3)

pub stops_second : (cells : List Cell) (ps qs words : List ℕ) (a : List Move) (middle : List ℕ) (b : List Move) → VisitsAll cells ps words a middle b → StopsVisit cells qs middle b → StopsVisit cells (ps ++ qs) words a
stops_second cells [] qs words a middle b h k = let e = h.0 in let f = h.1 in rw (← e, ← f) k
stops_second cells (p ∷ ps) qs words a middle b h k = inr (h.0, h.1, h.2, stops_second cells ps qs (set words p h.0) h.1 middle b h.3 k)

-- ---- a part of the places after another

pub keeps_twice : (a b c : Heap) → KeepsHeap a b → KeepsHeap b c → KeepsHeap a c
keeps_twice a b c h k = cc

pub part_none : (cells : List Cell) (places words : List ℕ) (moves : List Move) → VisitsPart cells places words moves places words moves
part_none cells places words moves = record { visits = λ end last h. h; stops = λ h. h }

-- some more places were visited
pub part_more : (first mid new : Heap) (places words ps rest w v : List ℕ) → KeepsHeap first mid → VisitsPart first.cells places words first.moves (ps ++ rest) w mid.moves → KeepsHeap mid new → VisitsAll mid.cells ps w mid.moves v new.moves
    → VisitsPart first.cells places words first.moves rest v new.moves
part_more first mid new places words ps rest w v keeps part more visited =
    let same : mid.cells ≡ first.cells = cc in
    let here = rw same at visited in
    record {
      visits = λ end last h. part.visits end last (visits_append first.cells ps rest w mid.moves v new.moves end last here h);
      stops = λ h. part.stops (stops_second first.cells ps rest w mid.moves v new.moves here h);
    }

-- the next ones stop the visit
pub part_stops : (first mid : Heap) (places words ps rest w : List ℕ) → KeepsHeap first mid → VisitsPart first.cells places words first.moves (ps ++ rest) w mid.moves → StopsVisit mid.cells ps w mid.moves → StopsVisit first.cells places words first.moves
part_stops first mid places words ps rest w keeps part stops =
    let same : mid.cells ≡ first.cells = cc in
    part.stops (stops_first first.cells ps rest w mid.moves (rw same at stops))

-- none is left
pub part_all : (cells : List Cell) (places words : List ℕ) (moves : List Move) (w : List ℕ) (m : List Move) → VisitsPart cells places words moves [] w m → VisitsAll cells places words moves w m
part_all cells places words moves w m part = part.visits w m (refl, refl)

-- two lists of places are visited one after the other
pub visit_then : (b : Bool) (first mid : Heap) (ps qs words w v : List ℕ) (last : List Move) → KeepsHeap first mid → VisitsAll first.cells ps words first.moves w mid.moves → MatchBool b (VisitsAll mid.cells qs w mid.moves v last) (StopsVisit mid.cells qs w mid.moves)
    → MatchBool b (VisitsAll first.cells (ps ++ qs) words first.moves v last) (StopsVisit first.cells (ps ++ qs) words first.moves)
visit_then true first mid ps qs words w v last keeps visited more =
    let same : mid.cells ≡ first.cells = cc in
    visits_append first.cells ps qs words first.moves w mid.moves v last visited (rw same at more)
visit_then false first mid ps qs words w v last keeps visited stops =
    let same : mid.cells ≡ first.cells = cc in
    stops_second first.cells ps qs words first.moves w mid.moves visited (rw same at stops)
