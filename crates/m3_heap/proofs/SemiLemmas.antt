-- A heap of two halves between its calls.
use Rattle.std.proofs.Common.{◌≡◌, ℕ, ◌+◌, ◌-◌, ◌/◌, min, ◌<◌, ◌≤◌, ◌^◌, zero, suc, Bool, true, false, cond, eqb, ltb, leb, List, [], ◌∷◌, ◌++◌, length, set, replicate, Option, Some, None, is_some, refl, sym, ap, subst, ◌∙◌, arith, inl, inr, ⊎_elim, length-set}
use Rattle.std.specs.List.{AllByRecursion}
use Rattle.std.specs.Prelude.{◌||◌, not, IfSome}
use Rattle.std.specs.Option.{IfNone}
use Rattle.std.proofs.lemmas.Bool.{cases_Bool, eq-eqb, ne_eqb, cond-true, cond-false, false≢true, and_parts, and_from, leb-true, le-leb, lt-leb, or_parts, ltb-false}
use Rattle.std.proofs.lemmas.List.{length-replicate}
use Rattle.m3_heap.specs.Cells.{Cell, heap_base, header, header_of, words_in, covers, cell_from, cell_word_at, is_start, is_writable, words_from, with_word, layout, total_words, new_cell, IsHeaded}
use Rattle.m3_heap.specs.Heap.{Heap, HasOtherWords, IsSoundHeap, KeepsLaws, first_base, second_base, nursery_base, lies_in, next_start, Allots}
use Rattle.m3_heap.specs.Moves.{Move, new_start, is_kept, forwarded, with_kept, kept_words}
use Rattle.m3_heap.specs.CollectorSpace.{Space, AreLaid}
use Rattle.m3_heap.specs.CollectorTracing.{moves_from, origin, marked, words_kept, IsShort, Traces, old_cells, copies, moves, IsTracing, Keeps}
use Rattle.m3_heap.specs.CollectorScanning.{ArePlain}
use Rattle.m3_heap.specs.CollectorHalves.{semi_of, IsSemi, cells_seen, semi_heap, copied_moves, AreAtRest, AreMoving, IsAsOpen}
use Rattle.m3_heap.specs.declared.halves.Halves.TheInside.{Inside}
use Rattle.m3_heap.proofs.TracingLemmas.{all_append, none_or_some, new_start-lacks, new_start-one, total-placed, total-append, moves_from-append, cells-told, copies-told, tracing-told}
use Rattle.m3_heap.proofs.SpaceLemmas.{laid-rising}
use Rattle.m3_heap.proofs.CopyLemmas.{forwarded-kept}
use Rattle.m3_heap.proofs.FinalLemmas.{sound-cells, laid-apart, words-moved}

pub bases-high : (semi : Inside) → IsSemi semi → (heap_base ≤ semi.pair.here.base) × (heap_base ≤ semi.pair.there.base) × (semi.pair.here.base + semi.pair.here.size ≤ 9223372036854775808) × (semi.pair.there.base + semi.pair.there.size ≤ 9223372036854775808)
bases-high semi h = ⊎_elim
    (λ (p : (semi.pair.here.base ≡ first_base) × (semi.pair.there.base ≡ second_base)). (omega (arith, p.0), omega (arith, p.1), omega (arith, p.0, h.small), omega (arith, p.1, h.small, h.same_size)))
    (λ (p : (semi.pair.here.base ≡ second_base) × (semi.pair.there.base ≡ first_base)). (omega (arith, p.0), omega (arith, p.1), omega (arith, p.0, h.small), omega (arith, p.1, h.small, h.same_size)))
    h.bases

-- ---- the laws

pub half-in-use : (semi : Inside) → IsSemi semi → (eqb semi.pair.here.base first_base || eqb semi.pair.here.base second_base) ≡ true
half-in-use semi h = ⊎_elim
    (λ (p : (semi.pair.here.base ≡ first_base) × (semi.pair.there.base ≡ second_base)). ap (λ n. eqb n first_base || eqb n second_base) p.0)
    (λ (p : (semi.pair.here.base ≡ second_base) × (semi.pair.there.base ≡ first_base)). ap (λ n. eqb n first_base || eqb n second_base) p.0)
    h.bases

or-left : (x y : Bool) → x ≡ true → (x || y) ≡ true
or-left true y e = refl
or-left false y e = cc

placed-one : (base words : ℕ) (cell : ℕ × ℕ) → base ≤ cell.0 → cell.0 + cell.1 ≤ base + words → (lies_in base words cell || lies_in nursery_base 0 cell) ≡ true
placed-one base words cell low high =
    or-left (lies_in base words cell) (lies_in nursery_base 0 cell)
    (and_from (leb base cell.0) (leb (cell.0 + cell.1) (base + words)) (le-leb base cell.0 low) (le-leb (cell.0 + cell.1) (base + words) high))

laid-placed : (base words a : ℕ) (cs : List Cell) → AreLaid a cs → base ≤ a → a + total_words cs ≤ base + words → AllByRecursion (λ (cell : ℕ × ℕ). (lies_in base words cell || lies_in nursery_base 0 cell) ≡ true) (layout cs)
laid-placed base words a [] h low high = tt
laid-placed base words a (c ∷ cs) h low high = (
  placed-one base words (c.start, length c.words) (omega (arith, h.0)) (omega (arith, h.0)),
  laid-placed base words (a + length c.words) cs h.2 (omega arith) (omega arith),
)

laws-of : (here there : Space) (b : Bool) (copied asked fulls : ℕ) → AreLaid here.base (cells_seen b here there) → total_words (cells_seen b here there) ≤ here.size → (eqb here.base first_base || eqb here.base second_base) ≡ true → KeepsLaws (semi_heap b here there copied asked fulls)
laws-of here there b copied asked fulls laid room half = record {
  half = half;
  young = omega arith;
  some = omega arith;
  room = room;
  placed = laid-placed here.base (total_words (cells_seen b here there) - 0) here.base (cells_seen b here there) laid (omega arith) (omega arith);
  apart = laid-apart here.base (cells_seen b here there) laid;
  free = refl;
  tenured = refl;
  watched = λ e. refl;
  minors = λ e. refl;
}

sound-of : (here there : Space) (b : Bool) (copied asked fulls : ℕ) → AllByRecursion IsHeaded (cells_seen b here there) → AreLaid here.base (cells_seen b here there) → total_words (cells_seen b here there) ≤ here.size → heap_base ≤ here.base → here.base + here.size ≤ 9223372036854775808 → here.size ≤ 67108864
    → (eqb here.base first_base || eqb here.base second_base) ≡ true → IsSoundHeap (semi_heap b here there copied asked fulls)
sound-of here there b copied asked fulls headed laid room low high small half = record {
  cells = sound-cells here.base (cells_seen b here there) headed laid low (omega arith);
  free = omega arith;
  laws = laws-of here there b copied asked fulls laid room half;
}

sound-as-open : (here there : Space) (b : Bool) (copied asked fulls : ℕ) → IsAsOpen b here there copied → heap_base ≤ here.base → here.base + here.size ≤ 9223372036854775808 → here.size ≤ 67108864 → (eqb here.base first_base || eqb here.base second_base) ≡ true → IsSoundHeap (semi_heap b here there copied asked fulls)
sound-as-open here there true copied asked fulls h low high small half = sound-of here there true copied asked fulls h.0.tracing.headed h.1 h.0.room low high small half
sound-as-open here there false copied asked fulls h low high small half = sound-of here there false copied asked fulls h.0.headed h.0.laid h.0.room low high small half

-- whether a collection is open or not
pub semi-sound : (semi : Inside) → IsSemi semi → IsSoundHeap (semi_of semi)
semi-sound semi h =
    let bases = bases-high semi h in
    sound-as-open semi.pair.here semi.pair.there semi.is_open semi.copied semi.asked semi.fulls h.as_open bases.0 bases.2 h.small (half-in-use semi h)

-- it has no nursery
pub semi-halves : (semi : Inside) → (semi_of semi).nursery ≡ 0
semi-halves semi = refl

pub is-closed : (semi : Inside) (v : Heap) → semi_of semi ≡ v → v.is_open ≡ false → semi.is_open ≡ false
is-closed semi v is closed = ap (λ (h : Heap). h.is_open) is ∙ closed

pub is-opened : (semi : Inside) (v : Heap) → semi_of semi ≡ v → v.is_open ≡ true → semi.is_open ≡ true
is-opened semi v is opened = ap (λ (h : Heap). h.is_open) is ∙ opened

resting : (semi : Inside) → IsSemi semi → semi.is_open ≡ false → AreAtRest semi.pair.here × (semi.copied ≤ total_words semi.pair.here.cells)
resting semi h closed = let Q : Bool → Type 0 = λ b. IsAsOpen b semi.pair.here semi.pair.there semi.copied in subst Q closed h.as_open

pub at-rest : (semi : Inside) → IsSemi semi → semi.is_open ≡ false → AreAtRest semi.pair.here
at-rest semi h closed = (resting semi h closed).0

pub few-copied : (semi : Inside) → IsSemi semi → semi.is_open ≡ false → semi.copied ≤ total_words semi.pair.here.cells
few-copied semi h closed = (resting semi h closed).1

moving : (semi : Inside) → IsSemi semi → semi.is_open ≡ true → AreMoving semi.pair.here semi.pair.there × AreLaid semi.pair.here.base (old_cells semi.pair.here semi.pair.there)
moving semi h opened = let Q : Bool → Type 0 = λ b. IsAsOpen b semi.pair.here semi.pair.there semi.copied in subst Q opened h.as_open

pub in-motion : (semi : Inside) → IsSemi semi → semi.is_open ≡ true → AreMoving semi.pair.here semi.pair.there
in-motion semi h opened = (moving semi h opened).0

-- ---- a new cell

laid-push : (a : ℕ) (cs : List Cell) (ws : List ℕ) → AreLaid a cs → 1 ≤ length ws → AreLaid a (cs ++ record { start = a + total_words cs; words = ws } ∷ [])
laid-push a [] ws h some = (omega arith, some, tt)
laid-push a (c ∷ cs) ws h some =
    let P : ℕ → Type 0 = λ n. AreLaid (a + length c.words) (cs ++ record { start = n; words = ws } ∷ []) in
    (h.0, h.1, subst P (omega arith) (laid-push (a + length c.words) cs ws h.2 some))

pub length-new : (header count : ℕ) → 1 ≤ count → length (header ∷ replicate (count - 1) 0) ≡ count
length-new header count some = let zeros : length {A = ℕ} (replicate (count - 1) 0) ≡ count - 1 = length-replicate (count - 1) 0 in omega arith

pub rest-push : (here here' : Space) (kind count : ℕ) → AreAtRest here → kind < 2 ^ 32 → 1 ≤ count → total_words here.cells + count ≤ here.size → here'.base ≡ here.base → here'.size ≡ here.size → here'.cells ≡ here.cells ++ record { start = here.base + total_words here.cells; words = header_of kind count ∷ replicate (count - 1) 0 } ∷ [] → AreAtRest here'
rest-push here here' kind count h small some room base size cells =
    let cell : Cell = record { start = here.base + total_words here.cells; words = header_of kind count ∷ replicate (count - 1) 0 } in
    let long = length-new (header_of kind count) count some in
    let P : List Cell → Type 0 = λ l. AllByRecursion IsHeaded l in
    let Q : List Cell → Type 0 = λ l. AreLaid here.base l in
    let R : ℕ → Type 0 = λ n. AreLaid n here'.cells in
    record {
      headed = subst P (sym cells) (all_append IsHeaded here.cells (cell ∷ []) h.headed ((omega (arith, small, long), omega arith), tt));
      laid = subst R (sym base) (subst Q (sym cells) (laid-push here.base here.cells cell.words h.laid (omega arith)));
      room = omega (arith, ap total_words cells, total-append here.cells (cell ∷ []), size);
    }

-- the forwarding list of the last collection stays
copied-push : (left : List Cell) (at words : ℕ) (cs : List Cell) (c : Cell) → words ≤ total_words cs → 1 ≤ length c.words → copied_moves left at words (layout (cs ++ c ∷ [])) ≡ copied_moves left at words (layout cs)
copied-push left at words [] c few some = cond-false (leb (length c.words) words) _ _ (lt-leb (length c.words) words (omega arith))
copied-push left at words (d ∷ cs) c few some = ⊎_elim
    (λ (hit : leb (length d.words) words ≡ true).
    let fits = leb-true (length d.words) words hit in
    cond-true (leb (length d.words) words) _ _ hit
    ∙ ap (λ ms. record { from = origin left d.start; to = at } ∷ ms) (copied-push left (at + length d.words) (words - length d.words) cs c (omega (arith, few, fits)) some)
    ∙ sym (cond-true (leb (length d.words) words) _ _ hit))
    (λ (miss : leb (length d.words) words ≡ false). cond-false (leb (length d.words) words) _ _ miss ∙ sym (cond-false (leb (length d.words) words) _ _ miss))
    (cases_Bool (leb (length d.words) words))

-- a heap of two halves between collections, by what a request changes
closed-heap : List Cell → List Move → ℕ → ℕ → ℕ → ℕ → ℕ → ℕ → Heap
closed-heap cells moves size base young free asked fulls = record {
  cells = cells;
  is_open = false;
  moves = moves;
  tenured = [];
  watched = 0;
  asked = asked;
  size = size;
  base = base;
  nursery = 0;
  young = young;
  free = free;
  minors = 0;
  fulls = fulls;
}

same-heap : (cells cells' : List Cell) (moves moves' : List Move) (size size' base base' young young' free free' asked fulls : ℕ) → cells ≡ cells' → moves ≡ moves' → size ≡ size' → base ≡ base' → young ≡ young' → free ≡ free'
    → closed-heap cells moves size base young free asked fulls ≡ closed-heap cells' moves' size' base' young' free' asked fulls
same-heap cells cells' moves moves' size size' base base' young young' free free' asked fulls c m s b y f =
    ap (λ x. closed-heap x moves size base young free asked fulls) c ∙ ap (λ x. closed-heap cells' x size base young free asked fulls) m
    ∙ ap (λ x. closed-heap cells' moves' x base young free asked fulls) s ∙ ap (λ x. closed-heap cells' moves' size' x young free asked fulls) b
    ∙ ap (λ x. closed-heap cells' moves' size' base' x free asked fulls) y ∙ ap (λ x. closed-heap cells' moves' size' base' young' x asked fulls) f

free-by : ℕ → ℕ → ℕ → ℕ
free-by size young total = cond (eqb young 0) (size - total) (min (0 - young) (size - total))

-- a cell is made behind the last one
pub allotted : (here here' there : Space) (b : Bool) (copied asked fulls kind words start : ℕ) → b ≡ false → copied ≤ total_words here.cells → 1 ≤ words → total_words here.cells + words ≤ here.size → start ≡ here.base + total_words here.cells
    → here'.base ≡ here.base → here'.size ≡ here.size → here'.cells ≡ here.cells ++ new_cell (here.base + total_words here.cells) kind words ∷ []
    → Allots (semi_heap b here there copied asked fulls) kind words (Some start) (semi_heap b here' there copied asked fulls)
unfolding free-by closed-heap
allotted here here' there true copied asked fulls kind words start closed few some room at base size cells = absurd (cc)
allotted here here' there false copied asked fulls kind words start closed few some room at base size cells =
    let old = semi_heap false here there copied asked fulls in
    let none = lt-leb words 0 (omega arith) in
    let to : next_start old words ≡ here.base + total_words here.cells = cond-false (leb words 0) (nursery_base + 0) (here.base + (total_words here.cells - 0)) none ∙ (omega arith) in
    let cell = new_cell (next_start old words) kind words in
    let long : length cell.words ≡ words = length-new (header_of kind words) words some in
    let same : here'.cells ≡ here.cells ++ cell ∷ [] = cells ∙ ap (λ n. here.cells ++ new_cell n kind words ∷ []) (sym to) in
    let young : 0 ≡ cond (leb words 0) (0 + words) 0 = sym (cond-false (leb words 0) (0 + words) 0 none) in
    let list : copied_moves there.cells here'.base copied (layout here'.cells) ≡ copied_moves there.cells here.base copied (layout here.cells) =
    ap (λ n. copied_moves there.cells n copied (layout here'.cells)) base ∙ ap (λ cs. copied_moves there.cells here.base copied (layout cs)) same
    ∙ copied-push there.cells here.base copied here.cells cell few (omega (arith, long, some)) in
    let free : here'.size - total_words here'.cells ≡ free-by here.size (cond (leb words 0) (0 + words) 0) (total_words (here.cells ++ cell ∷ [])) =
    ap (λ n. n - total_words here'.cells) size ∙ ap (λ cs. here.size - total_words cs) same ∙ ap (λ n. free-by here.size n (total_words (here.cells ++ cell ∷ []))) young in (
      omega (arith, room),
      at ∙ sym to,
      same-heap here'.cells (here.cells ++ cell ∷ []) _ _ here'.size here.size here'.base here.base 0 (cond (leb words 0) (0 + words) 0) _ _ asked fulls same list size base young free,
    )

-- a request is refused
pub refused : (here there : Space) (b : Bool) (copied asked fulls kind words : ℕ) → here.size - total_words (cells_seen b here there) < words → Allots (semi_heap b here there copied asked fulls) kind words None (semi_heap b here there copied words fulls)
refused here there b copied asked fulls kind words full = (full, refl)

-- ---- a word that is set

total-set : (cs : List Cell) (at v : ℕ) → total_words (with_word cs at v) ≡ total_words cs
total-set [] at v = refl
total-set (c ∷ cs) at v =
    let rest = total-set cs at v in
    let put : Cell = record { start = c.start; words = set c.words (at - c.start) v } in
    ⊎_elim
    (λ (hit : covers c at ≡ true). ap (λ (d : Cell). length d.words + total_words (with_word cs at v)) (cond-true (covers c at) put c hit) ∙ ap (λ n. n + total_words (with_word cs at v)) (length-set c.words (at - c.start) v) ∙ ap (λ n. length c.words + n) rest)
    (λ (miss : covers c at ≡ false). ap (λ (d : Cell). length d.words + total_words (with_word cs at v)) (cond-false (covers c at) put c miss) ∙ ap (λ n. length c.words + n) rest)
    (cases_Bool (covers c at))

header-kept : (ws : List ℕ) (i v : ℕ) → (i ≡ 0 → ⊥) → header (set ws i v) ≡ header ws
header-kept [] i v h = refl
header-kept (w ∷ ws) zero v h = absurd (h refl)
header-kept (w ∷ ws) (suc i) v h = refl

rest-set-cells : (a : ℕ) (cs : List Cell) (at v : ℕ) → is_start cs at ≡ false → AllByRecursion IsHeaded cs → AreLaid a cs → AllByRecursion IsHeaded (with_word cs at v) × AreLaid a (with_word cs at v)
rest-set-cells a [] at v off h l = (tt, tt)
rest-set-cells a (c ∷ cs) at v off h l =
    let put : Cell = record { start = c.start; words = set c.words (at - c.start) v } in
    let long = length-set c.words (at - c.start) v in
    let differs : c.start ≡ at → ⊥ = λ (same : c.start ≡ at). false≢true (sym off ∙ ap is_some (cond-true (eqb c.start at) (Some c) (cell_from cs at) (eq-eqb c.start at same))) in
    let later = ap is_some (sym (cond-false (eqb c.start at) (Some c) (cell_from cs at) (ne_eqb c.start at differs))) ∙ off in
    let rest = rest-set-cells (a + length c.words) cs at v later h.1 l.2 in
    let P : Cell → Type 0 = λ d. AllByRecursion IsHeaded (d ∷ with_word cs at v) × AreLaid a (d ∷ with_word cs at v) in
    ⊎_elim
    (λ (hit : covers c at ≡ true).
    let low = leb-true c.start at (and_parts (leb c.start at) (ltb at (c.start + length c.words)) hit).0 in
    let head = header-kept c.words (at - c.start) v (λ (none : at - c.start ≡ 0). differs (omega arith)) in
    let R : ℕ → Type 0 = λ n. AreLaid (a + n) (with_word cs at v) in
    subst P (sym (cond-true (covers c at) put c hit))
    (((ap words_in head ∙ h.0.0 ∙ sym long, omega (arith, h.0.1)), rest.0), (l.0, omega (arith, l.1), subst R (sym long) rest.1)))
    (λ (miss : covers c at ≡ false). subst P (sym (cond-false (covers c at) put c miss)) ((h.0, rest.0), (l.0, l.1, rest.1)))
    (cases_Bool (covers c at))

not-true : (b : Bool) → not b ≡ true → b ≡ false
not-true true e = cc
not-true false e = refl

rest-set : (here here' : Space) (at v : ℕ) → AreAtRest here → is_start here.cells at ≡ false → here'.base ≡ here.base → here'.size ≡ here.size → here'.cells ≡ with_word here.cells at v → AreAtRest here' × (total_words here'.cells ≡ total_words here.cells)
rest-set here here' at v h off base size cells =
    let both = rest-set-cells here.base here.cells at v off h.headed h.laid in
    let total = ap total_words cells ∙ total-set here.cells at v in
    let P : List Cell → Type 0 = λ l. AllByRecursion IsHeaded l in
    let Q : List Cell → Type 0 = λ l. AreLaid here.base l in
    let R : ℕ → Type 0 = λ n. AreLaid n here'.cells in (
      record {
        headed = subst P (sym cells) both.0;
        laid = subst R (sym base) (subst Q (sym cells) both.1);
        room = omega (arith, h.room);
      },
      total,
    )

-- a word that is set where it may be
pub rest-replace : (here here' : Space) (at v : ℕ) (b : Bool) → AreAtRest here → b ≡ is_writable here.cells at → here'.base ≡ here.base → here'.size ≡ here.size → here'.cells ≡ cond b (with_word here.cells at v) here.cells → AreAtRest here' × (total_words here'.cells ≡ total_words here.cells)
rest-replace here here' at v true h can base size cells =
    rest-set here here' at v h (not-true (is_start here.cells at) (and_parts (is_some (cell_word_at here.cells at)) (not (is_start here.cells at)) (sym can)).1) base size cells
rest-replace here here' at v false h can base size cells =
    let P : List Cell → Type 0 = λ l. AllByRecursion IsHeaded l in
    let Q : List Cell → Type 0 = λ l. AreLaid here.base l in
    let R : ℕ → Type 0 = λ n. AreLaid n here'.cells in
    let total = ap total_words cells in (
      record {
        headed = subst P (sym cells) h.headed;
        laid = subst R (sym base) (subst Q (sym cells) h.laid);
        room = omega (arith, h.room);
      },
      total,
    )

-- nothing but the words of cells changes
pub words-only : (here here' there : Space) (b : Bool) (copied asked fulls : ℕ) → b ≡ false → here'.base ≡ here.base → here'.size ≡ here.size → layout here'.cells ≡ layout here.cells → total_words here'.cells ≡ total_words here.cells
    → HasOtherWords (semi_heap b here there copied asked fulls) (semi_heap b here' there copied asked fulls)
unfolding closed-heap
words-only here here' there true copied asked fulls closed base size lay total = absurd (cc)
words-only here here' there false copied asked fulls closed base size lay total =
    let cells = here'.cells in
    let list : copied_moves there.cells here'.base copied (layout cells) ≡ copied_moves there.cells here.base copied (layout here.cells) =
    ap (λ n. copied_moves there.cells n copied (layout cells)) base ∙ ap (λ l. copied_moves there.cells here.base copied l) lay in
    let free : here'.size - total_words cells ≡ here.size - total_words here.cells = ap (λ n. n - total_words cells) size ∙ ap (λ n. here.size - n) total in
    record {
      same_layout = lay;
      rest = same-heap cells cells _ _ here'.size here.size here'.base here.base 0 0 _ _ asked fulls refl list size base refl free;
      watched = λ e. refl;
    }

-- ---- a collection begins

pub short-cells : (cs : List Cell) (n : ℕ) → AllByRecursion IsHeaded cs → total_words cs ≤ n → n ≤ 67108864 → AllByRecursion IsShort cs
short-cells [] n h room small = tt
short-cells (c ∷ cs) n h room small =
    let head : header c.words / 4294967296 ≡ length c.words = h.0.0 in
    ((omega arith, h.0.1), short-cells cs n h.1 (omega arith) small)

pub none-marked : (cs : List Cell) → marked [] cs ≡ cs
none-marked [] = refl
none-marked (c ∷ cs) = ap (λ l. c ∷ l) (none-marked cs)

pub none-kept : (cs : List Cell) → words_kept [] cs ≡ 0
none-kept [] = refl
none-kept (c ∷ cs) = let rest = none-kept cs in omega arith

pub begun : (here there : Space) → AreAtRest here → there.cells ≡ [] → there.size ≡ here.size → here.size ≤ 67108864 → heap_base ≤ here.base → heap_base ≤ there.base → there.base + there.size ≤ 9223372036854775808 → Traces here there here.cells []
begun here there h none size small low low' high = record {
  headed = h.headed;
  short = short-cells here.cells here.size h.headed h.room small;
  rising = laid-rising here.base here.cells h.laid;
  fits = omega (arith, h.room);
  left_base = low;
  kept_base = low';
  kept_ends = high;
  is_marked = sym (none-marked here.cells);
  is_placed = none;
  are_copies = tt;
  distinct = tt;
  counted = sym (none-kept here.cells);
}

pub begun-moving : (here there : Space) → AreAtRest here → Traces here there here.cells [] → AreMoving here there
begun-moving here there h t =
    let P : List Cell → Type 0 = λ l. ArePlain (old_cells here there) l in
    record {
      tracing = tracing-told here there here.cells [] t;
      plain = subst P (sym (copies-told here there here.cells [] t)) tt;
      room = omega (arith, h.room, ap total_words (cells-told here there here.cells [] t));
    }

pub opened : (here there : Space) (copied asked fulls : ℕ) → Traces here there here.cells [] → semi_heap true here there copied asked fulls ≡ record (semi_heap false here there copied asked fulls) { is_open = true; moves = [] }
opened here there copied asked fulls t =
    let cells = cells-told here there here.cells [] t in
    let none = copies-told here there here.cells [] t in
    ap (λ ms. record (semi_heap true here there copied asked fulls) { moves = ms }) (ap (λ l. moves_from there.base l) none)
    ∙ ap (λ cs. record (semi_heap false here there copied asked fulls) { is_open = true; moves = []; cells = cs; free = here.size - total_words cs }) cells

-- ---- a root is visited

pub with_kept-told : (left kept left' kept' : Space) (w to : ℕ) → Keeps left kept left' kept' w → to ≡ forwarded (moves left' kept') w → moves left' kept' ≡ with_kept (moves left kept) w to
with_kept-told left kept left' kept' w to keeps is =
    let ks = copies left kept in
    let ms = moves left kept in
    let k : Cell = record { start = w; words = words_from (old_cells left kept) w } in
    let test = ltb w heap_base || is_kept ms w in
    let move : Move = record { from = w; to = to } in
    ⊎_elim
    (λ (on : test ≡ true).
    ap (λ b. moves_from b (copies left' kept')) keeps.kept_base ∙ ap (λ l. moves_from kept.base l) (keeps.more_copies ∙ cond-true test ks (ks ++ k ∷ []) on)
    ∙ sym (cond-true test ms (ms ++ move ∷ []) on))
    (λ (off : test ≡ false).
    let parts = or_parts (ltb w heap_base) (is_kept ms w) off in
    let n = kept.base + total_words ks in
    let list : moves left' kept' ≡ ms ++ record { from = w; to = n } ∷ [] =
    ap (λ b. moves_from b (copies left' kept')) keeps.kept_base ∙ ap (λ l. moves_from kept.base l) (keeps.more_copies ∙ cond-false test ks (ks ++ k ∷ []) off) ∙ moves_from-append kept.base ks (k ∷ []) in
    let none : new_start ms w ≡ None = ⊎_elim
    (λ (none : new_start ms w ≡ None). none)
    (λ (some : (d : ℕ) × (new_start ms w ≡ Some d)). absurd (false≢true (sym parts.1 ∙ ap is_some some.1)))
    (none_or_some (new_start ms w)) in
    let found : new_start (moves left' kept') w ≡ Some n = ap (λ l. new_start l w) list ∙ new_start-lacks ms (record { from = w; to = n } ∷ []) w none ∙ new_start-one w n in
    let same : to ≡ n = is ∙ sym (forwarded-kept (moves left' kept') w n (ltb-false w heap_base parts.0) found) in
    list ∙ ap (λ t. ms ++ record { from = w; to = t } ∷ []) (sym same) ∙ sym (cond-false test ms (ms ++ move ∷ []) off))
    (cases_Bool test)

pub visited : (left kept left' kept' : Space) (w to copied asked fulls : ℕ) → Keeps left kept left' kept' w → to ≡ forwarded (moves left' kept') w → semi_heap true left' kept' copied asked fulls ≡ record (semi_heap true left kept copied asked fulls) { moves = with_kept (moves left kept) w to }
visited left kept left' kept' w to copied asked fulls keeps is =
    let list = with_kept-told left kept left' kept' w to keeps is in
    let ms = with_kept (moves left kept) w to in
    ap (λ ms. record (semi_heap true left' kept' copied asked fulls) { moves = ms }) list
    ∙ ap (λ n. record (semi_heap true left' kept' copied asked fulls) { moves = ms; base = n }) keeps.left_base
    ∙ ap (λ n. record (semi_heap true left' kept' copied asked fulls) { moves = ms; base = left.base; size = n; free = n - total_words (old_cells left' kept') }) keeps.left_size
    ∙ ap (λ cs. record (semi_heap true left kept copied asked fulls) { moves = ms; cells = cs; free = left.size - total_words cs }) keeps.same_cells

plain-push : (cs ks : List Cell) (w : ℕ) (b : Bool) → ArePlain cs ks → ArePlain cs (cond b ks (ks ++ record { start = w; words = words_from cs w } ∷ []))
plain-push cs ks w true h = h
plain-push cs ks w false h = all_append (λ (k : Cell). k.words ≡ words_from cs k.start) ks (record { start = w; words = words_from cs w } ∷ []) h (refl, tt)

pub visited-moving : (left kept left' kept' : Space) (w : ℕ) → AreMoving left kept → Keeps left kept left' kept' w → AreMoving left' kept'
visited-moving left kept left' kept' w h keeps =
    let cs = old_cells left kept in
    let P : List Cell → Type 0 = λ l. ArePlain cs l in
    let Q : List Cell → Type 0 = λ l. ArePlain l (copies left' kept') in
    record {
      tracing = keeps.tracing;
      plain = subst Q (sym keeps.same_cells) (subst P (sym keeps.more_copies) (plain-push cs (copies left kept) w (ltb w heap_base || is_kept (moves left kept) w) h.plain));
      room = omega (arith, h.room, keeps.left_size, ap total_words keeps.same_cells);
    }

-- the words of the kept cells are those of the copies
pub words-told : (left kept : Space) → IsTracing left kept → kept_words (old_cells left kept) (moves left kept) ≡ total_words kept.cells
words-told left kept h = words-moved (old_cells left kept) kept.base (copies left kept) h.are_copies ∙ sym (ap total_words h.is_placed ∙ total-placed kept.base (copies left kept))

-- what a visit leaves, whatever it answers
pub record IsVisited (left kept left' kept' : Space) : Type 0 where
  pub moving : AreMoving left' kept'
  pub same_cells : old_cells left' kept' ≡ old_cells left kept
  pub left_base : left'.base ≡ left.base
  pub kept_base : kept'.base ≡ kept.base
  pub left_size : left'.size ≡ left.size
  pub kept_size : kept'.size ≡ kept.size

pub after-visit : (left kept left' kept' : Space) (w : ℕ) (o : Option ℕ) → AreMoving left kept → IfSome o (λ _. Keeps left kept left' kept' w) → IfNone o (left' ≡ left) → IfNone o (kept' ≡ kept) → IsVisited left kept left' kept'
after-visit left kept left' kept' w None h some l k =
    let P : Space → Type 0 = λ s. IsVisited left kept s kept' in
    let Q : Space → Type 0 = λ s. IsVisited left kept left s in
    subst P (sym l) (subst Q (sym k) (record { moving = h; same_cells = refl; left_base = refl; kept_base = refl; left_size = refl; kept_size = refl }))
after-visit left kept left' kept' w (Some to) h keeps l k = record {
  moving = visited-moving left kept left' kept' w h keeps;
  same_cells = keeps.same_cells;
  left_base = keeps.left_base;
  kept_base = keeps.kept_base;
  left_size = keeps.left_size;
  kept_size = keeps.kept_size;
}

pub visited-semi : (semi : Inside) (left' kept' : Space) → IsSemi semi → semi.is_open ≡ true → IsVisited semi.pair.here semi.pair.there left' kept' → IsSemi (record { pair = record { here = left'; there = kept' }; is_open = semi.is_open; copied = semi.copied; asked = semi.asked; fulls = semi.fulls })
visited-semi semi left' kept' h opened after =
    let P : Bool → Type 0 = λ b. IsAsOpen b left' kept' semi.copied in
    let Q : List Cell → Type 0 = λ l. AreLaid semi.pair.here.base l in
    let R : ℕ → Type 0 = λ n. AreLaid n (old_cells left' kept') in
    record {
      bases = ⊎_elim
          (λ (p : (semi.pair.here.base ≡ first_base) × (semi.pair.there.base ≡ second_base)). inl (after.left_base ∙ p.0, after.kept_base ∙ p.1))
          (λ (p : (semi.pair.here.base ≡ second_base) × (semi.pair.there.base ≡ first_base)). inr (after.left_base ∙ p.0, after.kept_base ∙ p.1))
          h.bases;
      same_size = after.kept_size ∙ h.same_size ∙ sym after.left_size;
      small = omega (arith, after.left_size, h.small);
      as_open = subst P (sym opened) (after.moving, subst R (sym after.left_base) (subst Q (sym after.same_cells) (moving semi h opened).1));
    }

pub if-both : (K : Type 0) (V G : ℕ → Type 0) (o : Option ℕ) → IfSome o (λ _. K) → IfSome o V → ((to : ℕ) → K → V to → G to) → IfSome o G
if-both K V G None k v f = tt
if-both K V G (Some to) k v f = f to k v

-- and the cells that stood when it began are laid out
pub begun-laid : (here there : Space) → AreAtRest here → Traces here there here.cells [] → AreLaid here.base (old_cells here there)
begun-laid here there h t = let P : List Cell → Type 0 = λ l. AreLaid here.base l in subst P (sym (cells-told here there here.cells [] t)) h.laid
