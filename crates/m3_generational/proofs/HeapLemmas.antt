-- A heap of generations between its calls.
use Rattle.std.proofs.Common.{◌≡◌, ℕ, ◌+◌, ◌-◌, ◌*◌, ◌/◌, min, ◌<◌, ◌≤◌, ◌^◌, Bool, true, false, cond, eqb, ltb, leb, zero, suc, get_or, take, List, [], ◌∷◌, ◌++◌, length, Some, None, is_some, ◌⊎◌, refl, sym, ap, subst, ◌∙◌, arith, inl, inr, ⊎_elim, append_assoc, append-nil}
use Rattle.std.specs.List.{AllByRecursion}
use Rattle.std.specs.Prelude.{◌||◌, ◌&&◌, not, nat_lt, nat_le}
use Rattle.std.proofs.lemmas.Bool.{cases_Bool, cases_lt, false≢true, cond-true, cond-false, and_parts, and_from, or_left, or_right, le-leb, lt-leb, ltb-true, ne_eqb, eqb-true}
use Rattle.std.proofs.lemmas.List.{map-append}
use Rattle.m3_heap.specs.Cells.{Cell, heap_base, header_of, cell_word_at, is_start, is_writable, layout, total_words, new_cell, IsHeaded, IsInHeap, AreApart, AllApart, AreSound, with_word}
use Rattle.m3_heap.specs.CellWords.{layout_after}
use Rattle.m3_heap.specs.Heap.{Heap, HasOtherWords, IsSoundHeap, Allots, first_base, second_base, nursery_base, lies_in, is_placed, old_words, words_free, next_start, old_starts, unasked, settled, is_minor, with_cell, watched_after}
use Rattle.m3_heap.specs.CollectorSpace.{Space, AreLaid}
use Rattle.m3_heap.specs.CollectorHalves.{AreAtRest}
use Rattle.m3_heap.proofs.SpaceLemmas.{covers-later, word_at-outside}
use Rattle.m3_heap.proofs.SemiLemmas.{rest-push, rest-replace, length-new}
use Rattle.m3_heap.specs.Moves.{Move}
use Rattle.m3_heap.proofs.TracingLemmas.{all_append, total-append}
use Rattle.m3_heap.proofs.FinalLemmas.{sound-cells}
use Rattle.m3_generational.specs.Remembering.{Remembering, marked_count, watching, new_generations}
use Rattle.m3_heap.specs.CollectorTracing.{moves_from, copies_of}
use Rattle.m3_generational.specs.Inside.{cells_seen, moves_seen, plain_heap, heap_seen, seen, AreResting, IsAsOpen, IsGenerations}
use Rattle.m3_generational.specs.Collecting.{left_of, kept_of, ArePlaced}
use Rattle.m3_generational.specs.declared.spaces.Spaces.{Spaces}
use Rattle.m3_generational.specs.declared.generations.Generations.TheInside.{Inside}
use Rattle.m3_generational.specs.Collecting.{IsSplit}
use Rattle.m3_generational.proofs.PartLemmas.{word-first, word-second, low, high, writable-low, writable-high, set-first, set-second}

-- ---- open or not

pub is-closed : (g : Inside) (v : Remembering) → seen g ≡ v → v.heap.is_open ≡ false → g.is_open ≡ false
is-closed g v is closed = ap (λ (h : Remembering). h.heap.is_open) is ∙ closed

pub resting : (g : Inside) → IsGenerations g → g.is_open ≡ false → AreResting g.spaces
resting g h closed = let Q : Bool → Type 0 = λ b. IsAsOpen b g.spaces in subst Q closed h.as_open

-- ---- where the parts lie

pub record AreBounded (s : Spaces) : Type 0 where
  pub low : heap_base ≤ s.here.base
  pub here : s.here.base + s.here.size ≤ nursery_base
  pub there_low : heap_base ≤ s.there.base
  pub there : s.there.base + s.there.size ≤ nursery_base
  pub half : (eqb s.here.base first_base || eqb s.here.base second_base) ≡ true
  pub quarter : 4 * s.nursery.size ≤ s.here.size
  pub some : 1 ≤ s.nursery.size
  pub small : s.here.size ≤ 67108864

pub bounded : (s : Spaces) → ArePlaced s → AreBounded s
bounded s p = ⊎_elim
    (λ (q : (s.here.base ≡ first_base) × (s.there.base ≡ second_base)). record {
      low = omega (arith, q.0);
      here = omega (arith, q.0, p.most);
      there_low = omega (arith, q.1);
      there = omega (arith, q.1, p.most, p.same_size);
      half = ap (λ n. eqb n first_base || eqb n second_base) q.0;
      quarter = omega (arith, p.quarter);
      some = omega (arith, p.quarter, p.least);
      small = p.most;
    })
    (λ (q : (s.here.base ≡ second_base) × (s.there.base ≡ first_base)). record {
      low = omega (arith, q.0);
      here = omega (arith, q.0, p.most);
      there_low = omega (arith, q.1);
      there = omega (arith, q.1, p.most, p.same_size);
      half = ap (λ n. eqb n first_base || eqb n second_base) q.0;
      quarter = omega (arith, p.quarter);
      some = omega (arith, p.quarter, p.least);
      small = p.most;
    })
    p.bases

pub split : (s : Spaces) → ArePlaced s → AreResting s → IsSplit s.here.base s.here.cells s.nursery.cells
split s p r =
    let b = bounded s p in
    let P : ℕ → Type 0 = λ n. AreLaid n s.nursery.cells in
    record { old = r.old.laid; below = omega (arith, b.here, r.room); young = subst P p.nursery r.young.laid }

-- ---- the laws

apart-after : (c : Cell) (y : List Cell) → AreLaid nursery_base y → c.start + length c.words ≤ nursery_base → AllByRecursion (AreApart c) y
apart-after c y laid below = later nursery_base y laid below
  where
    later : (a : ℕ) (y : List Cell) → AreLaid a y → c.start + length c.words ≤ a → AllByRecursion (AreApart c) y
    later a [] h le = tt
    later a (d ∷ cs) h le = (
      λ at in_c. let ends = ltb-true at (c.start + length c.words) (and_parts (leb c.start at) (ltb at (c.start + length c.words)) in_c).1 in covers-later d at (omega (arith, h.0)),
      later (a + length d.words) cs h.2 (omega arith),
    )

all-apart : (a : ℕ) (x y : List Cell) → AreLaid a x → a + total_words x ≤ nursery_base → AreLaid nursery_base y → AllApart x → AllApart y → AllApart (x ++ y)
all-apart a [] y lx below ly ax ay = ay
all-apart a (c ∷ cs) y lx below ly ax ay = (
  all_append (AreApart c) cs y ax.0 (apart-after c y ly (omega (arith, lx.0))),
  all-apart (a + length c.words) cs y lx.2 (omega arith) ly ax.1 ay,
)

lie-old : (base words n a : ℕ) (x : List Cell) → AreLaid a x → base ≤ a → a + total_words x ≤ base + words → AllByRecursion (λ (cell : ℕ × ℕ). (lies_in base words cell || lies_in nursery_base n cell) ≡ true) (layout x)
lie-old base words n a [] h low high = tt
lie-old base words n a (c ∷ cs) h low high = (
  or_left (lies_in base words (c.start, length c.words)) (lies_in nursery_base n (c.start, length c.words))
      (and_from (leb base c.start) (leb (c.start + length c.words) (base + words)) (le-leb base c.start (omega (arith, h.0))) (le-leb (c.start + length c.words) (base + words) (omega (arith, h.0)))),
  lie-old base words n (a + length c.words) cs h.2 (omega arith) (omega arith),
)

lie-young : (base words n a : ℕ) (y : List Cell) → AreLaid a y → nursery_base ≤ a → a + total_words y ≤ nursery_base + n → AllByRecursion (λ (cell : ℕ × ℕ). (lies_in base words cell || lies_in nursery_base n cell) ≡ true) (layout y)
lie-young base words n a [] h low high = tt
lie-young base words n a (c ∷ cs) h low high = (
  or_right (lies_in base words (c.start, length c.words)) (lies_in nursery_base n (c.start, length c.words))
      (and_from (leb nursery_base c.start) (leb (c.start + length c.words) (nursery_base + n)) (le-leb nursery_base c.start (omega (arith, h.0))) (le-leb (c.start + length c.words) (nursery_base + n) (omega (arith, h.0)))),
  lie-young base words n (a + length c.words) cs h.2 (omega arith) (omega arith),
)

-- what the laws need, of a heap whose cells are old ones and then young ones
pub record HasParts (h : Heap) (x y : List Cell) : Type 0 where
  pub split : IsSplit h.base x y
  pub cells : h.cells ≡ x ++ y
  pub young : h.young ≡ total_words y
  pub old_headed : AllByRecursion IsHeaded x
  pub young_headed : AllByRecursion IsHeaded y
  pub low : heap_base ≤ h.base
  pub half : (eqb h.base first_base || eqb h.base second_base) ≡ true
  pub room : total_words x + total_words y ≤ h.size
  pub fits : total_words y ≤ h.nursery
  pub quarter : 4 * h.nursery ≤ h.size
  pub some : 1 ≤ h.nursery
  pub small : h.size ≤ 67108864
  pub free : h.free ≡ words_free h
  pub tenured : h.tenured ≡ unasked h

pub parts-sound : (h : Heap) (x y : List Cell) → HasParts h x y → IsSoundHeap h
parts-sound h x y p =
    let total : total_words h.cells ≡ total_words x + total_words y = ap total_words p.cells ∙ total-append x y in
    let one = sound-cells h.base x p.old_headed p.split.old p.low (omega (arith, p.split.below)) in
    let two = sound-cells nursery_base y p.young_headed p.split.young (omega arith) (omega (arith, p.fits, p.quarter, p.small)) in
    let old : old_words h ≡ total_words x = omega (arith, total, p.young) in
    let Q : List Cell → Type 0 = λ l. AllByRecursion (λ (cell : ℕ × ℕ). is_placed h cell ≡ true) (layout l) in
    let R : List (ℕ × ℕ) → Type 0 = λ l. AllByRecursion (λ (cell : ℕ × ℕ). is_placed h cell ≡ true) l in
    let S : List Cell → Type 0 = λ l. AreSound l in
    let T : List Cell → Type 0 = λ l. AllApart l in
    let apart = all-apart h.base x y p.split.old p.split.below p.split.young one.apart two.apart in
    record {
      cells = subst S (sym p.cells) (record { headed = all_append IsHeaded x y p.old_headed p.young_headed; in_heap = all_append IsInHeap x y one.in_heap two.in_heap; apart = apart });
      free = omega (arith, p.free, free-small h, p.small);
      laws = record {
        half = p.half;
        young = omega (arith, p.young, p.fits);
        some = omega (arith, p.young, total);
        room = omega (arith, total, p.room);
        placed = subst Q (sym p.cells) (subst R (sym (map-append (λ (cell : Cell). (cell.start, length cell.words)) x y))
            (all_append (λ (cell : ℕ × ℕ). is_placed h cell ≡ true) (layout x) (layout y)
            (lie-old h.base (old_words h) h.young h.base x p.split.old (omega arith) (omega (arith, old)))
            (lie-young h.base (old_words h) h.young nursery_base y p.split.young (omega arith) (omega (arith, p.young)))));
        apart = subst T (sym p.cells) apart;
        free = p.free;
        tenured = p.tenured;
        watched = λ e. absurd (omega (arith, e, p.some));
        minors = λ e. absurd (omega (arith, e, p.some));
      };
    }
  where
    free-small : (h : Heap) → words_free h ≤ h.size
    free-small h = ⊎_elim
        (λ (none : eqb h.young 0 ≡ true). let is = cond-true (eqb h.young 0) (h.size - total_words h.cells) (min (h.nursery - h.young) (h.size - total_words h.cells)) none in omega arith)
        (λ (some : eqb h.young 0 ≡ false). let is = cond-false (eqb h.young 0) (h.size - total_words h.cells) (min (h.nursery - h.young) (h.size - total_words h.cells)) some in omega arith)
        (cases_Bool (eqb h.young 0))

pub closed-parts : (s left : Spaces) (marks : List Bool) (asked minors fulls : ℕ) → ArePlaced s → AreResting s → HasParts (heap_seen false s left marks asked minors fulls) s.here.cells s.nursery.cells
closed-parts s left marks asked minors fulls p r =
    let b = bounded s p in
    record {
      split = split s p r;
      cells = refl;
      young = refl;
      old_headed = r.old.headed;
      young_headed = r.young.headed;
      low = b.low;
      half = b.half;
      room = r.room;
      fits = r.young.room;
      quarter = b.quarter;
      some = b.some;
      small = b.small;
      free = refl;
      tenured = refl;
    }

-- ---- the same lengths

words-laid : List (ℕ × ℕ) → ℕ
words-laid [] = 0
words-laid (cell ∷ cells) = cell.1 + words-laid cells

total-laid : (cs : List Cell) → total_words cs ≡ words-laid (layout cs)
unfolding words-laid
total-laid [] = refl
total-laid (c ∷ cs) = ap (λ n. length c.words + n) (total-laid cs)

pub same-total : (cs ds : List Cell) → layout ds ≡ layout cs → total_words ds ≡ total_words cs
same-total cs ds e = total-laid ds ∙ ap words-laid e ∙ sym (total-laid cs)

words-both : (xs ys : List (ℕ × ℕ)) → words-laid (xs ++ ys) ≡ words-laid xs + words-laid ys
unfolding words-laid
words-both [] ys = let sum : words-laid ys ≡ 0 + words-laid ys = omega arith in sum
words-both (x ∷ xs) ys = let ih = words-both xs ys in omega arith

pub front-total : (ds cs : List Cell) (rest : List (ℕ × ℕ)) → layout ds ≡ layout cs ++ rest → total_words cs ≤ total_words ds
front-total ds cs rest e =
    let sum = total-laid ds ∙ ap words-laid e ∙ words-both (layout cs) rest in
    let front = total-laid cs in
    omega arith

-- ---- a request

-- the heap with other cells, young ones among them
pub changed : (h : Heap) (m : List Bool) (cells cells' : List Cell) (young young' : ℕ) → cells ≡ cells' → young ≡ young' → watching m (settled (record h { cells = cells; young = young })) ≡ record (settled (record h { cells = cells'; young = young' })) { watched = (watching m (settled (record h { cells = cells; young = young }))).watched }
changed h m cells cells' young young' c y =
    let P : List Cell → Type 0 = λ l. watching m (settled (record h { cells = cells; young = young })) ≡ record (settled (record h { cells = l; young = young })) { watched = (watching m (settled (record h { cells = cells; young = young }))).watched } in
    let Q : ℕ → Type 0 = λ n. watching m (settled (record h { cells = cells; young = young })) ≡ record (settled (record h { cells = cells'; young = n })) { watched = (watching m (settled (record h { cells = cells; young = young }))).watched } in
    subst Q y (subst P c refl)

-- ---- what is free

free-by : ℕ → ℕ → ℕ → ℕ → ℕ
free-by nursery young size total = cond (eqb young 0) (size - total) (min (nursery - young) (size - total))

pub free-none : (b : Bool) (s left : Spaces) (marks : List Bool) (asked minors fulls room : ℕ) → b ≡ false → total_words s.nursery.cells ≡ 0 → room + total_words s.here.cells ≡ s.here.size
    → room - total_words s.nursery.cells ≡ (heap_seen b s left marks asked minors fulls).free
unfolding free-by
free-none true s left marks asked minors fulls room closed none is = absurd (cc)
free-none false s left marks asked minors fulls room closed none is =
    let total = total-append s.here.cells s.nursery.cells in
    let same : room - total_words s.nursery.cells ≡ s.here.size - total_words (s.here.cells ++ s.nursery.cells) = omega arith in
    same ∙ sym (ap (λ n. free-by s.nursery.size n s.here.size (total_words (s.here.cells ++ s.nursery.cells))) none)

pub free-some : (b : Bool) (s left : Spaces) (marks : List Bool) (asked minors fulls room free : ℕ) → b ≡ false → (total_words s.nursery.cells ≡ 0 → ⊥) → room + total_words s.here.cells ≡ s.here.size → free + total_words s.nursery.cells ≡ s.nursery.size
    → min free (room - total_words s.nursery.cells) ≡ (heap_seen b s left marks asked minors fulls).free
free-some true s left marks asked minors fulls room free closed some is young = absurd (cc)
free-some false s left marks asked minors fulls room free closed some is young =
    let y = total_words s.nursery.cells in
    let total = total-append s.here.cells s.nursery.cells in
    let one : room - y ≡ s.here.size - total_words (s.here.cells ++ s.nursery.cells) = omega arith in
    let two : free ≡ s.nursery.size - y = omega arith in
    ap (λ n. min n (room - y)) two ∙ ap (λ n. min (s.nursery.size - y) n) one
    ∙ sym (cond-false (eqb y 0) (s.here.size - total_words (s.here.cells ++ s.nursery.cells)) (min (s.nursery.size - y) (s.here.size - total_words (s.here.cells ++ s.nursery.cells))) (ne_eqb y 0 some))

-- ---- the same heap with other cells

abbrev pub plain : Bool → List Cell → List Move → ℕ → ℕ → ℕ → ℕ → ℕ → ℕ → ℕ → Heap
plain is_open cells moves asked size base nursery young minors fulls = record {
  cells = cells;
  is_open = is_open;
  moves = moves;
  tenured = [];
  watched = 0;
  asked = asked;
  size = size;
  base = base;
  nursery = nursery;
  young = young;
  free = 0;
  minors = minors;
  fulls = fulls;
}

pub record SamePlaces (s s' : Spaces) : Type 0 where
  pub here_base : s'.here.base ≡ s.here.base
  pub here_size : s'.here.size ≡ s.here.size
  pub nursery_base : s'.nursery.base ≡ s.nursery.base
  pub nursery_size : s'.nursery.size ≡ s.nursery.size
  pub there_base : s'.there.base ≡ s.there.base
  pub there_size : s'.there.size ≡ s.there.size

pub still-placed : (s s' : Spaces) → SamePlaces s s' → ArePlaced s → ArePlaced s'
still-placed s s' same p = record {
  bases = ⊎_elim
      (λ (q : (s.here.base ≡ first_base) × (s.there.base ≡ second_base)). inl (same.here_base ∙ q.0, same.there_base ∙ q.1))
      (λ (q : (s.here.base ≡ second_base) × (s.there.base ≡ first_base)). inr (same.here_base ∙ q.0, same.there_base ∙ q.1))
      p.bases;
  nursery = same.nursery_base ∙ p.nursery;
  same_size = same.there_size ∙ p.same_size ∙ sym same.here_size;
  quarter = omega (arith, same.nursery_size, same.here_size, p.quarter);
  least = omega (arith, same.here_size, p.least);
  most = omega (arith, same.here_size, p.most);
}

pub as-changed : (s s' left : Spaces) (marks : List Bool) (asked minors fulls : ℕ) → SamePlaces s s'
    → heap_seen false s' left marks asked minors fulls ≡ watching marks (settled (record (plain_heap false s left asked minors fulls) { cells = s'.here.cells ++ s'.nursery.cells; young = total_words s'.nursery.cells }))
as-changed s s' left marks asked minors fulls same =
    let cells = s'.here.cells ++ s'.nursery.cells in
    let list = moves_seen false s left in
    let young = total_words s'.nursery.cells in
    ap (λ n. watching marks (settled (plain false cells list asked n s'.here.base s'.nursery.size young minors fulls))) same.here_size
    ∙ ap (λ n. watching marks (settled (plain false cells list asked s.here.size n s'.nursery.size young minors fulls))) same.here_base
    ∙ ap (λ n. watching marks (settled (plain false cells list asked s.here.size s.here.base n young minors fulls))) same.nursery_size

-- ---- what is watched after a request

none-marked : (n : ℕ) → marked_count (take n []) ≡ 0
none-marked zero = refl
none-marked (suc n) = refl

-- as many marks are set, where none is set behind a place
pub marked-more : (marks : List Bool) (words more : ℕ) → ((place : ℕ) → words ≤ place → get_or marks place false ≡ false) → words ≤ more → marked_count (take more marks) ≡ marked_count (take words marks)
marked-more [] words more none le = none-marked more ∙ sym (none-marked words)
marked-more (mark ∷ marks) zero zero none le = refl
marked-more (mark ∷ marks) zero (suc more) none le =
    let rest : marked_count (take more marks) ≡ 0 = marked-more marks zero more (λ place _. none (suc place) (omega arith)) (omega arith) in
    ap (λ b. cond b 1 0 + marked_count (take more marks)) (none 0 (omega arith)) ∙ (let all : 0 + marked_count (take more marks) ≡ 0 = omega (arith, rest) in all)
marked-more (mark ∷ marks) (suc words) zero none le = absurd (omega arith)
marked-more (mark ∷ marks) (suc words) (suc more) none le =
    ap (λ n. cond mark 1 0 + n) (marked-more marks words more (λ place past. none (suc place) (omega arith)) (omega arith))

-- where both the next collection as it was to be and as it is now look at marked words, they look at as many
pub watched-told : (was is now : Bool) (m n : ℕ) → is ≡ now → n ≡ m → cond is n 0 ≡ cond now (cond was (cond was m 0) (cond is n 0)) 0
watched-told was is true m n e same = ap (λ b. cond b n 0) e ∙ both was
  where
    both : (b : Bool) → n ≡ cond b (cond b m 0) (cond is n 0)
    both true = same
    both false = sym (ap (λ b. cond b n 0) e)
watched-told was is false m n e same = ap (λ b. cond b n 0) e

-- ---- a new cell

-- a request is refused
pub refused : (b : Bool) (s left : Spaces) (marks : List Bool) (asked minors fulls kind words : ℕ) → (heap_seen b s left marks asked minors fulls).free < words
    → Allots (heap_seen b s left marks asked minors fulls) kind words None (heap_seen b s left marks words minors fulls)
refused b s left marks asked minors fulls kind words full =
    let old = heap_seen b s left marks asked minors fulls in
    let new = heap_seen b s left marks words minors fulls in
    let count = marked_count (take (old_words old) marks) in
    (full, ap (λ n. record new { watched = n }) (watched-told (is_minor old) (is_minor new) (is_minor new) count count refl refl))

pub made-young : (b : Bool) (s s' left : Spaces) (marks : List Bool) (asked minors fulls kind words start : ℕ) → b ≡ false → ArePlaced s → SamePlaces s s' → 1 ≤ words → words ≤ (heap_seen b s left marks asked minors fulls).free → words ≤ s.nursery.size
    → start ≡ s.nursery.base + total_words s.nursery.cells → s'.here.cells ≡ s.here.cells → s'.nursery.cells ≡ s.nursery.cells ++ new_cell start kind words ∷ []
    → Allots (heap_seen b s left marks asked minors fulls) kind words (Some start) (heap_seen b s' left marks asked minors fulls)
made-young true s s' left marks asked minors fulls kind words start closed p same some room fits at old new = absurd (cc)
made-young false s s' left marks asked minors fulls kind words start closed p same some room fits at old new =
    let h = heap_seen false s left marks asked minors fulls in
    let x = s.here.cells in
    let y = s.nursery.cells in
    let hit = le-leb words s.nursery.size fits in
    let to : start ≡ next_start h words = at ∙ ap (λ n. n + total_words y) p.nursery ∙ sym (cond-true (leb words s.nursery.size) (nursery_base + total_words y) (s.here.base + old_words h) hit) in
    let long = length-new (header_of kind words) words some in
    let cells : s'.here.cells ++ s'.nursery.cells ≡ (x ++ y) ++ new_cell (next_start h words) kind words ∷ [] =
    ap (λ l. l ++ s'.nursery.cells) old ∙ ap (λ l. x ++ l) new ∙ sym (append_assoc x y (new_cell start kind words ∷ [])) ∙ ap (λ n. (x ++ y) ++ new_cell n kind words ∷ []) to in
    let young : total_words s'.nursery.cells ≡ cond (leb words s.nursery.size) (total_words y + words) (total_words y) =
    ap total_words new ∙ total-append y (new_cell start kind words ∷ []) ∙ (let sum : total_words y + (length (new_cell start kind words).words + 0) ≡ total_words y + words = omega (arith, long) in sum) ∙ sym (cond-true (leb words s.nursery.size) (total_words y + words) (total_words y) hit) in
    let P : Heap → Type 0 = λ n. n ≡ record (with_cell h kind words) { watched = watched_after h (with_cell h kind words) n.watched } in
    let plain = plain_heap false s left asked minors fulls in
    let now = watching marks (settled (record plain { cells = s'.here.cells ++ s'.nursery.cells; young = total_words s'.nursery.cells })) in
    let minor : is_minor now ≡ is_minor (with_cell h kind words) = ap (λ l. nat_lt 0 s.nursery.size && nat_le (asked + total_words l) s.here.size) cells in
    let count : marked_count (take (old_words now) marks) ≡ marked_count (take (old_words h) marks) = ap (λ n. marked_count (take n marks)) (let olds : old_words now ≡ old_words h = omega (arith, total-append s'.here.cells s'.nursery.cells, total-append x y, ap total_words old) in olds) in
    let watched : now.watched ≡ watched_after h (with_cell h kind words) now.watched = watched-told (is_minor h) (is_minor now) (is_minor (with_cell h kind words)) _ _ minor count in (
      room,
      to,
      subst P (sym (as-changed s s' left marks asked minors fulls same))
          (changed plain marks (s'.here.cells ++ s'.nursery.cells) _ (total_words s'.nursery.cells) _ cells young ∙ ap (λ n. record (with_cell h kind words) { watched = n }) watched),
    )

-- a cell that the nursery can't hold is made while no cell is young
pub none-young : (b : Bool) (s left : Spaces) (marks : List Bool) (asked minors fulls words : ℕ) → words ≤ (heap_seen b s left marks asked minors fulls).free → s.nursery.size < words → total_words s.nursery.cells ≡ 0
none-young b s left marks asked minors fulls words room large = ⊎_elim
    (λ (none : eqb (total_words s.nursery.cells) 0 ≡ true). eqb-true (total_words s.nursery.cells) 0 none)
    (λ (some : eqb (total_words s.nursery.cells) 0 ≡ false).
    let total = total_words (cells_seen b s) in
    let is = cond-false (eqb (total_words s.nursery.cells) 0) (s.here.size - total) (min (s.nursery.size - total_words s.nursery.cells) (s.here.size - total)) some in
    absurd (omega arith))
    (cases_Bool (eqb (total_words s.nursery.cells) 0))

pub no-cells : (a : ℕ) (cs : List Cell) → AreLaid a cs → total_words cs ≡ 0 → cs ≡ []
no-cells a [] laid none = refl
no-cells a (c ∷ cs) laid none = absurd (omega (arith, laid.1))

pub made-old : (b : Bool) (s s' left : Spaces) (marks : List Bool) (asked minors fulls kind words start : ℕ) → b ≡ false → AreResting s → ((place : ℕ) → total_words s.here.cells ≤ place → get_or marks place false ≡ false) → SamePlaces s s' → 1 ≤ words → words ≤ (heap_seen b s left marks asked minors fulls).free → s.nursery.size < words
    → start ≡ s.here.base + total_words s.here.cells → s'.nursery.cells ≡ s.nursery.cells → s'.here.cells ≡ s.here.cells ++ new_cell start kind words ∷ []
    → Allots (heap_seen b s left marks asked minors fulls) kind words (Some start) (heap_seen b s' left marks asked minors fulls)
made-old true s s' left marks asked minors fulls kind words start closed r beyond same some room large at young new = absurd (cc)
made-old false s s' left marks asked minors fulls kind words start closed r beyond same some room large at young new =
    let h = heap_seen false s left marks asked minors fulls in
    let x = s.here.cells in
    let y = s.nursery.cells in
    let zero = none-young false s left marks asked minors fulls words room large in
    let empty : y ≡ [] = no-cells s.nursery.base y r.young.laid zero in
    let miss = lt-leb words s.nursery.size large in
    let old : old_words h ≡ total_words x = omega (arith, total-append x y) in
    let to : start ≡ next_start h words = at ∙ ap (λ n. s.here.base + n) (sym old) ∙ sym (cond-false (leb words s.nursery.size) (nursery_base + total_words y) (s.here.base + old_words h) miss) in
    let c : ℕ → List Cell = λ n. new_cell n kind words ∷ [] in
    let cells : s'.here.cells ++ s'.nursery.cells ≡ (x ++ y) ++ c (next_start h words) =
    ap (λ l. l ++ s'.nursery.cells) new ∙ ap (λ l. (x ++ c start) ++ l) young ∙ ap (λ l. (x ++ c start) ++ l) empty ∙ append-nil (x ++ c start) ∙ ap (λ l. l ++ c start) (sym (append-nil x)) ∙ ap (λ l. (x ++ l) ++ c start) (sym empty) ∙ ap (λ n. (x ++ y) ++ c n) to in
    let young' : total_words s'.nursery.cells ≡ cond (leb words s.nursery.size) (total_words y + words) (total_words y) = ap total_words young ∙ sym (cond-false (leb words s.nursery.size) (total_words y + words) (total_words y) miss) in
    let P : Heap → Type 0 = λ n. n ≡ record (with_cell h kind words) { watched = watched_after h (with_cell h kind words) n.watched } in
    let plain = plain_heap false s left asked minors fulls in
    let now = watching marks (settled (record plain { cells = s'.here.cells ++ s'.nursery.cells; young = total_words s'.nursery.cells })) in
    let minor : is_minor now ≡ is_minor (with_cell h kind words) = ap (λ l. nat_lt 0 s.nursery.size && nat_le (asked + total_words l) s.here.size) cells in
    let count : marked_count (take (old_words now) marks) ≡ marked_count (take (old_words h) marks) = marked-more marks (old_words h) (old_words now) (λ place past. beyond place (omega (arith, old, past))) (omega (arith, total-append s'.here.cells s'.nursery.cells, total-append x y, ap total_words new, total-append x (new_cell start kind words ∷ []))) in
    let watched : now.watched ≡ watched_after h (with_cell h kind words) now.watched = watched-told (is_minor h) (is_minor now) (is_minor (with_cell h kind words)) _ _ minor count in (
      room,
      to,
      subst P (sym (as-changed s s' left marks asked minors fulls same))
          (changed plain marks (s'.here.cells ++ s'.nursery.cells) _ (total_words s'.nursery.cells) _ cells young' ∙ ap (λ n. record (with_cell h kind words) { watched = n }) watched),
    )

-- ---- what a request may have

pub room-left : (b : Bool) (s left : Spaces) (marks : List Bool) (asked minors fulls words : ℕ) → b ≡ false → AreResting s → 1 ≤ words → words ≤ (heap_seen b s left marks asked minors fulls).free
    → total_words s.here.cells + total_words s.nursery.cells + words ≤ s.here.size
room-left true s left marks asked minors fulls words closed r some room = absurd (cc)
room-left false s left marks asked minors fulls words closed r some room =
    let y = total_words s.nursery.cells in
    let total = total_words (s.here.cells ++ s.nursery.cells) in
    let sum = total-append s.here.cells s.nursery.cells in
    ⊎_elim
    (λ (none : eqb y 0 ≡ true). let is = cond-true (eqb y 0) (s.here.size - total) (min (s.nursery.size - y) (s.here.size - total)) none in omega arith)
    (λ (young : eqb y 0 ≡ false). let is = cond-false (eqb y 0) (s.here.size - total) (min (s.nursery.size - y) (s.here.size - total)) young in omega arith)
    (cases_Bool (eqb y 0))

pub room-young : (b : Bool) (s left : Spaces) (marks : List Bool) (asked minors fulls words : ℕ) → words ≤ (heap_seen b s left marks asked minors fulls).free → words ≤ s.nursery.size → 1 ≤ words
    → total_words s.nursery.cells + words ≤ s.nursery.size
room-young b s left marks asked minors fulls words room fits some =
    let y = total_words s.nursery.cells in
    let total = total_words (cells_seen b s) in
    ⊎_elim
    (λ (none : eqb y 0 ≡ true). let zero = eqb-true y 0 none in omega arith)
    (λ (young : eqb y 0 ≡ false). let is = cond-false (eqb y 0) (s.here.size - total) (min (s.nursery.size - y) (s.here.size - total)) young in omega arith)
    (cases_Bool (eqb y 0))

pub rest-young : (s s' : Spaces) (kind words start : ℕ) → AreResting s → SamePlaces s s' → kind < 2 ^ 32 → 1 ≤ words → total_words s.here.cells + total_words s.nursery.cells + words ≤ s.here.size → total_words s.nursery.cells + words ≤ s.nursery.size
    → start ≡ s.nursery.base + total_words s.nursery.cells → s'.here ≡ s.here → s'.nursery.cells ≡ s.nursery.cells ++ new_cell start kind words ∷ [] → AreResting s'
rest-young s s' kind words start r same small some room fits at old new =
    let P : Space → Type 0 = λ h. AreAtRest h in
    let long = length-new (header_of kind words) words some in
    let total = ap total_words new ∙ total-append s.nursery.cells (new_cell start kind words ∷ []) in
    record {
      old = subst P (sym old) r.old;
      young = rest-push s.nursery s'.nursery kind words r.young small some fits same.nursery_base same.nursery_size (new ∙ ap (λ n. s.nursery.cells ++ new_cell n kind words ∷ []) at);
      room = omega (arith, total, long, room, ap (λ (h : Space). total_words h.cells) old, ap (λ (h : Space). h.size) old);
    }

pub rest-old : (s s' : Spaces) (kind words start : ℕ) → AreResting s → SamePlaces s s' → kind < 2 ^ 32 → 1 ≤ words → total_words s.here.cells + total_words s.nursery.cells + words ≤ s.here.size
    → start ≡ s.here.base + total_words s.here.cells → s'.nursery ≡ s.nursery → s'.here.cells ≡ s.here.cells ++ new_cell start kind words ∷ [] → AreResting s'
rest-old s s' kind words start r same small some room at young new =
    let P : Space → Type 0 = λ h. AreAtRest h in
    let long = length-new (header_of kind words) words some in
    let total = ap total_words new ∙ total-append s.here.cells (new_cell start kind words ∷ []) in
    record {
      old = rest-push s.here s'.here kind words r.old small some (omega (arith, room)) same.here_base same.here_size (new ∙ ap (λ n. s.here.cells ++ new_cell n kind words ∷ []) at);
      young = subst P (sym young) r.young;
      room = omega (arith, total, long, room, same.here_size, ap (λ (h : Space). total_words h.cells) young);
    }

pub closed-sound : (b : Bool) (s left : Spaces) (marks : List Bool) (asked minors fulls : ℕ) → b ≡ false → ArePlaced s → AreResting s → IsSoundHeap (heap_seen b s left marks asked minors fulls)
closed-sound true s left marks asked minors fulls closed p r = absurd (cc)
closed-sound false s left marks asked minors fulls closed p r = parts-sound (heap_seen false s left marks asked minors fulls) s.here.cells s.nursery.cells (closed-parts s left marks asked minors fulls p r)

-- ---- a word that is set

old-laid : List (ℕ × ℕ) → List ℕ
old-laid [] = []
old-laid (cell ∷ cells) = cond (ltb cell.0 nursery_base) (cell.0 ∷ old-laid cells) (old-laid cells)

starts-laid : (cs : List Cell) → old_starts cs ≡ old-laid (layout cs)
unfolding old-laid
starts-laid [] = refl
starts-laid (c ∷ cs) = ap (λ (l : List ℕ). cond (ltb c.start nursery_base) (c.start ∷ l) l) (starts-laid cs)

pub same-olds : (cs ds : List Cell) → layout ds ≡ layout cs → old_starts ds ≡ old_starts cs
same-olds cs ds e = starts-laid ds ∙ ap old-laid e ∙ sym (starts-laid cs)

rebuilt : Heap → List Cell → List ℕ → ℕ → ℕ → ℕ → Heap
rebuilt h cells tenured watched young free = record h { cells = cells; tenured = tenured; watched = watched; young = young; free = free }

pub other-words : (h : Heap) (n m : List Bool) (young : ℕ) (cells : List Cell) → 1 ≤ h.nursery → layout cells ≡ layout h.cells → young ≡ h.young → HasOtherWords (watching n (settled h)) (watching m (settled (record h { cells = cells; young = young })))
unfolding rebuilt free-by
other-words h n m young cells some lay same =
    let total : total_words cells ≡ total_words h.cells = total-laid cells ∙ ap words-laid lay ∙ sym (total-laid h.cells) in
    let starts : old_starts cells ≡ old_starts h.cells = starts-laid cells ∙ ap old-laid lay ∙ sym (starts-laid h.cells) in
    let new : Heap = record h { cells = cells; young = young } in
    let watched = (watching m (settled new)).watched in
    let free : words_free new ≡ words_free h = ap (λ k. free-by h.nursery young h.size k) total ∙ ap (λ k. free-by h.nursery k h.size (total_words h.cells)) same in
    let tenured : unasked new ≡ unasked h =
    ap (λ k. cond (ltb 0 h.nursery && leb (h.asked + k) h.size) (old_starts cells) []) total ∙ ap (λ (l : List ℕ). cond (ltb 0 h.nursery && leb (h.asked + total_words h.cells) h.size) l []) starts in
    record {
      same_layout = lay;
      rest = ap (λ k. rebuilt h cells (unasked new) watched young k) free ∙ ap (λ l. rebuilt h cells l watched young (words_free h)) tenured ∙ ap (λ k. rebuilt h cells (unasked h) watched k (words_free h)) same;
      watched = λ none. absurd (omega (arith, none, some));
    }

pub stored : (b : Bool) (s s' left : Spaces) (marks marks' : List Bool) (asked minors fulls : ℕ) → b ≡ false → ArePlaced s → SamePlaces s s' → layout s'.here.cells ≡ layout s.here.cells → layout s'.nursery.cells ≡ layout s.nursery.cells
    → HasOtherWords (heap_seen b s left marks asked minors fulls) (heap_seen b s' left marks' asked minors fulls)
stored true s s' left marks marks' asked minors fulls closed p same old young = absurd (cc)
stored false s s' left marks marks' asked minors fulls closed p same old young =
    let x = s.here.cells in
    let y = s.nursery.cells in
    let f : Cell → ℕ × ℕ = λ c. (c.start, length c.words) in
    let lay : layout (s'.here.cells ++ s'.nursery.cells) ≡ layout (x ++ y) = map-append f s'.here.cells s'.nursery.cells ∙ ap (λ l. l ++ layout s'.nursery.cells) old ∙ ap (λ l. layout x ++ l) young ∙ sym (map-append f x y) in
    let total : total_words s'.nursery.cells ≡ total_words y = total-laid s'.nursery.cells ∙ ap words-laid young ∙ sym (total-laid y) in
    let P : Heap → Type 0 = λ n. HasOtherWords (heap_seen false s left marks asked minors fulls) n in
    subst P (sym (as-changed s s' left marks' asked minors fulls same))
    (other-words (plain_heap false s left asked minors fulls) marks marks' (total_words s'.nursery.cells) (s'.here.cells ++ s'.nursery.cells) (bounded s p).some lay total)

pub rest-stored : (s s' : Spaces) → AreResting s → SamePlaces s s' → AreAtRest s'.here × (total_words s'.here.cells ≡ total_words s.here.cells) → AreAtRest s'.nursery × (total_words s'.nursery.cells ≡ total_words s.nursery.cells) → AreResting s'
rest-stored s s' r same old young = record { old = old.0; young = young.0; room = omega (arith, old.1, young.1, r.room, same.here_size) }

-- ---- a word that is read

pub load-old : (b : Bool) (s : Spaces) (at : ℕ) → b ≡ false → ArePlaced s → AreResting s → at < nursery_base → cell_word_at s.here.cells at ≡ cell_word_at (cells_seen b s) at
load-old true s at closed p r below = absurd (cc)
load-old false s at closed p r below = sym (word-first s.here.cells s.nursery.cells at (low s.here.base s.here.cells s.nursery.cells at (split s p r) below).no_word)

pub load-young : (b : Bool) (s : Spaces) (at : ℕ) → b ≡ false → ArePlaced s → AreResting s → nursery_base ≤ at → cell_word_at s.nursery.cells at ≡ cell_word_at (cells_seen b s) at
load-young true s at closed p r above = absurd (cc)
load-young false s at closed p r above = sym (word-second s.here.cells s.nursery.cells at (high s.here.base s.here.cells s.nursery.cells at (split s p r) above).no_word)

-- ---- a word that is set, by where it lies

pub set-young-told : (o : Bool) (s s' : Spaces) (at w : ℕ) (b : Bool) → o ≡ false → ArePlaced s → AreResting s → nursery_base ≤ at → b ≡ is_writable s.nursery.cells at → s'.here.cells ≡ s.here.cells → s'.nursery.cells ≡ cond b (with_word s.nursery.cells at w) s.nursery.cells
    → (b ≡ is_writable (cells_seen o s) at) × (cells_seen o s' ≡ cond b (with_word (cells_seen o s) at w) (cells_seen o s))
set-young-told true s s' at w b closed p r above can old new = absurd (cc)
set-young-told false s s' at w b closed p r above can old new =
    let x = s.here.cells in
    let y = s.nursery.cells in
    let parts = split s p r in
    (can ∙ sym (writable-high s.here.base x y at parts above), ap (λ l. l ++ s'.nursery.cells) old ∙ ap (λ l. x ++ l) new ∙ set-second s.here.base x y at w b parts above)

pub set-old-told : (o : Bool) (s s' : Spaces) (at w : ℕ) (b : Bool) → o ≡ false → ArePlaced s → AreResting s → at < nursery_base → b ≡ is_writable s.here.cells at → s'.nursery.cells ≡ s.nursery.cells → s'.here.cells ≡ cond b (with_word s.here.cells at w) s.here.cells
    → (b ≡ is_writable (cells_seen o s) at) × (cells_seen o s' ≡ cond b (with_word (cells_seen o s) at w) (cells_seen o s))
set-old-told true s s' at w b closed p r below can young new = absurd (cc)
set-old-told false s s' at w b closed p r below can young new =
    let x = s.here.cells in
    let y = s.nursery.cells in
    let parts = split s p r in
    (can ∙ sym (writable-low s.here.base x y at parts below), ap (λ l. l ++ s'.nursery.cells) new ∙ ap (λ l. cond b (with_word x at w) x ++ l) young ∙ set-first s.here.base x y at w b parts below)

-- ---- a heap that was just made

none-watched : (marks : List Bool) (words : ℕ) → watching marks (settled (plain false [] [] 0 words first_base (words / 4) 0 0 0)) ≡ watching [] (settled (plain false [] [] 0 words first_base (words / 4) 0 0 0))
none-watched [] words = refl
none-watched (mark ∷ marks) words = refl

pub made : (s left : Spaces) (marks : List Bool) (words : ℕ) → s.here.base ≡ first_base → s.here.size ≡ words → s.here.cells ≡ [] → s.nursery.cells ≡ [] → s.nursery.size ≡ words / 4 → (kept_of left).cells ≡ []
    → heap_seen false s left marks 0 0 0 ≡ new_generations words
made s left marks words base size old young quarter kept =
    let list : moves_seen false s left ≡ [] = ap (λ cs. moves_from (kept_of left).base (copies_of (left_of left).cells cs)) kept in
    let cells : s.here.cells ++ s.nursery.cells ≡ [] = ap (λ l. l ++ s.nursery.cells) old ∙ young in
    let n = marks in
    ap (λ l. watching n (settled (plain false l (moves_seen false s left) 0 s.here.size s.here.base s.nursery.size (total_words s.nursery.cells) 0 0))) cells
    ∙ ap (λ l. watching n (settled (plain false [] l 0 s.here.size s.here.base s.nursery.size (total_words s.nursery.cells) 0 0))) list
    ∙ ap (λ k. watching n (settled (plain false [] [] 0 k s.here.base s.nursery.size (total_words s.nursery.cells) 0 0))) size
    ∙ ap (λ k. watching n (settled (plain false [] [] 0 words k s.nursery.size (total_words s.nursery.cells) 0 0))) base
    ∙ ap (λ k. watching n (settled (plain false [] [] 0 words first_base k (total_words s.nursery.cells) 0 0))) quarter
    ∙ ap (λ l. watching n (settled (plain false [] [] 0 words first_base (words / 4) (total_words l) 0 0))) young
    ∙ none-watched marks words

-- ---- a word of an old cell was set, or couldn't be

pub record IsPut (i : Inside) (v : Remembering) (here : Space) (at w : ℕ) (b : Bool) : Type 0 where
  pub invariant : IsGenerations i
  pub view : seen i ≡ v
  pub closed : v.heap.is_open ≡ false
  pub low : at < nursery_base
  pub base : here.base ≡ i.spaces.here.base
  pub size : here.size ≡ i.spaces.here.size
  pub answer : b ≡ is_writable i.spaces.here.cells at
  pub cells : here.cells ≡ cond b (with_word i.spaces.here.cells at w) i.spaces.here.cells

abbrev pub with_here : Spaces → Space → Spaces
with_here s here = record s { here = here }

pub put-closed : (i : Inside) (v : Remembering) (here : Space) (at w : ℕ) (b : Bool) → IsPut i v here at w b → i.is_open ≡ false
put-closed i v here at w b p = is-closed i v p.view p.closed

pub put-resting : (i : Inside) (v : Remembering) (here : Space) (at w : ℕ) (b : Bool) → IsPut i v here at w b → AreResting i.spaces
put-resting i v here at w b p = resting i p.invariant (put-closed i v here at w b p)

pub put-same : (i : Inside) (v : Remembering) (here : Space) (at w : ℕ) (b : Bool) → IsPut i v here at w b → SamePlaces i.spaces (with_here i.spaces here)
put-same i v here at w b p = record { here_base = p.base; here_size = p.size; nursery_base = refl; nursery_size = refl; there_base = refl; there_size = refl }

pub put-placed : (i : Inside) (v : Remembering) (here : Space) (at w : ℕ) (b : Bool) → IsPut i v here at w b → ArePlaced (with_here i.spaces here)
put-placed i v here at w b p = still-placed i.spaces (with_here i.spaces here) (put-same i v here at w b p) p.invariant.placed

pub put-rested : (i : Inside) (v : Remembering) (here : Space) (at w : ℕ) (b : Bool) → IsPut i v here at w b → AreResting (with_here i.spaces here)
put-rested i v here at w b p =
    let r = put-resting i v here at w b p in
    let put = rest-replace i.spaces.here here at w b r.old p.answer p.base p.size p.cells in
    rest-stored i.spaces (with_here i.spaces here) r (put-same i v here at w b p) put (r.young, refl)

pub put-value : (i : Inside) (v : Remembering) (here : Space) (at w : ℕ) (b : Bool) → IsPut i v here at w b → b ≡ is_writable v.heap.cells at
put-value i v here at w b p =
    subst (λ (u : Remembering). b ≡ is_writable u.heap.cells at) p.view
    (set-old-told i.is_open i.spaces (with_here i.spaces here) at w b (put-closed i v here at w b p) p.invariant.placed (put-resting i v here at w b p) p.low p.answer refl p.cells).0

pub put-cells : (i : Inside) (v : Remembering) (here : Space) (at w : ℕ) (b : Bool) → IsPut i v here at w b → cells_seen i.is_open (with_here i.spaces here) ≡ cond b (with_word v.heap.cells at w) v.heap.cells
put-cells i v here at w b p =
    subst (λ (u : Remembering). cells_seen i.is_open (with_here i.spaces here) ≡ cond b (with_word u.heap.cells at w) u.heap.cells) p.view
    (set-old-told i.is_open i.spaces (with_here i.spaces here) at w b (put-closed i v here at w b p) p.invariant.placed (put-resting i v here at w b p) p.low p.answer refl p.cells).1

pub put-rest : (i : Inside) (v : Remembering) (here : Space) (marks : List Bool) (at w : ℕ) (b : Bool) → IsPut i v here at w b → HasOtherWords v.heap (heap_seen i.is_open (with_here i.spaces here) i.left.value marks i.asked i.minors i.fulls)
put-rest i v here marks at w b p =
    let lay = layout_after i.spaces.here.cells here.cells at w b p.cells in
    subst (λ (u : Remembering). HasOtherWords u.heap (heap_seen i.is_open (with_here i.spaces here) i.left.value marks i.asked i.minors i.fulls)) p.view
    (stored i.is_open i.spaces (with_here i.spaces here) i.left.value i.remembered marks i.asked i.minors i.fulls (put-closed i v here at w b p) p.invariant.placed (put-same i v here at w b p) lay refl)

pub put-sound : (i : Inside) (v : Remembering) (here : Space) (marks : List Bool) (at w : ℕ) (b : Bool) → IsPut i v here at w b → IsSoundHeap (heap_seen i.is_open (with_here i.spaces here) i.left.value marks i.asked i.minors i.fulls)
put-sound i v here marks at w b p = closed-sound i.is_open (with_here i.spaces here) i.left.value marks i.asked i.minors i.fulls (put-closed i v here at w b p) (put-placed i v here at w b p) (put-rested i v here at w b p)

-- a word that is set lies among the words of cells
pub put-among : (i : Inside) (v : Remembering) (here : Space) (at w : ℕ) (b : Bool) → IsPut i v here at w b → b ≡ true → (i.spaces.here.base ≤ at) × (at < i.spaces.here.base + total_words i.spaces.here.cells)
put-among i v here at w b p set =
    let x = i.spaces.here in
    let r = (put-resting i v here at w b p).old in
    let some = (and_parts (is_some (cell_word_at x.cells at)) (not (is_start x.cells at)) (sym p.answer ∙ set)).0 in
    let off : (at < x.base) ⊎ (x.base + total_words x.cells ≤ at) → ⊥ = λ out. false≢true (sym (ap is_some (word_at-outside x.base at x.cells r.laid out)) ∙ some) in (
      ⊎_elim (λ (below : at < x.base). absurd (off (inl below))) (λ (ok : x.base ≤ at). ok) (cases_lt at x.base),
      ⊎_elim (λ (ok : at < x.base + total_words x.cells). ok) (λ (past : x.base + total_words x.cells ≤ at). absurd (off (inr past))) (cases_lt at (x.base + total_words x.cells)),
    )

pub put-inside : (i : Inside) (v : Remembering) (here : Space) (at w : ℕ) (b : Bool) → IsPut i v here at w b → b ≡ true → (i.spaces.here.base ≤ at) × (at < i.spaces.here.base + i.spaces.here.size)
put-inside i v here at w b p set =
    let among = put-among i v here at w b p set in
    let r = (put-resting i v here at w b p).old in
    (among.0, omega (arith, among.1, r.room))

pub put-total : (i : Inside) (v : Remembering) (here : Space) (at w : ℕ) (b : Bool) → IsPut i v here at w b → total_words here.cells ≡ total_words i.spaces.here.cells
put-total i v here at w b p = (rest-replace i.spaces.here here at w b (put-resting i v here at w b p).old p.answer p.base p.size p.cells).1
