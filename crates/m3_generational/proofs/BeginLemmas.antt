-- A collection begins.
use Rattle.std.proofs.Common.{◌≡◌, ◌≢◌, ℕ, ◌+◌, ◌-◌, ◌<◌, ◌≤◌, Bool, true, false, cond, eqb, ltb, leb, List, [], ◌∷◌, ◌++◌, length, Option, Some, None, is_some, refl, sym, ap, subst, ◌∙◌, arith, append-nil}
use Rattle.std.specs.Prelude.{◌&&◌}
use Rattle.std.specs.List.{AllByRecursion}
use Rattle.std.proofs.lemmas.Bool.{cond-true, cond-false, false≢true, eq-eqb, ne_eqb, lt-ltb, le-ltb, and_from, le-leb, lt-leb}
use Rattle.m3_heap.specs.Cells.{Cell, header, cell_from, is_start, words_from, layout, total_words, IsHeaded}
use Rattle.m3_heap.specs.Moves.{Move, new_start, staying}
use Rattle.m3_heap.specs.Heap.{IsSoundHeap, nursery_base, old_starts, is_minor, settled}
use Rattle.m3_heap.specs.CollectorSpace.{Space, AreLaid, AreRising}
use Rattle.m3_heap.specs.CollectorTracing.{restored, standing, old_cells, moves, moves_from, placed, marked_words, marked, words_kept, IsCopy, AreDistinct, Traces}
use Rattle.m3_heap.specs.CollectorScanning.{ArePlain}
use Rattle.m3_heap.specs.CollectorHalves.{AreMoving}
use Rattle.m3_heap.proofs.SpaceLemmas.{laid-rising}
use Rattle.m3_heap.proofs.TracingLemmas.{all_map, all_append, total-append, own-words, cells-told, copies-told, tracing-told}
use Rattle.m3_heap.proofs.SemiLemmas.{short-cells, none-marked, none-kept}
use Rattle.m3_generational.specs.Remembering.{watching}
use Rattle.m3_generational.specs.Collecting.{stayed, minor_left, full_left, old_left, left_of, kept_of, ArePlaced, IsSplit}
use Rattle.m3_generational.specs.Inside.{cells_seen, moves_seen, heap_seen, AreResting, AreCollecting}
use Rattle.m3_generational.specs.declared.spaces.Spaces.{Spaces}
use Rattle.m3_generational.proofs.HeapLemmas.{still-placed, bounded, split, plain, parts-sound, same-total}
use Rattle.m3_generational.proofs.ForwardLemmas.{left-minor, kept-minor, laid-same, stayed-layout}

-- ---- lists of cells

rising-both : (a b : ℕ) (x y : List Cell) → AreLaid a x → a + total_words x ≤ b → AreLaid b y → AreRising a (x ++ y)
rising-both a b [] y lx below ly = lower a b y below ly
  where
    lower : (a b : ℕ) (y : List Cell) → a + 0 ≤ b → AreLaid b y → AreRising a y
    lower a b [] le h = tt
    lower a b (c ∷ cs) le h = let r = laid-rising b (c ∷ cs) h in (omega (arith, r.0), r.1, r.2)
rising-both a b (c ∷ cs) y lx below ly =
    let P : ℕ → Type 0 = λ n. AreRising (n + length c.words) (cs ++ y) in
    (omega (arith, lx.0), lx.1, subst P (sym lx.0) (rising-both (a + length c.words) b cs y lx.2 (omega arith) ly))

pub all-first : {X : Type 0} (P : X → Type 0) → (xs ys : List X) → AllByRecursion P (xs ++ ys) → AllByRecursion P xs
all-first P [] ys h = tt
all-first P (x ∷ xs) ys h = (h.0, all-first P xs ys h.1)

pub all-second : {X : Type 0} (P : X → Type 0) → (xs ys : List X) → AllByRecursion P (xs ++ ys) → AllByRecursion P ys
all-second P [] ys h = h
all-second P (x ∷ xs) ys h = all-second P xs ys h.1

-- ---- a full collection

pub begun-full : (s : Spaces) (there : Space) → ArePlaced s → AreResting s → there.base ≡ s.there.base → there.size ≡ s.there.size → there.cells ≡ [] → Traces (full_left s) there (s.here.cells ++ s.nursery.cells) []
begun-full s there p r tb ts tc =
    let b = bounded s p in
    let sp = split s p r in
    let cs = s.here.cells ++ s.nursery.cells in
    let total = total-append s.here.cells s.nursery.cells in
    let headed = all_append IsHeaded s.here.cells s.nursery.cells r.old.headed r.young.headed in
    record {
      headed = headed;
      short = short-cells cs s.here.size headed (omega (arith, total, r.room)) b.small;
      rising = rising-both s.here.base nursery_base s.here.cells s.nursery.cells sp.old sp.below sp.young;
      fits = omega (arith, total, r.room, ts, p.same_size);
      left_base = b.low;
      kept_base = omega (arith, b.there_low, tb);
      kept_ends = omega (arith, b.there, tb, ts);
      is_marked = sym (none-marked cs);
      is_placed = tc;
      are_copies = tt;
      distinct = tt;
      counted = sym (none-kept cs);
    }

-- ---- the old cells of a minor one

placed-laid : (a : ℕ) (x : List Cell) → AreLaid a x → placed a x ≡ x
placed-laid a [] h = refl
placed-laid a (c ∷ cs) h =
    let first = ap (λ n. let cell : Cell = record { start = n; words = c.words } in cell) (sym h.0) in
    ap (λ (d : Cell). d ∷ placed (a + length c.words) cs) first ∙ ap (λ l. c ∷ l) (placed-laid (a + length c.words) cs h.2)

none-before : (a : ℕ) (x : List Cell) (w : ℕ) → AreLaid a x → a + total_words x ≤ w → new_start (moves_from a x) w ≡ None
none-before a [] w h le = refl
none-before a (c ∷ cs) w h le = cond-false (eqb c.start w) (Some a) (new_start (moves_from (a + length c.words) cs) w) (ne_eqb c.start w (λ e. omega (arith, e, h.0, h.1))) ∙ none-before (a + length c.words) cs w h.2 (omega arith)

-- each stays where it is
stay-all : (a : ℕ) (x : List Cell) → AreLaid a x → AllByRecursion (λ (c : Cell). (new_start (moves_from a x) c.start ≡ Some c.start) × (a ≤ c.start)) x
stay-all a [] h = tt
stay-all a (c ∷ cs) h = (
  (cond-true (eqb c.start c.start) (Some a) (new_start (moves_from (a + length c.words) cs) c.start) (eq-eqb c.start c.start refl) ∙ ap (λ n. Some n) (sym h.0), omega (arith, h.0)),
  all_map (λ (d : Cell). (new_start (moves_from (a + length c.words) cs) d.start ≡ Some d.start) × (a + length c.words ≤ d.start)) (λ (d : Cell). (new_start (moves_from a (c ∷ cs)) d.start ≡ Some d.start) × (a ≤ d.start))
      (λ d q. (cond-false (eqb c.start d.start) (Some a) (new_start (moves_from (a + length c.words) cs) d.start) (ne_eqb c.start d.start (λ (e : c.start ≡ d.start). omega (arith, q.1, h.0, h.1, e))) ∙ q.0, omega (arith, q.1)))
      cs (stay-all (a + length c.words) cs h.2),
)

marked-both : (ms : List Move) (x y : List Cell) → marked ms (x ++ y) ≡ marked ms x ++ marked ms y
marked-both ms [] y = refl
marked-both ms (c ∷ cs) y = ap (λ l. record { start = c.start; words = marked_words (new_start ms c.start) c.words } ∷ l) (marked-both ms cs y)

marked-stayed : (ms : List Move) (a : ℕ) (x : List Cell) → AllByRecursion (λ (c : Cell). (new_start ms c.start ≡ Some c.start) × (a ≤ c.start)) x → marked ms x ≡ stayed x
marked-stayed ms a [] h = refl
marked-stayed ms a (c ∷ cs) h =
    ap (λ o. record { start = c.start; words = marked_words o c.words } ∷ marked ms cs) h.0.0 ∙ ap (λ l. record { start = c.start; words = marked_words (Some c.start) c.words } ∷ l) (marked-stayed ms a cs h.1)

marked-none : (ms : List Move) (a : ℕ) (y : List Cell) → ((w : ℕ) → a ≤ w → new_start ms w ≡ None) → AreLaid a y → marked ms y ≡ y
marked-none ms a [] none h = refl
marked-none ms a (c ∷ cs) none h =
    ap (λ o. record { start = c.start; words = marked_words o c.words } ∷ marked ms cs) (none c.start (omega (arith, h.0)))
    ∙ ap (λ l. c ∷ l) (marked-none ms (a + length c.words) cs (λ w le. none w (omega arith)) h.2)

kept-both : (ms : List Move) (x y : List Cell) → words_kept ms (x ++ y) ≡ words_kept ms x + words_kept ms y
kept-both ms [] y = let sum : words_kept ms y ≡ 0 + words_kept ms y = omega arith in sum
kept-both ms (c ∷ cs) y = let ih = kept-both ms cs y in omega arith

kept-stayed : (ms : List Move) (a : ℕ) (x : List Cell) → AllByRecursion (λ (c : Cell). (new_start ms c.start ≡ Some c.start) × (a ≤ c.start)) x → words_kept ms x ≡ total_words x
kept-stayed ms a [] h = refl
kept-stayed ms a (c ∷ cs) h = ap (λ o. cond (is_some o) (length c.words) 0 + words_kept ms cs) h.0.0 ∙ ap (λ n. length c.words + n) (kept-stayed ms a cs h.1)

kept-none : (ms : List Move) (a : ℕ) (y : List Cell) → ((w : ℕ) → a ≤ w → new_start ms w ≡ None) → AreLaid a y → words_kept ms y ≡ 0
kept-none ms a [] none h = refl
kept-none ms a (c ∷ cs) none h =
    let rest = kept-none ms (a + length c.words) cs (λ w le. none w (omega arith)) h.2 in
    ap (λ o. cond (is_some o) (length c.words) 0 + words_kept ms cs) (none c.start (omega (arith, h.0))) ∙ (let sum : 0 + words_kept ms cs ≡ 0 = omega arith in sum)

own-start : (cs : List Cell) → AllByRecursion (λ (c : Cell). is_start cs c.start ≡ true) cs
own-start [] = tt
own-start (c ∷ cs) = (
  ap is_some (cond-true (eqb c.start c.start) (Some c) (cell_from cs c.start) (eq-eqb c.start c.start refl)),
  all_map (λ (d : Cell). is_start cs d.start ≡ true) (λ (d : Cell). is_start (c ∷ cs) d.start ≡ true) (λ d e. either (eqb c.start d.start) c (cell_from cs d.start) e) cs (own-start cs),
)
  where
    either : (b : Bool) (c : Cell) (o : Option Cell) → is_some o ≡ true → is_some (cond b (Some c) o) ≡ true
    either true c o e = refl
    either false c o e = e

own-copies : (a : ℕ) (cs : List Cell) → AreRising a cs → AllByRecursion (IsCopy cs) cs
own-copies a cs h = both cs (own-start cs) (own-words a cs h) (some-words a cs h)
  where
    some-words : (a : ℕ) (ds : List Cell) → AreRising a ds → AllByRecursion (λ (c : Cell). 1 ≤ length c.words) ds
    some-words a [] h = tt
    some-words a (d ∷ ds) h = (h.1, some-words (d.start + length d.words) ds h.2)

    both : (ds : List Cell) → AllByRecursion (λ (c : Cell). is_start cs c.start ≡ true) ds → AllByRecursion (λ (c : Cell). (words_from cs c.start ≡ c.words) × (a ≤ c.start)) ds → AllByRecursion (λ (c : Cell). 1 ≤ length c.words) ds → AllByRecursion (IsCopy cs) ds
    both [] p q r = tt
    both (d ∷ ds) p q r = (record { starts = p.0; same_length = ap (λ (ws : List ℕ). length ws) (sym q.0.0); same_header = ap header (sym q.0.0); some = r.0 }, both ds p.1 q.1 r.1)

laid-distinct : (a : ℕ) (x : List Cell) → AreLaid a x → AreDistinct x
laid-distinct a [] h = tt
laid-distinct a (c ∷ cs) h = (
  all_map (λ (d : Cell). (new_start (moves_from (a + length c.words) cs) d.start ≡ Some d.start) × (a + length c.words ≤ d.start)) (λ (d : Cell). c.start ≢ d.start) (λ d q e. omega (arith, q.1, e, h.0, h.1)) cs (stay-all (a + length c.words) cs h.2),
  laid-distinct (a + length c.words) cs h.2,
)

own-plain : (a : ℕ) (cs x : List Cell) → AllByRecursion (λ (c : Cell). (words_from cs c.start ≡ c.words) × (a ≤ c.start)) x → ArePlain cs x
own-plain a cs [] h = tt
own-plain a cs (c ∷ x) h = (sym h.0.0, own-plain a cs x h.1)

pub begun-minor : (s : Spaces) (found : Space) → ArePlaced s → AreResting s → found ≡ s.here → Traces (record { base = s.here.base; size = s.here.size; cells = stayed found.cells ++ s.nursery.cells }) s.here (s.here.cells ++ s.nursery.cells) s.here.cells
begun-minor s found p r same =
    let b = bounded s p in
    let sp = split s p r in
    let x = s.here.cells in
    let y = s.nursery.cells in
    let cs = x ++ y in
    let a = s.here.base in
    let ms = moves_from a x in
    let total = total-append x y in
    let headed = all_append IsHeaded x y r.old.headed r.young.headed in
    let rising = rising-both a nursery_base x y sp.old sp.below sp.young in
    let stay = stay-all a x sp.old in
    let none : (w : ℕ) → nursery_base ≤ w → new_start ms w ≡ None = λ w le. none-before a x w sp.old (omega (arith, sp.below)) in
    record {
      headed = headed;
      short = short-cells cs s.here.size headed (omega (arith, total, r.room)) b.small;
      rising = rising;
      fits = omega (arith, total, r.room);
      left_base = b.low;
      kept_base = b.low;
      kept_ends = omega (arith, b.here);
      is_marked = ap (λ (f : Space). stayed f.cells ++ y) same ∙ ap (λ l. l ++ y) (sym (marked-stayed ms a x stay)) ∙ ap (λ l. marked ms x ++ l) (sym (marked-none ms nursery_base y none sp.young)) ∙ sym (marked-both ms x y);
      is_placed = sym (placed-laid a x sp.old);
      are_copies = all-first (IsCopy cs) x y (own-copies a cs rising);
      distinct = laid-distinct a x sp.old;
      counted = sym (kept-both ms x y ∙ ap (λ n. n + words_kept ms y) (kept-stayed ms a x stay) ∙ ap (λ n. total_words x + n) (kept-none ms nursery_base y none sp.young) ∙ (let sum : total_words x + 0 ≡ total_words x = omega arith in sum));
    }

pub plain-minor : (s : Spaces) → ArePlaced s → AreResting s → ArePlain (s.here.cells ++ s.nursery.cells) s.here.cells
plain-minor s p r =
    let sp = split s p r in
    let x = s.here.cells in
    let y = s.nursery.cells in
    own-plain s.here.base (x ++ y) x (all-first (λ (c : Cell). (words_from (x ++ y) c.start ≡ c.words) × (s.here.base ≤ c.start)) x y (own-words s.here.base (x ++ y) (rising-both s.here.base nursery_base x y sp.old sp.below sp.young)))

-- ---- the forwarding list

pub no-old : (a : ℕ) (y : List Cell) → nursery_base ≤ a → AreLaid a y → old_starts y ≡ []
no-old a [] le h = refl
no-old a (c ∷ cs) le h = cond-false (ltb c.start nursery_base) (c.start ∷ old_starts cs) (old_starts cs) (le-ltb c.start nursery_base (omega (arith, h.0))) ∙ no-old (a + length c.words) cs (omega arith) h.2

pub staying-old : (a : ℕ) (x y : List Cell) → IsSplit a x y → staying (old_starts (x ++ y)) ≡ moves_from a x
staying-old a [] y s = ap staying (no-old nursery_base y (omega arith) s.young)
staying-old a (c ∷ cs) y s =
    let rest = staying-old (a + length c.words) cs y (record { old = s.old.2; below = omega (arith, s.below); young = s.young }) in
    let hit = lt-ltb c.start nursery_base (omega (arith, s.old.0, s.old.1, s.below)) in
    ap staying (cond-true (ltb c.start nursery_base) (c.start ∷ old_starts (cs ++ y)) (old_starts (cs ++ y)) hit)
    ∙ ap (λ n. record { from = c.start; to = n } ∷ staying (old_starts (cs ++ y))) s.old.0
    ∙ ap (λ l. record { from = c.start; to = a } ∷ l) rest

pub full-begins : (s : Spaces) (there : Space) → ArePlaced s → AreResting s → there.base ≡ s.there.base → there.size ≡ s.there.size → there.cells ≡ []
    → AreCollecting (record s { there = there; is_minor = false }) × (cells_seen true (record s { there = there; is_minor = false }) ≡ cells_seen false s) × ((left : Spaces) → moves_seen true (record s { there = there; is_minor = false }) left ≡ [])
full-begins s there p r tb ts tc =
    let s' : Spaces = record s { there = there; is_minor = false } in
    let t = begun-full s there p r tb ts tc in
    let cs = s.here.cells ++ s.nursery.cells in
    let cells = cells-told (full_left s) there cs [] t in
    let none = copies-told (full_left s) there cs [] t in
    let P : List Cell → Type 0 = λ l. ArePlain (old_cells (full_left s) there) l in (
      record {
        moving = record { tracing = tracing-told (full_left s) there cs [] t; plain = subst P (sym none) tt; room = omega (arith, ap total_words cells, total-append s.here.cells s.nursery.cells, r.room) };
        keeping = record {
          placed = still-placed s s' (record { here_base = refl; here_size = refl; nursery_base = refl; nursery_size = refl; there_base = tb; there_size = ts }) p;
          split = split s p r;
          young = r.young.room;
          minor = λ yes. absurd (false≢true yes);
        };
      },
      cells,
      λ left. ap (λ l. moves_from there.base l) none,
    )

moving-over : (l k m j : Space) → l ≡ m → k ≡ j → AreMoving m j → AreMoving l k
moving-over l k m j el ek h =
    let A : Space → Type 0 = λ x. AreMoving x j in
    let B : Space → Type 0 = λ x. AreMoving l x in
    subst B (sym ek) (subst A (sym el) h)

pub minor-begins : (s : Spaces) → s.is_minor ≡ true → ArePlaced s → AreResting s → s.found.value ≡ s.here → s.tenured ≡ total_words s.here.cells
    → AreCollecting s × (cells_seen true s ≡ s.here.cells ++ s.nursery.cells) × ((left : Spaces) → moves_seen true s left ≡ staying (old_starts (s.here.cells ++ s.nursery.cells)))
minor-begins s m p r found tenured =
    let x = s.here.cells in
    let y = s.nursery.cells in
    let l = minor_left s in
    let t = begun-minor s s.found.value p r found in
    let cells = cells-told l s.here (x ++ y) x t in
    let list = copies-told l s.here (x ++ y) x t in
    let sp = split s p r in
    let P : List Cell → Type 0 = λ k. ArePlain (old_cells l s.here) k in
    let Q : List Cell → Type 0 = λ k. ArePlain k x in
    let same : s.found.value.cells ≡ x = ap (λ (f : Space). f.cells) found in
    let lay : layout (stayed s.found.value.cells) ≡ layout x = stayed-layout s.found.value.cells ∙ ap layout same in
    let A : List Cell → Type 0 = λ k. IsSplit s.here.base k y in
    let B : List Cell → Type 0 = λ k. AreLaid s.here.base k in
    let left : old_left s ≡ stayed s.found.value.cells = ap (λ b. cond b (stayed s.found.value.cells) s.here.cells) m in (
      record {
        moving = moving-over (left_of s) (kept_of s) l s.here (left-minor s m) (kept-minor s m)
            (record { tracing = tracing-told l s.here (x ++ y) x t; plain = subst P (sym list) (subst Q (sym cells) (plain-minor s p r)); room = omega (arith, ap total_words cells, total-append x y, r.room) });
        keeping = record {
          placed = p;
          split = subst A (sym left) (record { old = laid-same s.here.base x (stayed s.found.value.cells) lay sp.old; below = omega (arith, same-total x (stayed s.found.value.cells) lay, sp.below); young = sp.young });
          young = r.young.room;
          minor = λ _. record { found = subst B (sym same) sp.old; first = ([], ap layout (sym same) ∙ sym (append-nil (layout s.found.value.cells))); tenured = tenured ∙ ap total_words (sym same) };
        };
      },
      ap (λ k. old_cells k (kept_of s)) (left-minor s m) ∙ ap (λ k. old_cells l k) (kept-minor s m) ∙ cells,
      λ last. ap (λ k. moves k (kept_of s)) (left-minor s m) ∙ ap (λ k. moves l k) (kept-minor s m) ∙ ap (λ k. moves_from s.here.base k) list ∙ sym (staying-old s.here.base x y sp),
    )

-- ---- the heap that is seen then

pub opened-heap : (s s' left : Spaces) (marks : List Bool) (asked minors fulls : ℕ) (ms : List Move) → s'.here.size ≡ s.here.size → s'.here.base ≡ s.here.base → s'.nursery ≡ s.nursery → cells_seen true s' ≡ cells_seen false s → moves_seen true s' left ≡ ms
    → heap_seen true s' left marks asked minors fulls ≡ record (heap_seen false s left marks asked minors fulls) { is_open = true; moves = ms }
opened-heap s s' left marks asked minors fulls ms size base nursery cells list =
    let n = marks in
    ap (λ k. watching n (settled (plain true (cells_seen true s') (moves_seen true s' left) asked k s'.here.base s'.nursery.size (total_words s'.nursery.cells) minors fulls))) size
    ∙ ap (λ k. watching n (settled (plain true (cells_seen true s') (moves_seen true s' left) asked s.here.size k s'.nursery.size (total_words s'.nursery.cells) minors fulls))) base
    ∙ ap (λ (k : Space). watching n (settled (plain true (cells_seen true s') (moves_seen true s' left) asked s.here.size s.here.base k.size (total_words k.cells) minors fulls))) nursery
    ∙ ap (λ l. watching n (settled (plain true l (moves_seen true s' left) asked s.here.size s.here.base s.nursery.size (total_words s.nursery.cells) minors fulls))) cells
    ∙ ap (λ l. watching n (settled (plain true (cells_seen false s) l asked s.here.size s.here.base s.nursery.size (total_words s.nursery.cells) minors fulls))) list

-- ---- what is seen of a collection keeps the laws

restored-length : (T : List Cell) (ws : List ℕ) → length (restored T ws) ≡ length ws
restored-length T [] = refl
restored-length T (w ∷ ws) = refl

pub standing-layout : (T cs : List Cell) → layout (standing T cs) ≡ layout cs
standing-layout T [] = refl
standing-layout T (c ∷ cs) = ap (λ n. (c.start, n) ∷ layout (standing T cs)) (restored-length T c.words) ∙ ap (λ l. (c.start, length c.words) ∷ l) (standing-layout T cs)

pub standing-both : (T x y : List Cell) → standing T (x ++ y) ≡ standing T x ++ standing T y
standing-both T [] y = refl
standing-both T (c ∷ cs) y = ap (λ l. record { start = c.start; words = restored T c.words } ∷ l) (standing-both T cs y)

pub open-sound : (s left : Spaces) (marks : List Bool) (asked minors fulls : ℕ) → AreCollecting s → IsSoundHeap (heap_seen true s left marks asked minors fulls)
open-sound s left marks asked minors fulls c =
    let T = (kept_of s).cells in
    let x = standing T (old_left s) in
    let y = standing T s.nursery.cells in
    let k = c.keeping in
    let b = bounded s k.placed in
    let both : cells_seen true s ≡ x ++ y = standing-both T (old_left s) s.nursery.cells in
    let P : List Cell → Type 0 = λ l. AllByRecursion IsHeaded l in
    let headed = subst P both c.moving.tracing.headed in
    let old = standing-layout T (old_left s) in
    let young = standing-layout T s.nursery.cells in
    let xs = same-total (old_left s) x old in
    let ys = same-total s.nursery.cells y young in
    parts-sound (heap_seen true s left marks asked minors fulls) x y (record {
      split = record { old = laid-same s.here.base (old_left s) x old k.split.old; below = omega (arith, xs, k.split.below); young = laid-same nursery_base s.nursery.cells y young k.split.young };
      cells = both;
      young = sym ys;
      old_headed = all-first IsHeaded x y headed;
      young_headed = all-second IsHeaded x y headed;
      low = b.low;
      half = b.half;
      room = omega (arith, c.moving.room, ap total_words both, total-append x y);
      fits = omega (arith, ys, k.young);
      quarter = b.quarter;
      some = b.some;
      small = b.small;
      free = refl;
      tenured = refl;
    })

-- ---- which collection it is

pub is-full-told : (b : Bool) (s left : Spaces) (marks : List Bool) (asked minors fulls : ℕ) → b ≡ false → is_minor (heap_seen b s left marks asked minors fulls) ≡ false → (heap_seen b s left marks asked minors fulls).tenured ≡ []
is-full-told b s left marks asked minors fulls closed full = ap (λ k. cond k (old_starts (cells_seen b s)) []) full

pub is-minor-told : (b : Bool) (s left : Spaces) (marks : List Bool) (asked minors fulls : ℕ) → b ≡ false → is_minor (heap_seen b s left marks asked minors fulls) ≡ true → (heap_seen b s left marks asked minors fulls).tenured ≡ old_starts (cells_seen b s)
is-minor-told b s left marks asked minors fulls closed minor = ap (λ k. cond k (old_starts (cells_seen b s)) []) minor

pub told-minor : (b : Bool) (s left : Spaces) (marks : List Bool) (asked minors fulls room : ℕ) → b ≡ false → ArePlaced s → AreResting s → room + total_words s.here.cells ≡ s.here.size → asked ≤ room - total_words s.nursery.cells → is_minor (heap_seen b s left marks asked minors fulls) ≡ true
told-minor true s left marks asked minors fulls room closed p r free fits = absurd (cc)
told-minor false s left marks asked minors fulls room closed p r free fits =
    let total = total-append s.here.cells s.nursery.cells in
    let b = bounded s p in
    and_from (ltb 0 s.nursery.size) (leb (asked + total_words (s.here.cells ++ s.nursery.cells)) s.here.size) (lt-ltb 0 s.nursery.size b.some) (le-leb (asked + total_words (s.here.cells ++ s.nursery.cells)) s.here.size (omega (arith, total, r.room)))

pub told-full : (b : Bool) (s left : Spaces) (marks : List Bool) (asked minors fulls room : ℕ) → b ≡ false → AreResting s → room + total_words s.here.cells ≡ s.here.size → room - total_words s.nursery.cells < asked → is_minor (heap_seen b s left marks asked minors fulls) ≡ false
told-full true s left marks asked minors fulls room closed r free full = absurd (cc)
told-full false s left marks asked minors fulls room closed r free full =
    let total = total-append s.here.cells s.nursery.cells in
    let off = lt-leb (asked + total_words (s.here.cells ++ s.nursery.cells)) s.here.size (omega (arith, total, r.room)) in
    ap (λ k. ltb 0 s.nursery.size && k) off ∙ and-none (ltb 0 s.nursery.size)
  where
    and-none : (b : Bool) → (b && false) ≡ false
    and-none true = refl
    and-none false = refl
