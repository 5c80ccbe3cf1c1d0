-- The old cells of a minor collection: their words are looked at where they are remembered.
use Rattle.std.proofs.Common.{◌≡◌, ◌≢◌, ℕ, zero, suc, ◌+◌, ◌-◌, ◌<◌, ◌≤◌, Bool, true, false, cond, eqb, ltb, List, [], ◌∷◌, ◌++◌, length, get_or, set, take, Option, Some, None, is_some, refl, sym, ap, subst, ◌∙◌, arith, inl, inr, ⊎_elim}
use Rattle.std.specs.Prelude.{◌&&◌, ◌||◌, slice_get}
use Rattle.std.specs.List.{AllByRecursion}
use Rattle.std.proofs.lemmas.Bool.{cases_Bool, cases_eq, cases_lt, cond-true, cond-false, false≢true, and_parts, lt-ltb, le-ltb, ltb-true, eq-eqb, ne_eqb, eqb-true}
use Rattle.m3_heap.specs.Cells.{Cell, heap_base, header, cell_from, cell_word_at, is_start, words_from, total_words}
use Rattle.m3_heap.specs.Shapes.{Shape, is_pointer_word}
use Rattle.m3_heap.specs.Moves.{new_start, forwarded}
use Rattle.m3_heap.specs.Heap.{nursery_base}
use Rattle.m3_heap.specs.CollectorSpace.{Space, AreLaid}
use Rattle.m3_heap.specs.CollectorTracing.{old_cells, copies, moves, moves_from, placed, IsCopy, IsTracing}
use Rattle.m3_heap.specs.CollectorScanning.{Scans, AreScanned, PointsToKept}
use Rattle.m3_heap.proofs.SpaceLemmas.{start-fits, rising-fits, word_at-cell}
use Rattle.m3_heap.proofs.TracingLemmas.{copy-at}
use Rattle.m3_heap.proofs.CopyLemmas.{is_start-left, kept-header, forwarded-kept, forwarded-low}
use Rattle.m3_heap.proofs.ScanLemmas.{copied_from, put_at}
use Rattle.m3_heap.proofs.StepLemmas.{step-pointer, step-read}
use Rattle.m3_heap.proofs.WordLemmas.{scanned_cell, passed-scans, kept-laid, some-within}
use Rattle.m3_heap.proofs.TraceLemmas.{scans-first}
use Rattle.m3_generational.specs.Remembering.{FitsIn, marked_count}
use Rattle.m3_generational.specs.Collecting.{stayed, minor_left, IsKeeping}
use Rattle.m3_generational.specs.declared.spaces.Spaces.{Spaces}
use Rattle.m3_generational.proofs.PartLemmas.{start-first, words-first, low}
use Rattle.m3_generational.proofs.ForwardLemmas.{split-minor, starts-same, starts-front, stayed-layout, stayed-header}
use Rattle.m3_generational.proofs.HeapLemmas.{same-total, front-total}

-- ---- a pointer that stays as it is

set-same : (ws : List ℕ) (i w : ℕ) → slice_get ws i ≡ Some w → set ws i w ≡ ws
set-same [] i w e = refl
set-same (x ∷ xs) zero w e = let same : x ≡ w = cc in ap (λ n. n ∷ xs) (sym same)
set-same (x ∷ xs) (suc i) w e = ap (λ l. x ∷ l) (set-same xs i w e)

put-same : (b : ℕ) (ks : List Cell) (start i w : ℕ) → slice_get (words_from (placed b ks) start) i ≡ Some w → put_at b ks start i w ≡ ks
put-same b [] start i w e = refl
put-same b (k ∷ ks) start i w e = ⊎_elim
    (λ (hit : eqb b start ≡ true).
    let words = cond-true (eqb b start) k.words (words_from (placed (b + length k.words) ks) start) hit in
    cond-true (eqb b start) (record { start = k.start; words = set k.words i w } ∷ ks) (k ∷ put_at (b + length k.words) ks start i w) hit
    ∙ ap (λ l. let c : Cell = record { start = k.start; words = l } in c ∷ ks) (set-same k.words i w (ap (λ l. slice_get l i) (sym words) ∙ e)))
    (λ (miss : eqb b start ≡ false).
    let words = cond-false (eqb b start) k.words (words_from (placed (b + length k.words) ks) start) miss in
    cond-false (eqb b start) (record { start = k.start; words = set k.words i w } ∷ ks) (k ∷ put_at (b + length k.words) ks start i w) miss
    ∙ ap (λ l. k ∷ l) (put-same (b + length k.words) ks start i w (ap (λ l. slice_get l i) (sym words) ∙ e)))
    (cases_Bool (eqb b start))

-- ---- where an address lies

pub record IsIn (cells : List Cell) (at start place : ℕ) : Type 0 where
  pub starts : is_start cells start ≡ true
  pub sum : at ≡ start + place
  pub within : place < length (words_from cells start)

pub located : (a : ℕ) (cells : List Cell) (at : ℕ) → AreLaid a cells → a ≤ at → at < a + total_words cells → (start : ℕ) × (place : ℕ) × IsIn cells at start place
located a [] at h low high = absurd (omega arith)
located a (c ∷ cs) at h low high = ⊎_elim
    (λ (here : at < a + length c.words).
    let hit = eq-eqb c.start c.start refl in
    let words = ap (λ (ws : List ℕ). length ws) (cond-true (eqb c.start c.start) c.words (words_from cs c.start) hit) in
    (c.start, at - a, record { starts = ap is_some (cond-true (eqb c.start c.start) (Some c) (cell_from cs c.start) hit); sum = omega (arith, h.0); within = omega (arith, words) }))
    (λ (later : a + length c.words ≤ at).
    let found = located (a + length c.words) cs at h.2 later (omega arith) in
    let f = found.2 in
    let fits = start-fits (a + length c.words) found.0 cs h.2 f.starts in
    let miss = ne_eqb c.start found.0 (λ e. omega (arith, e, fits.0, h.0, h.1)) in
    let words = ap (λ (ws : List ℕ). length ws) (cond-false (eqb c.start found.0) c.words (words_from cs found.0) miss) in
    (found.0, found.1, record { starts = ap is_some (cond-false (eqb c.start found.0) (Some c) (cell_from cs found.0) miss) ∙ f.starts; sum = f.sum; within = omega (arith, words, f.within) }))
    (cases_lt at (a + length c.words))

-- ---- tenured cells stay

origin-found : (cs : List Cell) (b : ℕ) (ks : List Cell) (a c : ℕ) → AllByRecursion (IsCopy cs) ks → new_start (moves_from b ks) a ≡ Some c → copied_from b ks c ≡ a
origin-found cs b [] a c h e = absurd (false≢true (ap is_some e))
origin-found cs b (k ∷ ks) a c h e = ⊎_elim
    (λ (hit : eqb k.start a ≡ true).
    let to : Some b ≡ Some c = sym (cond-true (eqb k.start a) (Some b) (new_start (moves_from (b + length k.words) ks) a) hit) ∙ e in
    let same : b ≡ c = cc in
    cond-true (eqb b c) k.start (copied_from (b + length k.words) ks c) (eq-eqb b c same) ∙ eqb-true k.start a hit)
    (λ (miss : eqb k.start a ≡ false).
    let later = sym (cond-false (eqb k.start a) (Some b) (new_start (moves_from (b + length k.words) ks) a) miss) ∙ e in
    let there = copy-at cs (b + length k.words) ks a c h.1 later in
    cond-false (eqb b c) k.start (copied_from (b + length k.words) ks c) (ne_eqb b c (λ same. omega (arith, same, there.low, h.0.some))) ∙ origin-found cs (b + length k.words) ks a c h.1 later)
    (cases_Bool (eqb k.start a))

pub record IsTenured (s : Spaces) (w : ℕ) : Type 0 where
  pub stays : new_start (moves (minor_left s) s.here) w ≡ Some w
  pub origin : scanned_cell (minor_left s) s.here w ≡ w
  pub starts : is_start (old_cells (minor_left s) s.here) w ≡ true

high-start : (s : Spaces) (w : ℕ) → IsTracing (minor_left s) s.here → is_start (old_cells (minor_left s) s.here) w ≡ true → heap_base ≤ w
high-start s w t starts = let fits = rising-fits (minor_left s).base w (old_cells (minor_left s) s.here) t.rising starts in omega (arith, fits.0, t.left_base)

pub tenured : (s : Spaces) (w : ℕ) → s.is_minor ≡ true → IsTracing (minor_left s) s.here → IsKeeping s → is_start s.found.value.cells w ≡ true → IsTenured s w
tenured s w m t k on =
    let l = minor_left s in
    let x = stayed s.found.value.cells in
    let sp = split-minor s m k in
    let here : is_start x w ≡ true = starts-same s.found.value.cells x w (stayed-layout s.found.value.cells) ∙ on in
    let fits = start-fits s.here.base w x sp.old here in
    let down : w < nursery_base = omega (arith, fits.1, fits.2, sp.below) in
    let both : is_start l.cells w ≡ true = start-first x s.nursery.cells w (low s.here.base x s.nursery.cells w sp down).no_start ∙ here in
    let starts = sym (is_start-left l s.here _ _ w t) ∙ both in
    let head : header (words_from l.cells w) ≡ w = ap header (words-first x s.nursery.cells w here) ∙ stayed-header s.here.base s.found.value.cells w (k.minor m).found on in
    let up = high-start s w t starts in
    let stays : new_start (moves l s.here) w ≡ Some w = kept-header l s.here _ _ w t starts (omega (arith, head, up)) ∙ ap (λ n. Some n) head in
    record { stays = stays; origin = origin-found (old_cells l s.here) s.here.base (copies l s.here) w w t.are_copies stays; starts = starts }

-- a cell of the half that starts before the copies
pub tenured-here : (s : Spaces) (w : ℕ) → s.is_minor ≡ true → IsTracing (minor_left s) s.here → IsKeeping s → is_start s.here.cells w ≡ true → w < s.here.base + s.tenured → IsTenured s w
tenured-here s w m t k on below =
    let h = k.minor m in
    let laid = kept-laid (minor_left s) s.here t in
    tenured s w m t k (sym (starts-front s.here.base s.found.value.cells s.here.cells h.first.0 w h.first.1 laid (omega (arith, h.tenured, below))) ∙ on)

-- ---- a word that isn't remembered

some-word : (o : Option ℕ) → is_some o ≡ true → (w : ℕ) × (o ≡ Some w)
some-word None h = absurd (false≢true h)
some-word (Some w) h = (w, refl)

or_second : (b c : Bool) → b ≡ false → (b || c) ≡ true → c ≡ true
or_second true c e h = absurd (cc)
or_second false c e h = h

-- where it leads: nowhere, or to a cell that stays
leads-old : (s : Spaces) (w : ℕ) → s.is_minor ≡ true → IsTracing (minor_left s) s.here → IsKeeping s → (ltb w heap_base || (ltb w nursery_base && is_start (old_cells (minor_left s) s.here) w)) ≡ true
    → PointsToKept (moves (minor_left s) s.here) w × (forwarded (moves (minor_left s) s.here) w ≡ w)
leads-old s w m t k old = ⊎_elim
    (λ (below : w < heap_base). (inl below, sym (forwarded-low (moves (minor_left s) s.here) w below)))
    (λ (up : heap_base ≤ w).
    let rest = or_second (ltb w heap_base) _ (le-ltb w heap_base up) old in
    let parts = and_parts (ltb w nursery_base) (is_start (old_cells (minor_left s) s.here) w) rest in
    let x = stayed s.found.value.cells in
    let sp = split-minor s m k in
    let down = ltb-true w nursery_base parts.0 in
    let left : is_start (minor_left s).cells w ≡ true = is_start-left (minor_left s) s.here _ _ w t ∙ parts.1 in
    let found : is_start s.found.value.cells w ≡ true = sym (starts-same s.found.value.cells x w (stayed-layout s.found.value.cells)) ∙ sym (start-first x s.nursery.cells w (low s.here.base x s.nursery.cells w sp down).no_start) ∙ left in
    let ten = tenured s w m t k found in
    (inr (ap is_some ten.stays), sym (forwarded-kept (moves (minor_left s) s.here) w w up ten.stays)))
    (cases_lt w heap_base)

pub skip-one : (shapes : List Shape) (roots : List ℕ) (s : Spaces) (marks : List Bool) (at : ℕ) → s.is_minor ≡ true → IsTracing (minor_left s) s.here → IsKeeping s → FitsIn shapes (old_cells (minor_left s) s.here) marks s.here.base
    → s.here.base ≤ at → at < s.here.base + s.tenured → get_or marks (at - s.here.base) false ≡ false → Scans shapes roots (minor_left s) s.here at → Scans shapes roots (minor_left s) s.here (at + 1)
skip-one shapes roots s marks at m t k fits up below off scans =
    let l = minor_left s in
    let cs = old_cells l s.here in
    let h = k.minor m in
    let laid = kept-laid l s.here t in
    let spot = located s.here.base s.here.cells at laid up (omega (arith, below, front-total s.here.cells s.found.value.cells h.first.0 h.first.1, h.tenured)) in
    let start = spot.0 in
    let i = spot.1 in
    let is = spot.2 in
    let ten = tenured-here s start m t k is.starts (omega (arith, is.sum, below)) in
    let P : ℕ → Type 0 = λ n. Scans shapes roots l s.here n in
    let here = subst P is.sum scans in
    let next : start + i + 1 ≡ at + 1 = ap (λ n. n + 1) (sym is.sum) in
    let fit = start-fits s.here.base start s.here.cells laid is.starts in
    subst P next (⊎_elim
    (λ (first : i ≡ 0).
    let a : start + i ≡ start = omega (arith, first) in
    let b : start + 1 ≡ start + i + 1 = omega (arith, first) in
    subst P b (scans-first shapes roots l s.here start t is.starts (subst P a here)))
    (λ (later : i ≢ 0). ⊎_elim
    (λ (on : is_pointer_word shapes (words_from cs (scanned_cell l s.here start)) i ≡ true).
    let read = step-read shapes cs (moves l s.here) s.here.base (copies l s.here) start i t.are_copies (ap (λ ts. is_start ts start) (sym t.is_placed) ∙ is.starts) here.scanned in
    let held = some-word (slice_get (words_from s.here.cells start) i) (some-within (words_from s.here.cells start) i is.within) in
    let w = held.0 in
    let placed-word : slice_get (words_from (placed s.here.base (copies l s.here)) start) i ≡ Some w = ap (λ ts. slice_get (words_from ts start) i) (sym t.is_placed) ∙ held.1 in
    let word : slice_get (words_from cs (scanned_cell l s.here start)) i ≡ Some w = sym read ∙ placed-word in
    let place : start + i - s.here.base ≡ at - s.here.base = ap (λ n. n - s.here.base) (sym is.sum) in
    let old = fits start i w (lt-ltb start nursery_base (omega (arith, (split-minor s m k).below, h.tenured, is.sum, below, same-total s.found.value.cells (stayed s.found.value.cells) (stayed-layout s.found.value.cells)))) ten.starts (ap (λ n. is_pointer_word shapes (words_from cs n) i) (sym ten.origin) ∙ on) (ap (λ n. slice_get (words_from cs n) i) (sym ten.origin) ∙ word) (ap (λ n. get_or marks n false) place ∙ off) in
    let lead = leads-old s w m t k old in
    let step = step-pointer shapes cs (moves l s.here) s.here.base (copies l s.here) start i w t.are_copies (ap (λ ts. is_start ts start) (sym t.is_placed) ∙ is.starts) (omega (arith, is.within, ap (λ ts. length (words_from ts start)) t.is_placed)) on word lead.0 here.scanned in
    let Q : List Cell → Type 0 = λ ks. AreScanned shapes cs (moves l s.here) (start + i + 1) s.here.base ks in
    let same : put_at s.here.base (copies l s.here) start i (forwarded (moves l s.here) w) ≡ copies l s.here = ap (λ n. put_at s.here.base (copies l s.here) start i n) lead.1 ∙ put-same s.here.base (copies l s.here) start i w placed-word in
    record { scanned = subst Q same step; reached = here.reached })
    (λ (no : is_pointer_word shapes (words_from cs (scanned_cell l s.here start)) i ≡ false). passed-scans shapes roots l s.here start i t is.starts is.within no here)
    (cases_Bool (is_pointer_word shapes (words_from cs (scanned_cell l s.here start)) i)))
    (cases_eq i 0))

-- up to the next word that is
pub skip-many : (shapes : List Shape) (roots : List ℕ) (s : Spaces) (marks : List Bool) (at n : ℕ) → s.is_minor ≡ true → IsTracing (minor_left s) s.here → IsKeeping s → FitsIn shapes (old_cells (minor_left s) s.here) marks s.here.base
    → s.here.base ≤ at → at + n ≤ s.here.base + s.tenured → ((j : ℕ) → at ≤ j → j < at + n → get_or marks (j - s.here.base) false ≡ false) → Scans shapes roots (minor_left s) s.here at → Scans shapes roots (minor_left s) s.here (at + n)
skip-many shapes roots s marks at zero m t k fits up below off scans = let P : ℕ → Type 0 = λ n. Scans shapes roots (minor_left s) s.here n in subst P (let sum : at ≡ at + 0 = omega arith in sum) scans
skip-many shapes roots s marks at (suc n) m t k fits up below off scans =
    let P : ℕ → Type 0 = λ n. Scans shapes roots (minor_left s) s.here n in
    let most = skip-many shapes roots s marks at n m t k fits up (omega arith) (λ j a b. off j a (omega arith)) scans in
    let next : at + n + 1 ≡ at + suc n = omega arith in
    subst P next (skip-one shapes roots s marks (at + n) m t k fits (omega arith) (omega arith) (off (at + n) (omega arith) (omega arith)) most)

-- ---- a word that is remembered

pub tenured-limit : (s : Spaces) → s.is_minor ≡ true → IsKeeping s → s.tenured ≤ total_words s.here.cells
tenured-limit s m k = let h = k.minor m in let front = front-total s.here.cells s.found.value.cells h.first.0 h.first.1 in omega (arith, h.tenured, front)

pub tenured-word : (s : Spaces) (at : ℕ) → s.is_minor ≡ true → IsTracing (minor_left s) s.here → IsKeeping s → s.here.base ≤ at → at < s.here.base + s.tenured → is_some (cell_word_at s.here.cells at) ≡ true
tenured-word s at m t k up below =
    let laid = kept-laid (minor_left s) s.here t in
    let limit = tenured-limit s m k in
    let spot = located s.here.base s.here.cells at laid up (omega (arith, below, limit)) in
    let is = spot.2 in
    ap (λ n. is_some (cell_word_at s.here.cells n)) is.sum ∙ ap is_some (word_at-cell s.here.base spot.0 spot.1 s.here.cells laid is.starts is.within) ∙ some-within (words_from s.here.cells spot.0) spot.1 is.within

-- the cells that are left, after a word of the half was set
pub left-again : (s : Spaces) (here : Space) → here.base ≡ s.here.base → here.size ≡ s.here.size → minor_left s ≡ minor_left (record s { here = here })
left-again s here hb hs =
    let f : ℕ → ℕ → Space = λ b z. record { base = b; size = z; cells = stayed s.found.value.cells ++ s.nursery.cells } in
    ap (λ n. f n s.here.size) (sym hb) ∙ ap (λ n. f here.base n) (sym hs)

-- ---- how many are remembered

count-more : (marks : List Bool) (n : ℕ) → n < length marks → marked_count (take (n + 1) marks) ≡ marked_count (take n marks) + cond (get_or marks n false) 1 0
count-more [] n lt = absurd (omega arith)
count-more (mark ∷ marks) zero lt = one-more mark marks
  where
    one-more : (mark : Bool) (marks : List Bool) → marked_count (take (0 + 1) (mark ∷ marks)) ≡ marked_count (take 0 (mark ∷ marks)) + cond mark 1 0
    one-more true marks = refl
    one-more false marks = refl
count-more (mark ∷ marks) (suc n) lt =
    let ih = count-more marks n (omega arith) in
    let next : suc n + 1 ≡ suc (n + 1) = omega arith in
    ap (λ k. marked_count (take k (mark ∷ marks))) next ∙ add-both (cond mark 1 0) _ _ _ ih
  where
    add-both : (a b c d : ℕ) → b ≡ c + d → a + b ≡ a + c + d
    add-both a b c d e = omega arith

pub count-none : (marks : List Bool) (at n : ℕ) → at + n ≤ length marks → ((j : ℕ) → at ≤ j → j < at + n → get_or marks j false ≡ false) → marked_count (take (at + n) marks) ≡ marked_count (take at marks)
count-none marks at zero room off = ap (λ k. marked_count (take k marks)) (let sum : at + 0 ≡ at = omega arith in sum)
count-none marks at (suc n) room off =
    let ih = count-none marks at n (omega arith) (λ j a b. off j a (omega arith)) in
    let next : at + suc n ≡ at + n + 1 = omega arith in
    let more = count-more marks (at + n) (omega arith) in
    let no = ap (λ b. cond {A = ℕ} b 1 0) (off (at + n) (omega arith) (omega arith)) in
    ap (λ k. marked_count (take k marks)) next ∙ more ∙ ap (λ k. marked_count (take (at + n) marks) + k) no ∙ (let sum : marked_count (take (at + n) marks) + 0 ≡ marked_count (take (at + n) marks) = omega arith in sum) ∙ ih

-- from one remembered word to the next one, or to the end of the tenured cells
pub count-next : (marks : List Bool) (at next : ℕ) → next ≤ length marks → at < next → get_or marks at false ≡ true → ((j : ℕ) → at + 1 ≤ j → j < next → get_or marks j false ≡ false) → marked_count (take next marks) ≡ marked_count (take at marks) + 1
count-next marks at next room lt on off =
    let gap : at + 1 + (next - (at + 1)) ≡ next = omega arith in
    let none = count-none marks (at + 1) (next - (at + 1)) (omega arith) (λ j a b. off j a (omega arith)) in
    let more = count-more marks at (omega arith) in
    let yes = ap (λ b. cond {A = ℕ} b 1 0) on in
    ap (λ k. marked_count (take k marks)) (sym gap) ∙ none ∙ more ∙ ap (λ k. marked_count (take at marks) + k) yes

-- none before the first one
pub count-first : (marks : List Bool) (n : ℕ) → n ≤ length marks → ((j : ℕ) → j < n → get_or marks j false ≡ false) → marked_count (take n marks) ≡ 0
count-first marks n room off =
    let sum : 0 + n ≡ n = omega arith in
    ap (λ k. marked_count (take k marks)) (sym sum) ∙ count-none marks 0 n (omega arith) (λ j a b. off j (omega arith))

-- the words from a place on that aren't remembered, up to another place
pub skip-to : (shapes : List Shape) (roots : List ℕ) (s : Spaces) (marks : List Bool) (base from to : ℕ) → s.is_minor ≡ true → IsTracing (minor_left s) s.here → IsKeeping s → FitsIn shapes (old_cells (minor_left s) s.here) marks s.here.base
    → base ≡ s.here.base → from ≤ to → to ≤ s.tenured → ((j : ℕ) → from ≤ j → j < to → get_or marks j false ≡ false) → Scans shapes roots (minor_left s) s.here (base + from) → Scans shapes roots (minor_left s) s.here (base + to)
skip-to shapes roots s marks base from to m t k fits same le high off scans =
    let P : ℕ → Type 0 = λ n. Scans shapes roots (minor_left s) s.here n in
    let end : base + from + (to - from) ≡ base + to = omega arith in
    subst P end (skip-many shapes roots s marks (base + from) (to - from) m t k fits (omega (arith, same)) (omega (arith, same)) (λ j a b. off (j - s.here.base) (omega (arith, same)) (omega (arith, same))) scans)
