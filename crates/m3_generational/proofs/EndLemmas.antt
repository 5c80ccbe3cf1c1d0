-- A collection ends.
use Rattle.std.proofs.Common.{◌≡◌, ℕ, zero, suc, ◌+◌, ◌-◌, ◌/◌, min, ◌<◌, ◌≤◌, Bool, true, false, cond, eqb, ltb, leb, List, [], ◌∷◌, ◌++◌, length, take, Option, Some, None, is_some, unwrap_or, refl, sym, ap, subst, ◌∙◌, arith, inl, inr, ⊎_elim, append-nil}
use Rattle.std.specs.Prelude.{◌&&◌, ◌||◌, slice_get}
use Rattle.std.specs.List.{AllByRecursion}
use Rattle.std.proofs.lemmas.Bool.{cases_Bool, cases_lt, cond-true, cond-false, false≢true, or_left, or_right, lt-ltb, le-ltb, eq-eqb, and_parts, leb-true}
use Rattle.m3_heap.specs.Cells.{Cell, heap_base, kind_in, cell_from, is_start, words_from, total_words, IsHeaded}
use Rattle.m3_heap.specs.Shapes.{Shape, is_pointer_word, is_pointer_of}
use Rattle.m3_heap.specs.Moves.{Move, new_start, is_kept, forwarded, kept_starts, kept_words, kept_pointers, moved_cells, AreOneToOne}
use Rattle.m3_heap.specs.Reach.{IsReachable, HasBadPointer}
use Rattle.m3_heap.specs.Heap.{Heap, IsSoundHeap, SameSizes, KeepsReached, MovesCells, first_base, second_base, other_base, old_words, is_minor, unasked, old_starts, counted}
use Rattle.m3_heap.specs.CollectorSpace.{Space, AreLaid}
use Rattle.m3_heap.specs.CollectorTracing.{old_cells, copies, moves, moves_from, placed, IsCopy, IsTracing}
use Rattle.m3_heap.specs.CollectorScanning.{AreScanned, AreSettled, PointsToKept, scanned_words, met, Grows}
use Rattle.m3_heap.specs.CollectorHalves.{AreAtRest}
use Rattle.m3_heap.proofs.TracingLemmas.{all_map, none_or_some, total-append}
use Rattle.m3_heap.proofs.CopyLemmas.{kept-le}
use Rattle.m3_heap.proofs.WordLemmas.{kept-total}
use Rattle.m3_heap.proofs.SemiLemmas.{words-told}
use Rattle.m3_heap.proofs.FinalLemmas.{one-to-one, all-kept, reached-kept, done-moved, done-met}
use Rattle.m3_heap.proofs.FinishLemmas.{IsFinished, done, finished-good, finished-rest}
use Rattle.m3_generational.specs.Remembering.{Remembering, Fits, Finishes, AreForgotten, marked_count}
use Rattle.m3_generational.specs.Collecting.{stayed, left_of, kept_of, minor_left, ArePlaced, IsKeeping, AreTraced, tenured_pointers}
use Rattle.m3_generational.specs.Inside.{cells_seen, moves_seen, heap_seen, seen, AreResting, AreCollecting, IsGenerations}
use Rattle.m3_generational.specs.declared.spaces.Spaces.{Spaces}
use Rattle.m3_generational.specs.declared.generations.Generations.TheInside.{Inside}
use Rattle.m3_generational.proofs.HeapLemmas.{still-placed, same-total, closed-sound}
use Rattle.m3_generational.proofs.FitLemmas.{FitsOld, fits-again}
use Rattle.m3_generational.proofs.ForwardLemmas.{kept-minor, kept-full, stayed-layout, back-minor, fore-minor}
use Rattle.m3_generational.proofs.BeginLemmas.{standing-layout}
use Rattle.m3_generational.proofs.VisitLemmas.{collecting}
use Rattle.m3_generational.proofs.TenuredLemmas.{starts_of, by-starts, tenured-counted, tenured-starts}

-- ---- of any cells that are left and kept, and of the heaps that are seen

pub ends-reached : (shapes : List Shape) (l k l' k' : Space) (old new : Heap) → IsFinished shapes l k l' k' → old_cells l k ≡ old.cells → moves l k ≡ old.moves → moves l' k' ≡ new.moves → KeepsReached shapes old new
ends-reached shapes l k l' k' old new fin cells list list' =
    let d = done shapes l k l' k' fin in
    let ks = copies l' k' in
    let same : old_cells l' k' ≡ old.cells = fin.grows.same_cells ∙ cells in
    let P : List Move → Type 0 = λ ms. AreOneToOne ms in
    record {
      goes_on = (fin.grows.more_moves.0, sym list' ∙ fin.grows.more_moves.1 ∙ ap (λ ms. ms ++ fin.grows.more_moves.0) list);
      one_to_one = subst P list' (one-to-one k'.base ks fin.tracing.distinct (all_map (IsCopy (old_cells l' k')) (λ (c : Cell). 1 ≤ length c.words) (λ c q. q.some) ks fin.tracing.are_copies));
      reached = λ start there.
          let Q : List Cell → Type 0 = λ cs. IsReachable shapes cs (kept_starts (moves l k)) start in
          let R : List Move → Type 0 = λ ms. IsReachable shapes old.cells (kept_starts ms) start in
          subst R list (subst Q same (all-kept (λ n. IsReachable shapes (old_cells l' k') (kept_starts (moves l k)) n) k'.base ks start d.reached (ap (λ ms. is_kept ms start) list' ∙ there)));
      kept = λ start r.
          let Q : List Cell → Type 0 = λ cs. IsReachable shapes cs (kept_starts (moves l k)) start in
          let R : List Move → Type 0 = λ ms. IsReachable shapes old.cells (kept_starts ms) start in
          ap (λ ms. is_kept ms start) (sym list') ∙ reached-kept shapes l' k' (old_cells l' k') ks (moves l k) fin.grows.more_moves.0 d fin.grows.more_moves.1 start (subst Q (sym same) (subst R (sym list) r));
    }

pub ends-moved : (shapes : List Shape) (l k l' k' : Space) (old new : Heap) → IsFinished shapes l k l' k' → old_cells l k ≡ old.cells → moves l' k' ≡ new.moves → new.cells ≡ k'.cells → MovesCells shapes old new
ends-moved shapes l k l' k' old new fin cells list' now =
    now ∙ done-moved shapes (kept_starts (moves l k)) l' k' (old_cells l' k') (copies l' k') (done shapes l k l' k' fin)
    ∙ ap (λ cs. moved_cells shapes cs (moves l' k') (moves l' k')) (fin.grows.same_cells ∙ cells) ∙ ap (λ ms. moved_cells shapes old.cells ms ms) list'

pub ends-good : (shapes : List Shape) (l k l' k' : Space) (old : Heap) → IsFinished shapes l k l' k' → old_cells l k ≡ old.cells → moves l k ≡ old.moves → HasBadPointer shapes old.cells (kept_starts old.moves) → ⊥
ends-good shapes l k l' k' old fin cells list bad =
    let Q : List Cell → Type 0 = λ cs. HasBadPointer shapes cs (kept_starts (moves l k)) in
    let R : List Move → Type 0 = λ ms. HasBadPointer shapes old.cells (kept_starts ms) in
    finished-good shapes l k l' k' fin (subst Q (sym cells) (subst R (sym list) bad))

-- ---- the pointers of the kept cells lead to kept cells

new-there : (b : ℕ) (ks : List Cell) (a c : ℕ) → new_start (moves_from b ks) a ≡ Some c → is_start (placed b ks) c ≡ true
new-there b [] a c e = absurd (false≢true (ap is_some e))
new-there b (k ∷ ks) a c e = ⊎_elim
    (λ (hit : eqb k.start a ≡ true).
    let to : Some b ≡ Some c = sym (cond-true (eqb k.start a) (Some b) (new_start (moves_from (b + length k.words) ks) a) hit) ∙ e in
    let same : b ≡ c = cc in
    ap is_some (cond-true (eqb b c) (Some (record { start = b; words = k.words })) (cell_from (placed (b + length k.words) ks) c) (eq-eqb b c same)))
    (λ (miss : eqb k.start a ≡ false).
    let rest = new-there (b + length k.words) ks a c (sym (cond-false (eqb k.start a) (Some b) (new_start (moves_from (b + length k.words) ks) a) miss) ∙ e) in
    either (eqb b c) (record { start = b; words = k.words }) (cell_from (placed (b + length k.words) ks) c) rest)
    (cases_Bool (eqb k.start a))
  where
    either : (b : Bool) (c : Cell) (o : Option Cell) → is_some o ≡ true → is_some (cond b (Some c) o) ≡ true
    either true c o e = refl
    either false c o e = e

-- a settled word, once it is forwarded
settled-leads : (b : ℕ) (ks : List Cell) (w : ℕ) → PointsToKept (moves_from b ks) w → (ltb (forwarded (moves_from b ks) w) heap_base || is_start (placed b ks) (forwarded (moves_from b ks) w)) ≡ true
settled-leads b ks w (inl low) =
    let ms = moves_from b ks in
    let same : forwarded ms w ≡ w = cond-true (ltb w heap_base) w (unwrap_or (new_start ms w) w) (lt-ltb w heap_base low) in
    or_left (ltb (forwarded ms w) heap_base) (is_start (placed b ks) (forwarded ms w)) (ap (λ n. ltb n heap_base) same ∙ lt-ltb w heap_base low)
settled-leads b ks w (inr kept) =
    let ms = moves_from b ks in
    ⊎_elim
    (λ (low : w < heap_base).
    let same : forwarded ms w ≡ w = cond-true (ltb w heap_base) w (unwrap_or (new_start ms w) w) (lt-ltb w heap_base low) in
    or_left (ltb (forwarded ms w) heap_base) (is_start (placed b ks) (forwarded ms w)) (ap (λ n. ltb n heap_base) same ∙ lt-ltb w heap_base low))
    (λ (high : heap_base ≤ w). ⊎_elim
    (λ (none : new_start ms w ≡ None). absurd (false≢true (sym (ap is_some none) ∙ kept)))
    (λ (found : (d : ℕ) × (new_start ms w ≡ Some d)).
    let to : forwarded ms w ≡ found.0 = cond-false (ltb w heap_base) w (unwrap_or (new_start ms w) w) (le-ltb w heap_base high) ∙ ap (λ o. unwrap_or o w) found.1 in
    or_right (ltb (forwarded ms w) heap_base) (is_start (placed b ks) (forwarded ms w)) (ap (λ n. is_start (placed b ks) n) to ∙ new-there b ks w found.0 found.1))
    (none_or_some (new_start ms w)))
    (cases_lt w heap_base)

-- a word of a scanned copy that is a pointer
scanned-get : (p : ℕ → Bool) (ms : List Move) (limit at i : ℕ) (ws : List ℕ) (w : ℕ) → at + i < limit → p (at + i) ≡ true → AreSettled p ms limit at ws → slice_get (scanned_words p ms limit at ws) i ≡ Some w → (v : ℕ) × (w ≡ forwarded ms v) × PointsToKept ms v
scanned-get p ms limit at i [] w low on s e = absurd (false≢true (ap is_some e))
scanned-get p ms limit at zero (v ∷ ws) w low on s e =
    let here : p at ≡ true = ap p (sym (let sum : at + 0 ≡ at = omega arith in sum)) ∙ on in
    let less : at < limit = omega arith in
    let test : (p at && ltb at limit) ≡ true = ap (λ b. b && ltb at limit) here ∙ lt-ltb at limit less in
    let word : Some w ≡ Some (forwarded ms v) = sym e ∙ ap (λ (n : ℕ). Some n) (cond-true (p at && ltb at limit) (forwarded ms v) v test) in
    (v, cc, s.0 here less)
scanned-get p ms limit at (suc i) (v ∷ ws) w low on s e =
    let next : at + suc i ≡ at + 1 + i = omega arith in
    let less : at + 1 + i < limit = omega (arith, next) in
    scanned-get p ms limit (at + 1) i ws w less (ap p (sym next) ∙ on) s.1 e

pub leads : (shapes : List Shape) (cs : List Cell) (ms : List Move) (limit a : ℕ) (ks : List Cell) (b : ℕ) (all : List Cell) → ms ≡ moves_from b all → AllByRecursion (IsCopy cs) ks → a + total_words ks ≤ limit → AreScanned shapes cs ms limit a ks → (start place word : ℕ) → is_start (placed a ks) start ≡ true
    → is_pointer_word shapes (words_from (placed a ks) start) place ≡ true → slice_get (words_from (placed a ks) start) place ≡ Some word → (ltb word heap_base || is_start (placed b all) word) ≡ true
leads shapes cs ms limit a [] b all is copied high s start place word on pointer holds = absurd (false≢true on)
leads shapes cs ms limit a (k ∷ ks) b all is copied high s start place word on pointer holds =
    let later = placed (a + length k.words) ks in
    ⊎_elim
    (λ (hit : eqb a start ≡ true).
    let words = cond-true (eqb a start) k.words (words_from later start) hit in
    let q = is_pointer_word shapes (words_from cs k.start) in
    let test : q place ≡ true = ap (λ n. ltb 0 place && is_pointer_of shapes (kind_in n) place) (sym copied.0.same_header) ∙ ap (λ ws. is_pointer_word shapes ws place) (sym words) ∙ pointer in
    let read : slice_get (scanned_words q ms (limit - a) 0 (words_from cs k.start)) place ≡ Some word = ap (λ ws. slice_get ws place) (sym s.0) ∙ ap (λ ws. slice_get ws place) (sym words) ∙ holds in
    let inside = within k.words place word (ap (λ ws. slice_get ws place) (sym words) ∙ holds) in
    let zero-place : 0 + place ≡ place = omega arith in
    let found = scanned-get q ms (limit - a) 0 place (words_from cs k.start) word (omega (arith, inside, high)) (ap q zero-place ∙ test) s.1 read in
    let P : List Move → Type 0 = λ l. PointsToKept l found.0 in
    ap (λ n. ltb n heap_base || is_start (placed b all) n) (found.1 ∙ ap (λ l. forwarded l found.0) is) ∙ settled-leads b all found.0 (subst P is found.2))
    (λ (miss : eqb a start ≡ false).
    let words = sym (cond-false (eqb a start) k.words (words_from later start) miss) in
    leads shapes cs ms limit (a + length k.words) ks b all is copied.1 (omega arith) s.2 start place word
    (sym (ap is_some (cond-false (eqb a start) (Some (record { start = a; words = k.words })) (cell_from later start) miss)) ∙ on)
    (ap (λ ws. is_pointer_word shapes ws place) words ∙ pointer) (ap (λ ws. slice_get ws place) words ∙ holds))
    (cases_Bool (eqb a start))
  where
    within : (ws : List ℕ) (i w : ℕ) → slice_get ws i ≡ Some w → i < length ws
    within [] i w h = absurd (false≢true (ap is_some h))
    within (x ∷ ws) zero w h = omega arith
    within (x ∷ ws) (suc i) w h = let ih = within ws i w h in omega arith

pub kept-leads : (shapes : List Shape) (l k l' k' : Space) (marks : List Bool) → IsFinished shapes l k l' k' → FitsOld shapes k'.cells marks k'.base
kept-leads shapes l k l' k' marks fin =
    let d = done shapes l k l' k' fin in
    let ks = copies l' k' in
    let P : List Cell → Type 0 = λ cells. FitsOld shapes cells marks k'.base in
    let fit : FitsOld shapes (placed k'.base ks) marks k'.base = λ start place word on pointer holds free. leads shapes (old_cells l' k') (moves l' k') (k'.base + total_words ks) k'.base ks k'.base ks refl fin.tracing.are_copies (omega arith) d.scanned start place word on pointer holds in
    subst P (sym fin.tracing.is_placed) fit

-- ---- a heap of generations

-- all that can be told of the end of a collection: the half that is then in use, and an empty nursery
pub record IsEnd (shapes : List Shape) (i : Inside) (v : Remembering) (s' s : Spaces) (left : Spaces) : Type 0 where
  pub invariant : IsGenerations i
  pub view : seen i ≡ v
  pub opened : v.heap.is_open ≡ true
  pub traced : AreTraced shapes i.spaces s'
  pub here : s.here ≡ kept_of s'
  pub empty : s.nursery.cells ≡ []
  pub snapshot : left ≡ s'
  pub placed : ArePlaced s
  pub size : (kept_of s').size ≡ i.spaces.here.size

end-open : (shapes : List Shape) (i : Inside) (v : Remembering) (s' s left : Spaces) → IsEnd shapes i v s' s left → i.is_open ≡ true
end-open shapes i v s' s left e = ap (λ (u : Remembering). u.heap.is_open) e.view ∙ e.opened

end-finished : (shapes : List Shape) (i : Inside) (v : Remembering) (s' s left : Spaces) → IsEnd shapes i v s' s left → IsFinished shapes (left_of i.spaces) (kept_of i.spaces) (left_of s') (kept_of s')
end-finished shapes i v s' s left e = record { before = e.traced.before; tracing = e.traced.tracing; grows = e.traced.grows; scans = e.traced.scans }

pub end-cells : (shapes : List Shape) (i : Inside) (v : Remembering) (s' s left : Spaces) → IsEnd shapes i v s' s left → cells_seen false s ≡ (kept_of s').cells
end-cells shapes i v s' s left e = ap (λ l. s.here.cells ++ l) e.empty ∙ append-nil s.here.cells ∙ ap (λ (h : Space). h.cells) e.here

end-moves : (shapes : List Shape) (i : Inside) (v : Remembering) (s' s left : Spaces) → IsEnd shapes i v s' s left → moves (left_of s') (kept_of s') ≡ moves_seen false s left
end-moves shapes i v s' s left e = ap (λ (x : Spaces). moves (left_of x) (kept_of x)) (sym e.snapshot)

old-cells : (shapes : List Shape) (i : Inside) (v : Remembering) (s' s left : Spaces) → IsEnd shapes i v s' s left → old_cells (left_of i.spaces) (kept_of i.spaces) ≡ v.heap.cells
old-cells shapes i v s' s left e = ap (λ b. cells_seen b i.spaces) (sym (end-open shapes i v s' s left e)) ∙ ap (λ (u : Remembering). u.heap.cells) e.view

old-moves : (shapes : List Shape) (i : Inside) (v : Remembering) (s' s left : Spaces) → IsEnd shapes i v s' s left → moves (left_of i.spaces) (kept_of i.spaces) ≡ v.heap.moves
old-moves shapes i v s' s left e = ap (λ b. moves_seen b i.spaces i.left.value) (sym (end-open shapes i v s' s left e)) ∙ ap (λ (u : Remembering). u.heap.moves) e.view

pub end-reached : (shapes : List Shape) (i : Inside) (v : Remembering) (s' s left : Spaces) (marks : List Bool) (asked minors fulls : ℕ) → IsEnd shapes i v s' s left → KeepsReached shapes v.heap (heap_seen false s left marks asked minors fulls)
end-reached shapes i v s' s left marks asked minors fulls e =
    ends-reached shapes (left_of i.spaces) (kept_of i.spaces) (left_of s') (kept_of s') v.heap (heap_seen false s left marks asked minors fulls) (end-finished shapes i v s' s left e) (old-cells shapes i v s' s left e) (old-moves shapes i v s' s left e) (end-moves shapes i v s' s left e)

pub end-moved : (shapes : List Shape) (i : Inside) (v : Remembering) (s' s left : Spaces) (marks : List Bool) (asked minors fulls : ℕ) → IsEnd shapes i v s' s left → MovesCells shapes v.heap (heap_seen false s left marks asked minors fulls)
end-moved shapes i v s' s left marks asked minors fulls e =
    ends-moved shapes (left_of i.spaces) (kept_of i.spaces) (left_of s') (kept_of s') v.heap (heap_seen false s left marks asked minors fulls) (end-finished shapes i v s' s left e) (old-cells shapes i v s' s left e) (end-moves shapes i v s' s left e) (end-cells shapes i v s' s left e)

pub end-good : (shapes : List Shape) (i : Inside) (v : Remembering) (s' s left : Spaces) → IsEnd shapes i v s' s left → HasBadPointer shapes v.heap.cells (kept_starts v.heap.moves) → ⊥
end-good shapes i v s' s left e = ends-good shapes (left_of i.spaces) (kept_of i.spaces) (left_of s') (kept_of s') v.heap (end-finished shapes i v s' s left e) (old-cells shapes i v s' s left e) (old-moves shapes i v s' s left e)

pub end-resting : (shapes : List Shape) (i : Inside) (v : Remembering) (s' s left : Spaces) → IsEnd shapes i v s' s left → AreResting s
end-resting shapes i v s' s left e =
    let P : Space → Type 0 = λ h. AreAtRest h in
    let Q : List Cell → Type 0 = λ l. AllByRecursion IsHeaded l in
    let R : List Cell → Type 0 = λ l. AreLaid s.nursery.base l in
    let old = subst P (sym e.here) (finished-rest shapes (left_of i.spaces) (kept_of i.spaces) (left_of s') (kept_of s') (end-finished shapes i v s' s left e)) in
    let none = ap total_words e.empty in
    record { old = old; young = record { headed = subst Q (sym e.empty) tt; laid = subst R (sym e.empty) tt; room = omega (arith, none) }; room = omega (arith, none, old.room) }

pub end-sound : (shapes : List Shape) (i : Inside) (v : Remembering) (s' s left : Spaces) (marks : List Bool) (asked minors fulls : ℕ) → IsEnd shapes i v s' s left → IsSoundHeap (heap_seen false s left marks asked minors fulls)
end-sound shapes i v s' s left marks asked minors fulls e = closed-sound false s left marks asked minors fulls refl e.placed (end-resting shapes i v s' s left e)

pub end-fits : (shapes : List Shape) (i : Inside) (v : Remembering) (s' s left : Spaces) (marks : List Bool) (asked minors fulls : ℕ) → IsEnd shapes i v s' s left → Fits shapes (record { heap = heap_seen false s left marks asked minors fulls; remembered = marks })
end-fits shapes i v s' s left marks asked minors fulls e =
    let P : Space → Type 0 = λ h. FitsOld shapes h.cells marks h.base in
    fits-again false shapes s left marks asked minors fulls refl e.placed (end-resting shapes i v s' s left e)
    (subst P (sym e.here) (kept-leads shapes (left_of i.spaces) (kept_of i.spaces) (left_of s') (kept_of s') marks (end-finished shapes i v s' s left e)))

pub end-size : (shapes : List Shape) (i : Inside) (v : Remembering) (s' s left : Spaces) → IsEnd shapes i v s' s left → s.here.size ≡ i.spaces.here.size
end-size shapes i v s' s left e = ap (λ (h : Space). h.size) e.here ∙ e.size

pub end-sizes : (shapes : List Shape) (i : Inside) (v : Remembering) (s' s left : Spaces) (marks : List Bool) (asked minors fulls : ℕ) → IsEnd shapes i v s' s left → SameSizes v.heap (heap_seen false s left marks asked minors fulls)
end-sizes shapes i v s' s left marks asked minors fulls e =
    let size = end-size shapes i v s' s left e in
    record {
      size = size ∙ ap (λ (u : Remembering). u.heap.size) e.view;
      nursery = e.placed.quarter ∙ ap (λ n. n / 4) size ∙ sym e.invariant.placed.quarter ∙ ap (λ (u : Remembering). u.heap.nursery) e.view;
    }

-- what is free then
pub end-free : (shapes : List Shape) (i : Inside) (v : Remembering) (s' s left : Spaces) (marks : List Bool) (asked minors fulls : ℕ) → IsEnd shapes i v s' s left → (heap_seen false s left marks asked minors fulls).free ≡ s.here.size - total_words (kept_of s').cells
end-free shapes i v s' s left marks asked minors fulls e =
    let none : total_words s.nursery.cells ≡ 0 = ap total_words e.empty in
    let total = total_words (cells_seen false s) in
    cond-true (eqb (total_words s.nursery.cells) 0) (s.here.size - total) (min (s.nursery.size - total_words s.nursery.cells) (s.here.size - total)) (eq-eqb (total_words s.nursery.cells) 0 none)
    ∙ ap (λ l. s.here.size - total_words l) (end-cells shapes i v s' s left e)

-- ---- which collection it was

pub still-full : (s s' : Spaces) → ArePlaced s → Grows (left_of s) (kept_of s) (left_of s') (kept_of s') → s.is_minor ≡ false → s'.is_minor ≡ false
still-full s s' p g full = ⊎_elim
    (λ (yes : s'.is_minor ≡ true).
    let there : s'.here.base ≡ s.there.base = ap (λ (k : Space). k.base) (sym (kept-minor s' yes)) ∙ g.kept_base ∙ ap (λ (k : Space). k.base) (kept-full s full) in
    absurd (apart s p (sym g.left_base ∙ there)))
    (λ (no : s'.is_minor ≡ false). no)
    (cases_Bool s'.is_minor)
  where
    apart : (s : Spaces) → ArePlaced s → s.here.base ≡ s.there.base → ⊥
    apart s p e = ⊎_elim
        (λ (q : (s.here.base ≡ first_base) × (s.there.base ≡ second_base)). let no : ⊥ = omega (arith, q.0, q.1, e) in no)
        (λ (q : (s.here.base ≡ second_base) × (s.there.base ≡ first_base)). let no : ⊥ = omega (arith, q.0, q.1, e) in no)
        p.bases

pub still-minor : (s s' : Spaces) → ArePlaced s' → Grows (left_of s) (kept_of s) (left_of s') (kept_of s') → s.is_minor ≡ true → s'.is_minor ≡ true
still-minor s s' p g minor = ⊎_elim
    (λ (yes : s'.is_minor ≡ true). yes)
    (λ (no : s'.is_minor ≡ false).
    let there : s'.there.base ≡ s.here.base = ap (λ (k : Space). k.base) (sym (kept-full s' no)) ∙ g.kept_base ∙ ap (λ (k : Space). k.base) (kept-minor s minor) in
    absurd (apart s' p (g.left_base ∙ sym there)))
    (cases_Bool s'.is_minor)
  where
    apart : (s : Spaces) → ArePlaced s → s.here.base ≡ s.there.base → ⊥
    apart s p e = ⊎_elim
        (λ (q : (s.here.base ≡ first_base) × (s.there.base ≡ second_base)). let no : ⊥ = omega (arith, q.0, q.1, e) in no)
        (λ (q : (s.here.base ≡ second_base) × (s.there.base ≡ first_base)). let no : ⊥ = omega (arith, q.0, q.1, e) in no)
        p.bases

-- ---- the end of a full one

pub record IsFullEnd (shapes : List Shape) (i : Inside) (v : Remembering) (s' : Spaces) (here there nursery : Space) (left : Spaces) : Type 0 where
  pub invariant : IsGenerations i
  pub view : seen i ≡ v
  pub opened : v.heap.is_open ≡ true
  pub full : is_minor v.heap ≡ false
  pub traced : AreTraced shapes i.spaces s'
  pub keeping : IsKeeping s'
  pub filled : here ≡ s'.there
  pub emptied : there ≡ s'.here
  pub base : nursery.base ≡ s'.nursery.base
  pub size : nursery.size ≡ s'.nursery.size
  pub empty : nursery.cells ≡ []
  pub snapshot : left ≡ s'

abbrev pub exchanged : Spaces → Space → Space → Space → Spaces
exchanged s here there nursery = record s { here = here; there = there; nursery = nursery }

is-full : (shapes : List Shape) (i : Inside) (v : Remembering) (s' : Spaces) (here there nursery : Space) (left : Spaces) → IsFullEnd shapes i v s' here there nursery left → i.spaces.is_minor ≡ false
is-full shapes i v s' here there nursery left e =
    let opened = ap (λ (u : Remembering). u.heap.is_open) e.view ∙ e.opened in
    sym (e.invariant.mode opened) ∙ ap (λ b. is_minor (heap_seen b i.spaces i.left.value i.remembered i.asked i.minors i.fulls)) (sym opened) ∙ ap (λ (u : Remembering). is_minor u.heap) e.view ∙ e.full

was-full : (shapes : List Shape) (i : Inside) (v : Remembering) (s' : Spaces) (here there nursery : Space) (left : Spaces) → IsFullEnd shapes i v s' here there nursery left → s'.is_minor ≡ false
was-full shapes i v s' here there nursery left e = still-full i.spaces s' e.invariant.placed e.traced.grows (is-full shapes i v s' here there nursery left e)

pub full-end : (shapes : List Shape) (i : Inside) (v : Remembering) (s' : Spaces) (here there nursery : Space) (left : Spaces) → IsFullEnd shapes i v s' here there nursery left → IsEnd shapes i v s' (exchanged s' here there nursery) left
full-end shapes i v s' here there nursery left e =
    let kept = kept-full s' (was-full shapes i v s' here there nursery left e) in
    let p = e.keeping.placed in
    let hb = ap (λ (k : Space). k.base) e.filled in
    let hs = ap (λ (k : Space). k.size) e.filled in
    let tb = ap (λ (k : Space). k.base) e.emptied in
    let ts = ap (λ (k : Space). k.size) e.emptied in
    record {
      invariant = e.invariant;
      view = e.view;
      opened = e.opened;
      traced = e.traced;
      here = e.filled ∙ sym kept;
      empty = e.empty;
      snapshot = e.snapshot;
      placed = record {
        bases = ⊎_elim
            (λ (q : (s'.here.base ≡ first_base) × (s'.there.base ≡ second_base)). inr (hb ∙ q.1, tb ∙ q.0))
            (λ (q : (s'.here.base ≡ second_base) × (s'.there.base ≡ first_base)). inl (hb ∙ q.1, tb ∙ q.0))
            p.bases;
        nursery = e.base ∙ p.nursery;
        same_size = ts ∙ sym p.same_size ∙ sym hs;
        quarter = e.size ∙ p.quarter ∙ ap (λ n. n / 4) (sym p.same_size ∙ sym hs);
        least = omega (arith, hs, p.same_size, p.least);
        most = omega (arith, hs, p.same_size, p.most);
      };
      size = ap (λ (k : Space). k.size) kept ∙ p.same_size ∙ e.traced.grows.left_size;
    }

no-tenured : (h : Heap) → h.tenured ≡ unasked h → is_minor h ≡ false → h.tenured ≡ []
no-tenured h is full = is ∙ ap (λ b. cond b (old_starts h.cells) []) full

pub full-finishes : (shapes : List Shape) (i : Inside) (v : Remembering) (s' : Spaces) (here there nursery : Space) (left : Spaces) (marks : List Bool) (fulls before after : ℕ) → IsFullEnd shapes i v s' here there nursery left → fulls ≡ counted i.fulls → AreForgotten marks
    → after + total_words (kept_of i.spaces).cells ≡ before + met shapes (left_of s') (kept_of s') ((kept_of s').base + total_words (kept_of s').cells) + total_words (kept_of s').cells
    → Finishes shapes v (record { heap = heap_seen false (exchanged s' here there nursery) left marks 0 i.minors fulls; remembered = marks }) before after
full-finishes shapes i v s' here there nursery left marks fulls before after f count clear cost =
    let e = full-end shapes i v s' here there nursery left f in
    let s = exchanged s' here there nursery in
    let l = left_of i.spaces in
    let k = kept_of i.spaces in
    let l' = left_of s' in
    let k' = kept_of s' in
    let fin = end-finished shapes i v s' s left e in
    let cells = old-cells shapes i v s' s left e in
    let list = old-moves shapes i v s' s left e in
    let list' = end-moves shapes i v s' s left e in
    let tenured : v.heap.tenured ≡ [] = no-tenured v.heap (ap (λ (u : Remembering). u.heap.tenured) (sym f.view) ∙ ap (λ (u : Remembering). unasked u.heap) f.view) f.full in
    let watched : v.heap.watched ≡ 0 = ap (λ (u : Remembering). u.heap.watched) (sym f.view) ∙ ap (λ (u : Remembering). cond (is_minor u.heap) (marked_count (take (old_words u.heap) i.remembered)) 0) f.view ∙ ap (λ b. cond b (marked_count (take (old_words v.heap) i.remembered)) 0) f.full in
    let was : kept_words v.heap.cells v.heap.moves ≡ total_words k.cells = ap (λ cs. kept_words cs v.heap.moves) (sym cells) ∙ ap (λ ms. kept_words (old_cells l k) ms) (sym list) ∙ words-told l k f.traced.before.tracing in
    let now : kept_words v.heap.cells (moves_seen false s left) ≡ total_words k'.cells =
    ap (λ cs. kept_words cs (moves_seen false s left)) (sym (fin.grows.same_cells ∙ cells)) ∙ ap (λ ms. kept_words (old_cells l' k') ms) (sym list') ∙ words-told l' k' f.traced.tracing in
    let pointers : kept_pointers shapes v.heap.cells v.heap.tenured (moves_seen false s left) ≡ met shapes l' k' (k'.base + total_words k'.cells) =
    ap (λ t. kept_pointers shapes v.heap.cells t (moves_seen false s left)) tenured ∙ ap (λ cs. kept_pointers shapes cs [] (moves_seen false s left)) (sym (fin.grows.same_cells ∙ cells)) ∙ ap (λ ms. kept_pointers shapes (old_cells l' k') [] ms) (sym list') ∙ sym (done-met shapes l' k' f.traced.tracing) in
    let size : s.here.size ≡ v.heap.size = end-size shapes i v s' s left e ∙ ap (λ (u : Remembering). u.heap.size) f.view in
    let free = end-free shapes i v s' s left marks 0 i.minors fulls e in
    let total : total_words (cells_seen false s) ≡ total_words k'.cells = ap total_words (end-cells shapes i v s' s left e) in
    record {
      good = end-good shapes i v s' s left e;
      reached = end-reached shapes i v s' s left marks 0 i.minors fulls e;
      moved = end-moved shapes i v s' s left marks 0 i.minors fulls e;
      room = ⊎_elim
          (λ (full : s.here.size - total_words k'.cells < v.heap.asked). inr (tenured, omega (arith, size, total, full)))
          (λ (fits : v.heap.asked ≤ s.here.size - total_words k'.cells). inl (omega (arith, free, fits)))
          (cases_lt (s.here.size - total_words k'.cells) v.heap.asked);
      counted = (
        ap (λ (u : Remembering). u.heap.minors) f.view ∙ sym (cond-false (is_minor v.heap) (counted v.heap.minors) v.heap.minors f.full),
        count ∙ ap (λ (u : Remembering). counted u.heap.fulls) f.view ∙ sym (cond-false (is_minor v.heap) v.heap.fulls (counted v.heap.fulls) f.full),
      );
      halves = record {
        base = ap (λ (x : Space). x.base) f.filled ∙ other s' f.keeping.placed ∙ ap (λ n. other_base n) (f.traced.grows.left_base ∙ ap (λ (u : Remembering). u.heap.base) f.view) ∙ sym (cond-false (is_minor v.heap) v.heap.base (other_base v.heap.base) f.full);
        young = ap total_words f.empty;
      };
      fits = end-fits shapes i v s' s left marks 0 i.minors fulls e;
      forgotten = clear;
      cost = omega (arith, cost, was, now, pointers, watched);
    }
  where
    other : (s : Spaces) → ArePlaced s → s.there.base ≡ other_base s.here.base
    other s p = ⊎_elim
        (λ (q : (s.here.base ≡ first_base) × (s.there.base ≡ second_base)). q.1 ∙ sym (ap (λ n. other_base n) q.0))
        (λ (q : (s.here.base ≡ second_base) × (s.there.base ≡ first_base)). q.1 ∙ sym (ap (λ n. other_base n) q.0))
        p.bases

-- ---- what a minor one knew of the old cells

pub collecting-told : (i : Inside) (v : Remembering) → IsGenerations i → seen i ≡ v → v.heap.is_open ≡ true → AreCollecting i.spaces
collecting-told i v h view opened = collecting i h (ap (λ (u : Remembering). u.heap.is_open) view ∙ opened)

old-words-told : (i : Inside) (v : Remembering) → IsGenerations i → seen i ≡ v → v.heap.is_open ≡ true → i.spaces.is_minor ≡ true → IsKeeping i.spaces → old_cells (minor_left i.spaces) i.spaces.here ≡ v.heap.cells → old_words v.heap ≡ i.spaces.tenured
old-words-told i v h view opened m k cells =
    let s = i.spaces in
    let f = s.found.value.cells in
    let y = s.nursery.cells in
    let total : total_words v.heap.cells ≡ total_words (stayed f) + total_words y = ap total_words (sym cells) ∙ same-total (stayed f ++ y) (old_cells (minor_left s) s.here) (standing-layout s.here.cells (stayed f ++ y)) ∙ total-append (stayed f) y in
    let front = same-total f (stayed f) (stayed-layout f) in
    let young : v.heap.young ≡ total_words y = ap (λ (u : Remembering). u.heap.young) (sym view) in
    omega (arith, total, front, young, (k.minor m).tenured)

-- ---- the end of a minor one

pub record IsMinorEnd (shapes : List Shape) (i : Inside) (v : Remembering) (s' : Spaces) (nursery : Space) (left : Spaces) : Type 0 where
  pub invariant : IsGenerations i
  pub view : seen i ≡ v
  pub opened : v.heap.is_open ≡ true
  pub minor : is_minor v.heap ≡ true
  pub traced : AreTraced shapes i.spaces s'
  pub keeping : IsKeeping s'
  pub base : nursery.base ≡ s'.nursery.base
  pub size : nursery.size ≡ s'.nursery.size
  pub empty : nursery.cells ≡ []
  pub snapshot : left ≡ s'

abbrev pub emptied : Spaces → Space → Spaces
emptied s nursery = record s { nursery = nursery }

pub mode-seen : (i : Inside) (v : Remembering) → IsGenerations i → seen i ≡ v → v.heap.is_open ≡ true → is_minor v.heap ≡ i.spaces.is_minor
mode-seen i v h view opened =
    let there = ap (λ (u : Remembering). u.heap.is_open) view ∙ opened in
    ap (λ (u : Remembering). is_minor u.heap) (sym view) ∙ ap (λ b. is_minor (heap_seen b i.spaces i.left.value i.remembered i.asked i.minors i.fulls)) there ∙ h.mode there

pub mode-told : (i : Inside) (v : Remembering) (b : Bool) → IsGenerations i → seen i ≡ v → v.heap.is_open ≡ true → is_minor v.heap ≡ b → i.spaces.is_minor ≡ b
mode-told i v b h view opened is =
    let there = ap (λ (u : Remembering). u.heap.is_open) view ∙ opened in
    sym (h.mode there) ∙ ap (λ b. is_minor (heap_seen b i.spaces i.left.value i.remembered i.asked i.minors i.fulls)) (sym there) ∙ ap (λ (u : Remembering). is_minor u.heap) view ∙ is

is-minor : (shapes : List Shape) (i : Inside) (v : Remembering) (s' : Spaces) (nursery : Space) (left : Spaces) → IsMinorEnd shapes i v s' nursery left → i.spaces.is_minor ≡ true
is-minor shapes i v s' nursery left e = mode-told i v true e.invariant e.view e.opened e.minor

was-minor : (shapes : List Shape) (i : Inside) (v : Remembering) (s' : Spaces) (nursery : Space) (left : Spaces) → IsMinorEnd shapes i v s' nursery left → s'.is_minor ≡ true
was-minor shapes i v s' nursery left e = still-minor i.spaces s' e.keeping.placed e.traced.grows (is-minor shapes i v s' nursery left e)

pub minor-end : (shapes : List Shape) (i : Inside) (v : Remembering) (s' : Spaces) (nursery : Space) (left : Spaces) → IsMinorEnd shapes i v s' nursery left → IsEnd shapes i v s' (emptied s' nursery) left
minor-end shapes i v s' nursery left e =
    let kept = kept-minor s' (was-minor shapes i v s' nursery left e) in
    record {
      invariant = e.invariant;
      view = e.view;
      opened = e.opened;
      traced = e.traced;
      here = sym kept;
      empty = e.empty;
      snapshot = e.snapshot;
      placed = still-placed s' (emptied s' nursery) (record { here_base = refl; here_size = refl; nursery_base = e.base; nursery_size = e.size; there_base = refl; there_size = refl }) e.keeping.placed;
      size = ap (λ (k : Space). k.size) kept ∙ e.traced.grows.left_size;
    }

all-tenured : (h : Heap) → h.tenured ≡ unasked h → is_minor h ≡ true → h.tenured ≡ old_starts h.cells
all-tenured h is minor = is ∙ ap (λ b. cond b (old_starts h.cells) []) minor

fits-then : (h : Heap) → is_minor h ≡ true → h.asked + total_words h.cells ≤ h.size
fits-then h minor = leb-true (h.asked + total_words h.cells) h.size (and_parts (ltb 0 h.nursery) (leb (h.asked + total_words h.cells) h.size) minor).1

pub minor-finishes : (shapes : List Shape) (i : Inside) (v : Remembering) (s' : Spaces) (nursery : Space) (left : Spaces) (marks : List Bool) (minors before after : ℕ) → IsMinorEnd shapes i v s' nursery left → minors ≡ counted i.minors → AreForgotten marks
    → after + tenured_pointers shapes (old_cells (minor_left i.spaces) i.spaces.here) i.spaces.found.value.cells + total_words i.spaces.here.cells
    ≡ before + marked_count (take i.spaces.tenured i.remembered) + met shapes (left_of s') (kept_of s') ((kept_of s').base + total_words (kept_of s').cells) + total_words (kept_of s').cells
    → Finishes shapes v (record { heap = heap_seen false (emptied s' nursery) left marks 0 minors i.fulls; remembered = marks }) before after
minor-finishes shapes i v s' nursery left marks minors before after f count clear cost =
    let e = minor-end shapes i v s' nursery left f in
    let s = emptied s' nursery in
    let l = left_of i.spaces in
    let k = kept_of i.spaces in
    let l' = left_of s' in
    let k' = kept_of s' in
    let m = is-minor shapes i v s' nursery left f in
    let m' = was-minor shapes i v s' nursery left f in
    let fin = end-finished shapes i v s' s left e in
    let cells = old-cells shapes i v s' s left e in
    let list = old-moves shapes i v s' s left e in
    let list' = end-moves shapes i v s' s left e in
    let old : old_cells (minor_left i.spaces) i.spaces.here ≡ v.heap.cells = fore-minor (λ l k. old_cells l k ≡ v.heap.cells) i.spaces m cells in
    let now-cells : old_cells (minor_left s') s'.here ≡ v.heap.cells = fore-minor (λ l k. old_cells l k ≡ v.heap.cells) s' m' (fin.grows.same_cells ∙ cells) in
    let keeping = (collecting-told i v f.invariant f.view f.opened).keeping in
    let ten' = f.keeping.minor m' in
    let tenured : v.heap.tenured ≡ starts_of s'.found.value.cells =
    all-tenured v.heap (ap (λ (u : Remembering). u.heap.tenured) (sym f.view) ∙ ap (λ (u : Remembering). unasked u.heap) f.view) f.minor
    ∙ ap old_starts (sym now-cells) ∙ tenured-starts s' m' f.keeping in
    let front : tenured_pointers shapes v.heap.cells s'.found.value.cells ≡ tenured_pointers shapes (old_cells (minor_left i.spaces) i.spaces.here) i.spaces.found.value.cells =
    by-starts shapes v.heap.cells s'.found.value.cells i.spaces.found.value.cells (sym tenured ∙ all-tenured v.heap (ap (λ (u : Remembering). u.heap.tenured) (sym f.view) ∙ ap (λ (u : Remembering). unasked u.heap) f.view) f.minor ∙ ap old_starts (sym old) ∙ tenured-starts i.spaces m keeping)
    ∙ ap (λ cs. tenured_pointers shapes cs i.spaces.found.value.cells) (sym old) in
    let words : old_words v.heap ≡ i.spaces.tenured = old-words-told i v f.invariant f.view f.opened m keeping old in
    let watched : v.heap.watched ≡ marked_count (take i.spaces.tenured i.remembered) =
    ap (λ (u : Remembering). u.heap.watched) (sym f.view) ∙ ap (λ (u : Remembering). cond (is_minor u.heap) (marked_count (take (old_words u.heap) i.remembered)) 0) f.view ∙ ap (λ b. cond b (marked_count (take (old_words v.heap) i.remembered)) 0) f.minor ∙ ap (λ n. marked_count (take n i.remembered)) words in
    let was : kept_words v.heap.cells v.heap.moves ≡ total_words k.cells = ap (λ cs. kept_words cs v.heap.moves) (sym cells) ∙ ap (λ ms. kept_words (old_cells l k) ms) (sym list) ∙ words-told l k f.traced.before.tracing in
    let here : total_words k.cells ≡ total_words i.spaces.here.cells = ap (λ (x : Space). total_words x.cells) (kept-minor i.spaces m) in
    let now : kept_words v.heap.cells (moves_seen false s left) ≡ total_words k'.cells =
    ap (λ cs. kept_words cs (moves_seen false s left)) (sym (fin.grows.same_cells ∙ cells)) ∙ ap (λ ms. kept_words (old_cells l' k') ms) (sym list') ∙ words-told l' k' f.traced.tracing in
    let traces' = fore-minor IsTracing s' m' f.traced.tracing in
    let pointers : met shapes l' k' (k'.base + total_words k'.cells) ≡ tenured_pointers shapes v.heap.cells s'.found.value.cells + kept_pointers shapes v.heap.cells v.heap.tenured (moves_seen false s left) =
    back-minor (λ l k. met shapes l k (k.base + total_words k.cells) ≡ tenured_pointers shapes (old_cells (minor_left s') s'.here) s'.found.value.cells + kept_pointers shapes (old_cells (minor_left s') s'.here) (starts_of s'.found.value.cells) (moves l k)) s' m' (tenured-counted shapes s' m' traces' f.keeping)
    ∙ ap (λ cs. tenured_pointers shapes cs s'.found.value.cells + kept_pointers shapes cs (starts_of s'.found.value.cells) (moves l' k')) now-cells
    ∙ ap (λ ts. tenured_pointers shapes v.heap.cells s'.found.value.cells + kept_pointers shapes v.heap.cells ts (moves l' k')) (sym tenured)
    ∙ ap (λ ms. tenured_pointers shapes v.heap.cells s'.found.value.cells + kept_pointers shapes v.heap.cells v.heap.tenured ms) list' in
    let size : s.here.size ≡ v.heap.size = end-size shapes i v s' s left e ∙ ap (λ (u : Remembering). u.heap.size) f.view in
    let free = end-free shapes i v s' s left marks 0 minors i.fulls e in
    let few : total_words k'.cells ≤ total_words v.heap.cells = kept-few l' k' v.heap.cells f.traced.tracing (fin.grows.same_cells ∙ cells) in
    record {
      good = end-good shapes i v s' s left e;
      reached = end-reached shapes i v s' s left marks 0 minors i.fulls e;
      moved = end-moved shapes i v s' s left marks 0 minors i.fulls e;
      room = inl (omega (arith, free, size, few, fits-then v.heap f.minor));
      counted = (
        count ∙ ap (λ (u : Remembering). counted u.heap.minors) f.view ∙ sym (cond-true (is_minor v.heap) (counted v.heap.minors) v.heap.minors f.minor),
        ap (λ (u : Remembering). u.heap.fulls) f.view ∙ sym (cond-true (is_minor v.heap) v.heap.fulls (counted v.heap.fulls) f.minor),
      );
      halves = record {
        base = f.traced.grows.left_base ∙ ap (λ (u : Remembering). u.heap.base) f.view ∙ sym (cond-true (is_minor v.heap) v.heap.base (other_base v.heap.base) f.minor);
        young = ap total_words f.empty;
      };
      fits = end-fits shapes i v s' s left marks 0 minors i.fulls e;
      forgotten = clear;
      cost = sums after before _ _ _ _ _ _ _ _ _ _ _ cost was now pointers watched here front;
    }
  where
    sums : (after before p h count met2 k2 kw w w2 kp q t : ℕ) → after + p + h ≡ before + count + met2 + k2 → w ≡ t → w2 ≡ k2 → met2 ≡ q + kp → kw ≡ count → t ≡ h → q ≡ p → after + w ≡ before + kw + kp + w2
    sums after before p h count met2 k2 kw w w2 kp q t e a b c d f g = omega arith

    kept-few : (l k : Space) (cs : List Cell) → IsTracing l k → old_cells l k ≡ cs → total_words k.cells ≤ total_words cs
    kept-few l k cs t e = let total = kept-total l k t in let le = kept-le (moves l k) (old_cells l k) in omega (arith, total.0, t.counted, le, ap total_words e)
