-- The end of a collection, from a heap of two halves to a heap of two halves.
use Rattle.std.proofs.Common.{List, [], ap, arith, false, inl, inr, leb, length, refl, subst, sym, true, ℕ, ⊎_elim, ◌+◌, ◌-◌, ◌<◌, ◌∙◌, ◌∷◌, ◌≡◌, ◌≤◌}
use Rattle.std.proofs.lemmas.Bool.{cases_lt, cond-true, le-leb}
use Rattle.m3_heap.specs.Cells.{Cell, layout, total_words}
use Rattle.m3_heap.specs.Shapes.{Shape}
use Rattle.m3_heap.specs.Moves.{Move, kept_starts, moved_cells, kept_words, kept_pointers}
use Rattle.m3_heap.specs.Reach.{IsReachable, HasBadPointer}
use Rattle.m3_heap.specs.Heap.{Heap, first_base, second_base, other_base, CountsOne, ChangesHalves, KeepsReached, MovesCells, MakesRoom, CostsTrace, counted}
use Rattle.m3_heap.specs.CollectorSpace.{Space}
use Rattle.m3_heap.specs.CollectorTracing.{IsCopy, old_cells, origin, moves_from, copies_of, copies, moves, IsTracing}
use Rattle.m3_heap.specs.CollectorScanning.{AreScanned, met, Scans, Grows}
use Rattle.m3_heap.specs.CollectorHalves.{semi_of, IsSemi, AreAtRest, AreMoving, semi_heap, copied_moves}
use Rattle.m3_heap.specs.declared.halves.Halves.TheInside.{Inside}
use Rattle.m3_heap.proofs.TracingLemmas.{all_map}
use Rattle.m3_heap.proofs.WordLemmas.{kept-laid, kept-total}
use Rattle.m3_heap.proofs.FinalLemmas.{IsDone, one-to-one, all-kept, reached-kept, none-bad, done-moved, done-met, done-headed}
use Rattle.m3_heap.proofs.SemiLemmas.{words-told}

pub record IsFinished (shapes : List Shape) (left kept left' kept' : Space) : Type 0 where
  pub before : AreMoving left kept
  pub tracing : IsTracing left' kept'
  pub grows : Grows left kept left' kept'
  pub scans : Scans shapes (kept_starts (moves left kept)) left' kept' (kept'.base + total_words kept'.cells)

pub done : (shapes : List Shape) (left kept left' kept' : Space) → IsFinished shapes left kept left' kept' → IsDone shapes (kept_starts (moves left kept)) left' kept' (old_cells left' kept') (copies left' kept')
done shapes left kept left' kept' f =
    let total = kept-total left' kept' f.tracing in
    let P : ℕ → Type 0 = λ n. AreScanned shapes (old_cells left' kept') (moves left' kept') (kept'.base + n) kept'.base (copies left' kept') in
    record { traces = f.tracing; scanned = subst P total.0 f.scans.scanned; reached = f.scans.reached }

pub finished-good : (shapes : List Shape) (left kept left' kept' : Space) → IsFinished shapes left kept left' kept' → HasBadPointer shapes (old_cells left kept) (kept_starts (moves left kept)) → ⊥
finished-good shapes left kept left' kept' f bad =
    let P : List Cell → Type 0 = λ cs. HasBadPointer shapes cs (kept_starts (moves left kept)) in
    none-bad shapes left' kept' (old_cells left' kept') (copies left' kept') (moves left kept) f.grows.more_moves.0 (done shapes left kept left' kept' f) f.grows.more_moves.1 (subst P (sym f.grows.same_cells) bad)

-- ---- the forwarding list, once all copies are made

all-copied : (left : List Cell) (at : ℕ) (cs : List Cell) → copied_moves left at (total_words cs) (layout cs) ≡ moves_from at (copies_of left cs)
all-copied left at [] = refl
all-copied left at (c ∷ cs) =
    let total = length c.words + total_words cs in
    let left-over : total - length c.words ≡ total_words cs = omega arith in
    cond-true (leb (length c.words) total) _ _ (le-leb (length c.words) total (omega arith))
    ∙ ap (λ n. record { from = origin left c.start; to = at } ∷ copied_moves left (at + length c.words) n (layout cs)) left-over
    ∙ ap (λ ms. record { from = origin left c.start; to = at } ∷ ms) (all-copied left (at + length c.words) cs)

-- the heap that is left, if its forwarding list is told by the copies
finished-heap : Space → Space → ℕ → ℕ → ℕ → List Move → Heap
finished-heap kept left c a f ms = record (semi_heap false kept left c a f) { moves = ms }

by-copies : (kept left : Space) (c a f : ℕ) (P : Heap → Type 0) → c ≡ total_words kept.cells → P (finished-heap kept left c a f (moves left kept)) → P (semi_heap false kept left c a f)
unfolding finished-heap
by-copies kept left c a f P e h =
    let list : moves left kept ≡ copied_moves left.cells kept.base c (layout kept.cells) = sym (all-copied left.cells kept.base kept.cells) ∙ ap (λ n. copied_moves left.cells kept.base n (layout kept.cells)) (sym e) in
    let Q : List Move → Type 0 = λ ms. P (finished-heap kept left c a f ms) in
    subst Q list h

reached-by : (shapes : List Shape) (left kept left' kept' : Space) (c a f c' a' f' : ℕ) → IsFinished shapes left kept left' kept' → KeepsReached shapes (semi_heap true left kept c a f) (finished-heap kept' left' c' a' f' (moves left' kept'))
unfolding finished-heap
reached-by shapes left kept left' kept' c a f c' a' f' fin =
    let d = done shapes left kept left' kept' fin in
    let roots = kept_starts (moves left kept) in
    let P : List Cell → ℕ → Type 0 = λ cs start. IsReachable shapes cs roots start in
    record {
      goes_on = fin.grows.more_moves;
      one_to_one = one-to-one kept'.base (copies left' kept') fin.tracing.distinct (all_map (IsCopy (old_cells left' kept')) (λ (k : Cell). 1 ≤ length k.words) (λ k c. c.some) (copies left' kept') fin.tracing.are_copies);
      reached = λ start there.
          let Q : List Cell → Type 0 = λ cs. IsReachable shapes cs roots start in
          subst Q fin.grows.same_cells (all-kept (λ n. IsReachable shapes (old_cells left' kept') roots n) kept'.base (copies left' kept') start d.reached there);
      kept = λ start r.
          let Q : List Cell → Type 0 = λ cs. IsReachable shapes cs roots start in
          reached-kept shapes left' kept' (old_cells left' kept') (copies left' kept') (moves left kept) fin.grows.more_moves.0 d fin.grows.more_moves.1 start (subst Q (sym fin.grows.same_cells) r);
    }

pub finished-reached : (shapes : List Shape) (left kept left' kept' : Space) (c a f c' a' f' : ℕ) → IsFinished shapes left kept left' kept' → c' ≡ total_words kept'.cells → KeepsReached shapes (semi_heap true left kept c a f) (semi_heap false kept' left' c' a' f')
finished-reached shapes left kept left' kept' c a f c' a' f' fin e =
    by-copies kept' left' c' a' f' (λ h. KeepsReached shapes (semi_heap true left kept c a f) h) e (reached-by shapes left kept left' kept' c a f c' a' f' fin)

moved-by : (shapes : List Shape) (left kept left' kept' : Space) (c a f c' a' f' : ℕ) → IsFinished shapes left kept left' kept' → MovesCells shapes (semi_heap true left kept c a f) (finished-heap kept' left' c' a' f' (moves left' kept'))
unfolding finished-heap
moved-by shapes left kept left' kept' c a f c' a' f' fin =
    done-moved shapes (kept_starts (moves left kept)) left' kept' (old_cells left' kept') (copies left' kept') (done shapes left kept left' kept' fin)
    ∙ ap (λ cs. moved_cells shapes cs (moves left' kept') (moves left' kept')) fin.grows.same_cells

pub finished-moved : (shapes : List Shape) (left kept left' kept' : Space) (c a f c' a' f' : ℕ) → IsFinished shapes left kept left' kept' → c' ≡ total_words kept'.cells → MovesCells shapes (semi_heap true left kept c a f) (semi_heap false kept' left' c' a' f')
finished-moved shapes left kept left' kept' c a f c' a' f' fin e =
    by-copies kept' left' c' a' f' (λ h. MovesCells shapes (semi_heap true left kept c a f) h) e (moved-by shapes left kept left' kept' c a f c' a' f' fin)

cost-by : (shapes : List Shape) (left kept left' kept' : Space) (c a f c' a' f' before after : ℕ) → IsFinished shapes left kept left' kept' → after + total_words kept.cells ≡ before + met shapes left' kept' (kept'.base + total_words kept'.cells) + total_words kept'.cells
    → CostsTrace shapes (semi_heap true left kept c a f) (finished-heap kept' left' c' a' f' (moves left' kept')) before after
unfolding finished-heap
cost-by shapes left kept left' kept' c a f c' a' f' before after fin cost =
    let was = words-told left kept fin.before.tracing in
    let now : kept_words (old_cells left kept) (moves left' kept') ≡ total_words kept'.cells = ap (λ cs. kept_words cs (moves left' kept')) (sym fin.grows.same_cells) ∙ words-told left' kept' fin.tracing in
    let pointers : met shapes left' kept' (kept'.base + total_words kept'.cells) ≡ kept_pointers shapes (old_cells left kept) [] (moves left' kept') =
    done-met shapes left' kept' fin.tracing ∙ ap (λ cs. kept_pointers shapes cs [] (moves left' kept')) fin.grows.same_cells in
    costs after before (total_words kept.cells) (total_words kept'.cells) (met shapes left' kept' (kept'.base + total_words kept'.cells)) (kept_words (old_cells left kept) (moves left kept)) (kept_words (old_cells left kept) (moves left' kept')) (kept_pointers shapes (old_cells left kept) [] (moves left' kept')) cost was now pointers
  where
    costs : (after before t t' m w w' p : ℕ) → after + t ≡ before + m + t' → w ≡ t → w' ≡ t' → m ≡ p → after + w ≡ before + 0 + p + w'
    costs after before t t' m w w' p e f g h = omega arith

pub finished-cost : (shapes : List Shape) (left kept left' kept' : Space) (c a f c' a' f' before after : ℕ) → IsFinished shapes left kept left' kept' → c' ≡ total_words kept'.cells
    → after + total_words kept.cells ≡ before + met shapes left' kept' (kept'.base + total_words kept'.cells) + total_words kept'.cells → CostsTrace shapes (semi_heap true left kept c a f) (semi_heap false kept' left' c' a' f') before after
finished-cost shapes left kept left' kept' c a f c' a' f' before after fin e cost =
    by-copies kept' left' c' a' f' (λ h. CostsTrace shapes (semi_heap true left kept c a f) h before after) e (cost-by shapes left kept left' kept' c a f c' a' f' before after fin cost)

-- what was asked for fits, or what is kept leaves no room for it
pub finished-room : (left kept left' kept' : Space) (c a f c' a' f' : ℕ) → kept'.size ≡ left.size → MakesRoom (semi_heap true left kept c a f) (semi_heap false kept' left' c' a' f')
finished-room left kept left' kept' c a f c' a' f' size = ⊎_elim
    (λ (full : kept'.size - total_words kept'.cells < a). inr (refl, omega (arith, size, full)))
    (λ (fits : a ≤ kept'.size - total_words kept'.cells). inl fits)
    (cases_lt (kept'.size - total_words kept'.cells) a)

pub finished-count : (left kept left' kept' : Space) (c a f c' a' f' : ℕ) → f' ≡ counted f → CountsOne (semi_heap true left kept c a f) (semi_heap false kept' left' c' a' f')
finished-count left kept left' kept' c a f c' a' f' one = (refl, one)

pub finished-rest : (shapes : List Shape) (left kept left' kept' : Space) → IsFinished shapes left kept left' kept' → AreAtRest kept'
finished-rest shapes left kept left' kept' fin =
    let total = kept-total left' kept' fin.tracing in
    record {
      headed = done-headed left' kept' (old_cells left' kept') (copies left' kept') fin.tracing;
      laid = kept-laid left' kept' fin.tracing;
      room = total.1;
    }

-- the halves change places
pub swapped : (semi : Inside) (left' kept' : Space) (copied asked fulls : ℕ) → IsSemi semi → Grows semi.pair.here semi.pair.there left' kept' → AreAtRest kept' → copied ≤ total_words kept'.cells → IsSemi (record { pair = record { here = kept'; there = left' }; is_open = false; copied = copied; asked = asked; fulls = fulls })
swapped semi left' kept' copied asked fulls h g rest few = record {
  bases = ⊎_elim
      (λ (p : (semi.pair.here.base ≡ first_base) × (semi.pair.there.base ≡ second_base)). inr (g.kept_base ∙ p.1, g.left_base ∙ p.0))
      (λ (p : (semi.pair.here.base ≡ second_base) × (semi.pair.there.base ≡ first_base)). inl (g.kept_base ∙ p.1, g.left_base ∙ p.0))
      h.bases;
  same_size = g.left_size ∙ sym (g.kept_size ∙ h.same_size);
  small = omega (arith, g.kept_size, h.same_size, h.small);
  as_open = (rest, few);
}

-- the other half is in use
pub changes : (semi : Inside) (left' kept' : Space) (c a f c' a' f' : ℕ) → IsSemi semi → Grows semi.pair.here semi.pair.there left' kept' → ChangesHalves (semi_heap true semi.pair.here semi.pair.there c a f) (semi_heap false kept' left' c' a' f')
changes semi left' kept' c a f c' a' f' h g = record {
  base = ⊎_elim
      (λ (p : (semi.pair.here.base ≡ first_base) × (semi.pair.there.base ≡ second_base)). g.kept_base ∙ p.1 ∙ sym (ap (λ n. other_base n) p.0))
      (λ (p : (semi.pair.here.base ≡ second_base) × (semi.pair.there.base ≡ first_base)). g.kept_base ∙ p.1 ∙ sym (ap (λ n. other_base n) p.0))
      h.bases;
  young = refl;
}

-- what holds of the heaps that the fields show
pub told : (semi : Inside) (v : Heap) (x y left' kept' : Space) (copied fulls : ℕ) → semi_of semi ≡ v → semi.is_open ≡ true → x ≡ kept' → y ≡ left' → (R : Heap → Heap → Type 0) → R (semi_heap true semi.pair.here semi.pair.there semi.copied semi.asked semi.fulls) (semi_heap false kept' left' copied 0 fulls) → R v (semi_heap false x y copied 0 fulls)
told semi v x y left' kept' copied fulls is opens ex ey R h =
    let old : semi_heap true semi.pair.here semi.pair.there semi.copied semi.asked semi.fulls ≡ v =
    ap (λ b. semi_heap b semi.pair.here semi.pair.there semi.copied semi.asked semi.fulls) (sym opens) ∙ is in
    let new : semi_heap false kept' left' copied 0 fulls ≡ semi_heap false x y copied 0 fulls =
    ap (λ s. semi_heap false s left' copied 0 fulls) (sym ex) ∙ ap (λ s. semi_heap false x s copied 0 fulls) (sym ey) in
    let P : Heap → Type 0 = λ o. R o (semi_heap false kept' left' copied 0 fulls) in
    let Q : Heap → Type 0 = λ n. R v n in
    subst Q new (subst P old h)

pub swapped-semi : (semi : Inside) (x y left' kept' : Space) (copied fulls : ℕ) → IsSemi semi → Grows semi.pair.here semi.pair.there left' kept' → AreAtRest kept' → copied ≤ total_words kept'.cells → x ≡ kept' → y ≡ left' → IsSemi (record { pair = record { here = x; there = y }; is_open = false; copied = copied; asked = 0; fulls = fulls })
swapped-semi semi x y left' kept' copied fulls h g rest few ex ey =
    let P : Space → Type 0 = λ s. IsSemi (record { pair = record { here = s; there = left' }; is_open = false; copied = copied; asked = 0; fulls = fulls }) in
    let Q : Space → Type 0 = λ s. IsSemi (record { pair = record { here = x; there = s }; is_open = false; copied = copied; asked = 0; fulls = fulls }) in
    subst Q (sym ey) (subst P (sym ex) (swapped semi left' kept' copied 0 fulls h g rest few))
