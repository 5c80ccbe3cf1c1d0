-- What a word that is set leaves as it was, once and again.
use Rattle.std.specs.Prelude.{◌≡◌, ℕ}
use Rattle.std.proofs.Common.{refl, ap, ◌∙◌}
use Rattle.m3_heap.specs.Heap.{Heap, HasOtherWords}

pub keeps_itself : (heap : Heap) → HasOtherWords heap heap
keeps_itself heap = record { same_layout = refl; rest = refl; watched = λ e. refl }

again : Heap → Heap → Heap
again heap new = record heap { cells = new.cells; watched = new.watched }

pub keeps_on : (s t u : Heap) → HasOtherWords s t → HasOtherWords t u → HasOtherWords s u
unfolding again
keeps_on s t u p q = record {
  same_layout = q.same_layout ∙ p.same_layout;
  rest = q.rest ∙ ap (λ (h : Heap). again h u) p.rest;
  watched = λ e. q.watched (ap (λ (h : Heap). h.nursery) p.rest ∙ e) ∙ p.watched e;
}
