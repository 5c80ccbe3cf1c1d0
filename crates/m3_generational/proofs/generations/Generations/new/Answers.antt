use Rattle.std.proofs.Common.{false, ap, ◌∙◌}
use Rattle.m3_heap.specs.CollectorSpace.{Space}
use Rattle.m3_generational.specs.Collecting.{kept_of}
use Rattle.m3_generational.specs.declared.spaces.Spaces.{Spaces}
use Rattle.m3_generational.proofs.HeapLemmas.{made}
use Rattle.m3_generational.proofs.generations.Generations.new.Goals as goal

pub returns-clause-heap : goal.returns-clause-heap
returns-clause-heap c =
    made (record { here = c.in_ok-here.here; there = c.in_ok-there.there; nursery = c.in_ok-nursery.nursery; is_minor = false; tenured = 0; found = c.of-found.result }) c.of-left.result.value c.in_ok-remembered.remembered c.args.words
    (ap (λ (s : Space). s.base) c.in_ok-here.ensures) (ap (λ (s : Space). s.size) c.in_ok-here.ensures) (ap (λ (s : Space). s.cells) c.in_ok-here.ensures)
    (ap (λ (s : Space). s.cells) c.in_ok-nursery.ensures) (ap (λ (s : Space). s.size) c.in_ok-nursery.ensures)
    (ap (λ (s : Spaces). (kept_of s).cells) c.of-left.ensures ∙ ap (λ (s : Space). s.cells) c.in_ok-there.ensures)
