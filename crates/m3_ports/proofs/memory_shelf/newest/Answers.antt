use Rattle.std.proofs.Common.{ap, sym, ◌∙◌, nat_eq}
use Rattle.std.specs.Ordering.{nat_cmp}
use Rattle.std.specs.Cmp.Lexicographic.{slice_cmp, nat_list_cmp_total, pointwise}
use Rattle.std.specs.FinMap.{find, get-from_entries}
use Rattle.std.specs.VecDeque.Iter.{deque_iter_rest}
use Rattle.m3_ports.proofs.Newest.{find-here, find-later}
use Rattle.m3_ports.proofs.memory_shelf.newest.Goals as goal

pub loop-held-init : goal.loop-held-init
loop-held-init c =
    get-from_entries nat_list_cmp_total _ _
    ∙ ap (find (slice_cmp nat_cmp) c.args.name.now) (sym c.into_iter-held-iterator.ensures.into_iter_gives.0)

pub returns-then-eq : goal.returns-then-eq
returns-then-eq c =
    let tested = ap (pointwise nat_eq c.args.name.now) (sym c.as_slice.ensures) ∙ sym c.eq.ensures ∙ c.if-eq.true in
    sym (c.loop-held.invariant ∙ ap (find (slice_cmp nat_cmp) c.args.name.now) c.in-Some.ensures.steps ∙ find-here c.args.name.now c.in-Some.field-0.now.0 c.in-Some.field-0.now.1 (deque_iter_rest c.next.new.self) tested)

pub loop-held-preserved : goal.loop-held-preserved
loop-held-preserved c =
    let tested = ap (pointwise nat_eq c.args.name.now) (sym c.as_slice.ensures) ∙ sym c.eq.ensures ∙ c.if-eq.false in
    c.loop-held.invariant ∙ ap (find (slice_cmp nat_cmp) c.args.name.now) c.in-Some.ensures.steps ∙ find-later c.args.name.now c.in-Some.field-0.now.0 c.in-Some.field-0.now.1 (deque_iter_rest c.next.new.self) tested
