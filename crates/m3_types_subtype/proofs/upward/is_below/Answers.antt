use Rattle.std.proofs.Common.{◌<◌, length, All, sym, subst, arith}
use Rattle.std.proofs.lemmas.List.Elements.{All-nil}
use Rattle.m3_types_subtype.specs.Subtypes.{Directly, Steps, start}
use Rattle.m3_types_subtype.specs.Heights.{AreHeights}
use Rattle.m3_types_subtype.specs.Reaching.{IsDone}
use Rattle.m3_types_subtype.proofs.Adding.{has_stays, all_added}
use Rattle.m3_types_subtype.proofs.Comparing.{at_place}
use Rattle.m3_types_subtype.proofs.Closure.{reaches_subtype}
use Rattle.m3_types_subtype.proofs.Exhausting.{extends_longer, done_more, all_done, no_subtype}
use Rattle.m3_types_subtype.proofs.upward.is_below.Goals as goal

pub loop-next-init : goal.loop-next-init
loop-next-init c =
    let P = Steps c.args.graph.now.nodes.items c.args.graph.now.reveals.items c.args.view c.args.a in
    let old = c.new-reached.result.places.items in
    let new = c.add.new.self.places.items in
    record {
      heights = subst (λ ns. AreHeights ns c.tell.new.self.known) c.deref.ensures.value c.in_ok-goal.ensures.kept;
      kept = c.in_ok-add.ensures.kept;
      first = c.in_ok-add.ensures.has;
      place = omega arith;
      sound = all_added P c.args.a old new c.in_ok-add.ensures.adds start (subst (All P) (sym c.new-reached.ensures.none) (All-nil P));
      done = All-nil (IsDone c.args.graph.now.nodes.items c.args.graph.now.reveals.items c.args.view c.args.b new);
    }

pub returns-then-branch-clause-yes : goal.returns-then-branch-clause-yes
returns-then-branch-clause-yes c = λ t.
    let nodes = c.args.graph.now.nodes.items in
    let reveals = c.args.graph.now.reveals.items in
    let view = c.args.view in
    let a = c.args.a in
    let x = c.index-x.result.now in
    let steps = at_place (Steps nodes reveals view a) c.loop-next.reached.places.items c.loop-next.next x c.loop-next.invariant.sound (omega arith) c.index-x.ensures in
    reaches_subtype nodes reveals view a c.args.b (x, (steps, subst (λ ns. Directly ns x c.args.b) c.deref-in-loop-next-2.ensures.value (c.in_ok-meets.ensures.yes c.if-branch.true)))

pub loop-next-preserved : goal.loop-next-preserved
loop-next-preserved c =
    let nodes = c.args.graph.now.nodes.items in
    let reveals = c.args.graph.now.reveals.items in
    let view = c.args.view in
    let a = c.args.a in
    let x = c.index-x.result.now in
    let was = c.loop-next.invariant in
    let e = c.in_ok-add_steps.ensures in
    let old = c.loop-next.reached.places.items in
    let new = c.add_steps.new.reached.places.items in
    let next = c.loop-next.next in
    let l : next < length old = omega arith in
    let steps = at_place (Steps nodes reveals view a) old next x was.sound l c.index-x.ensures in
    record {
      heights = subst (λ ns. AreHeights ns c.tell-in-loop-next.new.self.known) c.deref-in-loop-next.ensures.value c.in_ok-height.ensures.kept;
      kept = e.kept;
      first = has_stays old new a e.adds.extends was.first;
      place = omega (arith, extends_longer old new e.adds.extends);
      sound = e.adds.sound a steps was.sound;
      done = done_more nodes reveals view c.args.b old new next x e.adds.extends l c.index-x.ensures was.done (record { closed = e.all; apart = subst (λ ns. Directly ns x c.args.b → ⊥) c.deref-in-loop-next-2.ensures.value (c.in_ok-meets.ensures.no c.if-branch.false) });
    }

pub returns-clause-no : goal.returns-clause-no
returns-clause-no c = λ t.
    let nodes = c.args.graph.now.nodes.items in
    let reveals = c.args.graph.now.reveals.items in
    let view = c.args.view in
    let places = c.loop-next.reached.places.items in
    no_subtype nodes reveals view c.args.b places c.args.a c.loop-next.invariant.first (all_done nodes reveals view c.args.b places c.loop-next.next (omega arith) c.loop-next.invariant.done)
