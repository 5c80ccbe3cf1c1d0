use Rattle.std.proofs.Common.{refl}
use Rattle.m3_types_subtype.proofs.Stepping.{adds_step, bound_step}
use Rattle.m3_types_subtype.proofs.upward.add_bound.Goals as goal

pub returns-in_ok-add-clause-adds : goal.returns-in_ok-add-clause-adds
returns-in_ok-add-clause-adds c = λ reveals has.
    let r = c.args.reveal.now in
    adds_step c.args.nodes.now reveals c.args.view c.args.x r.bound.0 c.args.reached.now.places.items c.add.new.self.places.items c.in_ok-add.ensures.adds (bound_step c.args.nodes.now reveals c.args.view c.args.x r has (c.if-reveal-view.false, c.if-reveal-x.false, c.if-is_opaque_at.ensures.0 refl))
