use Rattle.std.proofs.Common.{sym}
use Rattle.m3_types_subtype.specs.Subtypes.{up}
use Rattle.m3_types_subtype.proofs.Stepping.{adds_step}
use Rattle.m3_types_subtype.proofs.upward.add_named.Goals as goal

pub returns-in_ok-add-clause-adds : goal.returns-in_ok-add-clause-adds
returns-in_ok-add-clause-adds c = λ reveals view.
    adds_step c.args.nodes.now reveals view c.args.x c.in-Some.above.0 c.args.reached.now.places.items c.add.new.self.places.items c.in_ok-add.ensures.adds (up (sym c.in-Some.ensures))
