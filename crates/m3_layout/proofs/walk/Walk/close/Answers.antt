use Rattle.std.proofs.Common.{arith}
use Rattle.m3_layout.proofs.Noting.{noted, whole_run}
use Rattle.m3_layout.proofs.walk.Walk.close.Goals as goal

pub returns-clause-known : goal.returns-clause-known
returns-clause-known c =
    let nodes = c.args.types.now.graph.nodes.items in
    noted nodes c.args.self.now.offsets.items c.args.self.now.runs c.insert.new.self c.args.whole.kind.0 _ c.in_ok-insert.ensures.updates.0 c.requires.known
    (whole_run nodes c.args.self.now.offsets.items c.args.whole c.len.result (omega arith) c.requires.open)
