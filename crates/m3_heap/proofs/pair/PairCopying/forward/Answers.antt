use Rattle.std.proofs.Common.{arith}
use Rattle.m3_heap.specs.CollectorMoving.{Forwards}
use Rattle.m3_heap.proofs.MovingLemmas.{can-move, forwards}
use Rattle.m3_heap.proofs.pair.PairCopying.forward.Given as given
use Rattle.m3_heap.proofs.pair.PairCopying.forward.Goals as goal

pub move_cell-requires : goal.move_cell-requires
move_cell-requires g c = can-move c.args.self.now.here c.args.self.now.there c.args.word c.requires.tracing

moved : (g : given.Over) (c : goal.After-move_cell g) → Forwards c.args.self.now.here c.args.self.now.there c.move_cell.new.self c.move_cell.new.to c.args.word c.move_cell.result c.args.steps.now c.move_cell.new.steps
moved g c = forwards c.args.self.now.here c.args.self.now.there _ _ c.args.word c.args.steps.now _ _ c.requires.tracing (omega arith) c.move_cell.ensures

pub returns-clause-none : goal.returns-clause-none
returns-clause-none g c = (moved g c).none

pub returns-clause-value : goal.returns-clause-value
returns-clause-value g c = (moved g c).value

pub returns-clause-kept : goal.returns-clause-kept
returns-clause-kept g c = (moved g c).keeps

pub returns-clause-cost : goal.returns-clause-cost
returns-clause-cost g c = (moved g c).cost
