use Rattle.std.proofs.Common.{arith}
use Rattle.m3_generational.proofs.ForwardLemmas.{young-needs, young-needs-full, old-needs, young-forwarded, young-forwarded-full, old-forwarded}
use Rattle.m3_generational.proofs.forwarding.forward_word.Goals as goal

pub move_cell-requires : goal.move_cell-requires
move_cell-requires g c = young-needs c.args.spaces.now c.args.word c.in-true-false.is-0 c.requires.tracing c.requires.keeping c.in-true-false.is-1

pub move_cell-requires-in-false-true : goal.move_cell-requires-in-false-true
move_cell-requires-in-false-true g c = old-needs c.args.spaces.now c.args.word c.in-false-true.is-0 c.requires.tracing c.requires.keeping c.in-false-true.is-1

pub move_cell-requires-in-false-false : goal.move_cell-requires-in-false-false
move_cell-requires-in-false-false g c = young-needs-full c.args.spaces.now c.args.word c.in-false-false.is-0 c.requires.tracing c.requires.keeping c.in-false-false.is-1

pub returns-in-true-false : goal.returns-in-true-false
returns-in-true-false g c =
    young-forwarded c.args.spaces.now c.move_cell.new.self c.move_cell.new.to c.args.word c.args.steps.now _ _ c.in-true-false.is-0 c.requires.tracing c.requires.keeping c.in-true-false.is-1 c.move_cell.ensures

pub returns-in-false-true : goal.returns-in-false-true
returns-in-false-true g c =
    old-forwarded c.args.spaces.now c.move_cell-in-false-true.new.self c.move_cell-in-false-true.new.to c.args.word c.args.steps.now _ _ c.in-false-true.is-0 c.requires.tracing c.requires.keeping (omega arith) c.in-false-true.is-1 c.move_cell-in-false-true.ensures

pub returns-in-false-false : goal.returns-in-false-false
returns-in-false-false g c =
    young-forwarded-full c.args.spaces.now c.move_cell-in-false-false.new.self c.move_cell-in-false-false.new.to c.args.word c.args.steps.now _ _ c.in-false-false.is-0 c.requires.tracing c.requires.keeping c.in-false-false.is-1 c.move_cell-in-false-false.ensures
