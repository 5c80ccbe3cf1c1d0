use Rattle.m3_heap.proofs.MarksLemmas.{length-marks_in, unmarked-zero}
use Rattle.std.proofs.Common.{arith}
use Rattle.std.proofs.lemmas.Grind.{common_steps}
use Rattle.m3_heap.proofs.marks.Marks.new.Goals as goal

pub returns-clause-length : goal.returns-clause-length
returns-clause-length c = length-marks_in _ _

pub returns-clause-clear : goal.returns-clause-clear
returns-clause-clear c = λ k. unmarked-zero _ _ k (λ low. grind (arith, common_steps))
