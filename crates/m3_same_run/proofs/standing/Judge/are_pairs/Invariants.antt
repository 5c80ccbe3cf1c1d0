use Rattle.std.proofs.Common.{◌≡◌, drop}
use Rattle.m3_same_run.specs.Whole.{pairs_with}
use Rattle.m3_same_run.proofs.standing.Judge.are_pairs.Given as goal

abbrev pub invariant-loop-pair : goal.invariant-loop-pair
invariant-loop-pair l =
    pairs_with l.self.slots.now l.self.common.now l.p l.self.right 1 l.proof (drop l.pair-index l.proof)
    ≡ pairs_with l.self.slots.now l.self.common.now l.p l.self.right 1 l.proof l.proof
