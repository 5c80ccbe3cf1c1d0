use Rattle.std.proofs.Common.{◌<◌, ℕ}
use Rattle.m3_mid_valid.specs.WellFormed.{IsSlot}
use Rattle.m3_mid_valid.proofs.procs.are_slots_well.Given as goal

abbrev pub invariant-loop-slot : goal.invariant-loop-slot
invariant-loop-slot l = (s : ℕ) → s < l.slot → IsSlot l.p s
