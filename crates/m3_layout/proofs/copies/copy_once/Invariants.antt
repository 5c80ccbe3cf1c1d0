use Rattle.std.proofs.Common.{◌≡◌, ◌+◌, ◌-◌, ◌++◌, map, take, drop}
use Rattle.m3_layout.proofs.copies.copy_once.Given as goal

abbrev pub invariant-loop-i : goal.invariant-loop-i
invariant-loop-i l = l.offsets.items ≡ l.initial.offsets.items ++ map (λ p. p - l.run.at + l.at) (take l.i (drop l.run.start l.initial.offsets.items))
