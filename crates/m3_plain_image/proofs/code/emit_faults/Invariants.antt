use Rattle.std.proofs.Common.{◌≡◌, ◌-◌, ◌++◌}
use Rattle.m3_plain_image.specs.Code.{faults_code}
use Rattle.m3_plain_image.proofs.code.emit_faults.Given as goal

-- the faults so far, and those that are left, are all of them
abbrev pub invariant-loop-place : goal.invariant-loop-place
invariant-loop-place l = l.instructions.items ++ faults_code l.place (l.count - l.place) ≡ l.fn.instructions.items ++ faults_code 0 l.count
