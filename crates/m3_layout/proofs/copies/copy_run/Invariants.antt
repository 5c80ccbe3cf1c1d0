use Rattle.std.proofs.Common.{◌≡◌, ◌+◌, ◌-◌, ◌*◌, ◌++◌, map}
use Rattle.m3_layout.specs.Pointers.{element_pointers}
use Rattle.m3_layout.specs.Walking.{run_of}
use Rattle.m3_layout.proofs.copies.copy_run.Given as goal

abbrev pub invariant-loop-copy : goal.invariant-loop-copy
invariant-loop-copy l = record {
  offsets : l.offsets.items ≡ l.initial.offsets.items ++ element_pointers l.words (λ k. map (λ p. p - l.run.at + k) (run_of l.initial.offsets.items l.run)) l.at l._copy;
  next : l.next ≡ l.at + l._copy * l.words;
}
