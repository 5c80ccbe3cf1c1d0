use Rattle.std.proofs.Common.{◌≡◌, ◌∷◌, map}
use Rattle.m3_tables.specs.Numbers.{rises}
use Rattle.m3_image_sections.specs.PartViews.{pairs_of}
use Rattle.m3_image_sections.proofs.variables.VarView.rises.Given as goal

abbrev pub invariant-loop-instr : goal.invariant-loop-instr
invariant-loop-instr l = rises (l.last ∷ map (λ s. s.0) (pairs_of l.instr-iterator)) ≡ rises (map (λ s. s.0) (pairs_of l.self.spans))
