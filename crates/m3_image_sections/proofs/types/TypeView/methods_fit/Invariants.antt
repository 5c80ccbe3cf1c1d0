use Rattle.std.proofs.Common.{◌≡◌}
use Rattle.std.specs.Prelude.{nat_le}
use Rattle.std.specs.List.{list_all}
use Rattle.m3_tables.specs.Views.{numbers_of}
use Rattle.m3_image_sections.proofs.types.TypeView.methods_fit.Given as goal

abbrev pub invariant-loop-method : goal.invariant-loop-method
invariant-loop-method l = list_all (λ m. nat_le m l.procs) (numbers_of l.method-iterator) ≡ list_all (λ m. nat_le m l.procs) (numbers_of l.self.methods)
