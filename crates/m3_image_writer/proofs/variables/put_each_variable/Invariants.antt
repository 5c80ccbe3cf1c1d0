use Rattle.std.proofs.Common.{◌≡◌, ◌++◌, take}
use Rattle.std.specs.List.{flat_map, AllByRecursion}
use Rattle.m3_image_sections.specs.Parts.{variable_at}
use Rattle.m3_image_writer.specs.Variables.{var_bytes}
use Rattle.m3_image_writer.specs.Views.{variable_of}
use Rattle.m3_image_writer.specs.Again.{Reads}
use Rattle.m3_image_writer.proofs.variables.put_each_variable.Given as goal

abbrev pub invariant-loop-variable : goal.invariant-loop-variable
invariant-loop-variable l =
    record {
      bytes : l.out.items ≡ l.fn.out.items ++ flat_map var_bytes (take l.variable-index l.variables);
      again : AllByRecursion (λ v. Reads variable_at (var_bytes v) (variable_of v)) (take l.variable-index l.variables);
    }
