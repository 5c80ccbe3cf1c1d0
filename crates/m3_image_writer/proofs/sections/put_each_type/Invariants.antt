use Rattle.std.proofs.Common.{◌≡◌, ◌++◌, take}
use Rattle.std.specs.List.{flat_map, AllByRecursion}
use Rattle.m3_image_sections.specs.Parts.{type_at}
use Rattle.m3_image_writer.specs.Sections.{type_bytes}
use Rattle.m3_image_writer.specs.Views.{cell_type}
use Rattle.m3_image_writer.specs.Again.{Reads}
use Rattle.m3_image_writer.proofs.sections.put_each_type.Given as goal

abbrev pub invariant-loop-part : goal.invariant-loop-part
invariant-loop-part l =
    record {
      bytes : l.out.items ≡ l.fn.out.items ++ flat_map type_bytes (take l.part-index l.types);
      again : AllByRecursion (λ part. Reads type_at (type_bytes part) (cell_type part)) (take l.part-index l.types);
    }
