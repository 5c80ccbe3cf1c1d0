use Rattle.std.proofs.Common.{◌≡◌, ◌++◌, take}
use Rattle.std.specs.List.{flat_map, AllByRecursion}
use Rattle.m3_image_sections.specs.Parts.{pair_in}
use Rattle.m3_image_writer.specs.Variables.{span_bytes}
use Rattle.m3_image_writer.specs.Views.{span_of}
use Rattle.m3_image_writer.specs.Again.{ReadsFixed}
use Rattle.m3_image_writer.proofs.variables.put_spans.Given as goal

abbrev pub invariant-loop-instr : goal.invariant-loop-instr
invariant-loop-instr l =
    record {
      bytes : l.out.items ≡ l.fn.out.items ++ flat_map span_bytes (take l.instr-index l.spans);
      again : AllByRecursion (λ span. ReadsFixed 8 pair_in (span_bytes span) (span_of span)) (take l.instr-index l.spans);
    }
