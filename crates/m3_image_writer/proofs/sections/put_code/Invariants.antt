use Rattle.std.proofs.Common.{◌≡◌, take}
use Rattle.std.specs.List.{flat_map}
use Rattle.m3_isa.specs.CodeBytes.{bytes_of}
use Rattle.m3_image_writer.proofs.AgainImage.{AreInstructions}
use Rattle.m3_image_writer.proofs.sections.put_code.Given as goal

abbrev pub invariant-loop-instr : goal.invariant-loop-instr
invariant-loop-instr l =
    record {
      bytes : l.section.items ≡ flat_map bytes_of (take l.instr-index l.code);
      again : AreInstructions (take l.instr-index l.code);
    }
