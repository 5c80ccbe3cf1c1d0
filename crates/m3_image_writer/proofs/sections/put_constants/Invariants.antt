use Rattle.std.proofs.Common.{◌≡◌, ◌++◌, length, take}
use Rattle.std.specs.List.{flat_map}
use Rattle.m3_tables_writer.specs.Writing.{word_bytes}
use Rattle.m3_image_writer.specs.Fields.{long_bytes}
use Rattle.m3_image_writer.proofs.sections.put_constants.Given as goal

abbrev pub invariant-loop-constant : goal.invariant-loop-constant
invariant-loop-constant l = l.section.items ≡ word_bytes (length l.constants) ++ flat_map long_bytes (take l.constant-index l.constants)
