use Rattle.std.proofs.Common.{◌≡◌, ◌++◌, take}
use Rattle.std.specs.List.{flat_map, AllByRecursion}
use Rattle.m3_image_sections.specs.Parts.{pair_in}
use Rattle.m3_image_writer.specs.Fields.{place_bytes}
use Rattle.m3_image_writer.specs.Again.{ReadsFixed}
use Rattle.m3_image_writer.proofs.sections.put_each_place.Given as goal

abbrev pub invariant-loop-file : goal.invariant-loop-file
invariant-loop-file l =
    record {
      bytes : l.out.items ≡ l.fn.out.items ++ flat_map place_bytes (take l.file-index l.places);
      again : AllByRecursion (λ place. ReadsFixed 8 pair_in (place_bytes place) place) (take l.file-index l.places);
    }
