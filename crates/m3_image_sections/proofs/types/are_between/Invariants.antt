use Rattle.std.proofs.Common.{◌≡◌}
use Rattle.std.specs.List.{list_all}
use Rattle.m3_tables.specs.Sections.{is_between}
use Rattle.m3_tables.specs.Views.{numbers_of}
use Rattle.m3_image_sections.proofs.types.are_between.Given as goal

abbrev pub invariant-loop-offset : goal.invariant-loop-offset
invariant-loop-offset l = list_all (is_between l.lowest l.limit) (numbers_of l.offset-iterator) ≡ list_all (is_between l.lowest l.limit) (numbers_of l.fn.offsets)
