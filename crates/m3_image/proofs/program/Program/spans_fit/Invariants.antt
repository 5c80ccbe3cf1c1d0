use Rattle.std.proofs.Common.{◌≡◌}
use Rattle.std.specs.List.{list_all}
use Rattle.m3_image.specs.Programs.{span_fits}
use Rattle.m3_image_sections.specs.PartViews.{pairs_of}
use Rattle.m3_image.specs.Views.{program_view}
use Rattle.m3_image.proofs.program.Program.spans_fit.Given as goal

abbrev pub invariant-loop-instr : goal.invariant-loop-instr
invariant-loop-instr l = list_all (span_fits (program_view l.self) l.proc) (pairs_of l.instr-iterator) ≡ list_all (span_fits (program_view l.self) l.proc) (pairs_of l.fn.spans)
