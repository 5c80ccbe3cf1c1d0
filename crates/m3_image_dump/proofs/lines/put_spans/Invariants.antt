use Rattle.std.proofs.Common.{◌≡◌, ◌++◌}
use Rattle.std.specs.List.{flat_map}
use Rattle.m3_image_sections.specs.PartViews.{pairs_of}
use Rattle.m3_image_dump.specs.Texts.{span_word}
use Rattle.m3_image_dump.proofs.lines.put_spans.Given as goal

abbrev pub invariant-spans : goal.invariant-spans
invariant-spans l = l.text.items ++ flat_map span_word (pairs_of l.instr-iterator) ≡ l.fn.text.items ++ flat_map span_word (pairs_of l.fn.spans)
