use Rattle.std.proofs.Common.{◌≡◌, ◌++◌}
use Rattle.std.specs.List.{flat_map}
use Rattle.m3_image_sections.specs.PartViews.{variables_list}
use Rattle.m3_image_decoded.specs.Ready.{image_of}
use Rattle.m3_image_dump.specs.Texts.{variable_line}
use Rattle.m3_image_dump.proofs.lines.put_variables.Given as goal

abbrev pub invariant-variables : goal.invariant-variables
invariant-variables l =
    l.text.items ++ flat_map variable_line (variables_list l.variable-iterator) ≡ l.fn.text.items ++ flat_map variable_line (image_of l.fn.image).variables
