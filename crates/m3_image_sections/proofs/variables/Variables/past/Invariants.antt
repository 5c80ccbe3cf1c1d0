use Rattle.std.proofs.Common.{◌≡◌, ◌-◌}
use Rattle.m3_image_sections.specs.Fields.{past_many}
use Rattle.m3_image_sections.specs.Parts.{variable_at}
use Rattle.m3_image_sections.proofs.variables.Variables.past.Given as goal

abbrev pub invariant-loop : goal.invariant-loop
invariant-loop l = past_many variable_at (l.count - l.counter) l.rest ≡ past_many variable_at l.count l.bytes
