use Rattle.std.proofs.Common.{◌≡◌, ◌-◌}
use Rattle.m3_image_sections.specs.Fields.{past_many, text_at}
use Rattle.m3_image_sections.proofs.lists.past_names.Given as goal

abbrev pub invariant-loop : goal.invariant-loop
invariant-loop l = past_many text_at (l.count - l.counter) l.rest ≡ past_many text_at l.count l.bytes
