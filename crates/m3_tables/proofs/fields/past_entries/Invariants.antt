use Rattle.std.proofs.Common.{◌≡◌, ◌-◌}
use Rattle.m3_tables.specs.Fields.{past_entries}
use Rattle.m3_tables.proofs.fields.past_entries.Given as goal

abbrev pub invariant-loop : goal.invariant-loop
invariant-loop l = past_entries (l.count - l.counter) l.rest ≡ past_entries l.count l.bytes
