use Rattle.std.proofs.Common.{◌≡◌, ◌-◌}
use Rattle.m3_tables.specs.Fields.{past_ways}
use Rattle.m3_tables.proofs.fields.past_ways.Given as goal

abbrev pub invariant-loop : goal.invariant-loop
invariant-loop l = past_ways (l.count - l.counter) l.rest ≡ past_ways l.count l.bytes
