use Rattle.std.proofs.Common.{◌≡◌, true}
use Rattle.m3_tables.specs.Sections.{is_tidy, are_free}
use Rattle.m3_tables.proofs.row.Row.registers_are_free.Given as goal

abbrev pub invariant-loop-register : goal.invariant-loop-register
invariant-loop-register l = are_free (is_tidy l.self.section.bytes.now l.self.number) l.register ≡ true
