use Rattle.std.proofs.Common.{◌≡◌}
use Rattle.std.specs.List.{AllByRecursion}
use Rattle.m3_tables_writer.specs.Plain.{plains_of, IsRow}
use Rattle.m3_tables_tests.proofs.Forty.{plain_rows}
use Rattle.m3_tables_tests.proofs.tests.forty_rows.Given as goal

abbrev pub invariant-loop-n : goal.invariant-loop-n
invariant-loop-n l = record {
  form : AllByRecursion IsRow l.rows.items;
  plain : plains_of l.rows.items ≡ plain_rows l.n;
}
