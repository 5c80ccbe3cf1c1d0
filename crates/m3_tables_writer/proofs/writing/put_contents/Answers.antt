use Rattle.std.proofs.Common.{arith}
use Rattle.std.proofs.lemmas.List.{length-map}
use Rattle.m3_tables_writer.specs.Plain.{entry_plain, contents_plain}
use Rattle.m3_tables_writer.proofs.WriteLemmas.{contents_parts}
use Rattle.m3_tables_writer.proofs.writing.put_contents.Goals as goal

pub overflow_cast-len : goal.overflow_cast-len
overflow_cast-len c =
    let parts = contents_parts (contents_plain c.args.row.now) in
    omega (arith, c.requires.size, parts.2, length-map c.args.row.now.derived.items entry_plain)
