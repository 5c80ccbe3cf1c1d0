use Rattle.std.proofs.Common.{◌≡◌, ◌++◌, length, take, drop, None}
use Rattle.std.specs.Prelude.{IfSome}
use Rattle.std.specs.Option.{option_map}
use Rattle.std.specs.List.{AllByRecursion}
use Rattle.m3_tables_writer.specs.Plain.{plain_of, plains_of, IsRow}
use Rattle.m3_tables_writer.specs.Writing.{word_bytes, directory_bytes, body_bytes}
use Rattle.m3_tables_writer.proofs.PlainFits.{IsNumber}
use Rattle.m3_tables_writer.proofs.writing.write_rows.Given as goal

-- what is written and what is still to be written is all
abbrev pub invariant-loop-number : goal.invariant-loop-number
invariant-loop-number l =
    let before = option_map (λ b. plain_of b.now) l.before in
    let rest = plains_of (drop l.number l.rows) in
    record {
      directory : l.out.items ++ directory_bytes (length l.body.items) l.number before rest ≡ word_bytes (length l.rows) ++ directory_bytes 0 0 None (plains_of l.rows);
      body : l.body.items ++ body_bytes l.number before rest ≡ body_bytes 0 None (plains_of l.rows);
      before_form : IfSome l.before (λ b. IsRow b.now);
      form : AllByRecursion IsRow (drop l.number l.rows);
      numbers : AllByRecursion IsNumber (take l.number l.rows);
    }
