use Rattle.std.proofs.Common.{◌<◌, length, arith, refl, sym}
use Rattle.std.proofs.lemmas.Bool.Decides.{nat_tests}
use Rattle.std.proofs.lemmas.Option.{slice_get_read}
use Rattle.m3c_source_commands.proofs.SourceLemmas.{named_at}
use Rattle.m3c_source_commands.proofs.compiling.line_of.Goals as goal

pub returns : goal.returns
returns c =
    let here : c.args.broken.pos.file < length c.args.names.now = grind (arith, nat_tests, c.in-Some.ensures.lookup.0) in
    record {
      name = c.in-Some.name.now.now;
      text = c.in-Some-rule_text.text.now;
      named = named_at c.args.names.now c.args.broken.pos.file c.in-Some.name.now (slice_get_read c.args.names.now _ _ _ refl here c.in-Some.ensures.lookup.1);
      listed = sym c.in-Some-rule_text.ensures;
      said = c.in_ok-rule_line.ensures;
    }
