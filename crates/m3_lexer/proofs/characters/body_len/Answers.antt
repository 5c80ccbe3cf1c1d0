use Rattle.std.proofs.Common.{◌∙◌, sym, arith}
use Rattle.std.proofs.lemmas.List.{length-drop, take_rest}
use Rattle.m3_lexer.proofs.Counts.{one_more, two_more}
use Rattle.m3_lexer.proofs.characters.body_len.Goals as goal

pub loop-rest-preserved-then-is_plain : goal.loop-rest-preserved-then-is_plain
loop-rest-preserved-then-is_plain c =
    let rest = c.loop-rest.rest.now in
    record {
      passed = rw (take_rest rest 1) (omega (arith, length-drop 1 rest));
      rest = rw (take_rest rest 1) (one_more c.loop-rest.len rest _ c.in-len1-up.len_at_least (sym c.is_plain.ensures ∙ c.if-is_plain.true) c.loop-rest.invariant.rest);
    }

pub loop-rest-preserved : goal.loop-rest-preserved
loop-rest-preserved c =
    let rest = c.loop-rest.rest.now in
    record {
      passed = rw (take_rest rest 2) (omega (arith, length-drop 2 rest));
      rest = rw (take_rest rest 2) (two_more c.loop-rest.len rest _ c.in-92.len_at_least (omega arith) c.if-byte-ne10.true c.loop-rest.invariant.rest);
    }
