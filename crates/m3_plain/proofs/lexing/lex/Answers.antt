use Rattle.std.proofs.Common.{◌≡◌, ◌+◌, ◌≤◌, arith, sym, ◌∙◌, get_or}
use Rattle.m3_plain.specs.Lexing.{line_after}
use Rattle.m3_plain.proofs.Lexes.{lexes_letter, lexes_byte, line_feed, no_line_feed, from_here}
use Rattle.m3_plain.proofs.lexing.lex.Goals as goal
use Rattle.m3_plain.proofs.lexing.lex.Goals.{then-b-eq10, else-b-eq10}

pub loop-i-preserved-then-is_ascii_alphanumeric : goal.loop-i-preserved-then-is_ascii_alphanumeric
loop-i-preserved-then-is_ascii_alphanumeric c =
    let before = c.loop-i.invariant in
    record {
      tokens = sym (lexes_letter c.loop-i.tokens.items c.loop-i.line c.loop-i.start c.loop-i.i c.args.text.now before.opened c.loop-i-test.true (sym c.is_ascii_alphanumeric.ensures.value ∙ c.if-is_ascii_alphanumeric.true)) ∙ before.tokens;
      opened = omega arith;
      within = omega arith;
      lines = omega arith;
    }

pub loop-i-preserved : goal.loop-i-preserved
loop-i-preserved c =
    let before = c.loop-i.invariant in
    let b = get_or c.args.text.now c.loop-i.i 0 in
    let line : (c.if-b-eq10.line ≡ line_after c.loop-i.line b) × (c.if-b-eq10.line ≤ c.loop-i.line + 1) = elim c.if-b-eq10.branch [
      | then-b-eq10 w ↦ (w.line-is ∙ sym (line_feed c.loop-i.line b w.if-b-eq10.true), omega arith)
      | else-b-eq10 w ↦ (w.line-is ∙ sym (no_line_feed c.loop-i.line b w.if-b-eq10.false), omega arith)
    ] in
    record {
      tokens = from_here _ _ c.loop-i.i _ c.args.text.now (sym (lexes_byte c.loop-i.tokens.items _ _ c.loop-i.line c.if-b-eq10.line c.loop-i.i _ c.args.text.now c.loop-i-test.true (sym c.is_ascii_alphanumeric.ensures.value ∙ c.if-is_ascii_alphanumeric.false) c.in_ok-end_word.ensures.ok c.in_ok-take_byte.ensures.ok line.0) ∙ before.tokens);
      opened = omega arith;
      within = omega arith;
      lines = let short = line.1 in omega arith;
    }
