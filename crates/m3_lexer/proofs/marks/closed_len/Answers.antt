use Rattle.std.proofs.Common.{◌≢◌, get_or, inl, inr, arith}
use Rattle.std.specs.Prelude.{◌⊎◌}
use Rattle.std.proofs.lemmas.List.{length-drop, take_rest}
use Rattle.m3_lexer.proofs.Counts.{goes_in, comes_out, goes_past}
use Rattle.m3_lexer.proofs.marks.closed_len.Goals as goal
use Rattle.m3_lexer.proofs.marks.closed_len.Goals.{then-a-left+else-b-eq42, else-a-left, then-a-eq42+else-b-right, else-a-eq42}

pub loop-depth-preserved-then-b-eq42 : goal.loop-depth-preserved-then-b-eq42
loop-depth-preserved-then-b-eq42 c =
    let rest = c.loop-depth.rest.now in
    record {
      passed = rw (take_rest rest 2) (omega (arith, length-drop 2 rest));
      few = omega arith;
      rest = rw (take_rest rest 2) (goes_in c.args.left c.args.right c.loop-depth.depth c.loop-depth.len rest _ c.in-len2-up.len_at_least c.loop-depth-test.true c.if-a-left.true c.if-b-eq42.true c.loop-depth.invariant.rest);
    }

pub loop-depth-preserved-then-b-right : goal.loop-depth-preserved-then-b-right
loop-depth-preserved-then-b-right c =
    let rest = c.loop-depth.rest.now in
    let not_in : (get_or rest 0 0 ≢ c.args.left) ⊎ (get_or rest 1 0 ≢ 42) = elim c.if-a-left.branch [ then-a-left+else-b-eq42 w ↦ inr w.if-b-eq42.false | else-a-left w ↦ inl w.if-a-left.false ] in
    record {
      passed = rw (take_rest rest 2) (omega (arith, length-drop 2 rest));
      few = omega arith;
      rest = rw (take_rest rest 2) (comes_out c.args.left c.args.right c.loop-depth.depth c.loop-depth.len rest _ c.in-len2-up.len_at_least c.loop-depth-test.true not_in c.if-a-eq42.true c.if-b-right.true c.loop-depth.invariant.rest);
    }

pub loop-depth-preserved : goal.loop-depth-preserved
loop-depth-preserved c =
    let rest = c.loop-depth.rest.now in
    let not_in : (get_or rest 0 0 ≢ c.args.left) ⊎ (get_or rest 1 0 ≢ 42) = elim c.if-a-left.branch [ then-a-left+else-b-eq42 w ↦ inr w.if-b-eq42.false | else-a-left w ↦ inl w.if-a-left.false ] in
    let never : (get_or rest 0 0 ≢ 42) ⊎ (get_or rest 1 0 ≢ c.args.right) = elim c.if-a-eq42.branch [ then-a-eq42+else-b-right w ↦ inr w.if-b-right.false | else-a-eq42 w ↦ inl w.if-a-eq42.false ] in
    record {
      passed = rw (take_rest rest 1) (omega (arith, length-drop 1 rest));
      few = omega arith;
      rest = rw (take_rest rest 1) (goes_past c.args.left c.args.right c.loop-depth.depth c.loop-depth.len rest _ c.in-len2-up.len_at_least c.loop-depth-test.true not_in never c.loop-depth.invariant.rest);
    }
