use Rattle.std.proofs.Common.{arith}
use Rattle.m3_plain_image.proofs.Building.{rest_terms, next_code, next_lines, next_shallow, next_room}
use Rattle.m3_plain_image.proofs.code.emit_puts.Goals as goal

pub emit_term-requires-clause-places : goal.emit_term-requires-clause-places
emit_term-requires-clause-places c =
    let e = rest_terms c.args.puts.now c.loop-put.put-index c.put-item.result c.loop-put-test.true c.put-item.is in
    (next_room _ _ _ _ e c.loop-put.invariant.room).0

pub loop-put-preserved : goal.loop-put-preserved
loop-put-preserved c =
    let e = rest_terms c.args.puts.now c.loop-put.put-index c.put-item.result c.loop-put-test.true c.put-item.is in
    let before = c.loop-put.invariant in
    let rest = (next_room _ _ _ _ e before.room).1 in
    let lines = c.in_ok-emit_term.ensures.lines_len in
    record {
      code = next_code _ _ _ _ _ _ _ _ _ _ _ e c.in_ok-emit_term.ensures.code c.in_ok-push.ensures.items c.alone.ensures lines before.code;
      lines = next_lines _ _ _ _ _ _ e c.in_ok-emit_term.ensures.lines before.lines;
      shallow = (next_shallow _ _ _ e before.shallow).1;
      room = omega (arith, lines, rest);
    }
