use Rattle.std.proofs.Common.{ap, arith, length, ◌≡◌, ◌∙◌}
use Rattle.m3_plain.specs.Terms.{terms_of}
use Rattle.m3_plain_image.specs.Code.{puts_operators}
use Rattle.m3_plain_image.proofs.CodeShape.{length-puts_lines, operators_le}
use Rattle.m3_plain_image.proofs.Building.{whole_code}
use Rattle.m3_plain_image.proofs.code.body_of.Goals as goal

pub emit_faults-requires : goal.emit_faults-requires
emit_faults-requires c =
    let puts = terms_of c.args.puts.now in
    let lines = ap length c.in_ok-emit_puts.ensures.lines in
    omega (arith, c.len.ensures, lines, length-puts_lines puts, operators_le puts, c.requires.few)

pub returns-clause-code : goal.returns-clause-code
returns-clause-code c =
    let puts = terms_of c.args.puts.now in
    let lines = ap length c.in_ok-emit_puts.ensures.lines in
    let count : c.len.result ≡ puts_operators puts = omega (arith, c.len.ensures, lines, length-puts_lines puts) in
    whole_code _ _ _ _ _ _ _ puts c.new.ensures.items c.in_ok-push.ensures.items c.alone.ensures c.size_of_puts.ensures.value c.in_ok-emit_puts.ensures.code c.in_ok-emit_faults.ensures count
