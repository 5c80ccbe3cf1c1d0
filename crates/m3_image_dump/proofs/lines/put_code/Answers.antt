use Rattle.std.proofs.Common.{rules, ◌≡◌, ◌++◌, ◌+◌, ◌-◌, ◌≤◌, ℕ, List, [], length, sym, subst, arith}
use Rattle.m3_image_decoded.specs.Ready.{image_of}
use Rattle.m3_image_dump.specs.Texts.{instruction_line, Adds, CodeText, no_code}
use Rattle.m3_image_dump.proofs.CodeLemmas.{more_code, past_code, joined}
use Rattle.m3_image_dump.proofs.lines.put_code.Goals as goal

pub code-init : goal.code-init
code-init c =
    let p = (image_of c.args.image.now).program in
    let first = c.args.proc.now.first in
    let none : 0 ≡ first - first = omega arith in
    (omega arith, record { part = []; added = search rules; is = subst (λ k. CodeText p first k []) none no_code })

pub code-preserved : goal.code-preserved
code-preserved c =
    let p = (image_of c.args.image.now).program in
    let first = c.args.proc.now.first in
    let pc = c.code.pc in
    let i = c.in-Some.i.now in
    let done = c.code.invariant in
    let row = c.in_ok-put_row_at.ensures in (
      omega (arith, done.0),
      record {
        part = done.1.part ++ instruction_line pc i ++ row.part;
        added = joined c.args.text.now.items done.1.part (instruction_line pc i) row.part c.code.text.items c.put_instruction.new.text.items c.put_row_at.new.text.items done.1.added c.in_ok-put_instruction.ensures row.added;
        is = more_code p first pc i done.1.part row.part done.0 done.1.is c.in-Some.ensures.value row.is;
      },
    )

pub returns-in_default : goal.returns-in_default
returns-in_default c =
    let past = past_code (image_of c.args.image.now).program.code c.code.pc c.in_default.ensures.value in
    absurd (omega (arith, past, c.code-test.true, c.code_len.ensures, c.min-past.ensures, c.end.ensures))
