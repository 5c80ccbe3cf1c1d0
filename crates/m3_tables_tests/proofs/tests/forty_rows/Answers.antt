use Rattle.std.proofs.Common.{◌≡◌, sym, ap, ◌∙◌, arith}
use Rattle.m3_tables_tests.proofs.Forty.{plain_rows, plain_rows-zero, plain_rows-more, form-more, rising, size}
use Rattle.m3_tables_tests.proofs.tests.forty_rows.Goals as goal

pub loop-n-init : goal.loop-n-init
loop-n-init c = rw c.new-rows.ensures.items (record { form = tt; plain = sym plain_rows-zero })

pub loop-n-preserved : goal.loop-n-preserved
loop-n-preserved c =
    let rows = c.loop-n.rows.items in
    let row = c.in_ok-row_at.field-0 in
    let i = c.loop-n.invariant in
    let e = c.in_ok-row_at.ensures in
    rw c.in_ok-push.ensures.items (record { form = form-more rows row i.form e.form; plain = plain_rows-more rows c.loop-n.n row i.plain e.instr e.tidy e.rest })

pub returns-clause-rising : goal.returns-clause-rising
returns-clause-rising c =
    let last : c.loop-n.n ≡ 40 = omega (arith, c.loop-n-test.false, c.loop-n.auto.n-end) in
    rising c.loop-n.rows.items (c.loop-n.invariant.plain ∙ ap plain_rows last)

pub returns-clause-size : goal.returns-clause-size
returns-clause-size c =
    let last : c.loop-n.n ≡ 40 = omega (arith, c.loop-n-test.false, c.loop-n.auto.n-end) in
    size c.loop-n.rows.items (c.loop-n.invariant.plain ∙ ap plain_rows last)
