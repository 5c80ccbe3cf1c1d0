use Rattle.std.proofs.Common.{sym, subst}
use Rattle.m3_mid_additions.specs.Additions.{IsWithAdded}
use Rattle.m3_mid_additions.proofs.Following.{follows}
use Rattle.m3_derive.proofs.planning.derive.Goals as goal

pub returns-clause-added : goal.returns-clause-added
returns-clause-added c =
    subst (λ z. IsWithAdded c.args.p.now z) (sym c.in_ok-with_rows.ensures) c.in_ok-based.ensures

pub returns-clause-follows : goal.returns-clause-follows
returns-clause-follows c names around memory answers o begins still defined run =
    let is = subst (λ z. IsWithAdded c.args.p.now z) (sym c.in_ok-with_rows.ensures) c.in_ok-based.ensures in
    follows c.args.p.now c.in_ok-with_rows.field-0.proc is names around memory answers o begins still run
