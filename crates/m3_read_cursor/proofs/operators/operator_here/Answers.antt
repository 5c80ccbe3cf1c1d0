use Rattle.std.proofs.Common.{◌≡◌, sym, ◌∙◌, rules}
use Rattle.m3_read_cursor.specs.Steps.{is_infix}
use Rattle.m3_read_cursor.proofs.operators.operator_here.Goals as goal

pub returns-clause-reads : goal.returns-clause-reads
returns-clause-reads c =
    let level : c.level_of.result ≡ c.args.level = search rules in
    is_infix c.in_ok-kind.field-0 (c.step.ensures.reads _ (sym c.kind.ensures ∙ c.in_ok-kind.was)) (sym c.operator_of.ensures ∙ c.in_ok-operator.was) (sym c.level_of.ensures ∙ level)
