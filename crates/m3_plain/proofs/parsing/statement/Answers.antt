use Rattle.std.proofs.lemmas.Result.{err_from_is_err_and}
use Rattle.m3_plain.proofs.Parsings.{no_call, no_close}
use Rattle.m3_plain.proofs.parsing.statement.Goals as goal

pub returns-in_err-after-clause-not_built : goal.returns-in_err-after-clause-not_built
returns-in_err-after-clause-not_built c =
    let p = err_from_is_err_and c.from_residual.result c.from_residual.ensures.1 in
    λ h. no_call c.args.tokens.now (c.in_err-after.ensures.not_built (cc))

pub returns-in_err-rest-clause-not_built : goal.returns-in_err-rest-clause-not_built
returns-in_err-rest-clause-not_built c =
    let p = err_from_is_err_and c.from_residual-in_err-rest.result c.from_residual-in_err-rest.ensures.1 in
    λ h. no_close c.args.tokens.now _ _ _ c.in_ok-after.ensures.ok c.in_ok-put.ensures.ok (c.in_err-rest.ensures.not_built (cc))
