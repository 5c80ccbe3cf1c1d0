use Rattle.std.proofs.Common.{arith}
use Rattle.std.proofs.lemmas.Result.{err_from_is_err_and, IfOk-weaker}
use Rattle.m3_plain.proofs.PlainTexts.{plain_text, plain_only, plain_few, plain_shallow, not_lexed, not_parsed}
use Rattle.m3_plain.proofs.reading.read_plain.Goals as goal

pub returns-in_err-tokens-clause-not_built : goal.returns-in_err-tokens-clause-not_built
returns-in_err-tokens-clause-not_built c =
    let p = err_from_is_err_and c.from_residual.result c.from_residual.ensures.1 in
    λ h. not_lexed c.args.text.now (c.in_err-tokens.ensures.not_built (cc))

pub returns-clause-plain : goal.returns-clause-plain
returns-clause-plain c =
    IfOk-weaker c.parse.result _ _ (λ puts. plain_text c.args.text.now c.in_ok-tokens.tokens.items c.as_slice.result.now _ (omega arith) c.in_ok-tokens.ensures.lexed c.as_slice.ensures.value) c.parse.ensures.ok

pub returns-clause-only : goal.returns-clause-only
returns-clause-only c =
    IfOk-weaker c.parse.result _ _ (λ puts h others. plain_only c.args.text.now c.in_ok-tokens.tokens.items c.as_slice.result.now _ others c.in_ok-tokens.ensures.lexed c.as_slice.ensures.value h) c.parse.ensures.ok

pub returns-clause-few : goal.returns-clause-few
returns-clause-few c =
    IfOk-weaker c.parse.result _ _ (λ puts. plain_few c.args.text.now c.in_ok-tokens.tokens.items c.as_slice.result.now _ c.in_ok-tokens.ensures.lexed c.as_slice.ensures.value) c.parse.ensures.ok

pub returns-clause-shallow : goal.returns-clause-shallow
returns-clause-shallow c =
    IfOk-weaker c.parse.result _ _ (λ puts. plain_shallow c.args.text.now c.in_ok-tokens.tokens.items c.as_slice.result.now _ c.in_ok-tokens.ensures.lexed c.as_slice.ensures.value) c.parse.ensures.ok

pub returns-clause-not_built : goal.returns-clause-not_built
returns-clause-not_built c = λ h.
    not_parsed c.args.text.now c.in_ok-tokens.tokens.items c.as_slice.result.now c.in_ok-tokens.ensures.lexed c.as_slice.ensures.value (c.parse.ensures.not_built h)
