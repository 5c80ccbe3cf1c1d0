use Rattle.std.proofs.Common.{[], ap, ◌∙◌}
use Rattle.std.proofs.lemmas.Result.{err_from_is_err_and, IfOk-weaker}
use Rattle.m3_plain.specs.Terms.{term_of, terms_of}
use Rattle.m3_plain.proofs.Parsings.{leaves_start, leaves_put, leaves_last, leaves_no_last, leaves_end, leaves_no_end, leaves_no_put, semicolon_rest, semicolon_shorter, same_parse, no_parse, more_terms, same_leaves, not_true}
use Rattle.m3_plain.proofs.parsing.parse.Goals as goal

pub returns-in_err-rest-clause-not_built : goal.returns-in_err-rest-clause-not_built
returns-in_err-rest-clause-not_built c =
    let p = err_from_is_err_and c.from_residual.result c.from_residual.ensures.1 in
    λ h puts found. c.in_err-rest.ensures.not_built (cc) found.rest found.header

pub returns-in_err-put-clause-not_built : goal.returns-in_err-put-clause-not_built
returns-in_err-put-clause-not_built c =
    let p = err_from_is_err_and c.from_residual-in_err-put.result c.from_residual-in_err-put.ensures.1 in
    λ h. no_parse c.args.tokens.now c.in_ok-rest.rest.now c.in_ok-rest.ensures.ok
    (leaves_no_put c.in_ok-rest.rest.now _ c.loop-alloc.rest.now c.loop-alloc.invariant (c.begins.ensures.0 c.loop-alloc-test.true) (c.in_err-put.ensures.not_built (cc)))

pub returns-then-not-begins-clause-ok : goal.returns-then-not-begins-clause-ok
returns-then-not-begins-clause-ok c =
    IfOk-weaker c.ended.result _ _ (λ all h. same_parse c.args.tokens.now c.in_ok-rest.rest.now c.in_ok-rest.ensures.ok _ all.items
    (ap terms_of h.0 ∙ ap terms_of c.in_ok-push.ensures.items ∙ more_terms c.loop-alloc.puts.items c.in_ok-put.put)
    (leaves_last c.in_ok-rest.rest.now _ c.loop-alloc.rest.now c.in_ok-put.left.now (term_of c.in_ok-put.put) c.loop-alloc.invariant c.in_ok-put.ensures.ok h.1)) c.ended.ensures.ok

pub returns-then-not-begins-clause-not_built : goal.returns-then-not-begins-clause-not_built
returns-then-not-begins-clause-not_built c = λ h.
    no_parse c.args.tokens.now c.in_ok-rest.rest.now c.in_ok-rest.ensures.ok
    (leaves_no_last c.in_ok-rest.rest.now _ c.loop-alloc.rest.now c.in_ok-put.left.now (term_of c.in_ok-put.put) c.loop-alloc.invariant (c.begins.ensures.0 c.loop-alloc-test.true) c.in_ok-put.ensures.ok
    (not_true c.begins-in-loop-alloc.result c.if-not-begins.true c.begins-in-loop-alloc.ensures.1) (c.ended.ensures.not_built h))

pub loop-alloc-init : goal.loop-alloc-init
loop-alloc-init c = same_leaves c.in_ok-rest.rest.now c.new-puts.result.items [] c.in_ok-rest.rest.now (ap terms_of c.new-puts.ensures.items) (leaves_start c.in_ok-rest.rest.now)

pub loop-alloc-smaller : goal.loop-alloc-smaller
loop-alloc-smaller c = semicolon_shorter c.loop-alloc.rest.now c.in_ok-put.left.now (term_of c.in_ok-put.put) c.in_ok-put.ensures.ok

pub loop-alloc-preserved : goal.loop-alloc-preserved
loop-alloc-preserved c =
    same_leaves c.in_ok-rest.rest.now c.push.new.self.items _ _ (ap terms_of c.in_ok-push.ensures.items ∙ more_terms c.loop-alloc.puts.items c.in_ok-put.put)
    (leaves_put c.in_ok-rest.rest.now _ c.loop-alloc.rest.now c.in_ok-put.left.now _ (term_of c.in_ok-put.put) c.loop-alloc.invariant (c.begins.ensures.0 c.loop-alloc-test.true) c.in_ok-put.ensures.ok
    (semicolon_rest c.in_ok-put.left.now (c.begins-in-loop-alloc.ensures.0 c.if-not-begins.false)))

pub returns-clause-ok : goal.returns-clause-ok
returns-clause-ok c =
    IfOk-weaker c.ended-2.result _ _ (λ all h. same_parse c.args.tokens.now c.in_ok-rest.rest.now c.in_ok-rest.ensures.ok _ all.items (ap terms_of h.0)
    (leaves_end c.in_ok-rest.rest.now _ c.loop-alloc.rest.now c.loop-alloc.invariant h.1)) c.ended-2.ensures.ok

pub returns-clause-not_built : goal.returns-clause-not_built
returns-clause-not_built c = λ h.
    no_parse c.args.tokens.now c.in_ok-rest.rest.now c.in_ok-rest.ensures.ok
    (leaves_no_end c.in_ok-rest.rest.now _ c.loop-alloc.rest.now c.loop-alloc.invariant
    (not_true c.begins.result c.loop-alloc-test.false c.begins.ensures.1) (c.ended-2.ensures.not_built h))
