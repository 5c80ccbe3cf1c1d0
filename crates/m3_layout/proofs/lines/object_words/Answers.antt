use Rattle.std.proofs.Common.{◌≡◌, suc, ◌+◌, ◌-◌, length, arith, sym, subst, ◌∙◌, Some, None}
use Rattle.m3_types.specs.Definitions.{node_at}
use Rattle.m3_layout.specs.Depths.{OfParent, EndsWithin, own_words}
use Rattle.m3_layout.proofs.Lineage.{object_up, object_down, no_room, words_above, if_none}
use Rattle.m3_layout.proofs.lines.object_words.Goals as goal

pub returns-in_err-own_words-clause-none : goal.returns-in_err-own_words-clause-none
returns-in_err-own_words-clause-none c =
    let nodes = c.args.types.now.graph.nodes.items in
    let reveals = c.args.types.now.graph.reveals.items in
    let limit = length nodes - c.loop-type._type in
    let limit' = length nodes - (c.loop-type._type + 1) in
    let el : limit ≡ suc limit' = omega arith in
    if_none c.from_residual.result _ c.from_residual.ensures (λ o f.
    let q = no_room nodes reveals limit limit' c.loop-type.top.0 c.args.t.0 c.loop-type.words el c.loop-type.invariant.whole c.loop-type.invariant.sum o f in
    c.in_err-own_words.ensures.none q.0 (omega (arith, q.1)))

pub returns-in_err-words-clause-none : goal.returns-in_err-words-clause-none
returns-in_err-words-clause-none c =
    let nodes = c.args.types.now.graph.nodes.items in
    let reveals = c.args.types.now.graph.reveals.items in
    let limit = length nodes - c.loop-type._type in
    let limit' = length nodes - (c.loop-type._type + 1) in
    let el : limit ≡ suc limit' = omega arith in
    let own : c.in_ok-own_words.field-0 ≡ own_words nodes (node_at nodes c.loop-type.top.0) = c.in_ok-own_words.ensures.some.1 in
    if_none c.from_residual-in_err-words.result _ c.from_residual-in_err-words.ensures (λ o f.
    let q = no_room nodes reveals limit limit' c.loop-type.top.0 c.args.t.0 c.loop-type.words el c.loop-type.invariant.whole c.loop-type.invariant.sum o f in
    c.in_err-words.ensures (omega (arith, q.1, own)))

pub returns-in-None-clause-some : goal.returns-in-None-clause-some
returns-in-None-clause-some c =
    let nodes = c.args.types.now.graph.nodes.items in
    let reveals = c.args.types.now.graph.reveals.items in
    let limit = length nodes - c.loop-type._type in
    let limit' = length nodes - (c.loop-type._type + 1) in
    let el : limit ≡ suc limit' = omega arith in
    let above = words_above nodes reveals limit limit' c.loop-type.top.0 c.loop-type.words c.in_ok-own_words.field-0 c.in_ok-words.words None el c.in-None.ensures c.in_ok-own_words.ensures.some.1 c.in_ok-words.ensures.1 in
    (c.loop-type.invariant.part (object_down nodes reveals limit limit' c.loop-type.top.0 el c.in_ok-own_words.ensures.some.0 (subst (OfParent (EndsWithin nodes reveals limit')) c.in-None.ensures tt)), omega (arith, above, c.loop-type.invariant.sum), omega (arith, c.in_ok-words.ensures.0, c.in_ok-words.ensures.1))

pub loop-type-preserved : goal.loop-type-preserved
loop-type-preserved c =
    let nodes = c.args.types.now.graph.nodes.items in
    let reveals = c.args.types.now.graph.reveals.items in
    let limit = length nodes - c.loop-type._type in
    let limit' = length nodes - (c.loop-type._type + 1) in
    let el : limit ≡ suc limit' = omega arith in
    record {
      whole = λ o. subst (OfParent (EndsWithin nodes reveals limit')) (sym c.in-Some.ensures) (object_up nodes reveals limit limit' c.loop-type.top.0 el (c.loop-type.invariant.whole o)).1;
      part = λ o. c.loop-type.invariant.part (object_down nodes reveals limit limit' c.loop-type.top.0 el c.in_ok-own_words.ensures.some.0 (subst (OfParent (EndsWithin nodes reveals limit')) c.in-Some.ensures o));
      sum = words_above nodes reveals limit limit' c.loop-type.top.0 c.loop-type.words c.in_ok-own_words.field-0 c.in_ok-words.words (Some c.in-Some.parent.0) el c.in-Some.ensures c.in_ok-own_words.ensures.some.1 c.in_ok-words.ensures.1 ∙ c.loop-type.invariant.sum;
    }
