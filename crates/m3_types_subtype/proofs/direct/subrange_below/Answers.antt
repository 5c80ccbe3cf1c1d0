use Rattle.std.proofs.Common.{refl}
use Rattle.std.specs.Prelude.{◌↔◌, IsTrue}
use Rattle.std.proofs.lemmas.Result.{IfOk-weaker}
use Rattle.m3_types.specs.Definitions.{types_at}
use Rattle.m3_types_subtype.specs.Sameness.{Matched, Same}
use Rattle.m3_types_subtype.specs.Subtypes.{SubrangeBelow}
use Rattle.m3_types_subtype.proofs.direct.subrange_below.Goals as goal

pub returns : goal.returns
returns c =
    let nodes = c.args.nodes.now in
    let a = c.args.a in
    let b = c.args.b in
    let r = c.in-Some.range in
    let o = c.in-Some-range_at.other in
    IfOk-weaker c.same_named.result (λ yes. IsTrue yes ↔ Matched (Same nodes) (types_at nodes a) (types_at nodes b)) (λ yes. IsTrue yes ↔ SubrangeBelow nodes a b) (λ yes h. (λ t. (r.0, r.1, o.0, o.1, c.in-Some.ensures.some, c.in-Some-range_at.ensures.some, h.0 t, c.if-not-is_within.ensures.0 refl), λ s. h.1 s.6)) c.same_named.ensures
