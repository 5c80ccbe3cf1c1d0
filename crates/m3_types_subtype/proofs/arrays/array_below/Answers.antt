use Rattle.std.proofs.Common.{refl}
use Rattle.std.specs.Prelude.{◌↔◌, IsTrue}
use Rattle.std.proofs.lemmas.Result.{IfOk-weaker}
use Rattle.m3_types_subtype.specs.Sameness.{Same}
use Rattle.m3_types_subtype.specs.Subtypes.{ArrayBelow}
use Rattle.m3_types_subtype.proofs.Dimensions.{array_elements, elements_array, array_none}
use Rattle.m3_types_subtype.proofs.arrays.array_below.Goals as goal

pub returns-in_default : goal.returns-in_default
returns-in_default c = (λ h. absurd (let z : ⊥ = cc in z), λ a. absurd (array_none c.args.nodes.now c.args.a c.args.b c.in_default.ensures.none a))

pub returns : goal.returns
returns c =
    let nodes = c.args.nodes.now in
    let p = c.in-Some.elements in
    let e = c.in-Some.ensures.some in
    let s = c.innermost-x in
    IfOk-weaker c.same_types.result (λ yes. IsTrue yes ↔ Same nodes s.result.0 s.result.1) (λ yes. IsTrue yes ↔ ArrayBelow nodes c.args.a c.args.b) (λ yes h. (λ t. elements_array nodes c.args.a c.args.b p e (c.if-not-open_first.ensures.0 refl) (c.if-not-open_first-2.ensures.0 refl) (s.ensures.fits (h.0 t)), λ a. h.1 (s.ensures.below (array_elements nodes c.args.a c.args.b p e a)))) c.same_types.ensures
