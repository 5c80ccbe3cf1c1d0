use Rattle.std.proofs.Common.{◌≡◌, Some, arith, sym, ◌∙◌}
use Rattle.m3_types.specs.Definitions.{node_at, types_at, parts_at}
use Rattle.m3_types_valid.proofs.FormLemmas.{form_of_rows, types_in_front}
use Rattle.m3_types_valid.proofs.forms.has_form.Goals as goal

pub has_form_of_rows-requires : goal.has_form_of_rows-requires
has_form_of_rows-requires c =
    let found : node_at c.args.nodes.now c.args.place ≡ Some c.in-Some.node = sym c.node_at.ensures ∙ c.in-Some.is in
    let types_is : c.deref.result.now ≡ types_at c.args.nodes.now c.args.place = c.deref.ensures.value ∙ c.in_ok-types.ensures in
    let parts_is : c.deref-2.result.now ≡ parts_at c.args.nodes.now c.args.place = c.deref-2.ensures.value ∙ c.in_ok-parts.ensures in
    omega (arith, types_in_front c.args.nodes.now c.args.place _ _ _ found types_is parts_is)

pub returns : goal.returns
returns c =
    let found : node_at c.args.nodes.now c.args.place ≡ Some c.in-Some.node = sym c.node_at.ensures ∙ c.in-Some.is in
    let types_is : c.deref.result.now ≡ types_at c.args.nodes.now c.args.place = c.deref.ensures.value ∙ c.in_ok-types.ensures in
    let parts_is : c.deref-2.result.now ≡ parts_at c.args.nodes.now c.args.place = c.deref-2.ensures.value ∙ c.in_ok-parts.ensures in
    let same = form_of_rows c.args.nodes.now c.args.place _ _ _ found types_is parts_is in
    (λ yes. same.0 (c.has_form_of_rows.ensures.0 yes), λ form. c.has_form_of_rows.ensures.1 (same.1 form))
