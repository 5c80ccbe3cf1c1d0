use Rattle.std.proofs.Common.{sym, subst, ◌+◌, length}
use Rattle.m3_types_sizes.specs.Sizes.{HasSize}
use Rattle.m3_layout.specs.Depths.{EndsWithin, line_of, line_words}
use Rattle.m3_layout.proofs.Choosing.{target_chosen, open_chosen, object_chosen, told}
use Rattle.m3_layout.proofs.cells.has_cell.Goals as goal

pub returns-in-Some : goal.returns-in-Some
returns-in-Some c =
    let nodes = c.args.types.now.graph.nodes.items in
    let k = target_chosen nodes c.args.types.now.graph.reveals.items c.args.types.now.shallow c.args.t.0 c.unveiled-shown.result.0 c.in-Some.target.0 c.unveiled-shown.ensures c.in-Some.ensures in
    (λ h. k.from (subst (HasSize nodes) c.open_element.ensures.element (c.has_size.ensures.0 h)), λ h. c.has_size.ensures.1 (subst (HasSize nodes) (sym c.open_element.ensures.element) (k.to h)))

pub returns-in-Some-array_element : goal.returns-in-Some-array_element
returns-in-Some-array_element c =
    let nodes = c.args.types.now.graph.nodes.items in
    let k = open_chosen nodes c.args.types.now.graph.reveals.items c.args.types.now.shallow c.args.t.0 c.unveiled-shown.result.0 c.in-Some-array_element._element.0 c.unveiled-shown.ensures c.in-Some-array_element.ensures in
    let e = c.open_element-in-Some-array_element.ensures.element in
    (λ h. k.from (subst (HasSize nodes) e (c.has_size-in-Some-array_element.ensures.0 h)), λ h. c.has_size-in-Some-array_element.ensures.1 (subst (HasSize nodes) (sym e) (k.to h)))

pub returns : goal.returns
returns c =
    let nodes = c.args.types.now.graph.nodes.items in
    let reveals = c.args.types.now.graph.reveals.items in
    let shown = c.unveiled-shown.result.0 in
    let k = object_chosen nodes reveals c.args.types.now.shallow c.args.t.0 shown c.unveiled-shown.ensures c.in_default.ensures c.in_default-array_element.ensures in
    let t = told c.object_words.result c.is_some.result (EndsWithin nodes reveals (length nodes) shown) (1 + line_words nodes (line_of nodes reveals shown)) c.is_some.ensures c.object_words.ensures.some c.object_words.ensures.none in
    (λ h. k.from (t.0 h), λ h. t.1 (k.to h))
