use Rattle.std.proofs.Common.{◌≡◌, ◌<◌, List, length, Some, sym, ◌∙◌, subst, arith}
use Rattle.std.specs.List.{slice_get}
use Rattle.m3_image_sections.specs.Parts.{CellType}
use Rattle.m3_image.specs.Views.{image_view}
use Rattle.m3_image_sections.specs.PartViews.{type_of}
use Rattle.m3_image_sections.proofs.ShapeLemmas.{pointer_some}
use Rattle.m3_image_decoded.proofs.AncestorLemmas.{ready_at}
use Rattle.m3_image_decoded.proofs.decoded.DecodedMaps.is_pointer.Goals as goal

pub returns : goal.returns
returns c =
    let items = c.args.self.now.types.items in
    let types = (image_view c.args.self.now.image).program.types in
    let there : c.args.kind < length items = omega (arith, c.len.ensures, c.if-kind-len.false) in
    let t = type_of c.index.result.now.view in
    let found : slice_get types c.args.kind ≡ Some t =
    subst (λ (ts : List CellType). slice_get ts c.args.kind ≡ Some t) c.args.self.now.typed (ready_at items c.args.kind c.index.result.now there c.index.ensures) in
    c.is_pointer.ensures ∙ sym (pointer_some types c.args.kind c.args.at t (sym found))
