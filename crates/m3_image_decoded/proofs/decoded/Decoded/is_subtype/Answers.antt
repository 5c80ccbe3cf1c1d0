use Rattle.std.proofs.Common.{◌≡◌, List, length, map, sym, ◌∙◌, ap, subst}
use Rattle.m3_image_sections.specs.Parts.{CellType}
use Rattle.m3_image.specs.Views.{image_view}
use Rattle.m3_image_decoded.specs.declared.types.ReadyType.{ReadyType}
use Rattle.m3_image_decoded.specs.Ancestors.{IsForest}
use Rattle.m3_image_decoded.specs.ReadyTypes.{ready_type}
use Rattle.m3_image_decoded.proofs.TypeLemmas.{forest_of}
use Rattle.m3_image_decoded.proofs.decoded.Decoded.is_subtype.Goals as goal

pub is_subtype-requires-clause-forest : goal.is_subtype-requires-clause-forest
is_subtype-requires-clause-forest c =
    let program = (image_view c.args.self.now.image).program in
    let same : map ready_type c.deref.result.now ≡ program.types = ap (λ (items : List ReadyType). map ready_type items) c.deref.ensures.value ∙ c.args.self.now.typed in
    subst (λ (ts : List CellType). IsForest ts) (sym same) (forest_of (length program.procs) program.types c.keeps_its_form.ensures.types)
