use Rattle.std.proofs.Common.{◌≡◌, List, length, map, sym, ◌∙◌, ap, subst}
use Rattle.m3_image_sections.specs.Parts.{CellType}
use Rattle.m3_image.specs.Views.{image_view}
use Rattle.m3_image_decoded.specs.declared.types.ReadyType.{ReadyType}
use Rattle.m3_image_decoded.specs.Ancestors.{IsForest}
use Rattle.m3_image_decoded.specs.Jumps.{JumpsFit}
use Rattle.m3_image_decoded.specs.ReadyTypes.{ready_type}
use Rattle.m3_image_decoded.proofs.TypeLemmas.{forest_of}
use Rattle.m3_image_decoded.proofs.decoded.Decoded.of.Goals as goal

pub jumps-requires : goal.jumps-requires
jumps-requires c =
    let program = (image_view c.args.image).program in
    let same : map ready_type c.deref.result.now ≡ program.types = ap (λ (items : List ReadyType). map ready_type items) c.deref.ensures.value ∙ c.in_ok-types.ensures in
    subst (λ (ts : List CellType). IsForest ts) (sym same) (forest_of (length program.procs) program.types c.keeps_its_form.ensures.types)

pub invariant_of-result-clause-good : goal.invariant_of-result-clause-good
invariant_of-result-clause-good c = ∣ c.in_ok-code.ensures.good ∣₁

pub invariant_of-result-clause-jumping : goal.invariant_of-result-clause-jumping
invariant_of-result-clause-jumping c =
    subst (λ (items : List ReadyType). JumpsFit (map ready_type items) c.in_ok-jumps.jumps.items) c.deref.ensures.value c.in_ok-jumps.ensures.fit
