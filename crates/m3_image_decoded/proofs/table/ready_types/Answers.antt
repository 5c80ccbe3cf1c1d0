use Rattle.std.proofs.Common.{◌≡◌, ◌+◌, List, [], ◌∷◌, ◌++◌, length, map, true, ◌∙◌, ap, subst, arith, length-append}
use Rattle.m3_image_sections.specs.Forms.{types_fit_from}
use Rattle.m3_image.specs.Views.{image_view}
use Rattle.m3_image_sections.specs.PartViews.{types_of, type_of}
use Rattle.m3_image_decoded.specs.declared.types.ReadyType.{ReadyType}
use Rattle.m3_image_decoded.specs.ReadyTypes.{ready_type}
use Rattle.m3_image_decoded.proofs.TypeLemmas.{first_pointers, others_fit, map_more}
use Rattle.m3_image_decoded.proofs.table.ready_types.Goals as goal

pub of-requires-clause-rise : goal.of-requires-clause-rise
of-requires-clause-rise c =
    (first_pointers (length (image_view c.args.image.now).program.procs) (length c.loop-view.found.items) (types_of c.loop-view.view-iterator) (type_of c.in-Some.view) (types_of c.next.new.self) c.loop-view.invariant.1 c.in-Some.ensures.steps).0

pub of-requires-clause-below : goal.of-requires-clause-below
of-requires-clause-below c =
    (first_pointers (length (image_view c.args.image.now).program.procs) (length c.loop-view.found.items) (types_of c.loop-view.view-iterator) (type_of c.in-Some.view) (types_of c.next.new.self) c.loop-view.invariant.1 c.in-Some.ensures.steps).1

pub loop-view-preserved : goal.loop-view-preserved
loop-view-preserved c =
    let procs = length (image_view c.args.image.now).program.procs in
    let old = types_of c.loop-view.view-iterator in
    let rest = types_of c.next.new.self in
    let grown = c.in_ok-push.ensures.items in
    let first = c.in-Some.ensures.steps in
    let fit = others_fit procs (length c.loop-view.found.items) old (type_of c.in-Some.view) rest c.loop-view.invariant.1 first in
    let more : length c.loop-view.found.items + 1 ≡ length c.push.new.self.items = omega (arith, ap length grown, length-append c.loop-view.found.items (c.of.result ∷ [])) in (
      ap (λ (items : List ReadyType). map ready_type items ++ rest) grown ∙ (map_more c.loop-view.found.items c.of.result (type_of c.in-Some.view) old rest c.of.ensures first ∙ c.loop-view.invariant.0),
      subst (λ n. types_fit_from procs n rest ≡ true) more fit,
    )
