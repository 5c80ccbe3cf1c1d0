use Rattle.std.proofs.Common.{◌≡◌, List, [], ◌∷◌, length, sym, refl, ◌∙◌, ap, subst, arith, length-append}
use Rattle.m3_tables.specs.Sections.{tidy_list}
use Rattle.m3_tables.specs.Tables.{section_of}
use Rattle.m3_image_decoded.specs.declared.span.Span.{Span}
use Rattle.m3_image_decoded.specs.Parts.{part, IsSpan}
use Rattle.m3_image_decoded.proofs.RowLemmas.{AreTold, told_more, was_next}
use Rattle.m3_image_decoded.proofs.rows.TidyLists.of.Goals as goal

pub loop-n-preserved : goal.loop-n-preserved
loop-n-preserved c =
    let section = section_of c.args.table in
    let old = c.loop-n.places.items in
    let new = c.push_row.new.places.items in
    let row = c.in-Some.ensures.some in
    let span : IsSpan new c.in_ok-last.last = c.in_ok-last.ensures.span in
    let told : part new c.in_ok-last.last ≡ tidy_list section c.loop-n.n = c.in_ok-last.ensures.told ∙ rw (row.1, row.2) refl in
    let grown = c.in_ok-push.ensures.items in
    let inv = c.loop-n.invariant in (
      subst (λ (spans : List Span). AreTold section new spans) (sym grown) (told_more section old new c.loop-n.spans.items c.loop-n.n c.in_ok-last.last c.push_row.ensures.kept inv.0 inv.1 span told),
      omega (arith, ap length grown, length-append c.loop-n.spans.items (c.in_ok-last.last ∷ []), inv.1),
      span,
      told ∙ sym (was_next section c.loop-n.n),
    )
