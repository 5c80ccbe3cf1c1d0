use Rattle.std.proofs.Common.{◌≡◌, ◌<◌, length, List, ℕ, Some, sym, ◌∙◌, ap, subst, arith}
use Rattle.std.proofs.lemmas.Option.{slice_get-get_or}
use Rattle.std.specs.List.{slice_get}
use Rattle.m3_image_decoded.specs.declared.span.Span.{Span}
use Rattle.m3_image_decoded.specs.Parts.{part, IsSpan}
use Rattle.m3_tables.specs.Sections.{tidy_list}
use Rattle.m3_tables.specs.Tables.{section_of, row_count}
use Rattle.m3_tables.proofs.OnceLemmas.{tidy_list_once}
use Rattle.m3_image_decoded.proofs.rows.TidyLists.get.Goals as goal

pub part_of-requires : goal.part_of-requires
part_of-requires c =
    let spans = c.args.self.now.spans.items in
    let there : c.args.row < length spans = omega (arith, c.len.ensures, c.if-row-len.false) in
    let found : slice_get spans c.args.row ≡ Some c.index.result.now = slice_get-get_or spans c.args.row c.index.result.now there ∙ ap (λ (s : Span). Some s) (sym c.index.ensures) in
    let P : List ℕ → Type 0 = λ places. IsSpan places c.index.result.now in
    subst P (sym c.deref.ensures.value) (c.args.self.now.told c.args.row c.index.result.now found).0

pub returns-clause-told : goal.returns-clause-told
returns-clause-told c =
    let spans = c.args.self.now.spans.items in
    let there : c.args.row < length spans = omega (arith, c.len.ensures, c.if-row-len.false) in
    let found : slice_get spans c.args.row ≡ Some c.index.result.now = slice_get-get_or spans c.args.row c.index.result.now there ∙ ap (λ (s : Span). Some s) (sym c.index.ensures) in
    c.part_of.ensures ∙ (ap (λ (places : List ℕ). part places c.index.result.now) c.deref.ensures.value ∙ (c.args.self.now.told c.args.row c.index.result.now found).1)

pub returns-clause-once : goal.returns-clause-once
returns-clause-once c =
    let spans = c.args.self.now.spans.items in
    let section = section_of c.args.self.now.table in
    let there : c.args.row < length spans = omega (arith, c.len.ensures, c.if-row-len.false) in
    let listed : c.args.row < row_count c.args.self.now.table = omega (arith, there, c.args.self.now.counted) in
    let found : slice_get spans c.args.row ≡ Some c.index.result.now = slice_get-get_or spans c.args.row c.index.result.now there ∙ ap (λ (s : Span). Some s) (sym c.index.ensures) in
    let told : c.part_of.result.now ≡ tidy_list section c.args.row =
    c.part_of.ensures ∙ (ap (λ (places : List ℕ). part places c.index.result.now) c.deref.ensures.value ∙ (c.args.self.now.told c.args.row c.index.result.now found).1) in
    rw told (tidy_list_once section c.args.row (λ k le. c.args.self.now.table.good k (omega (arith, listed))))
