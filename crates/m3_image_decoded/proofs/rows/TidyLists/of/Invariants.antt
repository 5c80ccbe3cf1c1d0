use Rattle.std.proofs.Common.{◌≡◌, ℕ, Some, length}
use Rattle.std.specs.List.{slice_get}
use Rattle.m3_tables.specs.Sections.{was_list, tidy_list}
use Rattle.m3_tables.specs.Tables.{section_of}
use Rattle.m3_image_decoded.specs.declared.span.Span.{Span}
use Rattle.m3_image_decoded.specs.Parts.{part, IsSpan}
use Rattle.m3_image_decoded.proofs.rows.TidyLists.of.Given as goal

abbrev pub invariant-loop-n : goal.invariant-loop-n
invariant-loop-n l =
    ((k : ℕ) (s : Span) → slice_get l.spans.items k ≡ Some s → IsSpan l.places.items s × (part l.places.items s ≡ tidy_list (section_of l.table) k))
    × (length l.spans.items ≡ l.n)
    × IsSpan l.places.items l.last
    × (part l.places.items l.last ≡ was_list (section_of l.table) l.n)
