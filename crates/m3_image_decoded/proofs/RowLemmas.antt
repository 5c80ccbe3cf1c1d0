-- Tidy places of one row more.
use Rattle.std.proofs.Common.{◌≡◌, ℕ, ◌+◌, List, [], ◌∷◌, ◌++◌, length, Some, suc, refl, ◌∙◌, arith}
use Rattle.std.specs.List.{slice_get}
use Rattle.m3_tables.specs.Sections.{tidy_list, was_list}
use Rattle.m3_image_decoded.specs.declared.span.Span.{Span}
use Rattle.m3_image_decoded.specs.Parts.{part, IsSpan, KeepsParts}
use Rattle.m3_image_decoded.proofs.Lists.{all_more}

-- each span has the tidy places of its row
abbrev pub AreTold : List ℕ → List ℕ → List Span → Type 0
AreTold section places spans = (k : ℕ) (s : Span) → slice_get spans k ≡ Some s → IsSpan places s × (part places s ≡ tidy_list section k)

pub told_more : (section old new : List ℕ) (spans : List Span) (n : ℕ) (last : Span) → KeepsParts old new → AreTold section old spans → length spans ≡ n → IsSpan new last → part new last ≡ tidy_list section n → AreTold section new (spans ++ last ∷ [])
told_more section old new spans n last kept told same span here =
    all_more (λ (k : ℕ) (s : Span). IsSpan new s × (part new s ≡ tidy_list section k)) spans last
    (λ k s e. let was = told k s e in
    (record { order = was.0.order; within = let a = was.0.within in let b = kept.longer in omega arith }, kept.parts s was.0 ∙ was.1))
    (span, rw same here)

pub was_next : (section : List ℕ) (n : ℕ) → was_list section (n + 1) ≡ tidy_list section n
was_next section n = let one : n + 1 ≡ suc n = omega arith in rw one refl
