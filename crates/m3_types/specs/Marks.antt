-- A number that equal brands have in common, by which full reveals are found.
use Rattle.std.specs.Prelude.{ℕ, ◌+◌, ◌*◌, ◌%◌, ◌^◌, List, [], ◌∷◌, fold, Option, Some, None}
use Rattle.m3_types.specs.declared.nodes.TypeNode.{TypeNode}
use Rattle.m3_types.specs.Definitions.{BrandHead, BrandText, BrandOccurrence, Head, ARef, AnObject, head_at}

abbrev pub mix : ℕ → ℕ → ℕ
mix mark byte = (mark * 31 + byte) % 2 ^ 32

abbrev pub mark_of_brand : BrandHead → ℕ
mark_of_brand (BrandText text) = fold mix 7 text
mark_of_brand (BrandOccurrence n) = n

abbrev pub mark_of_branding : Option BrandHead → ℕ
mark_of_branding None = 0
mark_of_branding (Some brand) = mark_of_brand brand

-- the mark of a branded type; 0 for any other, and for some branded ones
abbrev pub mark_of : Head → ℕ
mark_of (ARef brand) = mark_of_branding brand
mark_of (AnObject brand fields methods overrides) = mark_of_branding brand
mark_of _ = 0

abbrev pub mark_at : List TypeNode → ℕ → ℕ
mark_at nodes place = mark_of (head_at nodes place)
