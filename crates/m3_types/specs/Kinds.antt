-- Kinds of types, told by their heads: ordinal types with their members, reference types, and what a
-- type's own definition puts above it.
use Rattle.std.specs.Prelude.{ℕ, ℤ, pos, negsuc, ◌+◌, ◌-ℤ◌, ◌^◌, Bool, true, false, length, Option, Some, None}
use Rattle.m3_types.specs.declared.nodes.TypeNode.{TypeNode}
use Rattle.m3_types.specs.declared.nodes.TypeNode.TheVariants.{Subrange, Object, Opaque}
use Rattle.m3_types.specs.Definitions.{Head, AnInteger, ABoolean, ACharacter, AnEnumeration, ASubrange, ARef, AnObject, AProcedure, AnOpaque, ANull, ARefAny, AText, AMutex, ARoot}

abbrev pub is_reference : Head → Bool
is_reference (ARef brand) = true
is_reference (AnObject brand fields methods overrides) = true
is_reference (AnOpaque place) = true
is_reference ANull = true
is_reference ARefAny = true
is_reference AText = true
is_reference AMutex = true
is_reference ARoot = true
is_reference _ = false

-- the types that NIL belongs to
abbrev pub has_nil : Head → Bool
has_nil (AProcedure formals result raises) = true
has_nil head = is_reference head

-- MUTEX is below ROOT, and so below REFANY too
abbrev pub is_below_refany : Head → Bool
is_below_refany (ARef brand) = true
is_below_refany (AnObject brand fields methods overrides) = true
is_below_refany AText = true
is_below_refany ARoot = true
is_below_refany AMutex = true
is_below_refany _ = false

abbrev pub is_below_root : Head → Bool
is_below_root (AnObject brand fields methods overrides) = true
is_below_root AMutex = true
is_below_root _ = false

-- how many numbers there are from 0 to a bound
abbrev pub count_to : ℤ → ℕ
count_to (pos n) = n + 1
count_to (negsuc n) = 0

-- the number of members of a range
abbrev pub span : ℤ → ℤ → ℕ
span first last = count_to (last -ℤ first)

-- the number of members of an ordinal type; 0 where a type isn't one
abbrev pub size_of : Head → ℕ
size_of AnInteger = 2 ^ 64
size_of ABoolean = 2
size_of ACharacter = 256
size_of (AnEnumeration names) = length names
size_of (ASubrange first last) = span first last
size_of _ = 0

-- what a type's own definition puts above it: the base of a subrange, the parent of an object type,
-- the bound of an opaque type
abbrev pub named_above : Option TypeNode → Option ℕ
named_above (Some (Subrange base first last)) = Some base.0
named_above (Some (Object brand parent fields methods overrides)) = Some parent.0
named_above (Some (Opaque bound secret)) = Some bound.0
named_above _ = None
