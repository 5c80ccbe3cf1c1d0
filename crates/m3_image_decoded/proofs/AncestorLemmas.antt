-- Ancestors of ancestors, and jumps to them.
use Rattle.std.proofs.Common.{◌≡◌, ℕ, zero, suc, ◌+◌, ◌-◌, ◌<◌, ◌≤◌, List, Option, Some, None, refl, sym, ◌∙◌, arith, inl, inr}
use Rattle.std.specs.Option.{option_and_then}
use Rattle.std.proofs.lemmas.Bool.{cases_lt}
use Rattle.m3_image_sections.specs.Parts.{CellType}
use Rattle.m3_image_decoded.specs.declared.jumps.Jump.{Jump}
use Rattle.std.proofs.Common.{length, get_or, map}
use Rattle.std.specs.List.{slice_get}
use Rattle.std.proofs.lemmas.Option.{slice_get-map, slice_get-get_or}
use Rattle.m3_image_decoded.specs.declared.types.ReadyType.{ReadyType}
use Rattle.m3_image_decoded.specs.ReadyTypes.{ready_type}
use Rattle.m3_image_decoded.specs.Ancestors.{parent_in, parent_of, ancestor, IsSubtype, IsForest}
use Rattle.m3_image_decoded.specs.Jumps.{JumpFits}

-- generations add up
pub ancestor_add : (types : List CellType) (n m t s : ℕ) → ancestor types n t ≡ Some s → ancestor types (n + m) t ≡ ancestor types m s
ancestor_add types zero m t s e =
    let same : t ≡ s = cc in
    let none : 0 + m ≡ m = omega arith in rw (none, same) refl
ancestor_add types (suc n) m t s e =
    let more : suc n + m ≡ suc (n + m) = omega arith in
    rw more
    ((elim (parent_of types t) as (λ (o : Option ℕ). option_and_then (ancestor types n) o ≡ Some s → option_and_then (ancestor types (n + m)) o ≡ ancestor types m s) [
      | None ↦ λ h. absurd cc
      | Some p ↦ λ h. ancestor_add types n m p s h
    ]) e)

-- each generation has a lower number
pub ancestor_lower : (types : List CellType) → IsForest types → (n t s : ℕ) → ancestor types n t ≡ Some s → s + n ≤ t
ancestor_lower types forest zero t s e = let same : t ≡ s = cc in omega arith
ancestor_lower types forest (suc n) t s e =
    (elim (parent_of types t) as (λ (o : Option ℕ). ((p : ℕ) → o ≡ Some p → p < t) → option_and_then (ancestor types n) o ≡ Some s → s + suc n ≤ t) [
      | None ↦ λ lower h. absurd cc
      | Some p ↦ λ lower h. (let below = lower p refl in let rest = ancestor_lower types forest n p s h in omega arith)
    ]) (forest t) e

-- from a parent on
pub from_parent : (types : List CellType) (n t p : ℕ) → parent_of types t ≡ Some p → ancestor types (suc n) t ≡ ancestor types n p
from_parent types n t p e = rw e refl

pub to_parent : (types : List CellType) (number parent : ℕ) → parent_of types number ≡ Some parent → parent < number → JumpFits types number (record { to = parent; up = 1 })
to_parent types number parent e below = record { lands = rw e refl; lower = omega arith }

pub over_jump : (types : List CellType) (number parent : ℕ) (above far : Jump) → parent_of types number ≡ Some parent → parent < number → JumpFits types parent above → JumpFits types above.to far
    → JumpFits types number (record { to = far.to; up = above.up + far.up + 1 })
over_jump types number parent above far e below first second = record {
  lands =
      let one : above.up + far.up + 1 ≡ suc (above.up + far.up) = omega arith in
      rw one (from_parent types (above.up + far.up) number parent e ∙ (ancestor_add types above.up far.up parent above.to first.lands ∙ second.lands));
  lower = let a = first.lower in let b = second.lower in omega arith;
}

pub no_jump : (types : List CellType) (number : ℕ) → JumpFits types number (record { to = number; up = 0 })
no_jump types number = record { lands = refl; lower = omega arith }

-- ---- the search for an ancestor

pub is_itself : (types : List CellType) (t : ℕ) → IsSubtype types t t
is_itself types t = (0, refl)

pub above_only_itself : (types : List CellType) → IsForest types → (t u : ℕ) → t < u → IsSubtype types t u → ⊥
above_only_itself types forest t u below found = let lower = ancestor_lower types forest found.0 t u found.1 in omega arith

pub orphan : (types : List CellType) (t u : ℕ) → u < t → parent_of types t ≡ None → IsSubtype types t u → ⊥
orphan types t u below e (zero, h) = (let same : t ≡ u = cc in omega arith)
orphan types t u below e (suc n, h) = (let gone : ancestor types (suc n) t ≡ None = rw e refl in cc)

pub through_parent : (types : List CellType) (t u p : ℕ) → parent_of types t ≡ Some p → IsSubtype types p u → IsSubtype types t u
through_parent types t u p e found = (suc found.0, from_parent types found.0 t p e ∙ found.1)

pub at_parent : (types : List CellType) (t u p : ℕ) → u < t → parent_of types t ≡ Some p → IsSubtype types t u → IsSubtype types p u
at_parent types t u p below e (zero, h) = (let same : t ≡ u = cc in absurd (omega arith))
at_parent types t u p below e (suc n, h) = (n, sym (from_parent types n t p e) ∙ h)

pub through_jump : (types : List CellType) (t u : ℕ) (j : Jump) → JumpFits types t j → IsSubtype types j.to u → IsSubtype types t u
through_jump types t u j fits found = (j.up + found.0, ancestor_add types j.up found.0 t j.to fits.lands ∙ found.1)

pub at_jump : (types : List CellType) → IsForest types → (t u : ℕ) (j : Jump) → JumpFits types t j → u ≤ j.to → IsSubtype types t u → IsSubtype types j.to u
at_jump types forest t u j fits below found =
    elim (cases_lt found.0 j.up) [
      | inl fewer ↦ (
          let rest : found.0 + (j.up - found.0) ≡ j.up = omega arith in
          let further : ancestor types (j.up - found.0) u ≡ Some j.to = sym (ancestor_add types found.0 (j.up - found.0) t u found.1) ∙ rw rest fits.lands in
          let lower = ancestor_lower types forest (j.up - found.0) u j.to further in
          absurd (omega arith))
      | inr more ↦ (
          let rest : j.up + (found.0 - j.up) ≡ found.0 = omega arith in
          (found.0 - j.up, sym (ancestor_add types j.up (found.0 - j.up) t j.to fits.lands) ∙ rw rest found.1))
    ]

-- a type in a list
pub ready_at : (types : List ReadyType) (t : ℕ) (r : ReadyType) → t < length types → r ≡ get_or types t r → slice_get (map ready_type types) t ≡ Some (ready_type r)
ready_at types t r there e = rw (slice_get-map ready_type types t, slice_get-get_or types t r there, ← e) refl

-- the parent of a type in a list
pub parent_at : (types : List ReadyType) (t : ℕ) (r : ReadyType) → t < length types → r ≡ get_or types t r → parent_of (map ready_type types) t ≡ parent_in (ready_type r)
parent_at types t r there e =
    rw (slice_get-map ready_type types t, slice_get-get_or types t r there, ← e) refl
