-- REFERENCE TYPES BELOW OTHERS: each value of the one is a value of the other.
use Rattle.std.specs.Prelude.{◌≡◌, ℕ, suc, Bool, true, false, Option, Some}
use Rattle.m3_types.specs.declared.nodes.TypeNode.{TypeNode}
use Rattle.m3_types.specs.declared.nodes.TypeNode.TheVariants as node
use Rattle.m3_values.specs.Programs.{Program}
use Rattle.m3_values.specs.Types.{node_of, depth, line, line_to, is_below, unveiled}

-- an object type that a program declares, or MUTEX: what stands below ROOT and isn't opaque
abbrev pub is_declared_in : Option TypeNode → Bool
is_declared_in (Some (node.Object brand parent fields methods overrides)) = true
is_declared_in (Some node.Mutex) = true
is_declared_in _ = false

-- The line of each type, from its topmost ancestor to the type itself, ends within the number of
-- types: no type is its own ancestor.
abbrev pub LinesEnd : Program → Type 0
LinesEnd p = (t : ℕ) → line_to p (suc (depth p)) t ≡ line p t

-- An object type is below its ancestors and below ROOT, and every reference type is below REFANY,
-- whatever a unit sees of them.
pub data IsBelow (p : Program) (t u : ℕ) : Type 0 where
  ancestor : is_declared_in (node_of p (unveiled p t)) ≡ true
      → is_below p (unveiled p t) (unveiled p u) ≡ true → LinesEnd p → IsBelow p t u
  root : is_declared_in (node_of p (unveiled p t)) ≡ true → node_of p u ≡ Some node.Root
      → IsBelow p t u
  any : node_of p u ≡ Some node.RefAny → IsBelow p t u
