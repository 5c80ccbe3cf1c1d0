-- A definition's form, told by the row of the types that it names and the row of all that it names.
use Rattle.std.specs.Prelude.{ℕ, List, length, drop, All}
use Rattle.m3_types.specs.declared.nodes.TypeNode.{TypeNode}
use Rattle.m3_types_valid.specs.Forms.{IsType, IsConstant, HasOwnForm}

-- the constants stand behind the types
abbrev pub HasFormOfRows : List TypeNode → TypeNode → List ℕ → List ℕ → Type 0
HasFormOfRows nodes node types parts =
    All (IsType nodes) types × (All (IsConstant nodes) (drop (length types) parts) × HasOwnForm nodes node)
