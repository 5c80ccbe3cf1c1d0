-- Where no other rule holds, types of which the first is directly below the second are the same.
use Rattle.std.proofs.Common.{ℕ, List}
use Rattle.m3_types.specs.declared.nodes.TypeNode.{TypeNode}
use Rattle.m3_types_subtype.specs.Sameness.{Same}
use Rattle.m3_types_subtype.specs.Subtypes.{NullBelow, RefAnyAbove, RootAbove, SubrangeBelow, ArrayBelow, ProcedureBelow, Directly, same, null, refany, root, subrange, array, procedure}

pub only_same : (nodes : List TypeNode) (c d : ℕ) → (NullBelow nodes c d → ⊥) → (RefAnyAbove nodes c d → ⊥) → (RootAbove nodes c d → ⊥) → (SubrangeBelow nodes c d → ⊥) → (ArrayBelow nodes c d → ⊥) → (ProcedureBelow nodes c d → ⊥) → Directly nodes c d → Same nodes c d
only_same nodes c d n f r u y p (same q) = q
only_same nodes c d n f r u y p (null q) = absurd (n q)
only_same nodes c d n f r u y p (refany q) = absurd (f q)
only_same nodes c d n f r u y p (root q) = absurd (r q)
only_same nodes c d n f r u y p (subrange q) = absurd (u q)
only_same nodes c d n f r u y p (array q) = absurd (y q)
only_same nodes c d n f r u y p (procedure q) = absurd (p q)
