-- Which full reveals can put an opaque type above a type.
use Rattle.std.proofs.Common.{◌≡◌, ℕ, ◌⊎◌, inl, inr, List, sym, ap, ⊎_elim}
use Rattle.m3_types.specs.declared.nodes.TypeNode.{TypeNode}
use Rattle.m3_types.specs.Definitions.{head_at, ANull}
use Rattle.m3_types.specs.Marks.{mark_of, mark_at}
use Rattle.m3_types_subtype.specs.Subtypes.{Directly, same, null, refany, root, subrange, array, procedure}
use Rattle.m3_types_subtype.proofs.Shapes.{same_head}
use Rattle.m3_types_subtype.proofs.Transitivity.{array_right}

-- the second has a mark of 0 or that of the first, or the first is NULL
pub hidden_mark : (nodes : List TypeNode) (x z : ℕ) → Directly nodes x z → ((mark_at nodes z ≡ 0) ⊎ (mark_at nodes z ≡ mark_at nodes x)) ⊎ (head_at nodes x ≡ ANull)
hidden_mark nodes x z (same d) = inl (inr (sym (ap mark_of (same_head nodes x z d))))
hidden_mark nodes x z (null d) = inr d.0
hidden_mark nodes x z (refany d) = inl (inl (ap mark_of d.1))
hidden_mark nodes x z (root d) = inl (inl (ap mark_of d.1))
hidden_mark nodes x z (subrange d) = inl (inl (ap mark_of d.5))
hidden_mark nodes x z (array d) = inl (inl (⊎_elim (λ e. ap mark_of e) (λ e. ap mark_of e) (array_right nodes d.2.0 x z d.2.2)))
hidden_mark nodes x z (procedure d) = inl (inl (ap mark_of d.0.7))
