-- How high types stand: how many types are above each by their own definitions.
use Rattle.std.specs.Prelude.{◌≡◌, ℕ, zero, suc, List, Some, None}
use Rattle.std.specs.Ordering.{nat_cmp}
use Rattle.std.specs.BTreeMap.{BTreeMap, get}
use Rattle.m3_types.specs.declared.nodes.TypeNode.{TypeNode}
use Rattle.m3_types.specs.Definitions.{node_at}
use Rattle.m3_types.specs.Kinds.{named_above}

-- nothing is named above a type of height 0, and a type of the height before above any other
pub data HasHeight : List TypeNode → ℕ → ℕ → Type 0 where
  top : {nodes : List TypeNode} {place : ℕ} → named_above (node_at nodes place) ≡ None → HasHeight nodes place zero
  below : {nodes : List TypeNode} {place above height : ℕ} → named_above (node_at nodes place) ≡ Some above → HasHeight nodes above height → HasHeight nodes place (suc height)

-- what is known are heights
abbrev pub AreHeights : List TypeNode → BTreeMap ℕ ℕ → Type 0
AreHeights nodes known = (place height : ℕ) → get nat_cmp known place ≡ Some height → HasHeight nodes place height
