-- When two types are the same: their definitions, written out to any depth, are equal.
use Rattle.std.specs.Prelude.{◌≡◌, ℕ, zero, suc, List, [], ◌∷◌}
use Rattle.m3_types.specs.declared.nodes.TypeNode.{TypeNode}
use Rattle.m3_types.specs.Definitions.{head_at, parts_at}

-- the lists are equally long, and what stands at one place of both is related
abbrev pub Matched : (ℕ → ℕ → Type 0) → List ℕ → List ℕ → Type 0
Matched R [] [] = Unit {0}
Matched R (x ∷ xs) (y ∷ ys) = R x y × Matched R xs ys
Matched R [] (y ∷ ys) = ⊥
Matched R (x ∷ xs) [] = ⊥

-- The two definitions, written out to a depth, are equal: nothing is written at depth 0, and one
-- level more is the head with the parts written out.
abbrev pub EqualToDepth : List TypeNode → ℕ → ℕ → ℕ → Type 0
EqualToDepth nodes zero a b = Unit {0}
EqualToDepth nodes (suc depth) a b = (head_at nodes a ≡ head_at nodes b) × Matched (EqualToDepth nodes depth) (parts_at nodes a) (parts_at nodes b)

-- the two types are the same
abbrev pub Same : List TypeNode → ℕ → ℕ → Type 0
Same nodes a b = (depth : ℕ) → EqualToDepth nodes depth a b
