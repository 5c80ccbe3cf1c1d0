use Rattle.std.proofs.Common.{◌≡◌, ℕ, ◌<◌, get_or, length, false}
use Rattle.m3_heap.specs.Shapes.{is_listed}
use Rattle.m3_image_sections.specs.PartViews.{type_of}
use Rattle.m3_image_decoded.proofs.types.ReadyType.of.Given as goal

abbrev pub invariant-loop-k : goal.invariant-loop-k
invariant-loop-k l = ((j : ℕ) → j < l.k → get_or l.low j false ≡ is_listed (type_of l.view).pointers j) × (length l.low ≡ 64)
