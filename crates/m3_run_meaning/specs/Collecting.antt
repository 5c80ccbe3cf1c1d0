-- What a collection makes of a state.
use Rattle.std.specs.Prelude.{◌≡◌, false}
use Rattle.m3_heap.specs.Heap.{KeepsLaws, SameSizes}
use Rattle.m3_roots.specs.Collected.{Parts, Collected, StopsCollection}
use Rattle.m3_roots.specs.Steps.{StepsAtMost}
use Rattle.m3_image_sections.specs.Parts.{Program}
use Rattle.m3_run_meaning.specs.State.{State, raised}

abbrev pub parts_of : State → Parts
parts_of s = record { all = s.all; globals = s.globals; heap = s.heap }

-- a collection that met trap 9, since it has to stop: nothing but words, cells, threads and steps is other than before,
-- and nothing is said of them but that the store keeps its laws
pub record Spoils (p : Program) (old new : State) : Type 0 where
  pub stops : StopsCollection p (parts_of old)
  pub laws : KeepsLaws new.heap
  pub sizes : SameSizes old.heap new.heap
  pub closed : new.heap.is_open ≡ false
  pub rest : new ≡ record old { all = new.all; globals = new.globals; heap = new.heap; steps = new.steps }

-- a collection that doesn't have to stop: it ended well, was counted, and took no more steps than a collection of these
-- frames and this heap takes at most
pub record Collects (p : Program) (old new : State) : Type 0 where
  pub whole : StopsCollection p (parts_of old) → ⊥
  pub collected : Collected p (parts_of old) (parts_of new)
  pub steps : StepsAtMost p collected.walks old.heap new.heap old.steps new.steps
  pub rest : new ≡ record old { all = new.all; globals = new.globals; heap = new.heap; collections = raised 64 old.collections; steps = new.steps }
