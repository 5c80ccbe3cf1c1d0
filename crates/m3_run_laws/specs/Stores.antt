-- What a run keeps of its store.
use Rattle.std.specs.Prelude.{◌≡◌, ◌⊎◌, false}
use Rattle.m3_heap.specs.Heap.{Heap, KeepsLaws, SameSizes}

-- a store that keeps its laws, with no open collection
pub record IsLawful (heap : Heap) : Type 0 where
  pub laws : KeepsLaws heap
  pub closed : heap.is_open ≡ false

-- a store that was lawful still is, and has as many words as it was made with
abbrev pub StaysLawful : Heap → Heap → Type 0
StaysLawful from heap = IsLawful from → IsLawful heap × SameSizes from heap

-- a store that refused nothing since its last collection. Without a nursery nothing hangs on that
abbrev pub NothingRefused : Heap → Type 0
NothingRefused heap = (heap.nursery ≡ 0) ⊎ (heap.asked ≡ 0)
