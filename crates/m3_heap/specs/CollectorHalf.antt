-- For the collector alone: what a half shows, and what its fields keep.
use Rattle.std.specs.Prelude.{◌≡◌, ℕ, ◌≤◌, ◌+◌, ◌^◌, false, [], length, take, slice_index_or, vec_capacity}
use Rattle.m3_heap.specs.declared.half.Half.TheInside.{Inside}
use Rattle.m3_heap.specs.CollectorSpace.{Space, cells_in, unmarked}

-- the cells are those of the words in use
abbrev pub space_of : Inside → Space
space_of half = record {
  base = half.base;
  size = half.size;
  cells = cells_in half.base (take half.used half.starts) (take half.used half.words.items);
}

pub record IsHalf (half : Inside) : Type 0 where
  pub used : half.used ≤ length half.words.items
  pub within : length half.words.items ≤ half.size
  pub room : half.size ≤ vec_capacity half.words
  pub marks : length half.starts ≡ half.size
  pub begins : unmarked (take half.used half.starts) (take half.used half.words.items) ≡ []
  pub rest : (k : ℕ) → half.used ≤ k → slice_index_or half.starts k false ≡ false
  pub ends : half.base + half.size ≤ 2 ^ 63
