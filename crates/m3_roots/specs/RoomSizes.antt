-- How much room there is for a collection.
use Rattle.std.specs.Prelude.{ℕ, ◌≤◌, ◌<◌, ◌+◌, length, vec_capacity}
use Rattle.m3_roots.specs.declared.room.Room.{Room}

-- there is room for the frames of a stack of so many words, and a mark for each register and each of these words
pub record IsRoomFor (stack : ℕ) (room : Room) : Type 0 where
  pub frames : stack < vec_capacity room.frames
  pub marks : stack + 16 ≤ length room.marks.items
