-- WHERE THE MACHINE MAY LACK ROOM: what is known of the thread that goes, where a heap of so many
-- words has no room for a cell, or a stack of so many words none for a frame.
use Rattle.std.specs.Prelude.{◌≡◌, ℕ, zero, suc, pos, ◌+◌, ◌*◌, ◌<◌, List, length, map, Option, Some}
use Rattle.std.specs.Option.{option_map_or}
use Rattle.m3_types.specs.declared.nodes.TypeNode.{TypeNode}
use Rattle.m3_types.specs.declared.nodes.TypeNode.TheVariants as node
use Rattle.m3_runs.specs.Languages.{New, Cell, Calls, Thread, Parts}
use Rattle.m3_runs.specs.States.{thread_at}
use Rattle.m3_runs.specs.Follows.{Needs}
use Rattle.m3_values.specs.Values.{Ordinal, Nil}
use Rattle.m3_values.specs.Programs.{Program}
use Rattle.m3_values.specs.Types.{node_of}
use Rattle.m3_values.specs.Places.{Thing, Is}
use Rattle.m3_values.specs.Store.{Store}
use Rattle.m3_source_meaning.specs.Programs.{Activity, new_cell}
use Rattle.m3_source_meaning.specs.Reach.{value_words, product, below, made_words, cell_words, words, frames}

abbrev pub size_of : Thing → ℕ
size_of (Is (Ordinal (pos n))) = n
size_of _ = 0

module _ (p : Program) where
  -- an array of these sizes of open dimensions, or a value of a type without any
  abbrev pub sized_words : (dimensions kind : ℕ) → (sizes : List ℕ) → ℕ
  sized_words zero kind sizes = 1 + value_words p kind
  sized_words (suc n) kind sizes =
      1 + suc n + product p sizes * value_words p (below p (suc n) kind)

  abbrev pub asked_words : Option TypeNode → (kind : ℕ) → (sizes : List ℕ) → ℕ
  asked_words (Some (node.RefTo brand target)) kind sizes =
      sized_words (length sizes) target.0 sizes
  asked_words (Some (node.OpenArray element)) kind sizes = sized_words (length sizes) kind sizes
  asked_words other kind sizes = made_words p other kind Nil

  -- the words of what is to be made
  abbrev pub new_words : Store → New Thing → ℕ
  new_words s (Cell kind sizes) = asked_words (node_of p kind) kind (map size_of sizes)
  new_words s new = option_map_or (cell_words p) (new_cell p s new) 0

  -- Thread n is to make a cell, and that one with all that is reached passes the heap.
  pub record NoCell (heap : ℕ) (parts : Parts Activity Thing Store) (n : ℕ) : Type 0 where
    pub thread : Thread Activity Thing
    pub there : thread_at parts.threads n ≡ Some thread
    pub new : New Thing
    pub needs : Needs thread.action new
    pub more : heap < words p parts + new_words parts.memory new

  -- Thread n is to call a procedure, and that one's frame with its others passes the stack.
  pub record NoFrame (stack : ℕ) (frame_words : ℕ → ℕ) (parts : Parts Activity Thing Store) (n : ℕ)
      : Type 0 where
    pub thread : Thread Activity Thing
    pub there : thread_at parts.threads n ≡ Some thread
    pub procedure : ℕ
    pub environment : Thing
    pub formals : List Thing
    pub calls : thread.action ≡ Calls procedure environment formals
    pub more : stack < frames p frame_words thread + frame_words procedure
