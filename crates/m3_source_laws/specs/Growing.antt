-- THE STORE ONLY GROWS: what there is stays there, a cell keeps its type and an activation the one
-- around it.
use Rattle.std.specs.Prelude.{◌≡◌, ℕ, List, [], ◌∷◌, Option, Some}
use Rattle.m3_core.specs.declared.program.ProcDef.{ProcDef}
use Rattle.m3_values.specs.Programs.{Program}
use Rattle.m3_values.specs.Store.{Cell, Made, Bytes, Forked, Kept, Store, Memory, cell_at, kept_at}
use Rattle.m3_source_meaning.specs.Meanings.{Told, End, Waits, Left, Faulted, Undefined}
use Rattle.m3_source_meaning.specs.Phrases.{Here}
use Rattle.m3_source_meaning.specs.Procedures.{ends}

-- what a cell is for ever: of a type, a text, or the thread of a number
pub data Sort : Type 0 where
  OfType : (kind : ℕ) → Sort
  OfText : (bytes : List ℕ) → Sort
  OfThread : (number : ℕ) → Sort

abbrev pub sort_of : Cell → Sort
sort_of (Made kind content holder) = OfType kind
sort_of (Bytes bytes) = OfText bytes
sort_of (Forked number result is_joined) = OfThread number

pub record HasCell (s : Store) (c : ℕ) (sort : Sort) : Type 0 where
  pub cell : Cell
  pub there : cell_at s c ≡ Some cell
  pub same : sort_of cell ≡ sort

pub record HasActivation (s : Store) (a : ℕ) (around : Option ℕ) : Type 0 where
  pub kept : Kept
  pub there : kept_at s a ≡ Some kept
  pub same : kept.around ≡ around

-- the second store has all that the first one has
pub record Grows (s t : Store) : Type 0 where
  pub cells : (c : ℕ) (sort : Sort) → HasCell s c sort → HasCell t c sort
  pub activations : (a : ℕ) (around : Option ℕ) → HasActivation s a around
      → HasActivation t a around

-- others let the store grow too, from answer to answer
pub data AllGrow : Store → List Told → Type 0 where
  none : (s : Store) → AllGrow s []
  more : (s : Store) (told : Told) (answers : List Told) → Grows s told.store
      → AllGrow told.store answers → AllGrow s (told ∷ answers)

-- what an end says of the store
abbrev pub EndGrows : Store → End → Type 0
EndGrows s (Waits action standing t) = Grows s t
EndGrows s (Left answer t) = Grows s t
EndGrows s (Faulted kind at) = Unit {0}
EndGrows s Undefined = Unit {0}

-- Where an activation leads, the store has grown, if others only let it grow.
abbrev pub StoreGrows : Type 0
StoreGrows =
    (p : Program) (here : Here) (q : ProcDef) (memory : Memory) (answers : List Told) →
    AllGrow memory.store answers → EndGrows memory.store (ends p here q memory answers)
