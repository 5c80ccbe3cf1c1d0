-- Words of a machine, and a collector that moves cells.
use Rattle.std.specs.Prelude.{◌≡◌, ℕ, ◌+◌, ◌==◌, ◌&&◌, ◌≤◌, ◌<◌, ◌⊎◌, nat_lt, nat_le, Bool, true, false, List, length, Option, Some, None, if◌then◌else◌, slice_get}
use Rattle.m3_runs.specs.Languages.{New, Entered, Begins, Overflows, Parts, Language, Move}
use Rattle.m3_runs.specs.States.{State}
use Rattle.m3_runs.specs.Follows.{Each, Both, Standing, SameThread}
use Rattle.m3_runs_tests.specs.Code.{Kind, Numeric, Pointer, Derived, Code}
use Rattle.m3_runs_tests.specs.Meaning.{Tagged, Plain, Tidy, Words, Waiting, Activation, Lowest, Within, words_of, go_on, begin, holder, hold, life, join, end_with, begins, is_same, bytes, shows, main}

-- what each address holds, and how many words the cell has that begins there
pub record Memory : Type 0 where
  pub words : ℕ → Option ℕ
  pub sizes : ℕ → Option ℕ

-- where each temporary is in a frame, and which ones are live at the start of each block
pub record Places : Type 0 where
  pub place : ℕ → ℕ
  pub live : ℕ → ℕ → Bool

-- a machine: places, the lowest address of the heap, and how many activations a stack has room for
pub record Machine : Type 0 where
  pub places : Places
  pub limit : ℕ
  pub depth : ℕ

-- the words of a frame
abbrev pub Frame : Type 0
Frame = ℕ → ℕ

abbrev pub set : Frame → ℕ → ℕ → Frame
set f t x u = if u == t then x else f u

abbrev pub no_words : Frame
no_words t = 0

abbrev pub with_word : Memory → ℕ → ℕ → Option ℕ → Option Memory
with_word m at x None = None
with_word m at x (Some old) =
    Some (record m { words = λ a. if a == at then Some x else m.words a })

abbrev pub words : Places → Words ℕ Frame Memory
words p = record {
  get = λ f t. f (p.place t);
  set = λ f t x. set f (p.place t) x;
  number = λ n. n;
  is_small = λ n. true;
  as_number = Some;
  further = λ x n. x + n;
  is_zero = λ x. Some (x == 0);
  is_one = λ x y. x == y;
  load = λ m at. m.words at;
  store = λ m at x. with_word m at x (m.words at);
}

abbrev pub Moving_parts : Type 0
Moving_parts = Parts (Activation Frame) (Tagged ℕ) Memory

abbrev pub Moving_state : Type 0
Moving_state = State (Activation Frame) (Tagged ℕ) Memory

-- ---- collections

-- what the row of a waiting activation names
abbrev pub is_kept : Places → Waiting Frame → ℕ → Bool
is_kept p s t = if t == s.dest then false else p.live s.next t

-- numbers below the heap stay, and starts of cells are moved
abbrev pub Forwards : ℕ → (ℕ → Option ℕ) → ℕ → ℕ → Type 0
Forwards limit moved old new = ((old < limit) × (new ≡ old)) ⊎ (moved old ≡ Some new)

-- the word of a temporary, by its kind; a derived one grows as its base does
abbrev pub ForwardsAs : Places → ℕ → (ℕ → Option ℕ) → Kind → ℕ → Frame → Frame → Type 0
ForwardsAs p limit moved Numeric t old new = new (p.place t) ≡ old (p.place t)
ForwardsAs p limit moved Pointer t old new =
    Forwards limit moved (old (p.place t)) (new (p.place t))
ForwardsAs p limit moved (Derived b) t old new =
    new (p.place t) + old (p.place b) ≡ old (p.place t) + new (p.place b)

pub record FrameMoved (c : Code) (p : Places) (limit : ℕ) (moved : ℕ → Option ℕ)
    (old new : Waiting Frame) : Type 0 where
  pub shown : new.shown ≡ old.shown
  pub dest : new.dest ≡ old.dest
  pub next : new.next ≡ old.next
  pub words : (t : ℕ) → is_kept p old t ≡ true
      → ForwardsAs p limit moved (c.kind t) t old.frame new.frame

pub data ActivationMoved (c : Code) (p : Places) (limit : ℕ) (moved : ℕ → Option ℕ)
    : Activation Frame → Activation Frame → Type 0 where
  lowest : ActivationMoved c p limit moved Lowest Lowest
  within : (old new : Waiting Frame) → FrameMoved c p limit moved old new
      → ActivationMoved c p limit moved (Within old) (Within new)

pub data TaggedMoved (limit : ℕ) (moved : ℕ → Option ℕ) : Tagged ℕ → Tagged ℕ → Type 0 where
  plain : (n : ℕ) → TaggedMoved limit moved (Plain n) (Plain n)
  tidy : (old new : ℕ) → Forwards limit moved old new
      → TaggedMoved limit moved (Tidy old) (Tidy new)

-- what stands after a collection for what stood before it
abbrev pub moves : Code → Places → ℕ → (ℕ → Option ℕ)
    → Standing (Unit {0}) (Activation Frame) (Tagged ℕ) Memory (Activation Frame) (Tagged ℕ) Memory
moves c p limit moved = record {
  value = λ _. TaggedMoved limit moved;
  stack = λ _. Each (ActivationMoved c p limit moved);
  memory = λ _ old new. Unit {0};
  later = λ _ _. Unit {0};
}

-- each kept cell has its words at its new start, with each pointer forwarded
pub record CellMoved (limit : ℕ) (moved : ℕ → Option ℕ) (old new : Memory) (a b : ℕ) : Type 0 where
  pub size : new.sizes b ≡ old.sizes a
  pub words : (i n : ℕ) → old.sizes a ≡ Some n → i < n → (k : ℕ) → old.words (a + i) ≡ Some k
      → (k' : ℕ) × (new.words (b + i) ≡ Some k') × Forwards limit moved k k'

-- cells lie apart
abbrev pub Apart : Memory → Type 0
Apart m = (a b i j n k : ℕ) → m.sizes a ≡ Some n → m.sizes b ≡ Some k → i < n → j < k
    → a + i ≡ b + j → (a ≡ b) × (i ≡ j)

pub record Collected (c : Code) (p : Places) (limit : ℕ) (old new : Moving_parts) : Type 0 where
  pub moved : ℕ → Option ℕ
  pub starts : (a b : ℕ) → moved a ≡ Some b → (limit ≤ a) × (limit ≤ b)
  pub one_to_one : (a b d : ℕ) → moved a ≡ Some d → moved b ≡ Some d → a ≡ b
  pub cells : (a b : ℕ) → moved a ≡ Some b → CellMoved limit moved old.memory new.memory a b
  pub apart : Apart new.memory
  pub threads : Each (Both (SameThread (moves c p limit moved) tt)) old.threads new.threads

-- ---- new cells

-- a new cell, of zeros, where no cell lies
pub record Adds (limit start count : ℕ) (old new : Memory) : Type 0 where
  pub high : limit ≤ start
  pub words : (at : ℕ) → new.words at
      ≡ (if nat_le start at && nat_lt at (start + count) then Some 0 else old.words at)
  pub sizes : (at : ℕ) → new.sizes at ≡ (if at == start then Some count else old.sizes at)
  pub free : (a i n : ℕ) → old.sizes a ≡ Some n → i < n → (j : ℕ) → j < count
      → (a + i ≡ start + j) → ⊥
  pub unused : old.sizes start ≡ None

-- at once, or after a collection, or there is no room
pub data Made (c : Code) (p : Places) (limit : ℕ) (parts : Moving_parts) (new : New (Tagged ℕ))
    : Option (Tagged ℕ) → Moving_parts → Type 0 where
  at_once : (count start : ℕ) (m : Memory) → words_of new ≡ Some count
      → Adds limit start count parts.memory m
      → Made c p limit parts new (Some (Tidy start)) (record parts { memory = m })
  late : (count start : ℕ) (after : Moving_parts) (m : Memory) → words_of new ≡ Some count
      → Collected c p limit parts after → Adds limit start count after.memory m
      → Made c p limit parts new (Some (Tidy start)) (record after { memory = m })
  no_room : (after : Moving_parts) → Collected c p limit parts after
      → Made c p limit parts new None after

pub data Enters (c : Code) (k : Machine) (stack : List (Activation Frame)) (p : ℕ)
    (formals : List (Tagged ℕ)) (m : Memory)
    : Entered (Activation Frame) (Tagged ℕ) Memory → Type 0 where
  enters : (n : ℕ) (move : Move (Activation Frame) (Tagged ℕ) Memory) → length stack < k.depth
      → begin (words k.places) c n no_words (slice_get c.starts p) formals m ≡ Some move
      → Enters c k stack p formals m (Begins move)
  overflows : k.depth ≤ length stack → Enters c k stack p formals m Overflows

-- THE LANGUAGE of such code over moving cells
abbrev pub moving : Code → Machine → Language (Activation Frame) (Tagged ℕ) Memory
moving c k = record {
  enters = λ stack p environment formals m. Enters c k stack p formals m;
  goes = λ s a m move. (n : ℕ) × (go_on (words k.places) c n s a m ≡ Some move);
  shows = λ m s. shows (words k.places) c s;
  makes = λ parts n new. Made c k.places k.limit parts new;
  collects = Collected c k.places k.limit;
  number = λ n. Plain n;
  is_same = is_same (words k.places) c;
  bytes = bytes (words k.places) c;
  holder = holder (words k.places) c;
  hold = hold (words k.places) c;
  number_of = λ m v. None;
  life = life (words k.places) c;
  join = join (words k.places) c;
  end_with = end_with (words k.places) c;
  alerted = 1;
  begins = begins (words k.places) c;
  main = main (words k.places) c;
  main_cell = Tidy 0;
  memory = record { words = λ at. None; sizes = λ at. None };
}
