-- Words and cells that have names and never move.
use Rattle.std.specs.Prelude.{◌≡◌, ℕ, zero, suc, ◌+◌, ◌==◌, ◌&&◌, nat_lt, Bool, false, List, Option, Some, None, if◌then◌else◌, slice_get}
use Rattle.m3_runs.specs.Languages.{New, Entered, Begins, Parts, Language, Move}
use Rattle.m3_runs.specs.States.{State}
use Rattle.m3_runs_tests.specs.Code.{Code}
use Rattle.m3_runs_tests.specs.Meaning.{Tagged, Plain, Tidy, Words, Activation, words_of, go_on, begin, holder, hold, life, join, end_with, begins, is_same, bytes, shows, main}

-- a number, or a word of a cell
pub data Word : Type 0 where
  Number : (n : ℕ) → Word
  Cell : (cell distance : ℕ) → Word

-- the words of each cell, and the name of the next one
pub record Memory : Type 0 where
  pub words : ℕ → ℕ → Option Word
  pub next : ℕ

abbrev pub Frame : Type 0
Frame = ℕ → Word

abbrev pub further : Word → ℕ → Word
further (Number m) n = Number (m + n)
further (Cell c d) n = Cell c (d + n)

abbrev pub as_number : Word → Option ℕ
as_number (Number n) = Some n
as_number (Cell c d) = None

-- nothing is said of an address within a cell
abbrev pub is_zero : Word → Option Bool
is_zero (Number n) = Some (n == 0)
is_zero (Cell c zero) = Some false
is_zero (Cell c (suc d)) = None

abbrev pub is_one : Word → Word → Bool
is_one (Number m) (Number n) = m == n
is_one (Cell c d) (Cell e i) = c == e
is_one _ _ = false

abbrev pub load : Memory → Word → Option Word
load m (Number n) = None
load m (Cell c d) = m.words c d

abbrev pub with_word : Memory → ℕ → ℕ → Word → Option Word → Option Memory
with_word m c d x None = None
with_word m c d x (Some old) =
    Some (record m { words = λ e i. if e == c && i == d then Some x else m.words e i })

abbrev pub store : Memory → Word → Word → Option Memory
store m (Number n) x = None
store m (Cell c d) x = with_word m c d x (m.words c d)

abbrev pub set : Frame → ℕ → Word → Frame
set f t x u = if u == t then x else f u

abbrev pub no_words : Frame
no_words t = Number 0

-- numbers in cells are below a limit
abbrev pub words : ℕ → Words Word Frame Memory
words limit = record {
  get = λ f t. f t;
  set = set;
  number = Number;
  is_small = λ n. nat_lt n limit;
  as_number = as_number;
  further = further;
  is_zero = is_zero;
  is_one = is_one;
  load = load;
  store = store;
}

abbrev pub Named_parts : Type 0
Named_parts = Parts (Activation Frame) (Tagged Word) Memory

abbrev pub Named_state : Type 0
Named_state = State (Activation Frame) (Tagged Word) Memory

-- a new cell, of zeros
abbrev pub with_cell : Memory → ℕ → Memory
with_cell m count =
    let zeros : ℕ → Option Word = λ i. if nat_lt i count then Some (Number 0) else None in
    record { words = λ c i. if c == m.next then zeros i else m.words c i; next = suc m.next }

abbrev pub with_new : Named_parts → ℕ → Named_parts
with_new parts count = record parts { memory = with_cell parts.memory count }

pub data Made (parts : Named_parts) (new : New (Tagged Word))
    : Option (Tagged Word) → Named_parts → Type 0 where
  made : (count : ℕ) → words_of new ≡ Some count
      → Made parts new (Some (Tidy (Cell parts.memory.next 0))) (with_new parts count)

pub data Enters (c : Code) (limit p : ℕ) (formals : List (Tagged Word)) (m : Memory)
    : Entered (Activation Frame) (Tagged Word) Memory → Type 0 where
  enters : (n : ℕ) (move : Move (Activation Frame) (Tagged Word) Memory)
      → begin (words limit) c n no_words (slice_get c.starts p) formals m ≡ Some move
      → Enters c limit p formals m (Begins move)

-- THE LANGUAGE of such code over named cells: no stack is full, and there is always room
abbrev pub named : Code → ℕ → Language (Activation Frame) (Tagged Word) Memory
named c limit = record {
  enters = λ stack p environment formals m. Enters c limit p formals m;
  goes = λ s a m move. (n : ℕ) × (go_on (words limit) c n s a m ≡ Some move);
  shows = λ m s. shows (words limit) c s;
  makes = λ parts n new. Made parts new;
  collects = λ parts after. after ≡ parts;
  number = λ n. Plain (Number n);
  is_same = is_same (words limit) c;
  bytes = bytes (words limit) c;
  holder = holder (words limit) c;
  hold = hold (words limit) c;
  number_of = λ m v. None;
  life = life (words limit) c;
  join = join (words limit) c;
  end_with = end_with (words limit) c;
  alerted = 1;
  begins = begins (words limit) c;
  main = main (words limit) c;
  main_cell = Tidy (Number 0);
  memory = record { words = λ c i. None; next = 0 };
}
