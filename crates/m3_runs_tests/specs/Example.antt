-- A small program with its places and rows: a pointer that is stored through a derived one, and is
-- loaded again behind a point at which both may have moved.
use Rattle.std.specs.Prelude.{◌≡◌, ℕ, zero, suc, ◌==◌, ◌||◌, Bool, false, List, [], ◌∷◌, slice_index}
use Rattle.m3_base.specs.declared.outcomes.Outcome.TheVariants.{Done}
use Rattle.m3_runs.specs.States.{Given, start}
use Rattle.m3_runs.specs.Runs.{Ends, Runs}
use Rattle.m3_runs_tests.specs.Code.{Kind, Numeric, Pointer, Derived, Number, Advance, Load, Store, New, Serve, Put, Point, Choose, Act, Return, Block, Start, Code}
use Rattle.m3_runs_tests.specs.Named.{Named_state, named}
use Rattle.m3_runs_tests.specs.Moving.{Places}
use Rattle.m3_runs_tests.specs.Sound.{Sound}

-- ---- lists as functions

abbrev pub kind_in : List Kind → ℕ → Kind
kind_in [] t = Numeric
kind_in (k ∷ ks) zero = k
kind_in (k ∷ ks) (suc t) = kind_in ks t

abbrev pub row_in : List (List ℕ) → ℕ → List ℕ
row_in [] b = []
row_in (row ∷ rows) zero = row
row_in (row ∷ rows) (suc b) = row_in rows b

abbrev pub is_in : List ℕ → ℕ → Bool
is_in [] u = false
is_in (x ∷ xs) u = (u == x) || is_in xs u

-- ---- the program

-- 0: the formal. 1: a cell. 2: its second word. 3: another cell. 4: what is loaded. 5: a number
abbrev pub kinds : List Kind
kinds = Numeric ∷ Pointer ∷ Derived 1 ∷ Pointer ∷ Pointer ∷ Numeric ∷ []

-- the place of each temporary in a frame
abbrev pub places : List ℕ
places = 0 ∷ 1 ∷ 2 ∷ 3 ∷ 3 ∷ 0 ∷ []

-- the temporaries that are live at the start of each block
abbrev pub rows : List (List ℕ)
rows =
    [] ∷
    (1 ∷ []) ∷
    (1 ∷ 2 ∷ 3 ∷ []) ∷
    (1 ∷ 2 ∷ []) ∷
    [] ∷
    [] ∷
    [] ∷ []

abbrev pub blocks : List Block
blocks =
    record { ops = []; end = Act (New 2) [] 1 1 } ∷
    record { ops = Advance 2 1 1 ∷ []; end = Act (New 1) (1 ∷ []) 3 2 } ∷
    record { ops = Store 2 3 ∷ []; end = Act Point (1 ∷ []) 5 3 } ∷
    record { ops = Load 4 2 ∷ []; end = Choose 4 4 5 } ∷
    record { ops = Number 5 2 ∷ []; end = Act (Serve Put 5) [] 5 6 } ∷
    record { ops = Number 5 1 ∷ []; end = Act (Serve Put 5) [] 5 6 } ∷
    record { ops = Number 5 0 ∷ []; end = Return 5 } ∷ []

abbrev pub example : Code
example =
    let main : Start = record { block = 0; formal = 0 } in
    record { kind = kind_in kinds; blocks = blocks; starts = main ∷ [] }

abbrev pub example_places : Places
example_places = record { place = slice_index places; live = λ b. is_in (row_in rows b) }

abbrev pub ExampleIsSound : Type 0
ExampleIsSound = Sound example example_places 8

-- With points enough, it puts the number 1 in its fifth turn and is done.
pub record PutsOne (given : Given) : Type 0 where
  pub state : Named_state
  pub runs : Runs (named example 8) given (start (named example 8)) [] 5 (Ends state Done)
  pub output : state.output ≡ 1 ∷ []

abbrev pub ExamplePutsOne : Type 0
ExamplePutsOne = PutsOne (record { points = 5; threads = 1; input = [] })
