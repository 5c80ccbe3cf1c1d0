-- THE VALUES of a program. A value has no size and lies nowhere.
use Rattle.std.specs.Prelude.{ℕ, ℤ, pos, ◌==◌, ◌&&◌, Bool, true, false, List, [], ◌∷◌, Option, Some, None}

mutual
  pub data Value : Type 0 where
    -- a member of an ordinal type, by its number
    Ordinal : ℤ → Value
    -- NIL, of each reference type and each procedure type
    Nil : Value
    -- a reference to a cell of the store, by the cell's name
    Pointer : (cell : ℕ) → Value
    -- a text that stands in the program, by its place in the program's texts: each is one cell
    -- that is there before the program runs, and never changes
    Text : (text : ℕ) → Value
    -- the main thread, which is there before the program runs
    MainThread : Value
    -- a procedure, by its number, with the activation around it, by that one's number: none around
    -- a procedure of the outermost scope of a unit
    Procedure : (procedure : ℕ) (around : Option ℕ) → Value
    -- a set: the numbers of its members, rising
    Members : List ℤ → Value
    -- a record: its fields in order
    Record : Values → Value
    -- An array: its elements in order. Where these are arrays too, `below` has the sizes of their
    -- dimensions, the outermost first, so that an array without elements has a shape.
    Array : (below : List ℕ) → Values → Value

  -- values in a row
  pub data Values : Type 0 where
    End : Values
    More : Value → Values → Values

-- ---- rows as lists

abbrev pub items : Values → List Value
items End = []
items (More v vs) = v ∷ items vs

abbrev pub row_of : List Value → Values
row_of [] = End
row_of (v ∷ vs) = More v (row_of vs)

-- ---- equality

abbrev pub same_option : Option ℕ → Option ℕ → Bool
same_option None None = true
same_option (Some m) (Some n) = m == n
same_option _ _ = false

abbrev pub same_integer : ℤ → ℤ → Bool
same_integer (pos m) (pos n) = m == n
same_integer (ℤ.negsuc m) (ℤ.negsuc n) = m == n
same_integer _ _ = false

abbrev pub same_list : {A : Type 0} → (A → A → Bool) → List A → List A → Bool
same_list same [] [] = true
same_list same (x ∷ xs) (y ∷ ys) = same x y && same_list same xs ys
same_list same _ _ = false

-- EQUALITY: references and procedures by identity (of a procedure its body and the activation
-- around it), all else part by part. Arrays of unequal shape are unequal.
abbrev mutual
  pub same : Value → Value → Bool
  same (Ordinal m) (Ordinal n) = same_integer m n
  same Nil Nil = true
  same (Pointer a) (Pointer b) = a == b
  same (Text a) (Text b) = a == b
  same MainThread MainThread = true
  same (Procedure p around) (Procedure q other) = (p == q) && same_option around other
  same (Members ms) (Members ns) = same_list same_integer ms ns
  same (Record vs) (Record us) = same_row vs us
  same (Array below vs) (Array other us) = same_list ◌==◌ below other && same_row vs us
  same _ _ = false

  pub same_row : Values → Values → Bool
  same_row End End = true
  same_row (More v vs) (More u us) = same v u && same_row vs us
  same_row _ _ = false

-- ---- ordinals

-- FALSE is 0 and TRUE is 1
abbrev pub truth : Bool → Value
truth false = Ordinal (pos 0)
truth true = Ordinal (pos 1)

abbrev pub number : ℕ → Value
number n = Ordinal (pos n)
