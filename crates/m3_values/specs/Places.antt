-- VARIABLES AND PLACES. A place is a variable's name and a path of selectors. There is no address:
-- two places are told apart by what they name.
use Rattle.std.specs.Prelude.{ℕ, ◌+◌, ◌==◌, nat_le, nat_lt, if◌then◌else◌, List, [], ◌∷◌, ◌++◌, length, take, drop, Option, Some, None, slice_get, slice_set}
use Rattle.std.specs.Option.{option_map, option_and_then}
use Rattle.m3_values.specs.Values.{Value, Record, Array, items, row_of}
use Rattle.m3_values.specs.Arrays.{part_of}

-- THE NAME OF A VARIABLE. Each activation has a number, the count of calls before it, and one
-- variable for each declaration in its procedure. A variable is made anew at each entry of its
-- block, under the same name: no place of an earlier entry is left then, since an alias, a formal
-- and a procedure inside that could have one end with the block, and no reference leads to such a
-- variable.
pub data Name : Type 0 where
  -- what a reference leads to: the referent of a REF type, or the fields of an object
  Referent : (cell : ℕ) → Name
  -- a variable of a module or interface
  Global : (variable : ℕ) → Name
  -- a variable of an activation that others can reach too
  Local : (activation variable : ℕ) → Name
  -- a variable of the activation that speaks, which nobody else can reach
  Own : (variable : ℕ) → Name
  -- a new variable that holds a value, and that nothing writes
  Fresh : Value → Name

-- a field or an element, by its place from 0; or the elements of an array from one on
pub data Selector : Type 0 where
  Field : ℕ → Selector
  Element : ℕ → Selector
  Part : (start count : ℕ) → Selector

pub record Place : Type 0 where
  pub name : Name
  pub path : List Selector

-- what a name stands for, and what an operand is: a value, or a place that is fixed
pub data Thing : Type 0 where
  Is : Value → Thing
  At : Place → Thing

abbrev pub whole : Name → Place
whole name = record { name = name; path = [] }

abbrev pub further : Place → Selector → Place
further place selector = record place { path = place.path ++ selector ∷ [] }

-- ---- through a path

abbrev pub selected : Selector → Value → Option Value
selected (Field f) (Record fields) = slice_get (items fields) f
selected (Element i) (Array below elements) = slice_get (items elements) i
selected (Part start count) v = part_of start count v
selected _ _ = None

-- the part of a value at the end of a path
abbrev pub value_in : List Selector → Value → Option Value
value_in [] v = Some v
value_in (s ∷ path) v = option_and_then (value_in path) (selected s v)

abbrev pub with_item : ℕ → Value → List Value → Option (List Value)
with_item i v vs = if nat_lt i (length vs) then Some (slice_set vs i v) else None

abbrev pub with_items : (start : ℕ) → List Value → List Value → Option (List Value)
with_items start us vs =
    if nat_le (start + length us) (length vs)
    then Some (take start vs ++ us ++ drop (start + length us) vs)
    else None

abbrev pub as_record : Option (List Value) → Option Value
as_record vs = option_map (λ vs. Record (row_of vs)) vs

abbrev pub as_array : List ℕ → Option (List Value) → Option Value
as_array below vs = option_map (λ vs. Array below (row_of vs)) vs

-- the value with another one in place of what is selected
abbrev pub with_selected : Selector → (new : Value) → Value → Option Value
with_selected (Field f) new (Record fields) = as_record (with_item f new (items fields))
with_selected (Element i) new (Array below elements) =
    as_array below (with_item i new (items elements))
with_selected (Part start count) (Array inner new) (Array below elements) =
    if count == length (items new)
    then as_array below (with_items start (items new) (items elements)) else None
with_selected _ _ _ = None

-- the value with another one at the end of a path
abbrev pub value_with : List Selector → (new : Value) → Value → Option Value
value_with [] new v = Some new
value_with (s ∷ path) new v =
    option_and_then (λ part. option_and_then (λ changed. with_selected s changed v)
    (value_with path new part)) (selected s v)
