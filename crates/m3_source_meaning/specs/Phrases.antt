-- What is known of each kind of phrase: its meaning, and what the phrases around it ask of it.
use Rattle.std.specs.Prelude.{ℕ, ℤ, Bool, List, Option}
use Rattle.m3_base.specs.declared.places.Pos.{Pos}
use Rattle.m3_core.specs.declared.exprs.Operator.{Operator}
use Rattle.m3_values.specs.Values.{Value}
use Rattle.m3_values.specs.Places.{Thing}
use Rattle.m3_source_meaning.specs.Meanings.{Evaluates}

-- The activation that speaks: its procedure with the level of that one, its number, and which of
-- its variables it shares.
pub record Here : Type 0 where
  pub procedure : ℕ
  pub level : ℕ
  pub activation : ℕ
  pub shared : List ℕ

-- An expression: its value; and the same with a place in place of the value where it ends in a
-- read, for whoever reads it later.
pub record Expression : Type 0 where
  pub pos : Pos
  pub kind : Option ℕ
  pub value : Evaluates Value
  pub unread : Evaluates Thing

-- A chain gives a place or a value; `unread` lacks the read that it ends in, if it does.
pub record Chained : Type 0 where
  pub pos : Pos
  pub kind : Option ℕ
  pub thing : Evaluates Thing
  pub unread : Evaluates Thing

-- what a chain begins with, by the place of the chain's first token
pub record Based : Type 0 where
  pub kind : Option ℕ
  pub thing : Pos → Evaluates Thing
  pub unread : Pos → Evaluates Thing

-- what stands before a step: the place of the chain's first token, and the type of what is given
pub record Before : Type 0 where
  pub pos : Pos
  pub kind : Option ℕ

pub record Stepped : Type 0 where
  pub kind : Option ℕ
  pub is_read : Bool
  pub goes : Before → Thing → Evaluates Thing

-- an operator with its right operand, and the type of what it gives
pub record Operated : Type 0 where
  pub operator : Operator
  pub pos : Pos
  pub right : Expression
  pub kind : Option ℕ

-- an element of a set adds its members to those of the elements before it
abbrev pub Adding : Type 0
Adding = List ℤ → Evaluates (List ℤ)

-- a field with its value, of a record, or of the object type that declares it
pub record Valued : Type 0 where
  pub owner : Option ℕ
  pub field : ℕ
  pub value : Expression

-- an actual, for the formal at a place in the signature: a value, or a place whose shape is checked
-- if the formal's type asks for it
pub data Passing : Type 0 where
  By_value : (formal kind : ℕ) → Expression → Passing
  By_place : (formal kind : ℕ) → Chained → (checks_shape : Bool) → Passing

-- a call of a routine, and its value where it has one
pub record Served : Type 0 where
  pub pos : Pos
  pub kind : Option ℕ
  pub value : Evaluates Value
