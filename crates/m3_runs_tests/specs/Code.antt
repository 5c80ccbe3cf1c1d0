-- Middle code in small: blocks over temporaries of three kinds.
use Rattle.std.specs.Prelude.{ℕ, Bool, List}
use Rattle.m3_base.specs.declared.outcomes.FaultKind.{FaultKind}

-- what a temporary holds: a number; a tidy pointer; or what is derived from one
pub data Kind : Type 0 where
  Numeric : Kind
  Pointer : Kind
  Derived : (base : ℕ) → Kind

-- the first number is the temporary that is set, but for a Store
pub data Op : Type 0 where
  Number : (t n : ℕ) → Op
  Move : (t a : ℕ) → Op
  Advance : (t a n : ℕ) → Op
  Load : (t a : ℕ) → Op
  Store : (a x : ℕ) → Op

-- a service that is asked for with one value
pub data Asked : Type 0 where
  Put : Asked
  Acquire : Asked
  Release : Asked
  Signal : Asked
  Join : (alertable : Bool) → Asked

-- what is asked for at a point, with the words of temporaries
pub data Ask : Type 0 where
  Call : (p : ℕ) (formals : List ℕ) → Ask
  New : (words : ℕ) → Ask
  Fork : (closure : ℕ) → Ask
  Serve : Asked → (t : ℕ) → Ask
  Wait : (mutex condition : ℕ) (alertable : Bool) → Ask
  Point : Ask

pub data End : Type 0 where
  Goto : (b : ℕ) → End
  Choose : (t first second : ℕ) → End
  -- some temporaries are shown; the answer goes into `dest`, and the block `next` follows
  Act : (ask : Ask) (shown : List ℕ) (dest next : ℕ) → End
  Return : (t : ℕ) → End
  Raise : (exception t : ℕ) → End
  FaultAt : FaultKind → (line : ℕ) → End

pub record Block : Type 0 where
  pub ops : List Op
  pub end : End

-- a procedure: the block at which it begins, and its formal
pub record Start : Type 0 where
  pub block : ℕ
  pub formal : ℕ

-- the kinds of temporaries, the blocks, and the procedures
pub record Code : Type 0 where
  pub kind : ℕ → Kind
  pub blocks : List Block
  pub starts : List Start
