-- Words as middle code knows them: where a cell of the heap lies is never known.
use Rattle.std.specs.Prelude.{ℕ, zero, suc, ◌+◌, ◌-◌, ◌*◌, ◌%◌, ◌^◌, ◌<◌, ◌≤◌, nat_lt, List, [], ◌∷◌, ◌==◌, ◌&&◌, Bool, true, false, Option, Some, None, if◌then◌else◌}
use Rattle.std.specs.Option.{option_map}
use Rattle.m3_base.specs.Words.{add_words, mul_words}

-- a cell of the heap, and how many times its first address is meant
pub record Multiple : Type 0 where
  pub cell : ℕ
  pub times : ℕ

-- A word: the sum of such multiples and of a number, modulo 2 ^ 64. A cell has a number for a name.
pub record Word : Type 0 where
  pub cells : List Multiple
  pub offset : ℕ

-- Each cell stands there once, by rising names from one on, with a factor above 0 and below 2 ^ 64.
abbrev pub AreFrom : ℕ → List Multiple → Type 0
AreFrom n [] = Unit {0}
AreFrom n (x ∷ xs) =
    (n ≤ x.cell) × (0 < x.times) × (x.times < 2 ^ 64) × AreFrom (suc x.cell) xs

-- The normal form: two words in it that stand for the same sum are one.
pub record IsNormal (w : Word) : Type 0 where
  pub cells : AreFrom 0 w.cells
  pub offset : w.offset < 2 ^ 64

-- ---- sums, which are always in normal form

-- so many times a cell in front of others, where that is any
abbrev pub put : ℕ → ℕ → List Multiple → List Multiple
put c n xs = if n % 2 ^ 64 == 0 then xs else record { cell = c; times = n % 2 ^ 64 } ∷ xs

-- so many times a cell more
abbrev pub with_cell : ℕ → ℕ → List Multiple → List Multiple
with_cell c n [] = put c n []
with_cell c n (x ∷ xs) =
    if c == x.cell then put c (n + x.times) xs
    else if nat_lt c x.cell then put c n (x ∷ xs) else x ∷ with_cell c n xs

-- so many times some cells more
abbrev pub with_cells : ℕ → List Multiple → List Multiple → List Multiple
with_cells n [] ys = ys
with_cells n (x ∷ xs) ys = with_cell x.cell (n * x.times) (with_cells n xs ys)

-- so many times a word
abbrev pub times_of : ℕ → Word → Word
times_of n w = record { cells = with_cells n w.cells []; offset = mul_words n w.offset }

-- the same word in normal form
abbrev pub normal : Word → Word
normal w = times_of 1 w

abbrev pub sum_of : Word → Word → Word
sum_of v w = record {
  cells = with_cells 1 v.cells (with_cells 1 w.cells []);
  offset = add_words v.offset w.offset;
}

-- a word less is that word 2 ^ 64 - 1 times more
abbrev pub difference_of : Word → Word → Word
difference_of v w = sum_of v (times_of (2 ^ 64 - 1) w)

-- a number; an address outside of the heap, in a frame, the globals or the constants, is one
abbrev pub number : ℕ → Word
number n = record { cells = []; offset = n % 2 ^ 64 }

-- the pointer to a cell
abbrev pub pointer : ℕ → Word
pointer c = record { cells = record { cell = c; times = 1 } ∷ []; offset = 0 }

-- a word and a number
abbrev pub further : Word → ℕ → Word
further w n = sum_of w (number n)

infixl 10 ◌>>=◌
-- what the value gives, where there is one
abbrev pub ◌>>=◌ : {A B : Type 0} → Option A → (A → Option B) → Option B
None >>= f = None
(Some x) >>= f = f x

-- ---- what a word says without a cell's address

-- a place in memory: so many words behind the start of a cell, or at an address outside of the heap
pub data Place : Type 0 where
  InCell : (cell distance : ℕ) → Place
  Outside : (address : ℕ) → Place

abbrev pub place_in : List Multiple → ℕ → Option Place
place_in [] n = Some (Outside n)
place_in (x ∷ []) n = if x.times == 1 then Some (InCell x.cell n) else None
place_in _ n = None

-- the place that a word is the address of
abbrev pub place_of : Word → Option Place
place_of w = place_in (normal w).cells (normal w).offset

abbrev pub number_at : Place → Option ℕ
number_at (Outside n) = Some n
number_at (InCell c n) = None

-- the number that a word is, where all its cells fall away
abbrev pub number_of : Word → Option ℕ
number_of w = place_of w >>= number_at

-- what a function makes of two words that are numbers
abbrev pub of_numbers : {A : Type 0} → (ℕ → ℕ → A) → Word → Word → Option A
of_numbers f v w = number_of v >>= λ a. option_map (f a) (number_of w)

abbrev pub is_same_place : Place → Place → Bool
is_same_place (InCell c m) (InCell d n) = c == d && m == n
is_same_place (Outside m) (Outside n) = m == n
is_same_place _ _ = false

-- Whether two words are one: two numbers, or two pointers to cells. A pointer to a cell is no
-- number. Of an address within a cell nothing is said.
abbrev pub is_one_at : Place → Place → Option Bool
is_one_at (Outside m) (Outside n) = Some (m == n)
is_one_at (InCell c zero) (InCell d zero) = Some (c == d)
is_one_at (InCell c zero) (Outside n) = Some false
is_one_at (Outside m) (InCell d zero) = Some false
is_one_at _ _ = None

abbrev pub is_one_word : Word → Word → Option Bool
is_one_word v w = place_of v >>= λ p. place_of w >>= λ q. is_one_at p q

-- both answers are there, and true
abbrev pub both_true : Option Bool → Option Bool → Option Bool
both_true (Some a) (Some b) = Some (a && b)
both_true _ _ = None

-- whether as many words are one by one the same
abbrev pub are_one_row : List Word → List Word → Option Bool
are_one_row [] [] = Some true
are_one_row (v ∷ vs) (w ∷ ws) = both_true (is_one_word v w) (are_one_row vs ws)
are_one_row _ _ = None
