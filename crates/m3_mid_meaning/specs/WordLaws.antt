-- Laws of words.
use Rattle.std.specs.Prelude.{◌≡◌, ℕ, ◌+◌, ◌*◌, ◌%◌, ◌^◌, Some}
use Rattle.m3_base.specs.Words.{add_words, sub_words}
use Rattle.m3_mid_meaning.specs.Words.{Word, IsNormal, number, normal, times_of, sum_of, difference_of, further, Place, place_of}
use Rattle.m3_mid_meaning.specs.Layouts.{machine_word, machine_address}
use Rattle.m3_mid_meaning.specs.Operations.{element_address}

-- ---- sums modulo 2 ^ 64; what is in normal form is itself there

pub record KeepsSums (u v w : Word) : Type 0 where
  pub is_normal : IsNormal (sum_of v w)
  pub commutes : sum_of v w ≡ sum_of w v
  pub associates : sum_of (sum_of u v) w ≡ sum_of u (sum_of v w)
  pub nothing : sum_of v (number 0) ≡ normal v
  pub taken_away : difference_of (sum_of w v) w ≡ normal v
  pub given_back : sum_of (difference_of v w) w ≡ normal v

abbrev pub HaveSums : Type 0
HaveSums = (u v w : Word) → KeepsSums u v w

pub record KeepsTimes (m n : ℕ) (v w : Word) : Type 0 where
  pub is_normal : IsNormal (times_of n w)
  pub once : IsNormal w → times_of 1 w ≡ w
  pub never : times_of 0 w ≡ number 0
  pub again : times_of (m * n) w ≡ times_of m (times_of n w)
  pub together : times_of (m + n) w ≡ sum_of (times_of m w) (times_of n w)
  pub of_sums : times_of n (sum_of v w) ≡ sum_of (times_of n v) (times_of n w)
  pub wraps : times_of (n % 2 ^ 64) w ≡ times_of n w

abbrev pub HaveTimes : Type 0
HaveTimes = (m n : ℕ) (v w : Word) → KeepsTimes m n v w

pub record KeepsNumbers (m n : ℕ) : Type 0 where
  pub is_normal : IsNormal (number n)
  pub sum : sum_of (number m) (number n) ≡ number (m + n)
  pub times : times_of m (number n) ≡ number (m * n)

abbrev pub HaveNumbers : Type 0
HaveNumbers = (m n : ℕ) → KeepsNumbers m n

-- The element 0 of an array is at its start, and a sum of indices is so many elements further.
pub record KeepsElements (array v w : Word) (words offset : ℕ) : Type 0 where
  pub first : element_address array words (number 0) 0 ≡ normal array
  pub further_on :
      element_address array words (sum_of v w) offset
      ≡ sum_of (element_address array words v offset) (times_of words w)

abbrev pub HaveElements : Type 0
HaveElements = (array v w : Word) (words offset : ℕ) → KeepsElements array v w words offset

-- ---- the machine's words

-- Wherever the cells lie, sums and differences of words are those of the machine's words, and a
-- word that is the address of a place is the machine's address of it.
pub record AgreesWithMachine (lies : ℕ → ℕ) (v w : Word) : Type 0 where
  pub sum : machine_word lies (sum_of v w) ≡ add_words (machine_word lies v) (machine_word lies w)
  pub difference :
      machine_word lies (difference_of v w) ≡ sub_words (machine_word lies v) (machine_word lies w)
  pub distance : (n : ℕ) → machine_word lies (further w n) ≡ add_words (machine_word lies w) n
  pub normal_form : machine_word lies (normal w) ≡ machine_word lies w
  pub address : (place : Place) → place_of w ≡ Some place → machine_word lies w ≡ machine_address lies place

abbrev pub HoldsInLayouts : Type 0
HoldsInLayouts = (lies : ℕ → ℕ) (v w : Word) → AgreesWithMachine lies v w
