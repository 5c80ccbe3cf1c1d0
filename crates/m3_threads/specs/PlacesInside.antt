-- For the code alone: the place of a thread in a list, what it may become there, and the room of its stack.
use Rattle.std.specs.Prelude.{◌≡◌, ℕ, ◌<◌, ◌≤◌, true, false, Option, List, length, map, find, slice_get, slice_set, remove, Some, None, vec_capacity}
use Rattle.m3_threads.specs.declared.status.Thread.{Thread}
use Rattle.m3_threads.specs.All.{is_named, updated, is_asleep, queue_place, NamesRegisters}
use Rattle.m3_threads.specs.Actions.{without, sleeps_on, SleepsLongest}
use Rattle.std.proofs.Common.{Vec, Global}

-- the first thread of a number is at this place
pub record IsPlaceOf (n : ℕ) (threads : List Thread) (place : ℕ) : Type 0 where
  pub within : place < length threads
  pub found : find (is_named n) threads ≡ slice_get threads place
  pub change : (f : Thread → Thread) (t : Thread) → slice_get threads place ≡ Some t → updated f n threads ≡ slice_set threads place (f t)
  pub cut : without n threads ≡ remove threads place

-- no thread has a number
pub record IsNobody (n : ℕ) (threads : List Thread) : Type 0 where
  pub missing : find (is_named n) threads ≡ None
  pub kept : (f : Thread → Thread) → updated f n threads ≡ threads

-- what a thread may become in its place: its place in the queues stays, unless it is awake
pub record MayBecome (old new : Thread) : Type 0 where
  pub slot : old.slot ≡ new.slot
  pub number : old.number ≡ new.number
  pub asleep : is_asleep new ≡ true → (is_asleep old ≡ true) × (queue_place new ≡ queue_place old)
  pub registers : NamesRegisters old.status → NamesRegisters new.status

-- the words of each stack
abbrev pub contents : List (Vec ℕ Global) → List (List ℕ)
contents stacks = map (λ v. v.items) stacks

-- each stack has room for as many words as a stack has, and no more words
abbrev pub HaveRoom : ℕ → List (Vec ℕ Global) → Type 0
HaveRoom stack stacks =
    (slot : ℕ) (words : Vec ℕ Global) → slice_get stacks slot ≡ Some words → (stack ≤ vec_capacity words) × (length words.items ≤ stack)

-- the thread at a place sleeps longest on a condition
abbrev pub IsLongestAt : ℕ → List Thread → ℕ → Type 0
IsLongestAt at threads place = (t : Thread) × (slice_get threads place ≡ Some t) × SleepsLongest at threads (Some t)

-- the same among those below a place, or nobody there sleeps on it
pub record SleepsFirst (at : ℕ) (threads : List Thread) (end best : ℕ) (t : Thread) : Type 0 where
  pub there : slice_get threads best ≡ Some t
  pub sleeps : sleeps_on at t ≡ true
  pub first : (j : ℕ) (u : Thread) → j < end → slice_get threads j ≡ Some u → sleeps_on at u ≡ true → queue_place t ≤ queue_place u

abbrev pub IsLongestBelow : ℕ → List Thread → ℕ → Option ℕ → Type 0
IsLongestBelow at threads end None = (j : ℕ) (t : Thread) → j < end → slice_get threads j ≡ Some t → sleeps_on at t ≡ false
IsLongestBelow at threads end (Some best) = (t : Thread) × SleepsFirst at threads end best t
