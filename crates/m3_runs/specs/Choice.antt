-- Who may go, and who goes.
use Rattle.std.specs.Prelude.{ℕ, suc, ◌==◌, ◌&&◌, ◌||◌, Bool, true, false, List, [], ◌∷◌, Option, Some, None}
use Rattle.m3_runs.specs.Languages.{Status, Ready, Wants, Waits, Joins, Thread, Life, Alive, Ended, Joined, Parts, Language}
use Rattle.m3_runs.specs.States.{thread_at}

abbrev pub is_free : Option ℕ → Bool
is_free None = false
is_free (Some holder) = holder == 0

abbrev pub has_ended : {V : Type 0} → Option (Life V) → Bool
has_ended None = false
has_ended (Some Alive) = false
has_ended (Some (Ended result)) = true
has_ended (Some Joined) = true

abbrev pub is_there : {A : Type 0} → Option A → Bool
is_there None = false
is_there (Some x) = true

-- the first number where this holds, else the other one
abbrev pub if_so : Bool → ℕ → Option ℕ → Option ℕ
if_so true n other = Some n
if_so false n other = other

module _ {S V M : Type 0} (L : Language S V M) where
  -- a thread with this status and this mark may go
  abbrev pub may_go_at : Status V → Bool → M → Bool
  may_go_at Ready alerted memory = true
  may_go_at (Wants mutex) alerted memory = is_free (L.holder memory mutex)
  may_go_at (Waits mutex condition place alertable) alerted memory = false
  may_go_at (Joins thread alertable) alerted memory =
      (alertable && alerted) || has_ended (L.life memory thread)

  -- the thread is there and may go
  abbrev pub may_go_if : M → Option (Thread S V) → Bool
  may_go_if memory None = false
  may_go_if memory (Some t) = may_go_at t.status t.alerted memory

  abbrev pub may_go : Parts S V M → ℕ → Bool
  may_go parts n = may_go_if parts.memory (thread_at parts.threads n)

  -- the lowest number of a thread that may go, of those from one number on
  abbrev pub lowest_from : M → ℕ → List (Option (Thread S V)) → Option ℕ
  lowest_from memory n [] = None
  lowest_from memory n (t ∷ ts) = if_so (may_go_if memory t) n (lowest_from memory (suc n) ts)

  abbrev pub lowest : Parts S V M → Option ℕ
  lowest parts = lowest_from parts.memory 0 parts.threads

  -- the thread that an entry names, where it names one that may go
  abbrev pub named_or : Parts S V M → Option ℕ → Option ℕ → Option ℕ
  named_or parts None other = other
  named_or parts (Some n) other = if_so (may_go parts n) n other

  -- THE CHOICE: the thread that the entry names if it may go, else the one that went last if it
  -- may, else the lowest that may
  abbrev pub choice : Parts S V M → (entry : Option ℕ) → (running : ℕ) → Option ℕ
  choice parts entry running =
      named_or parts entry (if_so (may_go parts running) running (lowest parts))

  -- ---- what no thread may wait for

  -- a mutex that has a holder or is free, or a thread that lives or doesn't
  abbrev pub is_known_at : Status V → M → Bool
  is_known_at (Wants mutex) memory = is_there (L.holder memory mutex)
  is_known_at (Joins thread alertable) memory = is_there (L.life memory thread)
  is_known_at _ memory = true

  abbrev pub is_known_if : M → Option (Thread S V) → Bool
  is_known_if memory None = true
  is_known_if memory (Some t) = is_known_at t.status memory

  -- of each thread it is known whether it may go
  abbrev pub all_known : M → List (Option (Thread S V)) → Bool
  all_known memory [] = true
  all_known memory (t ∷ ts) = is_known_if memory t && all_known memory ts
