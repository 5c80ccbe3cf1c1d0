-- What is added changes nothing of a run.
use Rattle.std.specs.Prelude.{◌≡◌, ◌≢◌, ◌<◌, ℕ, false, List, [], ◌∷◌, slice_get, Option, Some}
use Rattle.m3_mid.specs.declared.procs.Proc.{Proc}
use Rattle.m3_mid_meaning.specs.Words.{number}
use Rattle.m3_mid_meaning.specs.Memory.{Memory, Around, slot_address, is_unshared, seen, load}
use Rattle.m3_mid_meaning.specs.States.{Undefined, slot_word}
use Rattle.m3_mid_meaning.specs.Points.{Answer, Outcome}
use Rattle.m3_mid_meaning.specs.Runs.{start_of, IsRun}
use Rattle.m3_mid_additions.specs.Additions.{IsWithAdded}
use Rattle.m3_mid_additions.specs.Naming.{NamesOwnTemporaries}

abbrev pub IsThere : {A : Type 0} → Option A → Type 0
IsThere {A} o = (x : A) × (o ≡ Some x)

-- an activation that begins so finds a word in the slot of each formal
abbrev pub BeginsWithFormals : Proc → Around → Memory → Type 0
BeginsWithFormals p around memory =
    (n : ℕ) → n < p.formals → IsThere (slot_word p.slots.now around (start_of p around memory) n)

-- it finds one in the slot of each formal that others can reach
abbrev pub LeavesFormals : Proc → Around → Memory → Type 0
LeavesFormals p around memory =
    (n : ℕ) → n < p.formals → is_unshared (slice_get p.slots.now n) ≡ false
    → IsThere (load around (seen p.slots.now around memory) (number (slot_address around n)))

abbrev pub LeaveFormals : Proc → Around → List Answer → Type 0
LeaveFormals p around [] = Unit {0}
LeaveFormals p around (answer ∷ answers) =
    LeavesFormals p around answer.memory × LeaveFormals p around answers

-- THE SECOND FOLLOWS THE FIRST, whose frame is there: each defined run of the first is a run of the
-- second, where memory has the words of its formals at the start and in each answer.
abbrev pub FollowsWithFormals : Proc → Proc → Type 0
FollowsWithFormals p q =
    (around : Around) (memory : Memory) (answers : List Answer) (o : Outcome) →
    BeginsWithFormals p around memory → LeaveFormals p around answers → o.ending ≢ Undefined →
    IsRun p around memory answers o → IsRun q around memory answers o

-- A procedure to which such operations are added follows it, if it names its own temporaries alone.
abbrev pub AdditionsFollow : Type 0
AdditionsFollow =
    (p q : Proc) → IsWithAdded p q → NamesOwnTemporaries p → FollowsWithFormals p q
