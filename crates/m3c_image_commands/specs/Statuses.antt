-- What happened outside in a command: on the shelf and in the sinks; and the refusals of any command.
use Rattle.std.specs.Prelude.{ℕ, ◌≡◌, ◌≤◌, ◌⊎◌, Option, None, Some, IfSome, Result, IfErr, MatchResult, List, [], ◌++◌, length, codes}
use Rattle.std.specs.Option.{option_map}
use Rattle.std.specs.FinMap.{insert, get}
use Rattle.m3_ports.specs.Counts.{Rose}
use Rattle.m3_ports.specs.Files.{Files, IsFront, IsNotHeld, IsHeldOver, LeavesFront}
use Rattle.m3_ports.specs.declared.shelves.Shelf.{Ghosts as ShelfGhosts}
use Rattle.m3_ports.specs.declared.sinks.Sink.{Ghosts as SinkGhosts}
use Rattle.m3_ports.specs.declared.shelves.ShelfFault.{ShelfFault}
use Rattle.m3_ports.specs.declared.shelves.ShelfFault.TheVariants.{Absent, TooLong, Failed}
use Rattle.m3c_image_commands.specs.declared.answers.Answer.{Answer}
use Rattle.m3c_image_commands.specs.declared.answers.Refusal.{Refusal}

-- ---- pairs of what was before and after

-- a count rose
abbrev pub CountRose : ℕ × ℕ → Type 0
CountRose count = Rose count.0 count.1

-- a count didn't fall
abbrev pub IsKept : ℕ × ℕ → Type 0
IsKept count = count.0 ≤ count.1

-- a sink took these bytes, where it tells them
abbrev pub Took : Option (List ℕ) × Option (List ℕ) → List ℕ → Type 0
Took taken bytes = IfSome taken.0 (λ before. taken.1 ≡ Some (before ++ bytes))

-- a sink has a front of what it had with these bytes behind, where it tells them
abbrev pub TookFront : Option (List ℕ) × Option (List ℕ) → List ℕ → Type 0
TookFront taken bytes = IfSome taken.0 (λ before. (all : List ℕ) × IsFront all (before ++ bytes) × (taken.1 ≡ Some all))

-- what a shelf tells that it holds, and its counts
pub record Shelving : Type 0 where
  pub held : Option Files × Option Files
  pub faults : ℕ × ℕ
  pub store_faults : ℕ × ℕ
  pub absences : ℕ × ℕ
  pub excesses : ℕ × ℕ

-- what a sink tells that it took, and the count of its faults
pub record Putting : Type 0 where
  pub taken : Option (List ℕ) × Option (List ℕ)
  pub faults : ℕ × ℕ

-- that of a shelf that was so before and is so after
abbrev pub shelving : {S : Type 0} → ShelfGhosts S → S → S → Shelving
shelving g before after = record {
  held = (g.held before, g.held after);
  faults = (g.faults before, g.faults after);
  store_faults = (g.store_faults before, g.store_faults after);
  absences = (g.absences before, g.absences after);
  excesses = (g.excesses before, g.excesses after);
}

-- that of a sink that was so before and is so after
abbrev pub putting : {S : Type 0} → SinkGhosts S → S → S → Putting
putting g before after = record { taken = (g.taken before, g.taken after); faults = (g.faults before, g.faults after) }

-- no file was stored
abbrev pub StoresNothing : Shelving → Type 0
StoresNothing shelf = shelf.held.1 ≡ shelf.held.0

-- the bytes were stored under a name, and the other files stay
abbrev pub StoresUnder : Shelving → List ℕ → List ℕ → Type 0
StoresUnder shelf name bytes = shelf.held.1 ≡ option_map (λ files. insert files name bytes) shelf.held.0

-- a store under a name failed: it holds a front of the bytes or what it held, and the other files stay
abbrev pub StoresFront : Shelving → List ℕ → List ℕ → Type 0
StoresFront shelf name bytes =
    CountRose shelf.store_faults × IfSome shelf.held.0 (λ old. IfSome shelf.held.1 (λ new. LeavesFront old new name bytes))

-- nothing was put
abbrev pub PutsNothing : Putting → Type 0
PutsNothing out = out.taken.1 ≡ out.taken.0

-- ---- files that were read

-- these are the bytes of a file, at most so many, where the shelf tells what it holds
abbrev pub IsRead : Option Files → List ℕ → ℕ → List ℕ → Type 0
IsRead held name cap bytes = (length bytes ≤ cap) × IfSome held (λ files. get files name ≡ Some bytes)

-- the most bytes of an image, and those of a file of switches or of input
abbrev pub image_cap : ℕ
image_cap = 4294967295

abbrev pub file_cap : ℕ
file_cap = 16777216

-- the bytes of a file of switches or of input: none where none is named
abbrev pub IsGiven : Option Files → Option (List ℕ) → List ℕ → Type 0
IsGiven held None bytes = bytes ≡ []
IsGiven held (Some name) bytes = IsRead held name file_cap bytes

-- ---- the files that a command reads, each with the most bytes that it may have

abbrev pub Only : List ℕ → ℕ → List ℕ → ℕ → Type 0
Only name cap n c = (n ≡ name) × (c ≡ cap)

-- a file of switches or of input, where it is named
abbrev pub OfNamed : Option (List ℕ) → List ℕ → ℕ → Type 0
OfNamed given n c = (given ≡ Some n) × (c ≡ file_cap)

-- the switches, where they are named; and once they were read, the input
abbrev pub OfOptions : Option Files → Option (List ℕ) → Option (List ℕ) → List ℕ → ℕ → Type 0
OfOptions held switches input n c = OfNamed switches n c ⊎ (((text : List ℕ) × IsGiven held switches text) × OfNamed input n c)

-- ---- refusals: the status, and the front of the line and the name behind it

-- one of these files can't be read, for a cause
pub data Unfetched (shelf : Shelving) (Reads : List ℕ → ℕ → Type 0) : ℕ → List ℕ → List ℕ → Type 0 where
  read_fault : (name : List ℕ) (cap : ℕ) → Reads name cap → CountRose shelf.faults → Unfetched shelf Reads 3 (codes "read fault ") name
  no_memory : Unfetched shelf Reads 5 (codes "out of memory") []
  absent : (name : List ℕ) (cap : ℕ) → Reads name cap → CountRose shelf.absences → IfSome shelf.held.0 (λ files. IsNotHeld files name) → Unfetched shelf Reads 6 (codes "absent ") name
  too_long : (name : List ℕ) (cap : ℕ) → Reads name cap → CountRose shelf.excesses → IfSome shelf.held.0 (λ files. IsHeldOver files name cap) → Unfetched shelf Reads 7 (codes "too long ") name

-- what a fault of a fetch says of the shelf
pub record Causes (shelf : Shelving) (fault : ShelfFault) (name : List ℕ) (cap : ℕ) : Type 0 where
  pub failed : fault ≡ Failed → CountRose shelf.faults
  pub absent : fault ≡ Absent → CountRose shelf.absences × IfSome shelf.held.0 (λ files. IsNotHeld files name)
  pub too_long : fault ≡ TooLong → CountRose shelf.excesses × IfSome shelf.held.0 (λ files. IsHeldOver files name cap)

-- files were fetched, as far as that went
pub record Fetches {A : Type 0} (shelf : Shelving) (Reads : List ℕ → ℕ → Type 0) (result : Result A Refusal) : Type 0 where
  pub held : StoresNothing shelf
  pub faults : IsKept shelf.faults
  pub store_faults : IsKept shelf.store_faults
  pub absences : IsKept shelf.absences
  pub excesses : IsKept shelf.excesses
  pub unfetched : IfErr result (λ r. Unfetched shelf Reads r.status r.front.now r.name.now)

-- want of memory
pub record LacksMemory (refusal : Refusal) : Type 0 where
  pub status : refusal.status ≡ 5
  pub front : refusal.front.now ≡ codes "out of memory"
  pub name : refusal.name.now ≡ []

-- a write fault
pub record LacksOutput (refusal : Refusal) : Type 0 where
  pub status : refusal.status ≡ 4
  pub front : refusal.front.now ≡ codes "write fault"
  pub name : refusal.name.now ≡ []

-- memory ran out before anything was put, or a put failed
abbrev pub Cuts : Putting → Refusal → Type 0
Cuts out r = (LacksMemory r × PutsNothing out) ⊎ (LacksOutput r × CountRose out.faults)

-- a file can't be read, and nothing was put; or memory ran out, or a put failed
abbrev pub Refuses : Shelving → (List ℕ → ℕ → Type 0) → Putting → Refusal → Type 0
Refuses shelf Reads out r = (Unfetched shelf Reads r.status r.front.now r.name.now × PutsNothing out) ⊎ Cuts out r

-- what was given is refused with this status and this line, or memory ran out
abbrev pub RefusesBy : ℕ → List ℕ → Result Answer Refusal → Type 0
RefusesBy status line result = MatchResult result (λ a. (a.status ≡ status) × (a.line.items ≡ line)) LacksMemory

-- ---- the end of a command

-- err took the line, and the status is this one; or err failed
abbrev pub Says : Putting → ℕ → List ℕ → ℕ → Type 0
Says err status line told = ((told ≡ status) × Took err.taken line) ⊎ ((told ≡ 4) × CountRose err.faults)

-- the line of an answer or a refusal
abbrev pub Tells : Putting → Result Answer Refusal → ℕ → Type 0
Tells err result told =
    MatchResult result (λ a. Says err a.status a.line.items told) (λ r. Says err r.status (r.front.now ++ r.name.now ++ codes "\n") told)
