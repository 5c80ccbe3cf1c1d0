-- What the sink and the shelf in memory are seen as.
use Rattle.std.specs.Prelude.{ℕ, ◌+◌, ◌<◌, ◌⊎◌, List, [], length, Contains, Result, Ok, Err, refl}
use Rattle.std.specs.Coded.{Coded, code_by, coded×, coded_ℕ, coded_list}
use Rattle.std.specs.FinMap.{code, empty, insert}
use Rattle.m3_ports.specs.Counts.{raised}
use Rattle.m3_ports.specs.Files.{Files}
use Rattle.m3_ports.specs.declared.shelves.ShelfFault.{ShelfFault}
use Rattle.m3_ports.specs.declared.shelves.ShelfFault.TheVariants.{Absent, TooLong, Failed, NoMemory}

-- a sink in memory: the bytes that it took, its room, the puts and the faults so far, and the numbers
-- of the puts that are to fail
pub record Taking : Type 0 where
  pub taken : List ℕ
  pub room : ℕ
  pub puts : ℕ
  pub faults : ℕ
  pub failing : List ℕ

-- a put fails where its number is one of those, or where it exceeds the room
abbrev pub PutFails : Taking → List ℕ → Type 0
PutFails sink piece =
    Contains sink.failing (raised sink.puts) ⊎ (sink.room < length sink.taken + length piece)

-- a shelf in memory: its files, the calls so far, the four counts of what went wrong, and the numbers of
-- the calls that are to fail
pub record Holding : Type 0 where
  pub files : Files
  pub calls : ℕ
  pub faults : ℕ
  pub store_faults : ℕ
  pub absences : ℕ
  pub excesses : ℕ
  pub failing : List ℕ

abbrev pub holding_code : Coded Holding
holding_code =
    code_by (Files × (ℕ × (ℕ × (ℕ × (ℕ × (ℕ × List ℕ))))))
    (coded× (code (coded_list coded_ℕ) (coded_list coded_ℕ)) (coded× coded_ℕ (coded× coded_ℕ (coded× coded_ℕ (coded× coded_ℕ (coded× coded_ℕ (coded_list coded_ℕ)))))))
    (λ h. (h.files, (h.calls, (h.faults, (h.store_faults, (h.absences, (h.excesses, h.failing)))))))
    (λ p. record { files = p.0; calls = p.1.0; faults = p.1.1.0; store_faults = p.1.1.1.0; absences = p.1.1.1.1.0; excesses = p.1.1.1.1.1.0; failing = p.1.1.1.1.1.1 })
    (λ _. refl)

-- the shelf without files, on which nothing was called yet
abbrev pub empty_shelf : Holding
empty_shelf = record { files = empty; calls = 0; faults = 0; store_faults = 0; absences = 0; excesses = 0; failing = [] }

-- the next call is to fail
abbrev pub CallFails : Holding → Type 0
CallFails shelf = Contains shelf.failing (raised shelf.calls)

abbrev pub with_call : Holding → Holding
with_call shelf = record shelf { calls = raised shelf.calls }

-- the shelf after a fetch: the call is counted, and what went wrong
abbrev pub after_fetch : Holding → Result (Unit {0}) ShelfFault → Holding
after_fetch shelf (Err Absent) = record (with_call shelf) { absences = raised shelf.absences }
after_fetch shelf (Err TooLong) = record (with_call shelf) { excesses = raised shelf.excesses }
after_fetch shelf (Err Failed) = record (with_call shelf) { faults = raised shelf.faults }
after_fetch shelf (Err NoMemory) = with_call shelf
after_fetch shelf (Ok _) = with_call shelf

-- the shelf after a store of these bytes under this name, which a fault leaves undone
abbrev pub after_store : Holding → List ℕ → List ℕ → Result (Unit {0}) ShelfFault → Holding
after_store shelf name bytes (Ok _) = record (with_call shelf) { files = insert shelf.files name bytes }
after_store shelf name bytes (Err Failed) = record (with_call shelf) { store_faults = raised shelf.store_faults }
after_store shelf name bytes (Err Absent) = with_call shelf
after_store shelf name bytes (Err TooLong) = with_call shelf
after_store shelf name bytes (Err NoMemory) = with_call shelf
