-- The names in a line, and the room that they take.
use Rattle.std.proofs.Common.{ℕ, zero, suc, ◌≤◌, max, List, [], ◌∷◌, length, lit≤, arith}
use Rattle.std.specs.Prelude.{slice_get}
use Rattle.m3_base.specs.declared.outcomes.FaultKind.{FaultKind}
use Rattle.m3_base.specs.declared.outcomes.FaultKind.TheVariants.{Overflow, DivZero, Range, Index, Nil, Narrow, Shape, Subarray, Size, NoReturn, NoCase, NoTypecase, Raises, NestedProc, NotHeld, JoinTwice}
use Rattle.m3_base.specs.Faults.{name_of_fault}
use Rattle.m3_image_sections.specs.Parts.{Image}
use Rattle.m3c_image_commands.specs.Reports.{name_bytes, longest, longest_name}

pub longest_least : (least : ℕ) (names : List (List ℕ)) → least ≤ longest least names
longest_least least [] = omega arith
longest_least least (name ∷ names) =
    let h : max least (length name) ≤ longest (max least (length name)) names = longest_least (max least (length name)) names in omega arith

pub longest_within : (least n : ℕ) (names : List (List ℕ)) → length (name_bytes (slice_get names n)) ≤ longest least names
longest_within least n [] = omega arith
longest_within least zero (name ∷ names) =
    let h : max least (length name) ≤ longest (max least (length name)) names = longest_least (max least (length name)) names in omega arith
longest_within least (suc n) (name ∷ names) = longest_within (max least (length name)) n names

-- the name of each file and each exception is no longer than the longest
pub file_within : (i : Image) (n : ℕ) → length (name_bytes (slice_get i.program.files n)) ≤ longest_name i
file_within i n =
    let a : length (name_bytes (slice_get i.program.files n)) ≤ longest 0 i.program.files = longest_within 0 n i.program.files in
    let b : longest 0 i.program.files ≤ longest (longest 0 i.program.files) i.program.exceptions = longest_least (longest 0 i.program.files) i.program.exceptions in
    omega arith

pub exception_within : (i : Image) (n : ℕ) → length (name_bytes (slice_get i.program.exceptions n)) ≤ longest_name i
exception_within i n = longest_within (longest 0 i.program.files) n i.program.exceptions

pub fault_short : (kind : FaultKind) → length (name_of_fault kind) ≤ 10
fault_short Overflow = lit≤ tt
fault_short DivZero = lit≤ tt
fault_short Range = lit≤ tt
fault_short Index = lit≤ tt
fault_short Nil = lit≤ tt
fault_short Narrow = lit≤ tt
fault_short Shape = lit≤ tt
fault_short Subarray = lit≤ tt
fault_short Size = lit≤ tt
fault_short NoReturn = lit≤ tt
fault_short NoCase = lit≤ tt
fault_short NoTypecase = lit≤ tt
fault_short Raises = lit≤ tt
fault_short NestedProc = lit≤ tt
fault_short NotHeld = lit≤ tt
fault_short JoinTwice = lit≤ tt
