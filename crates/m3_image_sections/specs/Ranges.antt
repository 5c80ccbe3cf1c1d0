-- The first of so many that fails, the points of the code, and the procedure that an instruction is in.
use Rattle.std.specs.Prelude.{ℕ, zero, suc, ℤ, pos, negsuc, ◌+◌, nat_lt, nat_le, ◌&&◌, Bool, false, if◌then◌else◌, List, [], ◌∷◌, Option, Some, None}
use Rattle.std.specs.Option.{option_map_or}
use Rattle.std.specs.List.{slice_get}
use Rattle.m3_isa.specs.declared.instructions.Instr.{Instr}
use Rattle.m3_isa.specs.Instructions.{is_point}
use Rattle.m3_image_sections.specs.declared.procs.ProcPart.{ProcPart}

-- the first, or else the second
abbrev pub or_else : {A : Type 0} → Option A → Option A → Option A
or_else (Some x) second = Some x
or_else None second = second

-- the first of so many numbers that fails a test
unfoldable pub first_failing : (ℕ → Bool) → ℕ → Option ℕ
first_failing test zero = None
first_failing test (suc n) = or_else (first_failing test n) (if test n then None else Some n)

-- whether a point instruction stands at a place of the code
abbrev pub is_point_at : List Instr → ℕ → Bool
is_point_at code pc = option_map_or (λ i. is_point i.op) (slice_get code pc) false

-- where the last procedure ends
abbrev pub end_from : ℕ → List ProcPart → ℕ
end_from start [] = start
end_from start (p ∷ ps) = end_from (p.first + p.count) ps

-- The procedure that an instruction is in: the first that ends behind it, since they follow each other.
abbrev pub containing : List ProcPart → ℕ → Option ProcPart
containing [] pc = None
containing (p ∷ ps) pc = if nat_lt pc (p.first + p.count) then Some p else containing ps pc

-- the numbers of the point instructions, where the first instruction has a number
abbrev pub points_from : ℕ → List Instr → List ℕ
points_from number [] = []
points_from number (i ∷ is) = if is_point i.op then number ∷ points_from (suc number) is else points_from (suc number) is

-- an instruction of a procedure
abbrev pub contains : ProcPart → ℤ → Bool
contains p (pos n) = nat_le p.first n && nat_lt n (p.first + p.count)
contains p (negsuc n) = false
