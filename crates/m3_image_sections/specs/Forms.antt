-- What each section has to keep by itself.
use Rattle.std.specs.Prelude.{ℕ, suc, ◌+◌, ◌-◌, ◌^◌, nat_lt, nat_le, ◌==◌, Bool, true, false, not, ◌&&◌, ◌||◌, if◌then◌else◌, List, [], ◌∷◌, length}
use Rattle.std.specs.List.{list_all}
use Rattle.m3_tables.specs.Numbers.{rises}
use Rattle.m3_tables.specs.Sections.{is_between}
use Rattle.m3_image_sections.specs.declared.procs.ProcPart.{ProcPart}
use Rattle.m3_image_sections.specs.Parts.{CellType, Globals, Places}

-- the number that stands for no parent, and for no procedure
abbrev pub none : ℕ
none = 2 ^ 32 - 1

-- ---- procedures

-- an instruction at least, and a frame that has the body
abbrev pub proc_fits : ProcPart → Bool
proc_fits p = nat_lt 0 p.count && (nat_le 3 p.body && nat_le p.body p.frame)

-- the first begins at an instruction, and each other where the one before ends
abbrev pub follow_from : ℕ → List ProcPart → Bool
follow_from start [] = true
follow_from start (p ∷ ps) = (p.first == start && proc_fits p) && follow_from (p.first + p.count) ps

-- Procedure 1 is what a forked thread runs.
abbrev pub second_fits : List ProcPart → Bool
second_fits [] = false
second_fits (p ∷ []) = false
second_fits (p ∷ q ∷ ps) = q.body == 3 && nat_le 7 q.frame

abbrev pub procs_fit : List ProcPart → Bool
procs_fit ps = follow_from 0 ps && second_fits ps

-- ---- types

-- the words, the dimensions and the pointers, by the kind
abbrev pub layout_fits : CellType → Bool
layout_fits t =
    if t.kind == 0
    then t.dims == 0 && (nat_lt 0 t.words && list_all (is_between 1 t.words) t.pointers)
    else if t.kind == 1
    then nat_lt 0 t.dims && list_all (is_between 0 t.words) t.pointers
    else t.kind == 2 && (t.dims == 0 && (t.words == 0 && length t.pointers == 0))

-- a parent is a type before this one
abbrev pub parent_fits : ℕ → ℕ → Bool
parent_fits number parent = parent == none || nat_lt parent number

-- the one number 3
abbrev pub is_three_alone : List ℕ → Bool
is_three_alone [] = false
is_three_alone (n ∷ []) = n == 3
is_three_alone (n ∷ m ∷ ns) = false

-- Type 0 is the one text, and type 1 that of threads, whose word 3 alone is a pointer.
abbrev pub number_fits : ℕ → CellType → Bool
number_fits number t =
    if number == 0
    then t.kind == 2
    else if number == 1 then t.kind == 0 && (t.words == 4 && is_three_alone t.pointers) else not (t.kind == 2)

-- a type of a number, where there are so many procedures
abbrev pub type_fits : ℕ → ℕ → CellType → Bool
type_fits procs number t =
    (parent_fits number t.parent && list_all (λ m. nat_le m procs) t.methods)
    && (rises t.pointers && (layout_fits t && number_fits number t))

-- the types from a number on
abbrev pub types_fit_from : ℕ → ℕ → List CellType → Bool
types_fit_from procs number [] = true
types_fit_from procs number (t ∷ ts) = type_fits procs number t && types_fit_from procs (suc number) ts

abbrev pub types_fit : ℕ → List CellType → Bool
types_fit procs ts = nat_le 2 (length ts) && types_fit_from procs 0 ts

-- ---- globals and places

-- The first four words are the cell of the main thread.
abbrev pub globals_fit : Globals → Bool
globals_fit g = nat_le 4 g.words && (rises g.pointers && list_all (is_between 4 g.words) g.pointers)

abbrev pub places_fit : Places → Bool
places_fit p = list_all (λ place. nat_lt place.0 (length p.files)) p.places
