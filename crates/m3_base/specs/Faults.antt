-- The kinds of checked faults: their numbers in an image, and their names in a report.
use Rattle.std.specs.Prelude.{ℕ, List, codes}
use Rattle.m3_base.specs.declared.outcomes.FaultKind.{FaultKind}
use Rattle.m3_base.specs.declared.outcomes.FaultKind.TheVariants.{Overflow, DivZero, Range, Index, Nil, Narrow, Shape, Subarray, Size, NoReturn, NoCase, NoTypecase, Raises, NestedProc, NotHeld, JoinTwice}

-- the number that stands for a kind in an image
abbrev pub number_of_fault : FaultKind → ℕ
number_of_fault Overflow = 0
number_of_fault DivZero = 1
number_of_fault Range = 2
number_of_fault Index = 3
number_of_fault Nil = 4
number_of_fault Narrow = 5
number_of_fault Shape = 6
number_of_fault Subarray = 7
number_of_fault Size = 8
number_of_fault NoReturn = 9
number_of_fault NoCase = 10
number_of_fault NoTypecase = 11
number_of_fault Raises = 12
number_of_fault NestedProc = 13
number_of_fault NotHeld = 14
number_of_fault JoinTwice = 15

-- the bytes of a kind's name
abbrev pub name_of_fault : FaultKind → List ℕ
name_of_fault Overflow = codes "Overflow"
name_of_fault DivZero = codes "DivZero"
name_of_fault Range = codes "Range"
name_of_fault Index = codes "Index"
name_of_fault Nil = codes "Nil"
name_of_fault Narrow = codes "Narrow"
name_of_fault Shape = codes "Shape"
name_of_fault Subarray = codes "Subarray"
name_of_fault Size = codes "Size"
name_of_fault NoReturn = codes "NoReturn"
name_of_fault NoCase = codes "NoCase"
name_of_fault NoTypecase = codes "NoTypecase"
name_of_fault Raises = codes "Raises"
name_of_fault NestedProc = codes "NestedProc"
name_of_fault NotHeld = codes "NotHeld"
name_of_fault JoinTwice = codes "JoinTwice"
