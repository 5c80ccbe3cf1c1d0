-- When each refusal of a schedule comes.
use Rattle.std.specs.Prelude.{ℕ, List}
use Rattle.m3_base.specs.declared.schedules.ScheduleRefusal.{ScheduleRefusal}
use Rattle.m3_base.specs.declared.schedules.ScheduleRefusal.TheVariants.{BadLine, TooMany, NoMemory}
use Rattle.m3_base.specs.Schedules.{IsFirstBadLine, HasTooMany}

-- the cause of a refusal; want of memory needs none
abbrev pub IsScheduleRefusal : List ℕ → ScheduleRefusal → Type 0
IsScheduleRefusal text (BadLine number) = IsFirstBadLine text number
IsScheduleRefusal text TooMany = HasTooMany text
IsScheduleRefusal text NoMemory = Unit {0}
