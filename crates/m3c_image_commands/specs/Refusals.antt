-- The lines that refuse an image and a schedule, in words.
use Rattle.std.specs.Prelude.{ℕ, ◌≡◌, Result, Err, MatchResult, List, ◌++◌, codes, decimal}
use Rattle.m3_base.specs.Schedules.{IsFirstBadLine, HasTooMany}
use Rattle.m3_image.specs.Images.{read_of}
use Rattle.m3_image_sections.specs.declared.refusal.ImageRefusal.{ImageRefusal}
use Rattle.m3_image_sections.specs.declared.refusal.ImageRefusal.TheVariants.{Short, Magic, Version, Section, Instruction, Target, Table, Rest}
use Rattle.m3c_image_commands.specs.declared.answers.Answer.{Answer}
use Rattle.m3c_image_commands.specs.declared.answers.Refusal.{Refusal}
use Rattle.m3c_image_commands.specs.Statuses.{LacksMemory}

-- ---- bytes that are no image

-- the condition that the bytes meet, in words: a number is that of a section, an instruction or a row
abbrev pub cause : ImageRefusal → List ℕ
cause Short = codes "short"
cause Magic = codes "magic"
cause Version = codes "version"
cause (Section n) = codes "section " ++ decimal n
cause (Instruction n) = codes "instruction " ++ decimal n
cause (Target n) = codes "target " ++ decimal n
cause (Table n) = codes "table " ++ decimal n
cause Rest = codes "rest"

abbrev pub image_line : ImageRefusal → List ℕ
image_line refusal = codes "image refused: " ++ cause refusal ++ codes "\n"

-- the bytes are no image, and the line tells the first condition that they meet; or memory ran out
abbrev pub RefusesImage : List ℕ → Result Answer Refusal → Type 0
RefusesImage bytes result =
    MatchResult result (λ a. (refusal : ImageRefusal) × (read_of bytes ≡ Err refusal) × (a.status ≡ 8) × (a.line.items ≡ image_line refusal)) LacksMemory

-- ---- a text that is no schedule

abbrev pub bad_line : ℕ → List ℕ
bad_line number = codes "schedule refused: line " ++ decimal number ++ codes "\n"

abbrev pub too_many : List ℕ
too_many = codes "schedule refused: too many\n"

-- the line of a text that is no schedule: the number of its first line that is no entry; or that it has too many
pub data IsScheduleLine (text : List ℕ) : List ℕ → Type 0 where
  of_bad_line : (number : ℕ) → IsFirstBadLine text number → IsScheduleLine text (bad_line number)
  of_too_many : HasTooMany text → IsScheduleLine text too_many

abbrev pub RefusesSchedule : List ℕ → Result Answer Refusal → Type 0
RefusesSchedule text result = MatchResult result (λ a. (a.status ≡ 9) × IsScheduleLine text a.line.items) LacksMemory
