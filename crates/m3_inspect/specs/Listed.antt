-- What the rows and the globals of an image say of the words of its variables: which of them a collection changes.
use Rattle.std.specs.Prelude.{ℕ, ◌≡◌, ◌<◌, ◌==◌, ◌&&◌, Bool, true, not, if◌then◌else◌, List, [], map, length, Option, None, Some}
use Rattle.std.specs.List.{AllByRecursion}
use Rattle.m3_tables.specs.Numbers.{has}
use Rattle.m3_threads.specs.All.{Everyone, HoldsOfEach}
use Rattle.m3_image_sections.specs.Forms.{none}
use Rattle.m3_image_sections.specs.Parts.{Image}
use Rattle.m3_run_frames.specs.declared.frame.Frame.{Frame}
use Rattle.m3_roots.specs.ThreadWords.{place_from, place_of}
use Rattle.m3_roots.specs.RowMeaning.{tidy_places, derived_words}
use Rattle.m3_roots.specs.Collected.{AreFrames}
use Rattle.m3_inspect.specs.Standing.{place_at, instruction_of}

-- a word by its place: a reference is a tidy word, and an ordinal is neither a tidy word nor a derived one
abbrev pub is_listed : List ℕ → List ℕ → ℕ → ℕ → Bool
is_listed tidy derived form place = if form == 0 then not (has tidy place) && not (has derived place) else has tidy place

-- the word of a variable where a thread stands, if it is in scope there
abbrev pub IsListedAt : List ℕ → List ℕ → ℕ → ℕ → Option ℕ → Type 0
IsListedAt tidy derived first form None = Unit {0}
IsListedAt tidy derived first form (Some number) = is_listed tidy derived form (place_from first number) ≡ true

-- the variables in scope in each of some frames
abbrev pub FramesList : Image → List ℕ → List ℕ → List Frame → Type 0
FramesList i tidy derived frames =
    AllByRecursion (λ f. AllByRecursion (λ v. IsListedAt tidy derived f.first v.form (place_at (instruction_of i f) v.spans)) i.variables) frames

-- all variables that are shown: of the globals, the pointers are listed as the tidy words of threads are
pub record AreListed (i : Image) (all : Everyone) : Type 0 where
  pub globals : AllByRecursion (λ v. v.proc ≡ none → is_listed i.program.globals.pointers [] v.form v.word ≡ true) i.variables
  pub threads : HoldsOfEach (λ t. (frames : List Frame) → AreFrames i.program all t frames → FramesList i (tidy_places i.program frames) (map place_of (derived_words i.program frames)) frames) all.threads

-- each thread has its sixteen registers
abbrev pub HaveRegisters : Everyone → Type 0
HaveRegisters all = HoldsOfEach (λ t. length t.regs.r ≡ 16) all.threads

-- each variable in scope in each of some frames has its place among so many words
abbrev pub PlacesAreBelow : Image → ℕ → List Frame → Type 0
PlacesAreBelow i end frames = AllByRecursion (λ f. AllByRecursion (λ v. (number : ℕ) → place_at (instruction_of i f) v.spans ≡ Some number → place_from f.first number < end) i.variables) frames
