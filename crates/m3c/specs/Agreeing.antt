-- `exec` of a file, and `run` of the image that `build` stores of it, end alike.
use Rattle.std.specs.Prelude.{ℕ, ◌≡◌, ◌⊎◌, false, List, Some}
use Rattle.m3_base.specs.declared.outcomes.Outcome.{Outcome}
use Rattle.m3_image.specs.Images.{read_of}
use Rattle.m3_plain.specs.Terms.{output_of}
use Rattle.m3_plain_image.specs.Image.{plain_image}
use Rattle.m3c_image_commands.specs.Complete.{IsHeld}
use Rattle.m3c_image_commands.specs.Reports.{end_status, report}
use Rattle.m3c_image_commands.specs.Statuses.{Took, image_cap}
use Rattle.m3c_words.specs.Asked.{asked, usual_options}
use Rattle.m3c_words.specs.Orders.{run}
use Rattle.m3c.specs.Command.{Call, IsCalm, Promises, Ran, RanOut}

-- another call ended as one that ran a file in the plain form: the same status, the same output, the same line
pub record EndsAlike (one : Call) (outcome : Outcome) (ran : Ran one outcome) (other : Call) (status : ℕ) : Type 0 where
  pub by_status : status ≡ end_status outcome
  pub output : Took other.out.taken (output_of ran.puts)
  pub says : Took other.err.taken (report (plain_image ran.name ran.puts) false outcome ran.last.points ran.last.instructions ran.last.collections)

-- `exec FILE` ran a file in the plain form, and `run IMAGE` is called where a file has bytes that are read as the image
-- which it left, as those that `build IMAGE FILE` stores are: where no count of faults rises it ends alike, or memory
-- ran out before any output
abbrev pub ExecAndRunAgree : Type 0
ExecAndRunAgree =
    (one other : Call) (outcome : Outcome) (status : ℕ) (image bytes : List ℕ) (ran : Ran one outcome) → Promises other status → asked other.words ≡ Some (run image usual_options)
    → IsHeld other.shelf.held.0 image image_cap bytes → read_of bytes ≡ read_of one.image → IsCalm other
    → EndsAlike one outcome ran other status ⊎ RanOut other status
