-- What it is that a run has put what the puts of a module say.
use Rattle.std.specs.Prelude.{ℕ, ◌≡◌, ◌≤◌, ◌<◌, ◌+◌, ◌^◌, List, []}
use Rattle.m3_base.specs.declared.outcomes.Outcome.{Outcome}
use Rattle.m3_run_meaning.specs.State.{State}
use Rattle.m3_run_meaning.specs.Runs.{Place, In_turn, At_point, Over, Config, Begins, Leads, starting}
use Rattle.m3_heap.specs.Heap.{Heap}
use Rattle.m3_plain_image.specs.Image.{plain_program}
use Rattle.m3_plain.specs.Terms.{Term, output_of, points_of, outcome_of}

-- the decimals of the values were put, up to the first overflow; the run ended Done, or as the fault of that overflow;
-- and it passed one point more than it put values
pub record EndsAs (puts : List Term) (last : State) (outcome : Outcome) (put : List ℕ) : Type 0 where
  pub output : put ≡ output_of puts
  pub points : last.points ≡ points_of puts
  pub ended : outcome ≡ outcome_of puts

-- of a run that is over
abbrev pub IfOver : List Term → Place → List ℕ → Type 0
IfOver puts (Over last outcome) put = EndsAs puts last outcome put
IfOver puts (In_turn s k) put = Unit {0}
IfOver puts (At_point s) put = Unit {0}

-- a run of the image of some puts from its start that is over, without switches and with points for its puts
pub record IsPlainRun (name : List ℕ) (puts : List Term) (last : State) (outcome : Outcome) : Type 0 where
  pub heap : Heap
  pub threads : ℕ
  pub stack : ℕ
  pub points : ℕ
  pub input : List ℕ
  pub from : State
  pub end : Config
  pub enough : points_of puts ≤ points
  pub small : points < 2 ^ 64
  pub begun : Begins (plain_program name puts) heap threads stack from
  pub leads : Leads (plain_program name puts) input (from.points + points) (starting from []) end
  pub over : end.place ≡ Over last outcome
