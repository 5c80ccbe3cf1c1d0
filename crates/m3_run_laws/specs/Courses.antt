-- How far a run has come from a state between two turns, while its threads stand as they may and its store keeps its
-- laws.
use Rattle.std.specs.Prelude.{ℕ, ◌≡◌, ◌≤◌, ◌<◌, ◌+◌, ◌*◌}
use Rattle.m3_base.specs.declared.outcomes.Outcome.{Outcome}
use Rattle.m3_base.specs.declared.outcomes.Outcome.TheVariants.{Spent}
use Rattle.m3_image_sections.specs.Parts.{Program}
use Rattle.m3_run_meaning.specs.State.{State}
use Rattle.m3_run_meaning.specs.Runs.{Place, In_turn, At_point, Over, turn_limit}
use Rattle.m3_run_laws.specs.Standing.{AllAtPoints, InTurnOf}
use Rattle.m3_run_laws.specs.Stores.{StaysLawful}

-- in a turn: of each turn before it as many instructions were executed as a turn may have, or fewer
pub record SoundTurn (p : Program) (allowed : ℕ) (from s : State) (k : ℕ) : Type 0 where
  pub turn : InTurnOf p s.running s.all
  pub depth : s.all.stack ≡ from.all.stack
  pub before : ℕ
  pub points : s.points ≡ from.points + before + 1
  pub within : s.points ≤ allowed
  pub instructions : s.instructions ≤ from.instructions + before * turn_limit p from + k
  pub short : k < turn_limit p from
  pub store : StaysLawful from.heap s.heap
  pub asked : from.heap.asked ≡ 0 → s.heap.asked ≡ 0

-- between two turns
pub record SoundPoint (p : Program) (allowed : ℕ) (from s : State) : Type 0 where
  pub at_points : AllAtPoints p s.all
  pub depth : s.all.stack ≡ from.all.stack
  pub turns : ℕ
  pub points : s.points ≡ from.points + turns
  pub within : s.points ≤ allowed
  pub instructions : s.instructions ≤ from.instructions + turns * turn_limit p from
  pub store : StaysLawful from.heap s.heap
  pub asked : from.heap.asked ≡ 0 → s.heap.asked ≡ 0

-- once it is over
pub record SoundEnd (p : Program) (allowed : ℕ) (from s : State) : Type 0 where
  pub turns : ℕ
  pub points : s.points ≡ from.points + turns
  pub within : s.points ≤ allowed
  pub instructions : s.instructions ≤ from.instructions + turns * turn_limit p from
  pub store : StaysLawful from.heap s.heap

-- an outcome isn't that of points that are used up
abbrev pub IsOther : Outcome → Type 0
IsOther Spent = ⊥
IsOther _ = Unit {0}

-- a run whose points are used up stands between two turns
abbrev pub EndsSoundly : Program → ℕ → State → State → Outcome → Type 0
EndsSoundly p allowed from s Spent = SoundPoint p allowed from s
EndsSoundly p allowed from s _ = SoundEnd p allowed from s

abbrev pub IsSound : Program → ℕ → State → Place → Type 0
IsSound p allowed from (In_turn s k) = SoundTurn p allowed from s k
IsSound p allowed from (At_point s) = SoundPoint p allowed from s
IsSound p allowed from (Over s outcome) = EndsSoundly p allowed from s outcome
