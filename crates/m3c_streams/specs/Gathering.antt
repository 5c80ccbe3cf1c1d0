-- What a sink that keeps bytes back is seen as.
use Rattle.std.specs.Prelude.{◌≡◌, ◌≤◌, ℕ, ◌+◌, ◌++◌, List, [], Option, Some, IfSome, length, is_some}
use Rattle.std.specs.Option.{option_map}
use Rattle.m3_ports.specs.Counts.{Rose}
use Rattle.m3_ports.specs.Files.{LeavesAtFault}

-- what the sink behind it tells of the bytes that it took, and how many of these wait there; the bytes that
-- wait here; and the faults of the sink behind
pub record Gathering : Type 0 where
  pub told : Option (List ℕ)
  pub behind : ℕ
  pub waiting : List ℕ
  pub faults : ℕ

-- the bytes that were put so far, where the sink behind tells its own: those that it took, and those that wait
abbrev pub taken_of : Gathering → Option (List ℕ)
taken_of g = option_map (λ bytes. bytes ++ g.waiting) g.told

-- how many of them a fault may take away
abbrev pub waiting_of : Gathering → ℕ
waiting_of g = g.behind + length g.waiting

-- a piece was taken
pub record Takes (before after : Gathering) (piece : List ℕ) : Type 0 where
  pub faults : after.faults ≡ before.faults
  pub told : is_some after.told ≡ is_some before.told
  pub all : IfSome (taken_of before) (λ bytes. taken_of after ≡ Some (bytes ++ piece))
  pub waits : waiting_of after ≤ waiting_of before + length piece

-- a piece wasn't taken: a front of all that was put is there, and nothing waits, so nothing more of it is put
pub record Fails (before after : Gathering) (piece : List ℕ) : Type 0 where
  pub risen : before.faults ≤ after.faults
  pub rose : Rose before.faults after.faults
  pub told : is_some after.told ≡ is_some before.told
  pub front : IfSome (taken_of before) (λ bytes. (all : List ℕ) × LeavesAtFault (waiting_of before) bytes piece all × (taken_of after ≡ Some all))
  pub nothing : after.waiting ≡ []
