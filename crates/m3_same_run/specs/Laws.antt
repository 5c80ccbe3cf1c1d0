-- The law of the check.
use Rattle.std.specs.Prelude.{◌≡◌, ℕ, Bool, List, true}
use Rattle.m3_mid.specs.declared.procs.Proc.{Proc}
use Rattle.m3_mid_meaning.specs.Runs.{FollowsRun}
use Rattle.m3_same_forms.specs.Forms.{Pair}
use Rattle.m3_same_run.specs.Check.{same_run}

-- Where a proof passes the check, each defined run of the left procedure is a run of the right one.
abbrev pub CheckIsSound : Type 0
CheckIsSound =
    (common : List Bool) (p q : Proc) (jumps : ℕ) (proof : List Pair) →
    same_run common p q jumps proof ≡ true → FollowsRun p q
