-- Where a procedure that is followed has a defined run, the two have one run.
use Rattle.std.proofs.Common.{◌≡◌, ◌≢◌, List, subst}
use Rattle.std.specs.Prelude.{◌↔◌}
use Rattle.m3_mid.specs.declared.procs.Proc.{Proc}
use Rattle.m3_mid_meaning.specs.Memory.{Memory, Around}
use Rattle.m3_mid_meaning.specs.States.{Undefined}
use Rattle.m3_mid_meaning.specs.Points.{Answer, Outcome}
use Rattle.m3_mid_meaning.specs.Runs.{start_of, IsRun, FollowsRun}
use Rattle.m3_mid_meaning.proofs.Longer.{one_end}

module _ (p q : Proc) (follows : FollowsRun p q) (around : Around) (memory : Memory) (answers : List Answer) (o : Outcome) (defined : o.ending ≢ Undefined) (run : IsRun p around memory answers o) where
  there : IsRun q around memory answers o
  there = follows around memory answers o defined run

  pub same : (o' : Outcome) → IsRun p around memory answers o' ↔ IsRun q around memory answers o'
  same o' = (
    λ x.
        let e : o ≡ o' = one_end p around p.start (start_of p around memory) answers o o' run x in
        subst (λ z. IsRun q around memory answers z) e there,
    λ x.
        let e : o ≡ o' = one_end q around q.start (start_of q around memory) answers o o' there x in
        subst (λ z. IsRun p around memory answers z) e run,
  )
