-- What a machine keeps where its words change.
use Rattle.std.specs.Prelude.{ℕ, ◌≡◌, ◌+◌, ◌≤◌, Some}
use Rattle.std.proofs.Common.{ap, ◌∙◌, arith}
use Rattle.m3_threads.specs.declared.status.Thread.{Thread}
use Rattle.m3_threads.specs.All.{Everyone, thread_named}
use Rattle.m3_run_memory.specs.Kept.{KeepsStacks}

counts : Everyone → ℕ
counts all = all.forks + all.waits

pub still-counted : (all new : Everyone) (n : ℕ) → KeepsStacks all new → all.forks + all.waits ≤ n → new.forks + new.waits ≤ n
unfolding counts
still-counted all new n k h =
    let e : new.forks + new.waits ≡ all.forks + all.waits = ap counts k.rest in
    omega arith

pub same-forks : (all new : Everyone) → KeepsStacks all new → new.forks ≡ all.forks
same-forks all new k = ap (λ (a : Everyone). a.forks) k.rest

pub same-waits : (all new : Everyone) → KeepsStacks all new → new.waits ≡ all.waits
same-waits all new k = ap (λ (a : Everyone). a.waits) k.rest

-- a thread is found where the threads stay
pub still_found : (all new : Everyone) (n : ℕ) (t : Thread) → KeepsStacks all new → thread_named all n ≡ Some t → thread_named new n ≡ Some t
still_found all new n t k h = ap (λ a. thread_named a n) k.rest ∙ h
