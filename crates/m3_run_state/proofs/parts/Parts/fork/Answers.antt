use Rattle.std.specs.Prelude.{ℕ, Some}
use Rattle.std.proofs.Common.{arith, refl, ap, rules}
use Rattle.m3_run_state.proofs.parts.Parts.fork.Goals as goal

pub returns-in-Ok-clause-forks : goal.returns-in-Ok-clause-forks
returns-in-Ok-clause-forks g c = λ few room.
    let f = c.in-Ok.ensures.forked in
    ((f.0, f.1, refl, f.3), ap (λ (n : ℕ). Some n) f.2)

pub returns-in-Err-clause-forks : goal.returns-in-Err-clause-forks
returns-in-Err-clause-forks g c = λ few room.
    let full = c.in-Err.ensures.full.0 refl in
    absurd (omega (arith, full, room))

pub returns-then-not-may_count-clause-forks : goal.returns-then-not-may_count-clause-forks
returns-then-not-may_count-clause-forks g c = λ few room.
    let none = c.may_count.ensures.none (search rules) in
    absurd (omega (arith, none, few))
