-- What the operations on threads leave, operation by operation.
use Rattle.std.specs.Prelude.{ℕ, ◌≡◌, ◌+◌, Bool, Option, None, Some, IsSome}
use Rattle.std.proofs.Common.{refl, sym, ap, subst, ◌∙◌}
use Rattle.m3_isa.specs.Memory.{Memory}
use Rattle.m3_isa.specs.declared.instructions.Op.{Op}
use Rattle.m3_isa.specs.declared.instructions.Op.TheVariants.{Join, Acq, Rel, Wait, Sig, Bca, Alert, Talert, Await, Ajoin, Endt}
use Rattle.m3_isa.specs.declared.instructions.Instr.{Instr}
use Rattle.m3_threads.specs.declared.answers.Done.{Done}
use Rattle.m3_threads.specs.declared.status.Thread.{Thread}
use Rattle.m3_threads.specs.All.{Everyone}
use Rattle.m3_threads.specs.Actions.{IsAfter, ends}
use Rattle.m3_run_laws.proofs.ThreadSteps.{ends_uncounted}
use Rattle.m3_run_meaning.specs.OnThreads.{Acts_on_threads}

-- what holds of an operation holds of an instruction that has it
pub by_op : (o p : Op) → o ≡ p → (t : Thread) (i : Instr) (all : Everyone) (memory : Memory) (can : ℕ → Bool) (done : Done) (new_all : Everyone) (new : Memory)
    → Acts_on_threads p t i all memory can done new_all new → Acts_on_threads o t i all memory can done new_all new
by_op o p is t i all memory can done new_all new h = subst (λ (x : Op). Acts_on_threads x t i all memory can done new_all new) (sym is) h

-- of an operation that is none of these nothing is said
pub no_thread_op : (o : Op) → (o ≡ Join → ⊥) → (o ≡ Acq → ⊥) → (o ≡ Rel → ⊥) → (o ≡ Wait → ⊥) → (o ≡ Sig → ⊥) → (o ≡ Bca → ⊥) → (o ≡ Alert → ⊥) → (o ≡ Talert → ⊥) → (o ≡ Await → ⊥) → (o ≡ Ajoin → ⊥) → (o ≡ Endt → ⊥) → (t : Thread) (i : Instr) (all : Everyone) (memory : Memory) (can : ℕ → Bool) (done : Done) (new_all : Everyone) (new : Memory)
    → Acts_on_threads o t i all memory can done new_all new
no_thread_op Join n _ _ _ _ _ _ _ _ _ _ t i all memory can done new_all new = absurd (n refl)
no_thread_op Acq _ n _ _ _ _ _ _ _ _ _ t i all memory can done new_all new = absurd (n refl)
no_thread_op Rel _ _ n _ _ _ _ _ _ _ _ t i all memory can done new_all new = absurd (n refl)
no_thread_op Wait _ _ _ n _ _ _ _ _ _ _ t i all memory can done new_all new = absurd (n refl)
no_thread_op Sig _ _ _ _ n _ _ _ _ _ _ t i all memory can done new_all new = absurd (n refl)
no_thread_op Bca _ _ _ _ _ n _ _ _ _ _ t i all memory can done new_all new = absurd (n refl)
no_thread_op Alert _ _ _ _ _ _ n _ _ _ _ t i all memory can done new_all new = absurd (n refl)
no_thread_op Talert _ _ _ _ _ _ _ n _ _ _ t i all memory can done new_all new = absurd (n refl)
no_thread_op Await _ _ _ _ _ _ _ _ n _ _ t i all memory can done new_all new = absurd (n refl)
no_thread_op Ajoin _ _ _ _ _ _ _ _ _ n _ t i all memory can done new_all new = absurd (n refl)
no_thread_op Endt _ _ _ _ _ _ _ _ _ _ n t i all memory can done new_all new = absurd (n refl)
no_thread_op _ _ _ _ _ _ _ _ _ _ _ _ t i all memory can done new_all new = tt

pub is_there : (o : Option Thread) → IsSome o → (t : Thread) × (o ≡ Some t)
is_there None h = absurd cc
is_there (Some t) h = (t, refl)

-- the end of a thread is no fork and no wait
pub uncounted : (t : Thread) (i : Instr) (all : Everyone) (memory : Memory) (can : ℕ → Bool) (done : Done) (new_all : Everyone) (new : Memory) → IsAfter (ends t i all memory can) done new_all new
    → new_all.forks + new_all.waits ≡ all.forks + all.waits
uncounted t i all memory can done new_all new after = ap (λ (a : Everyone). a.forks + a.waits) after.threads ∙ ends_uncounted t i all memory can
