-- What an act of the running thread makes of a state, from what its parts told.
use Rattle.std.specs.Prelude.{ℕ, ◌≡◌, Result, Ok, Err}
use Rattle.std.proofs.Common.{sym, ap, subst, ◌∙◌}
use Rattle.m3_base.specs.declared.outcomes.Outcome.{Outcome}
use Rattle.m3_isa.specs.declared.registers.Regs.{Regs}
use Rattle.m3_threads.specs.declared.status.Thread.{Thread}
use Rattle.m3_threads.specs.All.{Everyone, updated}
use Rattle.m3_image_sections.specs.Parts.{Program}
use Rattle.m3_run_meaning.specs.declared.near.Stack.{Stack}
use Rattle.m3_run_meaning.specs.declared.near.Place.{Place}
use Rattle.m3_run_meaning.specs.State.{State, HasOtherWords, regs_set, with_regs, memory_of, can_set}
use Rattle.m3_run_meaning.specs.Act.{Writes, Proceeds as Goes_with, using}
use Rattle.m3_run_meaning.specs.Progress.{Progress, Goes, Ends, Follows, GoesOver}
use Rattle.m3_run_meaning.specs.Calls.{place_of, come_to, entering, framed, calls, returning, returns}

regs_in : Regs → ℕ → Everyone → Everyone
regs_in regs n all = record all { threads = updated (regs_set regs) n all.threads }

all_in : Everyone → State → State
all_in all s = record s { all = all }

-- other words beside other registers
pub others_with_regs : (s mid : State) (regs : Regs) → HasOtherWords s mid → HasOtherWords (with_regs s regs) (with_regs mid regs)
unfolding regs_in all_in
others_with_regs s mid regs h =
    let same-running : mid.running ≡ s.running = ap (λ (x : State). x.running) h.rest in
    record {
      all = record {
        same_depths = h.all.same_depths;
        rest = ap (λ (a : Everyone). regs_in regs mid.running a) h.all.rest
            ∙ ap (λ (n : ℕ). record s.all { threads = updated (regs_set regs) n s.all.threads; stacks = mid.all.stacks }) same-running;
      };
      globals = h.globals;
      heap = h.heap;
      rest = ap (λ (x : State). all_in (regs_in regs mid.running mid.all) x) h.rest;
    }

-- a call that enters a frame, and one that doesn't
pub called : (p : Program) (s mid : State) (t : Thread) (n : ℕ) (stack : Stack) (to : Place) (progress : Progress)
    → entering p n stack (place_of t.regs) ≡ Ok to → HasOtherWords s mid
    → ((x : ℕ) → memory_of p mid x ≡ framed to (place_of t.regs) (memory_of p s) (can_set s) x)
    → progress ≡ Goes (with_regs mid (come_to to t.regs))
    → Follows p (calls p (Ok n) stack t.regs (memory_of p s) (can_set s)) s progress
called p s mid t n stack to progress found others words goes =
    let written = framed to (place_of t.regs) (memory_of p s) (can_set s) in
    let becomes : GoesOver p (with_regs s (come_to to t.regs)) written (Goes (with_regs mid (come_to to t.regs))) =
    record { others = others_with_regs s mid (come_to to t.regs) others; words = words } in
    let entered : GoesOver p (with_regs s (come_to to t.regs)) written progress =
    subst (λ (q : Progress). GoesOver p (with_regs s (come_to to t.regs)) written q) (sym goes) becomes in
    subst (λ (r : Result Place Outcome). Follows p (using r (λ to. Writes (come_to to t.regs) (framed to (place_of t.regs) (memory_of p s) (can_set s)))) s progress) (sym found) entered

pub not_called : (p : Program) (s : State) (t : Thread) (n : ℕ) (stack : Stack) (outcome : Outcome) (progress : Progress)
    → entering p n stack (place_of t.regs) ≡ Err outcome → progress ≡ Ends s outcome
    → Follows p (calls p (Ok n) stack t.regs (memory_of p s) (can_set s)) s progress
not_called p s t n stack outcome progress found ends =
    subst (λ (r : Result Place Outcome). Follows p (using r (λ to. Writes (come_to to t.regs) (framed to (place_of t.regs) (memory_of p s) (can_set s)))) s progress) (sym found) ends

-- a return
pub returned : (p : Program) (s : State) (t : Thread) (code : ℕ) (r : Result Place Outcome) (progress : Progress)
    → r ≡ returning code (place_of t.regs) (memory_of p s) → Follows p (using r (λ to. Goes_with (come_to to t.regs))) s progress
    → Follows p (returns code t.regs (memory_of p s)) s progress
returned p s t code r progress found follows =
    subst (λ (r : Result Place Outcome). Follows p (using r (λ to. Goes_with (come_to to t.regs))) s progress) found follows
