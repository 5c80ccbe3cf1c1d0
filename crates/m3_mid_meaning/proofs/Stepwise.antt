-- Runs are made of steps.
use Rattle.std.proofs.Common.{◌≡◌, ℕ, zero, suc, List, [], ◌∷◌, Option, Some, None, refl, sym, ap, ◌∙◌}
use Rattle.std.specs.Prelude.{slice_get}
use Rattle.m3_mid.specs.declared.procs.Proc.{Proc}
use Rattle.m3_mid.specs.declared.procs.Block.{Block}
use Rattle.m3_mid_meaning.specs.Memory.{Around}
use Rattle.m3_mid_meaning.specs.States.{State, Waiting, Undefined, Next, Goes, Ends}
use Rattle.m3_mid_meaning.specs.Points.{Event, Answer, Effect, Plain, Acts, Outcome}
use Rattle.m3_mid_meaning.specs.Meaning.{effect_of, Exit, To, Over, exit_of}
use Rattle.m3_mid_meaning.specs.Machinery.{Progress, behind, go_on, carry_out, leave, run_ops, run_block, run_blocks}
use Rattle.m3_mid_meaning.specs.Stops.{Code}
use Rattle.m3_mid_meaning.specs.Laws.{ended, preceded, FollowsNext, FollowsEffect, FollowsExit, FollowsBlock, IsStepwise}

-- the run that an event precedes
later_of : (event : Event) (r : Progress) (o : Outcome) → behind event r ≡ Some o → (later : Outcome) × (r ≡ Some later) × (o ≡ preceded event later)
later_of event None o e = absurd (let bad : None ≡ Some o = e in cc)
later_of event (Some later) o e =
    (later, refl, let all : Some (preceded event later) ≡ Some o = e in let back : preceded event later ≡ o = cc in sym back)

pub is_some : (o o' : Outcome) → Some o ≡ Some o' → o' ≡ o
is_some o o' e = let back : o ≡ o' = cc in sym back

module _ (p : Proc) (around : Around) where
  next_there : (code : Code) (next : Next) (answers : List Answer) (o : Outcome) (n : ℕ) → go_on next answers (λ s rest. run_ops p around code.ops code.end s rest (run_blocks n p around)) ≡ Some o → FollowsNext p around code next answers o
  next_there code (Goes s) answers o n e = record { blocks = n; is = e }
  next_there code (Ends ending) answers o n e = is_some (ended ending) o e

  pub effect_there : (code : Code) (x : Effect) (answers : List Answer) (o : Outcome) (n : ℕ) → carry_out x answers (λ s rest. run_ops p around code.ops code.end s rest (run_blocks n p around)) ≡ Some o → FollowsEffect p around code x answers o
  effect_there code (Plain next) answers o n e = next_there code next answers o n e
  effect_there code (Acts event reply) [] o n e = is_some (preceded event (ended Waiting)) o e
  effect_there code (Acts event reply) (answer ∷ answers) o n e =
      let h = later_of event (go_on (reply answer) answers (λ s rest. run_ops p around code.ops code.end s rest (run_blocks n p around))) o e in
      (h.0, next_there code (reply answer) answers h.0 n h.1, h.2)

  next_back : (code : Code) (next : Next) (answers : List Answer) (o : Outcome) → FollowsNext p around code next answers o → (n : ℕ) × (go_on next answers (λ s rest. run_ops p around code.ops code.end s rest (run_blocks n p around)) ≡ Some o)
  next_back code (Goes s) answers o h = (h.blocks, h.is)
  next_back code (Ends ending) answers o h = (0, ap (λ x. Some x) (sym h))

  pub effect_back : (code : Code) (x : Effect) (answers : List Answer) (o : Outcome) → FollowsEffect p around code x answers o → (n : ℕ) × (carry_out x answers (λ s rest. run_ops p around code.ops code.end s rest (run_blocks n p around)) ≡ Some o)
  effect_back code (Plain next) answers o h = next_back code next answers o h
  effect_back code (Acts event reply) [] o h = (0, ap (λ x. Some x) (sym h))
  effect_back code (Acts event reply) (answer ∷ answers) o h =
      let r = next_back code (reply answer) answers h.0 h.1 in
      (r.0, ap (behind event) r.1 ∙ ap (λ x. Some x) (sym h.2))

  exit_there : (x : Exit) (s : State) (answers : List Answer) (o : Outcome) (n : ℕ) → leave x (λ b. run_blocks n p around b s answers) ≡ Some o → FollowsExit p around x s answers o
  exit_there (To b) s answers o n e = record { blocks = n; is = e }
  exit_there (Over ending) s answers o n e = is_some (ended ending) o e

  exit_back : (x : Exit) (s : State) (answers : List Answer) (o : Outcome) → FollowsExit p around x s answers o → (n : ℕ) × (leave x (λ b. run_blocks n p around b s answers) ≡ Some o)
  exit_back (To b) s answers o h = (h.blocks, h.is)
  exit_back (Over ending) s answers o h = (0, ap (λ x. Some x) (sym h))

  block_there : (block : Option Block) (s : State) (answers : List Answer) (o : Outcome) (n : ℕ) → run_block p around block s answers (run_blocks n p around) ≡ Some o → FollowsBlock p around block s answers o
  block_there None s answers o n e = is_some (ended Undefined) o e
  block_there (Some block) s answers o n e = record { blocks = n; is = e }

  block_back : (block : Option Block) (s : State) (answers : List Answer) (o : Outcome) → FollowsBlock p around block s answers o → (n : ℕ) × (run_block p around block s answers (run_blocks n p around) ≡ Some o)
  block_back None s answers o h = (0, ap (λ x. Some x) (sym h))
  block_back (Some block) s answers o h = (h.blocks, h.is)

  from_there : (b : ℕ) (s : State) (answers : List Answer) (o : Outcome) (n : ℕ) → run_blocks n p around b s answers ≡ Some o → FollowsBlock p around (slice_get p.blocks.now b) s answers o
  from_there b s answers o zero e = absurd (let bad : None ≡ Some o = e in cc)
  from_there b s answers o (suc n) e = block_there (slice_get p.blocks.now b) s answers o n e

  pub stepwise : (s : State) (answers : List Answer) (o : Outcome) → IsStepwise p around s answers o
  stepwise s answers o = record {
    operation = λ op rest.
        let effect = effect_of p.slots.now around s op in (
          λ h. effect_there rest effect answers o h.blocks h.is,
          λ h. let r = effect_back rest effect answers o h in record { blocks = r.0; is = r.1 },
        );
    end = λ end.
        let exit = exit_of s end in (
          λ h. exit_there exit s answers o h.blocks h.is,
          λ h. let r = exit_back exit s answers o h in record { blocks = r.0; is = r.1 },
        );
    block = λ b. (
      λ h. from_there b s answers o h.blocks h.is,
      λ h. let r = block_back (slice_get p.blocks.now b) s answers o h in record { blocks = suc r.0; is = r.1 },
    );
  }
