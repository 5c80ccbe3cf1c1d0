-- A run is the chain of its stops.
use Rattle.std.proofs.Common.{◌≡◌, ℕ, zero, suc, ◌+◌, ◌≤◌, List, [], ◌∷◌, Option, Some, None, refl, sym, ap, ◌∙◌, subst, arith}
use Rattle.std.specs.Prelude.{slice_get}
use Rattle.m3_mid.specs.declared.procs.Proc.{Proc}
use Rattle.m3_mid.specs.declared.procs.Block.{Block}
use Rattle.m3_mid.specs.declared.procs.End.{End}
use Rattle.m3_mid.specs.declared.ops.MidOp.{MidOp}
use Rattle.m3_mid_meaning.specs.Memory.{Around}
use Rattle.m3_mid_meaning.specs.States.{State, Ending, Undefined, Next, Goes, Ends}
use Rattle.m3_mid_meaning.specs.Points.{Answer, Effect, Plain, Acts, Outcome}
use Rattle.m3_mid_meaning.specs.Meaning.{effect_of, Exit, To, Over, exit_of}
use Rattle.m3_mid_meaning.specs.Stops.{Code, Stop, AtPoint, AtEnd}
use Rattle.m3_mid_meaning.specs.Machinery.{Progress, Finding, over, go_on, carry_out, leave, run_ops, run_block, run_blocks, find_next, find_behind, find_at, find_ops, find_block, find_blocks}
use Rattle.m3_mid_meaning.specs.Runs.{IsStop}
use Rattle.m3_mid_meaning.specs.Laws.{ended, FollowsStop, IsChain}
use Rattle.m3_mid_meaning.proofs.Stepwise.{effect_there, effect_back, is_some}

-- ---- one stop

abbrev Keeps : Finding → Finding → Type 0
Keeps None r = Unit {0}
Keeps (Some stop) r = r ≡ Some stop

abbrev Same : (f g : State → Finding) → Type 0
Same f g = (s : State) → Keeps (f s) (g s)

found : (stop : Stop) → Keeps (Some stop) (Some stop)
found stop = refl

next_keeps : (next : Next) (f g : State → Finding) → Same f g → Keeps (find_next next f) (find_next next g)
next_keeps (Goes s) f g h = h s
next_keeps (Ends ending) f g h = refl

behind_keeps : (x : Effect) (ops : List MidOp) (end : End) (f g : State → Finding) → Same f g → Keeps (find_behind x ops end f) (find_behind x ops end g)
behind_keeps (Plain next) ops end f g h = next_keeps next f g h
behind_keeps (Acts event reply) ops end f g h = refl

at_keeps : (x : Exit) (f g : ℕ → Finding) → ((b : ℕ) → Keeps (f b) (g b)) → Keeps (find_at x f) (find_at x g)
at_keeps (To b) f g h = h b
at_keeps (Over ending) f g h = refl

module _ (p : Proc) (around : Around) where
  ops_keep : (ops : List MidOp) (end : End) (s : State) (f g : ℕ → State → Finding) → ((b : ℕ) → Same (f b) (g b)) → Keeps (find_ops p around ops end s f) (find_ops p around ops end s g)
  ops_keep [] end s f g h = at_keeps (exit_of s end) (λ b. f b s) (λ b. g b s) (λ b. h b s)
  ops_keep (op ∷ ops) end s f g h =
      behind_keeps (effect_of p.slots.now around s op) ops end (λ s'. find_ops p around ops end s' f) (λ s'. find_ops p around ops end s' g) (λ s'. ops_keep ops end s' f g h)

  block_keeps : (block : Option Block) (s : State) (f g : ℕ → State → Finding) → ((b : ℕ) → Same (f b) (g b)) → Keeps (find_block p around block s f) (find_block p around block s g)
  block_keeps None s f g h = refl
  block_keeps (Some block) s f g h = ops_keep block.ops.now block.end s f g h

  blocks_keep : (m n : ℕ) → m ≤ n → (b : ℕ) → Same (find_blocks m p around b) (find_blocks n p around b)
  blocks_keep zero n le b s = tt
  blocks_keep (suc m) zero le b s = absurd (omega arith)
  blocks_keep (suc m) (suc n) le b s =
      block_keeps (slice_get p.blocks.now b) s (find_blocks m p around) (find_blocks n p around) (blocks_keep m n (omega arith))

  later : (code : Code) (s : State) (stop : Stop) (m n : ℕ) → m ≤ n → find_ops p around code.ops code.end s (find_blocks m p around) ≡ Some stop → find_ops p around code.ops code.end s (find_blocks n p around) ≡ Some stop
  later code s stop m n le e =
      subst (λ r. Keeps r (find_ops p around code.ops code.end s (find_blocks n p around))) e (ops_keep code.ops code.end s (find_blocks m p around) (find_blocks n p around) (blocks_keep m n le))

  one_stop : (code : Code) (s : State) (stop stop' : Stop) → IsStop p around code s stop → IsStop p around code s stop' → stop ≡ stop'
  one_stop code s stop stop' x y =
      let n : ℕ = x.blocks + y.blocks in
      let e = later code s stop x.blocks n (omega arith) x.is in
      let e' = later code s stop' y.blocks n (omega arith) y.is in
      let both : Some stop ≡ Some stop' = sym e ∙ e' in cc

  -- ---- from a run to its first stop

  abbrev Found : Finding → List Answer → Outcome → Type 0
  Found r answers o = (stop : Stop) × (r ≡ Some stop) × FollowsStop p around stop answers o

  abbrev Finds : (answers : List Answer) → (State → List Answer → Progress) → (State → Finding) → Type 0
  Finds answers f g = (s : State) (o : Outcome) → f s answers ≡ Some o → Found (g s) answers o

  at_end : (ending : Ending) (answers : List Answer) (o : Outcome) → over ending ≡ Some o → Found (Some (AtEnd ending)) answers o
  at_end ending answers o e = (AtEnd ending, refl, is_some (ended ending) o e)

  next_found : (next : Next) (answers : List Answer) (o : Outcome) (f : State → List Answer → Progress) (g : State → Finding) → Finds answers f g → go_on next answers f ≡ Some o → Found (find_next next g) answers o
  next_found (Goes s) answers o f g h e = h s o e
  next_found (Ends ending) answers o f g h e = at_end ending answers o e

  module _ (answers : List Answer) where
    effect_found : (ops : List MidOp) (end : End) (x : Effect) (o : Outcome) (n : ℕ) (g : State → Finding) → Finds answers (λ s rest. run_ops p around ops end s rest (run_blocks n p around)) g →
        carry_out x answers (λ s rest. run_ops p around ops end s rest (run_blocks n p around)) ≡ Some o → Found (find_behind x ops end g) answers o
    effect_found ops end (Plain next) o n g h e = next_found next answers o (λ s rest. run_ops p around ops end s rest (run_blocks n p around)) g h e
    effect_found ops end (Acts event reply) o n g h e =
        let code : Code = record { ops = ops; end = end } in
        (AtPoint event reply code, refl, effect_there p around code (Acts event reply) answers o n e)

    exit_found : (x : Exit) (s : State) (o : Outcome) (f : ℕ → Progress) (g : ℕ → Finding) → ((b : ℕ) (o1 : Outcome) → f b ≡ Some o1 → Found (g b) answers o1) → leave x f ≡ Some o → Found (find_at x g) answers o
    exit_found (To b) s o f g h e = h b o e
    exit_found (Over ending) s o f g h e = at_end ending answers o e

    ops_found : (ops : List MidOp) (end : End) (s : State) (o : Outcome) (n : ℕ) → ((b : ℕ) → Finds answers (run_blocks n p around b) (find_blocks n p around b)) →
        run_ops p around ops end s answers (run_blocks n p around) ≡ Some o → Found (find_ops p around ops end s (find_blocks n p around)) answers o
    ops_found [] end s o n h e =
        exit_found (exit_of s end) s o (λ b. run_blocks n p around b s answers) (λ b. find_blocks n p around b s) (λ b o1 e1. h b s o1 e1) e
    ops_found (op ∷ ops) end s o n h e =
        effect_found ops end (effect_of p.slots.now around s op) o n (λ s'. find_ops p around ops end s' (find_blocks n p around)) (λ s' o1 e1. ops_found ops end s' o1 n h e1) e

    block_found : (block : Option Block) (s : State) (o : Outcome) (n : ℕ) → ((b : ℕ) → Finds answers (run_blocks n p around b) (find_blocks n p around b)) →
        run_block p around block s answers (run_blocks n p around) ≡ Some o → Found (find_block p around block s (find_blocks n p around)) answers o
    block_found None s o n h e = at_end Undefined answers o e
    block_found (Some block) s o n h e = ops_found block.ops.now block.end s o n h e

    blocks_found : (n b : ℕ) → Finds answers (run_blocks n p around b) (find_blocks n p around b)
    blocks_found zero b s o e = absurd (let bad : None ≡ Some o = e in cc)
    blocks_found (suc n) b s o e = block_found (slice_get p.blocks.now b) s o n (blocks_found n) e

    -- ---- from the first stop to the run

    abbrev Run : (ℕ → Progress) → Outcome → Type 0
    Run f o = (n : ℕ) × (f n ≡ Some o)

    abbrev Goes_on : (ℕ → State → List Answer → Progress) → (State → Finding) → Type 0
    Goes_on f g = (s : State) (stop : Stop) (o : Outcome) → g s ≡ Some stop → FollowsStop p around stop answers o → Run (λ n. f n s answers) o

    ends_so : (ending : Ending) (stop : Stop) (o : Outcome) → Some (AtEnd ending) ≡ Some stop → FollowsStop p around stop answers o → over ending ≡ Some o
    ends_so ending stop o e h =
        let same : AtEnd ending ≡ stop = cc in
        let h' : o ≡ ended ending = subst (λ z. FollowsStop p around z answers o) (sym same) h in
        ap (λ z. Some z) (sym h')

    next_runs : (next : Next) (f : ℕ → State → List Answer → Progress) (g : State → Finding) → Goes_on f g → (stop : Stop) (o : Outcome) → find_next next g ≡ Some stop → FollowsStop p around stop answers o → Run (λ n. go_on next answers (f n)) o
    next_runs (Goes s) f g h stop o e k = h s stop o e k
    next_runs (Ends ending) f g h stop o e k = (0, ends_so ending stop o e k)

    effect_runs : (ops : List MidOp) (end : End) (x : Effect) (g : State → Finding) → Goes_on (λ n s rest. run_ops p around ops end s rest (run_blocks n p around)) g → (stop : Stop) (o : Outcome) →
        find_behind x ops end g ≡ Some stop → FollowsStop p around stop answers o → Run (λ n. carry_out x answers (λ s rest. run_ops p around ops end s rest (run_blocks n p around))) o
    effect_runs ops end (Plain next) g h stop o e k = next_runs next (λ n s rest. run_ops p around ops end s rest (run_blocks n p around)) g h stop o e k
    effect_runs ops end (Acts event reply) g h stop o e k =
        let code : Code = record { ops = ops; end = end } in
        let same : AtPoint event reply code ≡ stop = let all : Some (AtPoint event reply code) ≡ Some stop = e in cc in
        effect_back p around code (Acts event reply) answers o (subst (λ z. FollowsStop p around z answers o) (sym same) k)

    exit_runs : (x : Exit) (f : ℕ → ℕ → Progress) (g : ℕ → Finding) → ((b : ℕ) (stop : Stop) (o : Outcome) → g b ≡ Some stop → FollowsStop p around stop answers o → Run (λ n. f n b) o) →
        (stop : Stop) (o : Outcome) → find_at x g ≡ Some stop → FollowsStop p around stop answers o → Run (λ n. leave x (f n)) o
    exit_runs (To b) f g h stop o e k = h b stop o e k
    exit_runs (Over ending) f g h stop o e k = (0, ends_so ending stop o e k)

    ops_run : (ops : List MidOp) (end : End) (m : ℕ) → ((b : ℕ) → Goes_on (λ n. run_blocks n p around b) (find_blocks m p around b)) → Goes_on (λ n s rest. run_ops p around ops end s rest (run_blocks n p around)) (λ s. find_ops p around ops end s (find_blocks m p around))
    ops_run [] end m h s stop o e k =
        exit_runs (exit_of s end) (λ n b. run_blocks n p around b s answers) (λ b. find_blocks m p around b s) (λ b. h b s) stop o e k
    ops_run (op ∷ ops) end m h s stop o e k =
        effect_runs ops end (effect_of p.slots.now around s op) (λ s'. find_ops p around ops end s' (find_blocks m p around)) (ops_run ops end m h) stop o e k

    block_runs : (block : Option Block) (m : ℕ) → ((b : ℕ) → Goes_on (λ n. run_blocks n p around b) (find_blocks m p around b)) → Goes_on (λ n s rest. run_block p around block s rest (run_blocks n p around)) (λ s. find_block p around block s (find_blocks m p around))
    block_runs None m h s stop o e k = (0, ends_so Undefined stop o e k)
    block_runs (Some block) m h s stop o e k = ops_run block.ops.now block.end m h s stop o e k

    blocks_run : (m b : ℕ) → Goes_on (λ n. run_blocks n p around b) (find_blocks m p around b)
    blocks_run zero b s stop o e k = absurd (let bad : None ≡ Some stop = e in cc)
    blocks_run (suc m) b s stop o e k =
        let r = block_runs (slice_get p.blocks.now b) m (blocks_run m) s stop o e k in (suc r.0, r.1)

  -- ---- both

  pub chain : (code : Code) (s : State) → IsChain p around code s
  chain code s = record {
    run = λ answers o. (
      λ x.
          let f = ops_found answers code.ops code.end s o x.blocks (blocks_found answers x.blocks) x.is in
          (f.0, record { blocks = x.blocks; is = f.1 }, f.2),
      λ x.
          let r = ops_run answers code.ops code.end x.1.blocks (blocks_run answers x.1.blocks) s x.0 o x.1.is x.2 in
          record { blocks = r.0; is = r.1 },
    );
    one = one_stop code s;
  }
