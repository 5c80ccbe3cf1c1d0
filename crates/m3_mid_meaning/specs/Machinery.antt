-- Machinery of runs and stops: what comes of at most so many blocks. What it means is said by Runs,
-- and step by step by the laws IsStepwise and IsChain.
use Rattle.std.specs.Prelude.{ℕ, zero, suc, List, [], ◌∷◌, Option, Some, None, slice_get}
use Rattle.std.specs.Option.{option_map}
use Rattle.m3_mid.specs.declared.procs.Proc.{Proc}
use Rattle.m3_mid.specs.declared.procs.Block.{Block}
use Rattle.m3_mid.specs.declared.procs.End.{End}
use Rattle.m3_mid.specs.declared.ops.MidOp.{MidOp}
use Rattle.m3_mid_meaning.specs.Memory.{Around}
use Rattle.m3_mid_meaning.specs.States.{State, Ending, Waiting, Undefined, Next, Goes, Ends}
use Rattle.m3_mid_meaning.specs.Points.{Event, Answer, Effect, Plain, Acts, Outcome}
use Rattle.m3_mid_meaning.specs.Meaning.{effect_of, Exit, To, Over, exit_of}
use Rattle.m3_mid_meaning.specs.Stops.{Stop, AtPoint, AtEnd}

-- none: the run isn't over yet
abbrev pub Progress : Type 0
Progress = Option Outcome

abbrev pub over : Ending → Progress
over ending = Some (record { events = []; ending = ending })

abbrev pub behind : Event → Progress → Progress
behind event r = option_map (λ o. record { events = event ∷ o.events; ending = o.ending }) r

-- what follows in a state, with the answers that are left
abbrev pub Following : Type 0
Following = State → List Answer → Progress

abbrev pub go_on : Next → List Answer → Following → Progress
go_on (Goes s) answers go = go s answers
go_on (Ends ending) answers go = over ending

-- a point takes an answer, and where none is left the run waits there
abbrev pub carry_out : Effect → List Answer → Following → Progress
carry_out (Plain next) answers go = go_on next answers go
carry_out (Acts event reply) [] go = behind event (over Waiting)
carry_out (Acts event reply) (answer ∷ answers) go = behind event (go_on (reply answer) answers go)

abbrev pub leave : Exit → (ℕ → Progress) → Progress
leave (To block) go = go block
leave (Over ending) go = over ending

abbrev pub run_ops : Proc → Around → List MidOp → End → State → List Answer → (ℕ → Following) → Progress
run_ops p around [] end s answers go =
    leave (exit_of s end) (λ b. go b s answers)
run_ops p around (op ∷ ops) end s answers go =
    let effect = effect_of p.slots.now around s op in
    carry_out effect answers (λ after rest. run_ops p around ops end after rest go)

abbrev pub run_block : Proc → Around → Option Block → State → List Answer → (ℕ → Following) → Progress
run_block p around None s answers go = over Undefined
run_block p around (Some block) s answers go = run_ops p around block.ops.now block.end s answers go

abbrev pub run_blocks : ℕ → Proc → Around → ℕ → State → List Answer → Progress
run_blocks zero p around b s answers = None
run_blocks (suc n) p around b s answers =
    run_block p around (slice_get p.blocks.now b) s answers (run_blocks n p around)

-- ---- the next stop

-- none: it isn't reached yet
abbrev pub Finding : Type 0
Finding = Option Stop

abbrev pub find_next : Next → (State → Finding) → Finding
find_next (Goes s) go = go s
find_next (Ends ending) go = Some (AtEnd ending)

abbrev pub find_behind : Effect → List MidOp → End → (State → Finding) → Finding
find_behind (Plain next) ops end go = find_next next go
find_behind (Acts event reply) ops end go =
    Some (AtPoint event reply (record { ops = ops; end = end }))

abbrev pub find_at : Exit → (ℕ → Finding) → Finding
find_at (To block) go = go block
find_at (Over ending) go = Some (AtEnd ending)

abbrev pub find_ops : Proc → Around → List MidOp → End → State → (ℕ → State → Finding) → Finding
find_ops p around [] end s go = find_at (exit_of s end) (λ b. go b s)
find_ops p around (op ∷ ops) end s go =
    let effect = effect_of p.slots.now around s op in
    find_behind effect ops end (λ after. find_ops p around ops end after go)

abbrev pub find_block : Proc → Around → Option Block → State → (ℕ → State → Finding) → Finding
find_block p around None s go = Some (AtEnd Undefined)
find_block p around (Some block) s go = find_ops p around block.ops.now block.end s go

abbrev pub find_blocks : ℕ → Proc → Around → ℕ → State → Finding
find_blocks zero p around b s = None
find_blocks (suc n) p around b s =
    find_block p around (slice_get p.blocks.now b) s (find_blocks n p around)
