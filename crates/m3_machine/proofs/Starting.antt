-- A machine that was just made stands at the start of its program.
use Rattle.std.specs.Prelude.{ℕ, ◌≡◌, ◌≤◌, true, false, List, Some, slice_get}
use Rattle.std.proofs.Common.{sym, ap, subst, ◌∙◌, arith}
use Rattle.m3_isa.specs.declared.instructions.Instr.{Instr}
use Rattle.m3_heap.specs.Heap.{Heap}
use Rattle.m3_heap.specs.declared.store.Store.{Ghosts}
use Rattle.m3_threads.specs.declared.status.Thread.{Thread}
use Rattle.m3_threads.specs.All.{Everyone}
use Rattle.m3_threads.specs.Actions.{at_start, started}
use Rattle.m3_image_sections.specs.Parts.{Program, Image}
use Rattle.m3_image_sections.specs.Ranges.{is_point_at}
use Rattle.m3_run_meaning.specs.State.{State, start, first_globals, running_thread}
use Rattle.m3_run_meaning.specs.Runs.{stands, Begins, begins}
use Rattle.m3_run_laws.specs.Standing.{AllAtPoints}
use Rattle.m3_run_laws.proofs.Doing.{some-at}
use Rattle.m3_run_state.specs.declared.parts.Parts.{Parts}
use Rattle.m3_run_state.specs.Seen.{state_of, program_of}
use Rattle.m3_machine.specs.RunCalls.{IsReady}

abbrev pub at_first : Everyone → List ℕ → Heap → ℕ → State
at_first all globals heap steps = record { all = all; globals = globals; heap = heap; running = 0; taken = 0; points = 0; instructions = 0; collections = 0; steps = steps }

pub first_is : (p : Program) (heap : Heap) (threads stack : ℕ) (all : Everyone) (globals : List ℕ) (steps : ℕ) → all ≡ at_start threads stack → globals ≡ first_globals p.globals.words → steps ≡ 0 → at_first all globals heap steps ≡ start p heap threads stack
first_is p heap threads stack all globals steps one two none =
    ap (λ (a : Everyone). at_first a globals heap steps) one ∙ ap (λ (g : List ℕ). at_first (at_start threads stack) g heap steps) two
    ∙ ap (λ (n : ℕ). at_first (at_start threads stack) (first_globals p.globals.words) heap n) none

-- once its thread stands at the first instruction
abbrev pub StandsAt : {S L : Type 0} {g : Ghosts S} → Program → State → Parts S L g → Type 0
StandsAt q s n = (t : Thread) (i : Instr) → running_thread s ≡ Some t → slice_get q.code t.regs.pc ≡ Some i → state_of n ≡ stands i s

stood : {S L : Type 0} {g : Ghosts S} (p q : Program) (s : State) (n : Parts S L g) (heap : Heap) (threads stack : ℕ) → q ≡ p → s ≡ start p heap threads stack → StandsAt q s n → (i : Instr) → slice_get p.code 0 ≡ Some i
    → state_of n ≡ stands i (start p heap threads stack)
stood p q s n heap threads stack program is there i next =
    let t = started 0 0 0 in
    let running : running_thread s ≡ Some t = ap (λ (x : State). running_thread x) is in
    there t i running (subst (λ (r : Program). slice_get r.code 0 ≡ Some i) (sym program) next) ∙ ap (λ (x : State). stands i x) is

pub begins_there : {S L : Type 0} {g : Ghosts S} (p q : Program) (s : State) (n : Parts S L g) (heap : Heap) (threads stack : ℕ) → q ≡ p → s ≡ start p heap threads stack → StandsAt q s n → is_point_at p.code 0 ≡ true
    → Begins p heap threads stack (state_of n)
begins_there p q s n heap threads stack program is there point =
    let i = some-at (slice_get p.code 0) point in
    subst (λ (s : State). Begins p heap threads stack s) (sym (stood p q s n heap threads stack program is there i.0 i.1)) (begins i.0 i.1)

all-first : (p : Program) (heap : Heap) (threads stack : ℕ) (i : Instr) → 1 ≤ threads → is_point_at p.code 0 ≡ true → AllAtPoints p (stands i (start p heap threads stack)).all
all-first p heap threads stack i some point = record { each = (point, tt); few = some }

pub ready_there : {S L : Type 0} {g : Ghosts S} (p q : Program) (s : State) (n : Parts S L g) (heap : Heap) (threads stack : ℕ) → q ≡ p → program_of n ≡ p → s ≡ start p heap threads stack → n.made ≡ 0 → n.stuck ≡ false → n.stack ≡ stack → StandsAt q s n
    → 1 ≤ threads → is_point_at p.code 0 ≡ true → IsReady n
ready_there p q s n heap threads stack program same is none unstuck deep there some point =
    let i = some-at (slice_get p.code 0) point in
    let last = stood p q s n heap threads stack program is there i.0 i.1 in
    let points : (state_of n).points ≡ 0 = ap (λ (s : State). s.points) last in
    let instructions : (state_of n).instructions ≡ 0 = ap (λ (s : State). s.instructions) last in
    record {
      at_points = subst (λ (q : Program). AllAtPoints q (state_of n).all) (sym same) (subst (λ (s : State). AllAtPoints p s.all) (sym last) (all-first p heap threads stack i.0 some point));
      few = omega (arith, points, instructions);
      made = omega (arith, points, none);
      going = record { unstuck = unstuck; depth = ap (λ (s : State). s.all.stack) last ∙ sym deep };
    }

with_constants : Program → List ℕ → Program
with_constants p cs = record p { constants = cs }

-- its program is that of its image
pub program_is : (i k : Image) (constants : List ℕ) → i ≡ k → constants ≡ k.program.constants → record i.program { constants = constants } ≡ k.program
unfolding with_constants
program_is i k constants e loaded = ap (λ (x : Image). with_constants x.program constants) e ∙ ap (λ (cs : List ℕ). with_constants k.program cs) loaded
