-- A stride of the machine leads a run on: from where its turn stands, and to where it stands then.
use Rattle.std.specs.Prelude.{ℕ, ◌≡◌, ◌≤◌, ◌<◌, ◌+◌, ◌-◌, ◌*◌, ◌^◌, false, List, length, None, Some, slice_get}
use Rattle.std.proofs.Common.{refl, sym, ap, subst, ◌∙◌, arith}
use Rattle.std.proofs.lemmas.Option.{slice_get_past}
use Rattle.m3_base.specs.declared.outcomes.Outcome.TheVariants.{Trap}
use Rattle.m3_isa.specs.Effects.{at_hand}
use Rattle.m3_isa.specs.Instructions.{is_plain}
use Rattle.m3_isa.specs.declared.instructions.Instr.{Instr}
use Rattle.m3_isa.specs.declared.registers.Regs.{Regs}
use Rattle.m3_heap.specs.declared.store.Store.{Ghosts}
use Rattle.m3_threads.specs.declared.status.Thread.{Thread}
use Rattle.m3_threads.specs.declared.status.Status.TheVariants.{Ready}
use Rattle.m3_threads.specs.All.{Everyone}
use Rattle.m3_image_sections.specs.Parts.{Program}
use Rattle.m3_run_memory.specs.declared.memory.Memory.{Memory}
use Rattle.m3_run_meaning.specs.declared.near.Stack.{Stack}
use Rattle.m3_run_meaning.specs.declared.near.Place.{Place as At}
use Rattle.m3_run_loop.specs.declared.halts.Halt.{Halt}
use Rattle.m3_run_loop.specs.declared.halts.Halt.TheVariants.{Used, Left, Other, Trapped}
use Rattle.m3_run_meaning.specs.State.{State, running_thread, regs_set, with_regs, seen}
use Rattle.m3_run_meaning.specs.Calls.{stack_of, place_of}
use Rattle.m3_run_meaning.specs.Runs.{Over, turn_limit}
use Rattle.m3_run_loop.specs.Leading.{Track, LeadsTo, Went, further, program_in, seen_in, Stands_in, Halts_in}
use Rattle.m3_run_loop.proofs.Leading.{same_threads}
use Rattle.m3_run_loop.proofs.PlainSteps.{found-again}
use Rattle.m3_run_laws.proofs.Moving.{same-limit}
use Rattle.m3_image_decoded.specs.Ready.{image_of}
use Rattle.m3_run_state.specs.declared.parts.Parts.{Parts}
use Rattle.m3_run_state.specs.Seen.{state_of, program_of}
use Rattle.m3_machine.specs.declared.runs.Turn.{Turn}
use Rattle.m3_machine.specs.Turns.{IsCourse, Paced, Between, Halts, Halted}
use Rattle.m3_machine.proofs.Bounds.{Bounded, bounded_end, bounded_went}

-- the run is followed from this state of the machine
pub track : {S L : Type 0} {g : Ghosts S} → Track → Parts S L g → Thread → Track
track k m t = record k { base = state_of m; thread = t }

all_with : Everyone → List Thread → Everyone
all_with all threads = record all { threads = threads }

seen-itself : (s : State) (t : Thread) → running_thread s ≡ Some t → seen s t.regs s.all s.globals s.heap ≡ s
unfolding all_with
seen-itself s t found = ap (λ (ts : List Thread). record s { all = all_with s.all ts }) (same_threads (regs_set t.regs) s.running s.all.threads t refl found)

left-over : (limit done : ℕ) → done < limit → limit - (limit - done) ≡ done
left-over limit done more = omega (arith, more)

-- where the turn stands before the stride
pub far_from : {S L : Type 0} {g : Ghosts S} (k : Track) (others : ℕ) (m : Parts S L g) (turn : Turn) (limit points : ℕ) (stack : Stack) (r : List ℕ) (at : At) (h : Between (program_of m) k others m turn)
    → k.allowed < 2 ^ 63 → limit ≡ turn_limit (program_of m) (state_of m) → turn.done < limit → stack ≡ stack_of m.memory.threads h.thread → at_hand r at.pc at.fp ≡ h.thread.regs
    → points ≤ turn.points → (1 ≤ points → h.thread.status ≡ Ready)
    → Stands_in (image_of m.image).program (track k m h.thread) stack limit (limit - turn.done) points r at m.memory
unfolding track
far_from {g = g} k others m turn limit points stack r at h small limited more placed regs few ready =
    let s = state_of m in
    let p = program_of m in
    let one = subst (λ (x : State). Went p k x turn.done) (sym (seen-itself s h.thread h.running)) h.went in
    let two = subst (λ (x : Regs). Went p k (seen s x s.all s.globals s.heap) turn.done) (sym regs) one in
    record {
      running = h.running;
      ready = ready;
      place = sym placed;
      turn = sym limited;
      within = omega (arith, more);
      few = omega (arith, few, h.paced.points);
      small = omega (arith, small);
      free = λ some. h.paced.free (omega (arith, some, few));
      went = subst (λ (n : ℕ). Went p k (seen s (at_hand r at.pc at.fp) s.all s.globals s.heap) n) (sym (left-over limit turn.done more)) two;
    }

with_constants : Program → List ℕ → Program
with_constants p cs = record p { constants = cs }

pub same_program : {S L : Type 0} {g : Ghosts S} (m : Parts S L g) (memory : Memory S g) → memory.outside.constants.items ≡ m.memory.outside.constants.items → program_in (image_of m.image).program memory ≡ program_of m
unfolding with_constants
same_program m memory e = ap (λ (cs : List ℕ). with_constants (image_of m.image).program cs) e

-- what the machine has after the stride, by its parts
pub after : {S L : Type 0} {g : Ghosts S} → Parts S L g → ℕ → ℕ → List ℕ → At → Memory S g → State
after m d count r at memory =
    seen_in (record (state_of m) { points = m.points + d; instructions = m.instructions + count }) r at memory

-- no count exceeds its range
bounded-at : {S L : Type 0} {g : Ghosts S} (start : State) (k : Track) (m : Parts S L g) (t : Thread) (d count limit left points : ℕ) (stack : Stack) (r : List ℕ) (at : At) (memory : Memory S g) (halt : Halt)
    → memory.outside.constants.items ≡ m.memory.outside.constants.items → IsCourse (program_of m) start k
    → Halts_in (image_of m.image).program (further (track k m t) d count) stack limit left points r at memory halt → Bounded k (after m d count r at memory)
unfolding track after
bounded-at start k m t d count limit left points stack r at memory (Trapped n) same known h =
    bounded_end (program_of m) start (after m d count r at memory) k (Trap n) known
    (subst (λ (p : Program). LeadsTo p k (Over (after m d count r at memory) (Trap n))) (same_program m memory same) h)
bounded-at start k m t d count limit left points stack r at memory Used same known h =
    bounded_went (program_of m) start (after m d count r at memory) k (regs_set (at_hand r at.pc at.fp) t) (limit - left) known (found-again (at_hand r at.pc at.fp) m.running memory.threads.threads t h.running)
    (subst (λ (p : Program). Went p k (after m d count r at memory) (limit - left)) (same_program m memory same) h.went)
bounded-at start k m t d count limit left points stack r at memory Left same known h =
    bounded_went (program_of m) start (after m d count r at memory) k (regs_set (at_hand r at.pc at.fp) t) (limit - left) known (found-again (at_hand r at.pc at.fp) m.running memory.threads.threads t h.running)
    (subst (λ (p : Program). Went p k (after m d count r at memory) (limit - left)) (same_program m memory same) h.went)
bounded-at start k m t d count limit left points stack r at memory Other same known h =
    bounded_went (program_of m) start (after m d count r at memory) k (regs_set (at_hand r at.pc at.fp) t) (limit - left) known (found-again (at_hand r at.pc at.fp) m.running memory.threads.threads t h.running)
    (subst (λ (p : Program). Went p k (after m d count r at memory) (limit - left)) (same_program m memory same) h.went)

pub far_bounded : {S L : Type 0} {g : Ghosts S} (start : State) (k : Track) (m : Parts S L g) (t : Thread) (d count limit left points : ℕ) (stack : Stack) (r : List ℕ) (at : At) (memory : Memory S g) (halt : Halt)
    → memory.outside.constants.items ≡ m.memory.outside.constants.items → IsCourse (program_of m) start k
    → Halts_in (image_of m.image).program (further (track k m t) d count) stack limit left points r at memory halt
    → ((after m d count r at memory).points ≤ k.allowed) × ((after m d count r at memory).instructions ≤ (after m d count r at memory).points * 4611686018427387904)
far_bounded start k m t d count limit left points stack r at memory halt same known h = bounded-at start k m t d count limit left points stack r at memory halt same known h

-- the next instruction isn't plain, where there is one in this turn
abbrev pub NextIs : Program → ℕ → Turn → State → Type 0
NextIs p pc turn s = (i : Instr) → slice_get p.code pc ≡ Some i → turn.done < turn_limit p s → is_plain i.op ≡ false

halts-at : {S L : Type 0} {g : Ghosts S} (k : Track) (others : ℕ) (m n : Parts S L g) (turn : Turn) (t : Thread) (d count limit left : ℕ) (r : List ℕ) (at : At) (memory : Memory S g)
    → memory.outside.constants.items ≡ m.memory.outside.constants.items → state_of n ≡ after m d count r at memory → turn.done ≡ limit - left → Paced k others n turn
    → NextIs (program_of m) at.pc turn (state_of n) → running_thread (after m d count r at memory) ≡ Some (regs_set (at_hand r at.pc at.fp) t)
    → Went (program_in (image_of m.image).program memory) k (after m d count r at memory) (limit - left) → Halts (program_of m) k others n turn
halts-at k others m n turn t d count limit left r at memory same is done paced next found went =
    let p = program_of m in
    let one = subst (λ (q : Program). Went q k (after m d count r at memory) (limit - left)) (same_program m memory same) went in
    let two = subst (λ (s : State). Went p k s (limit - left)) (sym is) one in
    record {
      between = record {
        thread = regs_set (at_hand r at.pc at.fp) t;
        running = subst (λ (s : State). running_thread s ≡ Some (regs_set (at_hand r at.pc at.fp) t)) (sym is) found;
        went = subst (λ (x : ℕ). Went p k (state_of n) x) (sym done) two;
        paced = paced;
      };
      next = next;
    }

-- where the turn stands after it, or how the run ended
pub far_to : {S L : Type 0} {g : Ghosts S} (k : Track) (others : ℕ) (m n : Parts S L g) (turn : Turn) (t : Thread) (d count limit left points : ℕ) (stack : Stack) (r : List ℕ) (at : At) (memory : Memory S g) (halt : Halt)
    → memory.outside.constants.items ≡ m.memory.outside.constants.items → state_of n ≡ after m d count r at memory → turn.done ≡ limit - left → Paced k others n turn → (halt ≡ Used → ⊥)
    → (halt ≡ Left → NextIs (program_of m) at.pc turn (state_of n)) → (halt ≡ Other → NextIs (program_of m) at.pc turn (state_of n))
    → Halts_in (image_of m.image).program (further (track k m t) d count) stack limit left points r at memory halt → Halted (program_of m) k others n turn halt
unfolding track after
far_to k others m n turn t d count limit left points stack r at memory (Trapped x) same is done paced never gone next h =
    let one = subst (λ (p : Program). LeadsTo p k (Over (after m d count r at memory) (Trap x))) (same_program m memory same) h in
    subst (λ (s : State). LeadsTo (program_of m) k (Over s (Trap x))) (sym is) one
far_to k others m n turn t d count limit left points stack r at memory Used same is done paced never gone next h = absurd (never refl)
far_to k others m n turn t d count limit left points stack r at memory Left same is done paced never gone next h =
    halts-at k others m n turn t d count limit left r at memory same is done paced (gone refl) (found-again (at_hand r at.pc at.fp) m.running memory.threads.threads t h.running) h.went
far_to k others m n turn t d count limit left points stack r at memory Other same is done paced never gone next h =
    halts-at k others m n turn t d count limit left r at memory same is done paced (next refl) (found-again (at_hand r at.pc at.fp) m.running memory.threads.threads t h.running) h.went

-- ---- by other names

pub at_regs : (regs : Regs) (at : At) (t : Thread) → at ≡ place_of regs → regs ≡ t.regs → at_hand regs.r at.pc at.fp ≡ t.regs
at_regs regs at t placed same = ap (λ (a : At). at_hand regs.r a.pc a.fp) placed ∙ same

abbrev pub with_counts : State → ℕ → ℕ → State
with_counts s points instructions = record s { points = points; instructions = instructions }

-- the words, threads and heap of a memory beside what a machine has
abbrev pub over_memory : {S L : Type 0} {g : Ghosts S} → Parts S L g → Memory S g → State
over_memory {g = g} m memory = record (state_of m) { all = memory.threads; globals = memory.outside.globals.items; heap = g.heap memory.outside.heap.store }

pub after_is : {S L : Type 0} {g : Ghosts S} (m : Parts S L g) (memory : Memory S g) (r : List ℕ) (at : At) (d count points instructions : ℕ) (s : State) → s ≡ with_regs (over_memory m memory) (at_hand r at.pc at.fp)
    → points ≡ m.points + d → instructions ≡ m.instructions + count → with_counts s points instructions ≡ after m d count r at memory
unfolding after
after_is m memory r at d count points instructions s is one two =
    ap (λ (x : State). with_counts x points instructions) is
    ∙ ap (λ (n : ℕ). with_counts (with_regs (over_memory m memory) (at_hand r at.pc at.fp)) n instructions) one
    ∙ ap (λ (n : ℕ). with_counts (with_regs (over_memory m memory) (at_hand r at.pc at.fp)) (m.points + d) n) two

pub after_points : {S L : Type 0} {g : Ghosts S} (k : Track) (m : Parts S L g) (memory : Memory S g) (r : List ℕ) (at : At) (d count : ℕ)
    → ((after m d count r at memory).points ≤ k.allowed) × ((after m d count r at memory).instructions ≤ (after m d count r at memory).points * 4611686018427387904)
    → (m.points + d ≤ k.allowed) × (m.instructions + count ≤ (m.points + d) * 4611686018427387904)
unfolding after
after_points k m memory r at d count h = h

pub after_depth : {S L : Type 0} {g : Ghosts S} (p : Program) (m : Parts S L g) (memory : Memory S g) (r : List ℕ) (at : At) (d count : ℕ) (s : State) → s ≡ after m d count r at memory → memory.threads.stack ≡ m.memory.threads.stack
    → turn_limit p s ≡ turn_limit p (state_of m)
unfolding after
after_depth p m memory r at d count s is depth = same-limit p s (state_of m) (ap (λ (x : State). x.all.stack) is ∙ depth)

none-some : (i : Instr) → None ≡ Some i → ⊥
none-some i e = cc

pub past_code : (code : List Instr) (n : ℕ) (i : Instr) → length code ≤ n → slice_get code n ≡ Some i → ⊥
past_code code n i past e = none-some i (sym (slice_get_past code n past) ∙ e)

-- a turn that wasn't ended by a trap
pub stopped_before : {S L : Type 0} {g : Ghosts S} (p : Program) (k : Track) (others : ℕ) (m : Parts S L g) (turn : Turn) (halt : Halt) → ((n : ℕ) → halt ≡ Trapped n → ⊥) → Halted p k others m turn halt → Halts p k others m turn
stopped_before p k others m turn (Trapped n) not h = absurd (not n refl)
stopped_before p k others m turn Used not h = h
stopped_before p k others m turn Left not h = h
stopped_before p k others m turn Other not h = h

pub halted_by : {S L : Type 0} {g : Ghosts S} (k : Track) (others : ℕ) (m : Parts S L g) (turn : Turn) (halt : Halt) (p q : Program) → p ≡ q → Halted p k others m turn halt → Halted q k others m turn halt
halted_by k others m turn halt p q e h = subst (λ (r : Program). Halted r k others m turn halt) e h
