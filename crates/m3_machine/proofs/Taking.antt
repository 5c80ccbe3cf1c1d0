-- An instruction that isn't plain leads a run on, and what it puts comes to its output.
use Rattle.std.specs.Prelude.{ℕ, ◌≡◌, ◌≤◌, ◌<◌, ◌+◌, ◌-◌, ◌^◌, true, false, List, [], ◌++◌, Option, None, Some}
use Rattle.std.proofs.Common.{refl, sym, ap, subst, ◌∙◌, arith, append_assoc, ⊎_elim}
use Rattle.std.proofs.lemmas.Bool.{cases_Bool}
use Rattle.std.proofs.lemmas.List.{append-nil}
use Rattle.m3_isa.specs.Instructions.{is_point}
use Rattle.m3_heap.specs.declared.store.Store.{Ghosts}
use Rattle.m3_threads.specs.declared.status.Thread.{Thread}
use Rattle.m3_threads.specs.All.{thread_named}
use Rattle.m3_threads.specs.Going.{IsAwake}
use Rattle.m3_image_sections.specs.Parts.{Program}
use Rattle.m3_run_meaning.specs.declared.progress.Progress.{Progress as Answer}
use Rattle.m3_run_meaning.specs.declared.progress.Progress.TheVariants as answer
use Rattle.m3_run_meaning.specs.State.{State, executed}
use Rattle.m3_run_meaning.specs.Progress.{Goes, Rests, Ends, became}
use Rattle.m3_run_meaning.specs.Steps.{Does}
use Rattle.m3_run_meaning.specs.Runs.{At_point, Over, moves, rests, run_ends}
use Rattle.m3_run_loop.specs.Leading.{Track, Went, Enters, config}
use Rattle.m3_run_loop.proofs.Leading.{leads_over}
use Rattle.m3_run_laws.proofs.Stays.{KeepsTurn, EndsTurn}
use Rattle.m3_run_laws.proofs.Doing.{does_keep}
use Rattle.m3_run_state.specs.declared.parts.Parts.{Parts}
use Rattle.m3_run_state.specs.Seen.{state_of, program_of, goes_on, Took}
use Rattle.m3_machine.specs.declared.runs.Turn.{Turn}
use Rattle.m3_machine.specs.Deeds.{MayAct}
use Rattle.m3_machine.specs.Turns.{IsCourse, Known, and_put, Paced, Reaches, Acts_next, Comes_to, Came_to}
use Rattle.m3_machine.proofs.Bounds.{bounded_turn}

-- ---- what is known stays

pub known_still : {S L : Type 0} {g : Ghosts S} (p : Program) (start : State) (k : Track) (m n : Parts S L g) → program_of n ≡ program_of m → n.input.now ≡ m.input.now → n.stack ≡ m.stack → Known p start k m → Known p start k n
known_still p start k m n program input stack known = record { program = program ∙ known.program; input = input ∙ known.input; depth = stack ∙ known.depth; course = known.course }

pub known_put : {S L : Type 0} {g : Ghosts S} (p : Program) (start : State) (k : Track) (m : Parts S L g) (bytes : List ℕ) → Known p start k m → Known p start (and_put k bytes) m
known_put p start k m bytes known = record {
  program = known.program;
  input = known.input;
  depth = known.depth;
  course = record { begins = known.course.begins; sound = known.course.sound; small = known.course.small; short = known.course.short; few = known.course.few };
}

-- ---- the instruction may be carried out

same_thread : (o : Option Thread) (t u : Thread) → o ≡ Some t → o ≡ Some u → t ≡ u
same_thread o t u e f = cc

pub may_act : {S L : Type 0} {g : Ghosts S} (p : Program) (start : State) (k : Track) (others : ℕ) (m : Parts S L g) (turn : Turn) → Known p start k m → (h : Acts_next p start k others m turn) → MayAct m h.thread h.instruction
may_act p start k others m turn known h =
    let has = h.sound.turn.running in
    let same = same_thread _ has.0 h.thread has.1 h.running in
    let within = h.sound.within in
    record {
      running = h.running;
      awake = subst (λ (t : Thread). IsAwake t) same has.2;
      acts = h.acts;
      few = omega (arith, h.paced.made, within, known.course.small);
      spare = λ point. let more = h.made point in omega (arith, more, within, known.course.small);
      going = record { unstuck = h.paced.unstuck; depth = h.sound.depth ∙ sym known.depth };
    }

pub few_executed : {S L : Type 0} {g : Ghosts S} (p : Program) (start : State) (k : Track) (others : ℕ) (m : Parts S L g) (turn : Turn) → IsCourse p start k → (h : Acts_next p start k others m turn) → m.instructions < 2 ^ 128 - 1
few_executed p start k others m turn known h =
    let b = bounded_turn p start (state_of m) k turn.done known h.sound in
    omega (arith, b.0, b.1, known.small)

-- ---- it leads on

enters_so : (p : Program) (k : Track) (s : State) (n : ℕ) → Reaches p k s n → Enters p k s n
enters_so p k s n r = λ bytes place carried. moves k.from r.last (config place k.entries (k.output ++ bytes)) r.leads (r.carries bytes place carried)

paced-after : {S L : Type 0} {g : Ghosts S} (p : Program) (start : State) (k : Track) (others : ℕ) (m n : Parts S L g) (turn new : Turn) (bytes : List ℕ) (h : Acts_next p start k others m turn) → n.points ≡ m.points
    → n.made ≤ m.made + 1 → (is_point h.instruction.op ≡ false → n.made ≡ m.made) → new.points ≡ turn.points → n.stuck ≡ m.stuck → Paced (and_put k bytes) others n new
paced-after p start k others m n turn new bytes h points one same still unstuck =
    let made : n.made ≤ n.points = ⊎_elim
    (λ (point : is_point h.instruction.op ≡ true). let more = h.made point in omega (arith, more, one, points))
    (λ (plain : is_point h.instruction.op ≡ false). let e = same plain in omega (arith, e, points, h.paced.made))
    (cases_Bool (is_point h.instruction.op)) in
    record {
      points = omega (arith, points, still, h.paced.points);
      free = λ some. h.paced.free (omega (arith, some, still));
      made = made;
      unstuck = unstuck ∙ h.paced.unstuck;
    }

pub acted : {S L : Type 0} {g : Ghosts S} (p : Program) (start : State) (k : Track) (others : ℕ) (m n : Parts S L g) (turn new : Turn) (bytes : List ℕ) (a : Answer) → IsCourse p start k → (h : Acts_next p start k others m turn)
    → Does p k.input h.thread h.instruction (executed (state_of m)) bytes (became a (state_of n)) → n.made ≤ m.made + 1 → (is_point h.instruction.op ≡ false → n.made ≡ m.made)
    → (goes_on a ≡ true → n.stuck ≡ m.stuck) → new.done ≡ turn.done + 1 → new.points ≡ turn.points → Came_to p (and_put k bytes) others n new a
acted p start k others m n turn new bytes answer.Goes known h does one same unstuck next still =
    let u = state_of n in
    let keeps : KeepsTurn p (executed (state_of m)) u = does_keep p k.input h.thread h.instruction (executed (state_of m)) bytes (Goes u) known.begins h.sound.turn h.running h.stands does in
    let has = keeps.turn.running in
    let went : Went p (and_put k bytes) u (turn.done + 1) = λ place settles. leads_over p k bytes (state_of m) h.thread h.instruction (turn.done + 1) (Goes u) (enters_so p k (state_of m) (turn.done + 1) h.reaches) h.running h.stands does place settles in
    record {
      thread = has.0;
      running = ap (λ (x : ℕ). thread_named n.memory.threads x) keeps.running ∙ has.1;
      went = subst (λ (x : ℕ). Went p (and_put k bytes) u x) (sym next) went;
      paced = paced-after p start k others m n turn new bytes h keeps.counts.points one same still (unstuck refl);
    }
acted p start k others m n turn new bytes answer.Rests known h does one same unstuck next still =
    let u = state_of n in
    let keeps : EndsTurn p (executed (state_of m)) u = does_keep p k.input h.thread h.instruction (executed (state_of m)) bytes (Rests u) known.begins h.sound.turn h.running h.stands does in
    record {
      leads = leads_over p k bytes (state_of m) h.thread h.instruction (turn.done + 1) (Rests u) (enters_so p k (state_of m) (turn.done + 1) h.reaches) h.running h.stands does (At_point u) (rests u);
      paced = paced-after p start k others m n turn new bytes h keeps.counts.points one same still (unstuck refl);
    }
acted p start k others m n turn new bytes (answer.Ends outcome) known h does one same unstuck next still =
    let u = state_of n in
    let keeps = does_keep p k.input h.thread h.instruction (executed (state_of m)) bytes (Ends u outcome) known.begins h.sound.turn h.running h.stands does in
    (leads_over p k bytes (state_of m) h.thread h.instruction (turn.done + 1) (Ends u outcome) (enters_so p k (state_of m) (turn.done + 1) h.reaches) h.running h.stands does (Over u outcome) (run_ends u outcome), keeps.1)

-- ---- output

pub took_nothing : (o : Option (List ℕ)) → Took o o []
took_nothing None = tt
took_nothing (Some taken) = ap (λ (xs : List ℕ). Some xs) (sym (append-nil taken))

pub took_more : (a b c : Option (List ℕ)) (x y : List ℕ) → Took a b x → Took b c y → Took a c (x ++ y)
took_more None b c x y h k = tt
took_more (Some taken) b c x y h k =
    let one : Took (Some (taken ++ x)) c y = subst (λ (o : Option (List ℕ)). Took o c y) h k in
    one ∙ ap (λ (xs : List ℕ). Some xs) (append_assoc taken x y)

with_output : Track → List ℕ → Track
with_output k output = record k { output = output }

pub came_more : {S L : Type 0} {g : Ghosts S} (p : Program) (k : Track) (others : ℕ) (m : Parts S L g) (turn : Turn) (a : Answer) (x y : List ℕ) → Came_to p (and_put (and_put k x) y) others m turn a → Came_to p (and_put k (x ++ y)) others m turn a
unfolding with_output
came_more p k others m turn a x y h = subst (λ (o : List ℕ). Came_to p (with_output k o) others m turn a) (append_assoc k.output x y) h

-- what comes next, where it is no instruction, is what became of the turn
pub came_so : {S L : Type 0} {g : Ghosts S} (p : Program) (start : State) (k : Track) (others : ℕ) (m : Parts S L g) (turn : Turn) (a : Answer) → (a ≡ answer.Goes → ⊥) → Comes_to p start k others m turn a → Came_to p k others m turn a
came_so p start k others m turn answer.Goes not h = absurd (not refl)
came_so p start k others m turn answer.Rests not h = h
came_so p start k others m turn (answer.Ends outcome) not h = h
