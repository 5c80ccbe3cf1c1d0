-- A point and the turn behind it lead a run on; a run is its turns.
use Rattle.std.specs.Prelude.{ℕ, ◌≡◌, ◌≤◌, ◌<◌, ◌+◌, ◌^◌, true, false, List, [], ◌++◌, Option, None, Some, slice_get}
use Rattle.std.specs.Option.{option_map_or}
use Rattle.std.proofs.Common.{refl, sym, ap, subst, ◌∙◌, arith}
use Rattle.m3_base.specs.declared.outcomes.Entry.{Entry}
use Rattle.m3_base.specs.declared.outcomes.Outcome.{Outcome}
use Rattle.m3_base.specs.declared.outcomes.Outcome.TheVariants.{Spent}
use Rattle.m3_isa.specs.Instructions.{is_point}
use Rattle.m3_isa.specs.declared.instructions.Instr.{Instr}
use Rattle.m3_ports.specs.declared.sinks.Sink.{Ghosts as SinkGhosts}
use Rattle.m3_heap.specs.declared.store.Store.{Ghosts}
use Rattle.m3_threads.specs.Actions.{started}
use Rattle.m3_image_sections.specs.Parts.{Program}
use Rattle.m3_image_sections.specs.Ranges.{is_point_at}
use Rattle.m3_run_meaning.specs.declared.progress.Progress.{Progress as Answer}
use Rattle.m3_run_meaning.specs.declared.progress.Progress.TheVariants as answer
use Rattle.m3_run_meaning.specs.State.{State, running_thread, outside}
use Rattle.m3_run_meaning.specs.Points.{Chooses, StopsAtPoint, nobody, trapped, nobody_left, Says_spent, passed, first_entry, later_entries}
use Rattle.m3_run_meaning.specs.Runs.{Leads, turn_limit, At_point, Over, stays, moves, at_point, stops, spent, then_at, starting}
use Rattle.m3_run_loop.specs.Leading.{Track, LeadsTo, config}
use Rattle.m3_run_laws.specs.Standing.{AtPoint, AllAtPoints, BeginsAtPoints}
use Rattle.m3_run_laws.specs.Courses.{SoundTurn, SoundPoint, IsOther, EndsSoundly}
use Rattle.m3_run_laws.specs.Stores.{StaysLawful}
use Rattle.m3_run_laws.proofs.ThreadLists.{of_found}
use Rattle.m3_run_laws.proofs.Doing.{some-at}
use Rattle.m3_run_laws.proofs.Moving.{some-limit, leads_sound, chooses_sound, chosen-goes, goes_awake, collected-stays, starts_sound}
use Rattle.m3_run_state.specs.declared.parts.Parts.{Parts}
use Rattle.m3_run_state.specs.Seen.{state_of, program_of, IsGoing}
use Rattle.m3_machine.specs.declared.runs.Turn.{Turn}
use Rattle.m3_machine.specs.Turns.{IsCourse, Known, and_put, Reaches, Acts_next, Rested, Came_to}
use Rattle.m3_machine.specs.Faults.{StopsAtFault}
use Rattle.m3_machine.specs.RunCalls.{At_turn, ended_by, Turned, IsReady, Ran}
use Rattle.m3_machine.proofs.Bounds.{sound_at, bounded_point}
use Rattle.m3_machine.proofs.Settling.{point_acts}

-- the run has come past an entry
pub beyond : Track → Track
beyond k = record k { entries = later_entries k.entries }

-- ---- a point

-- before it no collection ended in trap 9
pub goes_there : {S L : Type 0} {g : Ghosts S} (p : Program) (start : State) (k : Track) (left : ℕ) (m : Parts S L g) → Known p start k m → At_turn p k left m → IsGoing m
goes_there p start k left m known h =
    let st : SoundPoint p k.allowed start (state_of m) = sound_at p start k (At_point (state_of m)) known.course h.leads in
    record { unstuck = h.unstuck; depth = st.depth ∙ sym known.depth }

point-of : (p : Program) (pc : ℕ) (i : Instr) → slice_get p.code pc ≡ Some i → is_point_at p.code pc ≡ true → is_point i.op ≡ true
point-of p pc i next at = sym (ap (λ (o : Option Instr). option_map_or (λ x. is_point x.op) o false) next) ∙ at

-- a turn begins
pub begins_turn : {S L : Type 0} {g : Ghosts S} (p : Program) (start : State) (k : Track) (m n : Parts S L g) (left others : ℕ) (turn : Turn) → IsCourse p start k → At_turn p k left m
    → Chooses p (first_entry k.entries) (state_of m) (state_of n) → n.made ≡ m.made → n.stuck ≡ m.stuck → 1 ≤ left → turn.done ≡ 0 → turn.points + others + 1 ≡ left → (1 ≤ turn.points → later_entries k.entries ≡ [])
    → Acts_next p start (beyond k) others n turn
unfolding beyond
begins_turn p start k m n left others turn known h chooses made unstuck some first parted free =
    let s = state_of m in
    let ready = chooses.ready in
    let chosen = chooses.chosen in
    let entry = first_entry k.entries in
    let st : SoundPoint p k.allowed start s = sound_at p start k (At_point s) known h.leads in
    let few : m.points < k.allowed = omega (arith, h.points, some) in
    let a = collected-stays p (passed s) entry.collect (Some ready) ready chooses.collected refl in
    let goes = goes_awake ready.all (outside p ready) chosen (chosen-goes ready.all (outside p ready) entry.to ready.running chosen chooses.choice) in
    let points = a.at_points st.at_points in
    let at : AtPoint p goes.0 = of_found (AtPoint p) chosen ready.all.threads goes.0 points.each goes.1 in
    let i = some-at (slice_get p.code goes.0.regs.pc) at in
    let point = point-of p goes.0.regs.pc i.0 i.1 at in
    let limit = some-limit p start goes.0.regs.pc i.0 i.1 in
    let sound = chooses_sound p k.allowed start s (state_of n) entry (omega (arith, known.small)) limit st few chooses in
    let more : (passed s).points ≡ m.points + 1 = omega (arith, few, known.small) in
    let one : n.points ≡ m.points + 1 = ap (λ (x : State). x.points) chooses.turns ∙ a.counts.points ∙ more in
    record {
      thread = goes.0;
      instruction = i.0;
      running = ap (λ (x : State). running_thread x) chooses.turns ∙ goes.1;
      stands = i.1;
      acts = point_acts i.0.op point;
      reaches = subst (λ (x : ℕ). Reaches p (beyond k) (state_of n) (x + 1)) (sym first) (record {
        last = config (At_point s) k.entries k.output;
        leads = h.leads;
        output = refl;
        carries = λ bytes place carried. at_point s (state_of n) (config (At_point s) k.entries k.output) bytes place refl few chooses carried;
      });
      sound = subst (λ (x : ℕ). SoundTurn p k.allowed start (state_of n) x) (sym first) sound;
      paced = record {
        points = omega (arith, one, h.points, parted);
        free = free;
        made = omega (arith, one, made, h.made);
        unstuck = unstuck ∙ h.unstuck;
      };
      made = λ e. omega (arith, one, made, h.made);
    }

stops-otherwise : (p : Program) (entry : Entry) (s u : State) (outcome : Outcome) → StopsAtPoint p entry s u outcome → IsOther outcome
stops-otherwise p entry s u outcome (nobody h) = tt
stops-otherwise p entry s u outcome (trapped v some c spoils) = tt
stops-otherwise p entry s u outcome (nobody_left ready some c none) = tt

-- the run stops at a point
pub stops_here : {S L : Type 0} {g : Ghosts S} (p : Program) (k : Track) (m n : Parts S L g) (left l : ℕ) (outcome : Outcome) → At_turn p k left m → 1 ≤ left → StopsAtPoint p (first_entry k.entries) (state_of m) (state_of n) outcome
    → Turned p k [] l n (Some outcome)
stops_here p k m n left l outcome h some stop =
    let few : m.points < k.allowed = omega (arith, h.points, some) in
    let d = config (At_point (state_of m)) k.entries k.output in
    (k.entries, moves k.from d (then_at d (Over (state_of n) outcome) []) h.leads (stops (state_of m) (state_of n) d outcome refl few stop), stops-otherwise p (first_entry k.entries) (state_of m) (state_of n) outcome stop)

-- or its turn was carried out
pub turned_on : {S L : Type 0} {g : Ghosts S} (p : Program) (k : Track) (others : ℕ) (n : Parts S L g) (turn : Turn) (bytes : List ℕ) (left : ℕ) → left ≡ turn.points + others → Rested p (and_put (beyond k) bytes) others n turn
    → Turned p k bytes left n None
unfolding beyond
turned_on p k others n turn bytes left e h = record { leads = h.leads; points = omega (arith, e, h.paced.points); made = h.paced.made; unstuck = h.paced.unstuck }

pub turned_over : {S L : Type 0} {g : Ghosts S} (p : Program) (k : Track) (n : Parts S L g) (outcome : Outcome) (bytes : List ℕ) (left : ℕ) → LeadsTo p (and_put (beyond k) bytes) (Over (state_of n) outcome) × IsOther outcome → Turned p k bytes left n (Some outcome)
unfolding beyond
turned_over p k n outcome bytes left h = (later_entries k.entries, h.0, h.1)

-- by what became of the turn
pub turned_by : {S L : Type 0} {g : Ghosts S} (p : Program) (k : Track) (others : ℕ) (n : Parts S L g) (turn : Turn) (bytes : List ℕ) (left : ℕ) (a : Answer) (ended : Option Outcome) → ended ≡ ended_by a → (a ≡ answer.Goes → ⊥)
    → left ≡ turn.points + others → Came_to p (and_put (beyond k) bytes) others n turn a → Turned p k bytes left n ended
turned_by p k others n turn bytes left answer.Goes ended e not is h = absurd (not refl)
turned_by p k others n turn bytes left answer.Rests ended e not is h = subst (λ (o : Option Outcome). Turned p k bytes left n o) (sym e) (turned_on p k others n turn bytes left is h)
turned_by p k others n turn bytes left (answer.Ends outcome) ended e not is h = subst (λ (o : Option Outcome). Turned p k bytes left n o) (sym e) (turned_over p k n outcome bytes left h)

pub known_beyond : {S L : Type 0} {g : Ghosts S} (p : Program) (start : State) (k : Track) (m : Parts S L g) → Known p start k m → Known p start (beyond k) m
unfolding beyond
known_beyond p start k m known = record {
  program = known.program;
  input = known.input;
  depth = known.depth;
  course = record { begins = known.course.begins; sound = known.course.sound; small = known.course.small; short = known.course.short; few = known.course.few };
}

-- a put of its turn failed
pub stops_beyond : {O : Type 0} (g : SinkGhosts O) (p : Program) (k : Track) (before after : O) → StopsAtFault g p (beyond k).input (beyond k).allowed (beyond k).from (beyond k).output before after
    → StopsAtFault g p k.input k.allowed k.from k.output before after
unfolding beyond
stops_beyond g p k before after h = h

-- ---- the run

-- a run from a state between two turns, that has come so far
abbrev pub followed : List ℕ → ℕ → State → List Entry → List Entry → List ℕ → Track
followed input allowed start schedule entries output =
    record { input = input; allowed = allowed; from = starting start schedule; entries = entries; output = output; base = start; thread = started 0 0 0 }

-- it may be followed
pub known_so : {S L : Type 0} {g : Ghosts S} (m n : Parts S L g) (schedule entries : List Entry) (points : ℕ) (output : List ℕ) → BeginsAtPoints (program_of m) → turn_limit (program_of m) (state_of m) ≤ 4611686018427387904 → IsReady m
    → (state_of m).points + points < 2 ^ 63 → program_of n ≡ program_of m → n.input.now ≡ m.input.now → n.stack ≡ m.stack
    → Known (program_of m) (state_of m) (followed m.input.now ((state_of m).points + points) (state_of m) schedule entries output) n
known_so m n schedule entries points output begins short ready small program input stack = record {
  program = program;
  input = input;
  depth = stack ∙ sym ready.going.depth;
  course = record {
    begins = begins;
    sound = starts_sound (program_of m) ((state_of m).points + points) (state_of m) ready.at_points (omega arith);
    small = small;
    short = short;
    few = ready.few;
  };
}

-- at its start
pub at_first : {S L : Type 0} {g : Ghosts S} (m : Parts S L g) (schedule : List Entry) (points : ℕ) → IsReady m → At_turn (program_of m) (followed m.input.now ((state_of m).points + points) (state_of m) schedule schedule []) points m
at_first m schedule points ready = record { leads = stays (config (At_point (state_of m)) schedule []); points = refl; made = ready.made; unstuck = ready.going.unstuck }

-- past a turn
pub at_next : {S L : Type 0} {g : Ghosts S} (p : Program) (input : List ℕ) (allowed : ℕ) (start : State) (schedule entries later : List Entry) (output bytes : List ℕ) (left : ℕ) (n : Parts S L g) → later ≡ later_entries entries
    → Turned p (followed input allowed start schedule entries output) bytes left n None → At_turn p (followed input allowed start schedule later (output ++ bytes)) left n
at_next p input allowed start schedule entries later output bytes left n e h =
    subst (λ (es : List Entry). At_turn p (followed input allowed start schedule es (output ++ bytes)) left n) (sym e) h

-- at its end
over-store : (p : Program) (allowed : ℕ) (from s : State) (outcome : Outcome) → EndsSoundly p allowed from s outcome → StaysLawful from.heap s.heap
over-store p allowed from s Spent st = st.store
over-store p allowed from s _ st = st.store

pub store_of : (p : Program) (input : List ℕ) (points : ℕ) (start : State) (schedule entries later : List Entry) (output bytes : List ℕ) (s : State) (outcome : Outcome) → IsCourse p start (followed input (start.points + points) start schedule entries output)
    → Leads p input (start.points + points) (starting start schedule) (config (Over s outcome) later bytes) → StaysLawful start.heap s.heap
store_of p input points start schedule entries later output bytes s outcome known leads =
    over-store p (start.points + points) start s outcome (leads_sound p input (start.points + points) start (starting start schedule) (config (Over s outcome) later bytes) (omega (arith, known.small)) known.begins known.sound leads)

pub ran_over : {S L : Type 0} {g : Ghosts S} (p : Program) (input : List ℕ) (points : ℕ) (start : State) (schedule entries : List Entry) (output bytes : List ℕ) (left : ℕ) (n : Parts S L g) (outcome : Outcome) → IsCourse p start (followed input (start.points + points) start schedule entries output)
    → Turned p (followed input (start.points + points) start schedule entries output) bytes left n (Some outcome) → Ran p input start schedule points (output ++ bytes) (state_of n) outcome
ran_over p input points start schedule entries output bytes left n outcome known h =
    record { later = h.0; leads = h.1; store = store_of p input points start schedule entries h.0 output (output ++ bytes) (state_of n) outcome known h.1 }

pub ran_out : {S L : Type 0} {g : Ghosts S} (p : Program) (input : List ℕ) (points : ℕ) (start : State) (schedule entries : List Entry) (output : List ℕ) (left : ℕ) (n : Parts S L g) (outcome : Outcome) → IsCourse p start (followed input (start.points + points) start schedule entries output)
    → left ≡ 0 → At_turn p (followed input (start.points + points) start schedule entries output) left n → Says_spent p (state_of n) outcome → Ran p input start schedule points (output ++ []) (state_of n) outcome
ran_out p input points start schedule entries output left n outcome known none h says =
    let d = config (At_point (state_of n)) entries output in
    let leads = moves (starting start schedule) d (then_at d (Over (state_of n) outcome) []) h.leads (spent (state_of n) d outcome refl (omega (arith, none, h.points)) says) in
    record { later = entries; leads = leads; store = store_of p input points start schedule entries entries output (output ++ []) (state_of n) outcome known leads }

-- a run whose points are used up may go on
pub ready_again : {S L : Type 0} {g : Ghosts S} (m n : Parts S L g) (schedule entries : List Entry) (points left : ℕ) (output : List ℕ)
    → Known (program_of m) (state_of m) (followed m.input.now ((state_of m).points + points) (state_of m) schedule entries output) n
    → At_turn (program_of m) (followed m.input.now ((state_of m).points + points) (state_of m) schedule entries output) left n → IsReady n
ready_again m n schedule entries points left output known h =
    let k = followed m.input.now ((state_of m).points + points) (state_of m) schedule entries output in
    let st = sound_at (program_of m) (state_of m) k (At_point (state_of n)) known.course h.leads in
    let b = bounded_point (program_of m) (state_of m) (state_of n) k known.course st in
    record {
      at_points = subst (λ (q : Program). AllAtPoints q (state_of n).all) (sym known.program) st.at_points;
      few = b.1;
      made = h.made;
      going = record { unstuck = h.unstuck; depth = st.depth ∙ sym known.depth };
    }
