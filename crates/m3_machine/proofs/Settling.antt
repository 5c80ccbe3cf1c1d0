-- What follows an instruction of a turn.
use Rattle.std.specs.Prelude.{ℕ, ◌≡◌, ◌≤◌, ◌<◌, ◌+◌, ◌-◌, ◌^◌, min, true, false, List, [], ◌++◌, Option, None, Some, slice_get}
use Rattle.std.proofs.Common.{refl, sym, ap, subst, ◌∙◌, arith}
use Rattle.std.proofs.lemmas.Bool.{false≢true}
use Rattle.m3_base.specs.declared.outcomes.Outcome.TheVariants.{Trap}
use Rattle.m3_isa.specs.Instructions.{is_plain, is_point}
use Rattle.m3_isa.specs.declared.instructions.Op.{Op}
use Rattle.m3_isa.specs.declared.instructions.Op.TheVariants as op
use Rattle.m3_isa.specs.declared.instructions.Instr.{Instr}
use Rattle.m3_heap.specs.declared.store.Store.{Ghosts}
use Rattle.m3_threads.specs.declared.status.Thread.{Thread}
use Rattle.m3_threads.specs.declared.status.Status.TheVariants.{Ready}
use Rattle.m3_threads.specs.Going.{status_at, status_at_of, with_status}
use Rattle.m3_threads.proofs.Places.{find-updated}
use Rattle.m3_image_sections.specs.Parts.{Program}
use Rattle.m3_run_meaning.specs.State.{State, running_thread}
use Rattle.m3_run_meaning.specs.Points.{Chooses, passed, first_entry, later_entries}
use Rattle.m3_run_meaning.specs.Runs.{In_turn, At_point, Over, Moves, turn_limit, stands, in_turn, at_point, goes_on, comes_to_point, leaves_code, lasts_too_long}
use Rattle.m3_run_loop.specs.Leading.{Track, LeadsTo, Went, config}
use Rattle.m3_run_loop.proofs.Leading.{goes_again}
use Rattle.m3_run_laws.specs.Courses.{SoundTurn, SoundPoint}
use Rattle.m3_run_laws.proofs.Moving.{some-limit, chooses_sound}
use Rattle.m3_run_state.specs.declared.parts.Parts.{Parts}
use Rattle.m3_run_state.specs.Seen.{state_of}
use Rattle.m3_machine.specs.declared.runs.Turn.{Turn}
use Rattle.m3_machine.specs.Turns.{IsCourse, Between, Halts, Reaches, Acts_next, Rested}
use Rattle.m3_machine.proofs.Bounds.{sound_at}

-- ---- operations

-- a point instruction isn't plain
pub point_acts : (o : Op) → is_point o ≡ true → is_plain o ≡ false
point_acts op.Call e = refl
point_acts op.Callr e = refl
point_acts op.Callm e = refl
point_acts op.New e = refl
point_acts op.Newo e = refl
point_acts op.Point e = refl
point_acts op.Cat e = refl
point_acts op.Tchr e = refl
point_acts op.Tsub e = refl
point_acts op.Fork e = refl
point_acts op.Join e = refl
point_acts op.Acq e = refl
point_acts op.Rel e = refl
point_acts op.Wait e = refl
point_acts op.Sig e = refl
point_acts op.Bca e = refl
point_acts op.Self_ e = refl
point_acts op.Put e = refl
point_acts op.Putn e = refl
point_acts op.Putc e = refl
point_acts op.Alert e = refl
point_acts op.Talert e = refl
point_acts op.Await e = refl
point_acts op.Ajoin e = refl
point_acts op.Getc e = refl
point_acts op.Eof e = refl
point_acts _ e = absurd cc

-- one at which a thread doesn't have to wait
pub never_waits : (o : Op) → (o ≡ op.Acq → ⊥) → (o ≡ op.Join → ⊥) → (o ≡ op.Ajoin → ⊥) → (a b : ℕ) → status_at_of o a b ≡ Ready
never_waits op.Acq n _ _ a b = absurd (n refl)
never_waits op.Join _ n _ a b = absurd (n refl)
never_waits op.Ajoin _ _ n a b = absurd (n refl)
never_waits _ _ _ _ a b = refl

-- ---- states by other names

abbrev pub with_points : State → ℕ → State
with_points s n = record s { points = n }

pub past_is : (a s : State) (q : ℕ) → a ≡ s → q ≡ min (a.points + 1) (2 ^ 64 - 1) → with_points a q ≡ passed s
past_is a s q same e = ap (λ (n : ℕ). record a { points = n }) e ∙ ap (λ (x : State). passed x) same

-- what is known of a program holds of one that is the same
code_of : Program → List Instr
code_of p = p.code

pub same_code : (p q : Program) (n : ℕ) (o : Option Instr) → p ≡ q → slice_get p.code n ≡ o → slice_get q.code n ≡ o
same_code p q n o e h = subst (λ (r : Program). slice_get r.code n ≡ o) e h

-- ---- into an instruction

reaches_on : (p : Program) (k : Track) (u : State) (t : Thread) (i : Instr) (n : ℕ)
    → Went p k u n → running_thread u ≡ Some t → slice_get p.code t.regs.pc ≡ Some i → is_point i.op ≡ false → n < turn_limit p u → Reaches p k u (n + 1)
reaches_on p k u t i n went running next plain more =
    let d = config (In_turn u n) k.entries k.output in
    record { last = d; leads = went (In_turn u n) (goes_on u t i running next plain more); output = refl; carries = λ bytes place carried. in_turn u n d bytes place refl carried }

reaches_past : (p : Program) (k : Track) (u turn : State) (t : Thread) (i : Instr) (n : ℕ)
    → k.entries ≡ [] → Went p k u n → running_thread u ≡ Some t → slice_get p.code t.regs.pc ≡ Some i → is_point i.op ≡ true → u.points < k.allowed
    → Chooses p (first_entry []) (stands i u) turn → Reaches p k turn 1
reaches_past p k u turn t i n none went running next point few chooses =
    let d = config (At_point (stands i u)) k.entries k.output in
    let chosen : Chooses p (first_entry k.entries) (stands i u) turn = subst (λ es. Chooses p (first_entry es) (stands i u) turn) (sym none) chooses in
    let later : later_entries k.entries ≡ k.entries = ap (λ es. later_entries es) none ∙ sym none in
    record {
      last = d;
      leads = went (At_point (stands i u)) (comes_to_point u t i running next point);
      output = refl;
      carries = λ bytes place carried.
          subst (λ es. Moves p k.input k.allowed d (config place es (k.output ++ bytes))) later (at_point (stands i u) turn d bytes place refl few chosen carried);
    }

-- ---- in a turn

pub leaves : {S L : Type 0} {g : Ghosts S} (p : Program) (k : Track) (others : ℕ) (m : Parts S L g) (turn : Turn) (h : Between p k others m turn) → slice_get p.code h.thread.regs.pc ≡ None → LeadsTo p k (Over (state_of m) (Trap 1))
leaves p k others m turn h none = h.went (Over (state_of m) (Trap 1)) (leaves_code (state_of m) h.thread h.running none)

pub lasts : {S L : Type 0} {g : Ghosts S} (p : Program) (k : Track) (others : ℕ) (m : Parts S L g) (turn : Turn) (i : Instr) (h : Between p k others m turn) → slice_get p.code h.thread.regs.pc ≡ Some i → is_point i.op ≡ false
    → turn_limit p (state_of m) ≤ turn.done → LeadsTo p k (Over (state_of m) (Trap 8))
lasts p k others m turn i h next plain long = h.went (Over (state_of m) (Trap 8)) (lasts_too_long (state_of m) h.thread i h.running next plain long)

pub goes_to_act : {S L : Type 0} {g : Ghosts S} (p : Program) (start : State) (k : Track) (others : ℕ) (m : Parts S L g) (turn : Turn) (i : Instr) → IsCourse p start k → (h : Halts p k others m turn)
    → slice_get p.code h.between.thread.regs.pc ≡ Some i → is_point i.op ≡ false → turn.done < turn_limit p (state_of m) → Acts_next p start k others m turn
goes_to_act p start k others m turn i known h next plain more =
    let b = h.between in
    record {
      thread = b.thread;
      instruction = i;
      running = b.running;
      stands = next;
      acts = h.next i next more;
      reaches = reaches_on p k (state_of m) b.thread i turn.done b.went b.running next plain more;
      sound = sound_at p start k (In_turn (state_of m) turn.done) known (b.went (In_turn (state_of m) turn.done) (goes_on (state_of m) b.thread i b.running next plain more));
      paced = b.paced;
      made = λ point. absurd (false≢true (sym plain ∙ point));
    }

-- ---- at its end

pub comes_to_rest : {S L : Type 0} {g : Ghosts S} (p : Program) (k : Track) (others : ℕ) (m n : Parts S L g) (turn : Turn) (i : Instr) (h : Between p k others m turn) → slice_get p.code h.thread.regs.pc ≡ Some i → is_point i.op ≡ true
    → state_of n ≡ stands i (state_of m) → n.made ≡ m.made → n.stuck ≡ m.stuck → Rested p k others n turn
comes_to_rest p k others m n turn i h next point is made unstuck =
    let points : n.points ≡ m.points = ap (λ (s : State). s.points) is in
    record {
      leads = subst (λ (s : State). LeadsTo p k (At_point s)) (sym is) (h.went (At_point (stands i (state_of m))) (comes_to_point (state_of m) h.thread i h.running next point));
      paced = record {
        points = omega (arith, points, h.paced.points);
        free = h.paced.free;
        made = omega (arith, points, made, h.paced.made);
        unstuck = unstuck ∙ h.paced.unstuck;
      };
    }

-- over it, where no choice is left
pub comes_past : {S L : Type 0} {g : Ghosts S} (p : Program) (start : State) (k : Track) (others : ℕ) (m n : Parts S L g) (turn new : Turn) (i : Instr) → IsCourse p start k → (h : Between p k others m turn)
    → slice_get p.code h.thread.regs.pc ≡ Some i → is_point i.op ≡ true → status_at i ≡ Ready → 1 ≤ turn.points
    → state_of n ≡ passed (stands i (state_of m)) → n.made ≡ m.made → n.stuck ≡ m.stuck → new.done ≡ 0 → new.points ≡ turn.points - 1 → Acts_next p start k others n new
comes_past p start k others m n turn new i known h next point free some is made unstuck first fewer =
    let s = stands i (state_of m) in
    let t = with_status (status_at i) h.thread in
    let found : running_thread s ≡ Some t = find-updated (with_status (status_at i)) m.running h.thread m.memory.threads.threads (λ u. refl) h.running in
    let leads = h.went (At_point s) (comes_to_point (state_of m) h.thread i h.running next point) in
    let st : SoundPoint p k.allowed start s = sound_at p start k (At_point s) known leads in
    let few : m.points < k.allowed = omega (arith, h.paced.points, some) in
    let chooses = goes_again p s t found free in
    let one : n.points ≡ m.points + 1 = ap (λ (x : State). x.points) is ∙ omega (arith, few, known.small) in
    let reaches = reaches_past p k (state_of m) (passed s) h.thread i turn.done (h.paced.free some) h.went h.running next point few chooses in
    let sound = chooses_sound p k.allowed start s (passed s) (first_entry []) (omega (arith, known.small)) (some-limit p start h.thread.regs.pc i next) st few chooses in
    record {
      thread = t;
      instruction = i;
      running = ap (λ (x : State). running_thread x) is ∙ found;
      stands = next;
      acts = point_acts i.op point;
      reaches = subst (λ (x : ℕ). Reaches p k (state_of n) (x + 1)) (sym first) (subst (λ (x : State). Reaches p k x 1) (sym is) reaches);
      sound = subst (λ (x : ℕ). SoundTurn p k.allowed start (state_of n) x) (sym first) (subst (λ (x : State). SoundTurn p k.allowed start x 0) (sym is) sound);
      paced = record {
        points = omega (arith, one, fewer, some, h.paced.points);
        free = λ more. h.paced.free some;
        made = omega (arith, one, made, h.paced.made);
        unstuck = unstuck ∙ h.paced.unstuck;
      };
      made = λ e. omega (arith, one, made, h.paced.made);
    }
