-- What a run leaves of where its threads stand, and how many instructions it executes.
use Rattle.std.specs.Prelude.{ℕ, ◌≡◌, ◌≤◌, ◌<◌, ◌+◌, ◌*◌, ◌^◌, Bool, true, false, List, [], ◌∷◌, length, find, slice_get, Option, None, Some}
use Rattle.std.specs.Option.{option_map_or}
use Rattle.std.proofs.Common.{refl, sym, ap, subst, ◌∙◌, arith, ⊎_elim}
use Rattle.std.proofs.lemmas.Bool.{cases_Bool}
use Rattle.std.proofs.Math.Nat.{suc-mul, one-le-mul}
use Rattle.std.proofs.Math.Numerals.{add-one}
use Rattle.m3_base.specs.declared.outcomes.Outcome.{Outcome}
use Rattle.m3_base.specs.declared.outcomes.Outcome.TheVariants.{Spent}
use Rattle.m3_base.specs.declared.outcomes.Entry.{Entry}
use Rattle.m3_isa.specs.Memory.{Memory}
use Rattle.m3_isa.specs.Instructions.{is_point}
use Rattle.m3_isa.specs.declared.instructions.Instr.{Instr}
use Rattle.m3_threads.specs.declared.status.Thread.{Thread}
use Rattle.m3_threads.specs.declared.status.Status.{Status}
use Rattle.m3_threads.specs.declared.status.Status.TheVariants.{Ready, Wants, Waits, Joins}
use Rattle.m3_threads.specs.All.{Everyone, is_named, updated, thread_named}
use Rattle.m3_threads.specs.Spaces.{held}
use Rattle.m3_threads.specs.Going.{IsAwake, IsAwakeAt, IsChoice, may_go, may_go_if, may_go_at, status_at, with_status}
use Rattle.m3_image_sections.specs.Parts.{Program}
use Rattle.m3_run_meaning.specs.State.{State, outside, executed}
use Rattle.m3_run_meaning.specs.Progress.{Progress}
use Rattle.m3_run_meaning.specs.Points.{first_entry, Collected_if, left, made, stuck, passed, runs_on, Chooses, StopsAtPoint, nobody, trapped, nobody_left, Says_spent, deadlock, points_used}
use Rattle.m3_run_meaning.specs.Runs.{Place, Config, turn_limit, Settles, goes_on, comes_to_point, leaves_code, lasts_too_long, rests, run_ends, Carries_out, Moves, in_turn, at_point, stops, spent, Leads, stays, moves, starting}
use Rattle.m3_run_laws.specs.Standing.{AtPoint, Has, AllAtPoints, InTurnOf, BeginsAtPoints}
use Rattle.m3_run_laws.specs.Courses.{SoundTurn, SoundPoint, SoundEnd, IsOther, EndsSoundly, IsSound}
use Rattle.m3_run_laws.proofs.ThreadLists.{all_changed, but_of_all, all_of_but, length_changed}
use Rattle.m3_run_laws.proofs.Stores.{lawful_itself, lawful_on}
use Rattle.m3_run_laws.proofs.Stays.{SameCounts, Stays, collects_stay, spoils_counts, Keeps}
use Rattle.m3_run_laws.proofs.Doing.{does_keep}

pub next-turn : (n turn : ℕ) → (n + 1) * turn ≡ n * turn + turn
next-turn n turn = ap (λ (k : ℕ). k * turn) (add-one n) ∙ suc-mul n turn

limit-of : Program → ℕ → ℕ
limit-of p depth = (depth + 1) * length p.code

pub same-limit : (p : Program) (s from : State) → s.all.stack ≡ from.all.stack → turn_limit p s ≡ turn_limit p from
unfolding limit-of
same-limit p s from e = ap (λ n. limit-of p n) e

-- ---- an instruction

-- the thread of a turn comes to a point instruction
comes : (p : Program) (n : ℕ) (all : Everyone) (t : Thread) (i : Instr) → InTurnOf p n all → find (is_named n) all.threads ≡ Some t → slice_get p.code t.regs.pc ≡ Some i → is_point i.op ≡ true
    → AllAtPoints p (record all { threads = updated (with_status (status_at i)) n all.threads })
comes p n all t i turn found next point =
    let here : AtPoint p t = ap (λ (o : Option Instr). option_map_or (λ x. is_point x.op) o false) next ∙ point in
    record {
      each = all_changed (AtPoint p) (with_status (status_at i)) n all.threads (λ u at. at) (all_of_but (AtPoint p) n all.threads t here turn.others found);
      few = let l = length_changed (with_status (status_at i)) n all.threads in omega (arith, l, turn.few);
    }

over-by : (p : Program) (allowed : ℕ) (from s : State) (k : ℕ) (u : State) → SoundTurn p allowed from s k → SameCounts (executed s) u → SoundEnd p allowed from u
over-by p allowed from s k u st counts =
    let more = next-turn st.before (turn_limit p from) in
    record {
      turns = st.before + 1;
      points = omega (arith, counts.points, st.points);
      within = omega (arith, counts.points, st.within);
      instructions = omega (arith, counts.instructions, st.instructions, st.short, more);
      store = lawful_on from.heap s.heap u.heap st.store counts.store;
    }

ends-soundly : (p : Program) (allowed : ℕ) (from u : State) (outcome : Outcome) → IsOther outcome → SoundEnd p allowed from u → EndsSoundly p allowed from u outcome
ends-soundly p allowed from u Spent other st = absurd other
ends-soundly p allowed from u _ other st = st

settles-sound : (p : Program) (allowed : ℕ) (from s : State) (k : ℕ) (progress : Progress) (place : Place) → SoundTurn p allowed from s k → Keeps p (executed s) progress → Settles p (k + 1) progress place → IsSound p allowed from place
settles-sound p allowed from s k progress place st keeps (goes_on u t i running next plain more) =
    let depth = keeps.depth ∙ st.depth in
    let limit = same-limit p u from depth in
    record {
      turn = subst (λ (n : ℕ). InTurnOf p n u.all) (sym keeps.running) keeps.turn;
      depth = depth;
      before = st.before;
      points = keeps.counts.points ∙ st.points;
      within = omega (arith, keeps.counts.points, st.within);
      instructions = omega (arith, keeps.counts.instructions, st.instructions);
      short = omega (arith, limit, more);
      store = lawful_on from.heap s.heap u.heap st.store keeps.counts.store;
      asked = λ none. keeps.asked (st.asked none);
    }
settles-sound p allowed from s k progress place st keeps (comes_to_point u t i running next point) =
    let more = next-turn st.before (turn_limit p from) in
    record {
      at_points = comes p u.running u.all t i (subst (λ (n : ℕ). InTurnOf p n u.all) (sym keeps.running) keeps.turn) running next point;
      depth = keeps.depth ∙ st.depth;
      turns = st.before + 1;
      points = omega (arith, keeps.counts.points, st.points);
      within = omega (arith, keeps.counts.points, st.within);
      instructions = omega (arith, keeps.counts.instructions, st.instructions, st.short, more);
      store = lawful_on from.heap s.heap u.heap st.store keeps.counts.store;
      asked = λ none. keeps.asked (st.asked none);
    }
settles-sound p allowed from s k progress place st keeps (leaves_code u t running none) = over-by p allowed from s k u st keeps.counts
settles-sound p allowed from s k progress place st keeps (lasts_too_long u t i running next plain more) = over-by p allowed from s k u st keeps.counts
settles-sound p allowed from s k progress place st keeps (rests u) =
    let more = next-turn st.before (turn_limit p from) in
    record {
      at_points = keeps.at_points;
      depth = keeps.depth ∙ st.depth;
      turns = st.before + 1;
      points = omega (arith, keeps.counts.points, st.points);
      within = omega (arith, keeps.counts.points, st.within);
      instructions = omega (arith, keeps.counts.instructions, st.instructions, st.short, more);
      store = lawful_on from.heap s.heap u.heap st.store keeps.counts.store;
      asked = λ none. keeps.asked (st.asked none);
    }
settles-sound p allowed from s k progress place st keeps (run_ends u outcome) = ends-soundly p allowed from u outcome keeps.1 (over-by p allowed from s k u st keeps.0)

carries-sound : (p : Program) (input : List ℕ) (allowed : ℕ) (from s : State) (k : ℕ) (bytes : List ℕ) (place : Place) → BeginsAtPoints p → SoundTurn p allowed from s k → Carries_out p input (k + 1) s bytes place
    → IsSound p allowed from place
carries-sound p input allowed from s k bytes place begins st c =
    settles-sound p allowed from s k c.progress place st (does_keep p input c.thread c.instruction (executed s) bytes c.progress begins st.turn c.running c.stands c.does) c.settles

-- ---- a point

some-number : (m n : ℕ) → Some m ≡ Some n → m ≡ n
some-number m n e = cc

goes-at : (all : Everyone) (memory : Memory) (running n : ℕ) (choice : IsChoice all memory None running (Some n)) → may_go all memory n ≡ true
goes-at all memory running n choice = ⊎_elim
    (λ (may : may_go all memory running ≡ true). subst (λ (m : ℕ). may_go all memory m ≡ true) (sym (some-number n running (choice.stays refl may))) may)
    (λ (may : may_go all memory running ≡ false). (choice.lowest refl may n refl).goes)
    (cases_Bool (may_go all memory running))

goes-by : (all : Everyone) (memory : Memory) (m running n : ℕ) (choice : IsChoice all memory (Some m) running (Some n)) → may_go all memory n ≡ true
goes-by all memory m running n choice = ⊎_elim
    (λ (may : may_go all memory m ≡ true). subst (λ (x : ℕ). may_go all memory x ≡ true) (sym (some-number n m (choice.named m refl may))) may)
    (λ (asleep : may_go all memory m ≡ false). ⊎_elim
    (λ (may : may_go all memory running ≡ true). subst (λ (x : ℕ). may_go all memory x ≡ true) (sym (some-number n running (choice.stays asleep may))) may)
    (λ (may : may_go all memory running ≡ false). (choice.lowest asleep may n refl).goes)
    (cases_Bool (may_go all memory running)))
    (cases_Bool (may_go all memory m))

-- who is chosen may go
pub chosen-goes : (all : Everyone) (memory : Memory) (entry : Option ℕ) (running n : ℕ) → IsChoice all memory entry running (Some n) → may_go all memory n ≡ true
chosen-goes all memory None running n choice = goes-at all memory running n choice
chosen-goes all memory (Some m) running n choice = goes-by all memory m running n choice

awake-at : (s : Status) (t : Thread) (memory : Memory) → may_go_at s t memory ≡ true → IsAwakeAt s
awake-at Ready t memory e = tt
awake-at (Wants mutex) t memory e = tt
awake-at (Waits mutex condition place alertable) t memory e = absurd cc
awake-at (Joins cell alertable) t memory e = tt

awake-if : (memory : Memory) (o : Option Thread) → may_go_if memory o ≡ true → (t : Thread) × (o ≡ Some t) × IsAwake t
awake-if memory None e = absurd cc
awake-if memory (Some t) e = (t, refl, awake-at t.status t memory e)

-- and is there and awake
pub goes_awake : (all : Everyone) (memory : Memory) (n : ℕ) → may_go all memory n ≡ true → Has IsAwake n all.threads
goes_awake all memory n e = awake-if (held all memory) (thread_named all n) e

some-state : (s u : State) → Some s ≡ Some u → s ≡ u
some-state s u e = cc

stays-itself : (p : Program) (s : State) → Stays p s s
stays-itself p s = record { counts = record { points = refl; instructions = refl; store = lawful_itself s.heap }; running = refl; depth = refl; turn = λ n h. h; at_points = λ h. h; many = refl; allowed = refl; asked = λ none. none }

pub collected-stays : (p : Program) (s : State) (asked : Bool) (o : Option State) (u : State) → Collected_if p s asked o → o ≡ Some u → Stays p s u
collected-stays p s asked o u left e = subst (λ (x : State). Stays p s x) (some-state s u e) (stays-itself p s)
collected-stays p s asked o u (made v c) e = subst (λ (x : State). Stays p s x) (some-state v u e) (collects_stay p s v c)
collected-stays p s asked o u stuck e = absurd cc

passed-one : (s : State) (allowed : ℕ) → s.points < allowed → allowed < 2 ^ 64 → (passed s).points ≡ s.points + 1
passed-one s allowed few small = omega (arith, few, small)

-- a turn begins
pub chooses_sound : (p : Program) (allowed : ℕ) (from s turn : State) (entry : Entry) → allowed < 2 ^ 64 → 1 ≤ turn_limit p from → SoundPoint p allowed from s → s.points < allowed → Chooses p entry s turn → SoundTurn p allowed from turn 0
chooses_sound p allowed from s turn entry small some st few c =
    let ready = c.ready in
    let a = collected-stays p (passed s) entry.collect (Some ready) ready c.collected refl in
    let points = a.at_points st.at_points in
    let one = passed-one s allowed few small in
    let has = goes_awake ready.all (outside p ready) c.chosen (chosen-goes ready.all (outside p ready) entry.to ready.running c.chosen c.choice) in
    let st' : SoundTurn p allowed from (runs_on ready c.chosen) 0 = record {
      turn = record { running = has; others = but_of_all (AtPoint p) c.chosen ready.all.threads points.each; few = points.few };
      depth = a.depth ∙ st.depth;
      before = st.turns;
      points = omega (arith, a.counts.points, one, st.points);
      within = omega (arith, a.counts.points, one, few);
      instructions = omega (arith, a.counts.instructions, st.instructions);
      short = some;
      store = lawful_on from.heap s.heap ready.heap st.store a.counts.store;
      asked = λ none. a.asked (st.asked none);
    } in
    subst (λ (x : State). SoundTurn p allowed from x 0) (sym c.turns) st'

-- ---- the run

some-there : (code : List Instr) (n : ℕ) (i : Instr) → slice_get code n ≡ Some i → 1 ≤ length code
some-there [] n i e = absurd cc
some-there (x ∷ xs) n i e = omega arith

pub some-limit : (p : Program) (from : State) (n : ℕ) (i : Instr) → slice_get p.code n ≡ Some i → 1 ≤ turn_limit p from
some-limit p from n i e = one-le-mul (omega arith) (some-there p.code n i e)

stops-sound : (p : Program) (allowed : ℕ) (from s : State) (entry : Entry) (u : State) (outcome : Outcome) → allowed < 2 ^ 64 → SoundPoint p allowed from s → s.points < allowed → StopsAtPoint p entry s u outcome → EndsSoundly p allowed from u outcome
stops-sound p allowed from s entry u outcome small st few (nobody h) =
    record { turns = st.turns; points = st.points; within = st.within; instructions = st.instructions; store = st.store }
stops-sound p allowed from s entry u outcome small st few (trapped v some c spoils) =
    let one = passed-one s allowed few small in
    let more = next-turn st.turns (turn_limit p from) in
    let points : v.points ≡ (passed s).points = ap (λ (x : State). x.points) spoils.rest in
    let instructions : v.instructions ≡ s.instructions = ap (λ (x : State). x.instructions) spoils.rest in
    record {
      turns = st.turns + 1;
      points = omega (arith, points, one, st.points);
      within = omega (arith, points, one, few);
      instructions = omega (arith, instructions, more, st.instructions);
      store = lawful_on from.heap s.heap v.heap st.store (spoils_counts p (passed s) v spoils).store;
    }
stops-sound p allowed from s entry u outcome small st few (nobody_left ready some c none) =
    let a = collected-stays p (passed s) entry.collect (Some ready) ready c refl in
    let one = passed-one s allowed few small in
    let more = next-turn st.turns (turn_limit p from) in
    record {
      turns = st.turns + 1;
      points = omega (arith, a.counts.points, one, st.points);
      within = omega (arith, a.counts.points, one, few);
      instructions = omega (arith, a.counts.instructions, more, st.instructions);
      store = lawful_on from.heap s.heap ready.heap st.store a.counts.store;
    }

spent-sound : (p : Program) (allowed : ℕ) (from s : State) (outcome : Outcome) → SoundPoint p allowed from s → Says_spent p s outcome → EndsSoundly p allowed from s outcome
spent-sound p allowed from s outcome at (deadlock none) = record { turns = at.turns; points = at.points; within = at.within; instructions = at.instructions; store = at.store }
spent-sound p allowed from s outcome at (points_used some) = at

pub moves_sound : (p : Program) (input : List ℕ) (allowed : ℕ) (from : State) (c d : Config) → allowed < 2 ^ 64 → BeginsAtPoints p → IsSound p allowed from c.place → Moves p input allowed c d → IsSound p allowed from d.place
moves_sound p input allowed from c d small begins st (in_turn s k b bytes place e carried) =
    carries-sound p input allowed from s k bytes place begins (subst (λ (x : Place). IsSound p allowed from x) e st) carried
moves_sound p input allowed from c d small begins st (at_point s turn b bytes place e few chooses carried) =
    let at : SoundPoint p allowed from s = subst (λ (x : Place). IsSound p allowed from x) e st in
    let some = some-limit p from carried.thread.regs.pc carried.instruction carried.stands in
    carries-sound p input allowed from turn 0 bytes place begins (chooses_sound p allowed from s turn (first_entry b.entries) small some at few chooses) carried
moves_sound p input allowed from c d small begins st (stops s u b outcome e few stop) =
    let at : SoundPoint p allowed from s = subst (λ (x : Place). IsSound p allowed from x) e st in
    stops-sound p allowed from s (first_entry b.entries) u outcome small at few stop
moves_sound p input allowed from c d small begins st (spent s b outcome e used says) =
    let at : SoundPoint p allowed from s = subst (λ (x : Place). IsSound p allowed from x) e st in
    spent-sound p allowed from s outcome at says

pub leads_sound : (p : Program) (input : List ℕ) (allowed : ℕ) (from : State) (c d : Config) → allowed < 2 ^ 64 → BeginsAtPoints p → IsSound p allowed from c.place → Leads p input allowed c d → IsSound p allowed from d.place
leads_sound p input allowed from c d small begins st (stays b) = st
leads_sound p input allowed from c d small begins st (moves b m n first last) =
    moves_sound p input allowed from m n small begins (leads_sound p input allowed from b m small begins st first) last

-- from a state between two turns
pub starts_sound : (p : Program) (allowed : ℕ) (s : State) → AllAtPoints p s.all → s.points ≤ allowed → SoundPoint p allowed s s
starts_sound p allowed s at within = record { at_points = at; depth = refl; turns = 0; points = omega arith; within = within; instructions = omega arith; store = lawful_itself s.heap; asked = λ none. none }

pub runs_sound : (p : Program) (input : List ℕ) (allowed : ℕ) (from : State) (schedule : List Entry) (d : Config) → allowed < 2 ^ 64 → BeginsAtPoints p → AllAtPoints p from.all → from.points ≤ allowed
    → Leads p input allowed (starting from schedule) d → IsSound p allowed from d.place
runs_sound p input allowed from schedule d small begins at within leads = leads_sound p input allowed from (starting from schedule) d small begins (starts_sound p allowed from at within) leads
