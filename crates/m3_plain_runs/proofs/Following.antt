-- Wherever a run of plain code leads, it is on its course.
use Rattle.std.specs.Prelude.{ℕ, zero, suc, ◌≡◌, ◌≤◌, ◌<◌, ◌+◌, ◌*◌, ◌^◌, Bool, true, false, List, [], ◌++◌, length, map, slice_get, Option, None, Some}
use Rattle.std.proofs.Common.{refl, sym, ap, subst, ◌∙◌, arith, cond}
use Rattle.std.proofs.Math.Nat.{suc-mul}
use Rattle.std.proofs.Math.Numerals.{add-one}
use Rattle.m3_base.specs.declared.outcomes.Entry.{Entry}
use Rattle.m3_base.specs.declared.outcomes.Outcome.{Outcome}
use Rattle.m3_isa.specs.Memory.{Memory}
use Rattle.m3_isa.specs.Effects as isa
use Rattle.m3_isa.specs.Effects.{Effect, effect}
use Rattle.m3_isa.specs.Instructions.{is_point}
use Rattle.m3_isa.specs.declared.registers.Regs.{Regs}
use Rattle.m3_isa.specs.declared.instructions.Op.{Op}
use Rattle.m3_isa.specs.declared.instructions.Op.TheVariants.{Point, Fault, Endp, Putn, Li, Lih, Addo, Subo, Mulo}
use Rattle.m3_isa.specs.declared.instructions.Instr.{Instr}
use Rattle.m3_base.specs.declared.outcomes.FaultKind.{FaultKind}
use Rattle.m3_threads.specs.declared.status.Thread.{Thread}
use Rattle.m3_threads.specs.declared.status.Status.{Status}
use Rattle.m3_threads.specs.declared.status.Status.TheVariants.{Ready as ReadyStatus}
use Rattle.m3_threads.specs.All.{Everyone, thread_named}
use Rattle.m3_threads.specs.Spaces.{held}
use Rattle.m3_threads.specs.Going.{IsChoice, NoneGoes, may_go, may_go_if, may_go_at, status_at, status_at_of, with_status}
use Rattle.m3_image_sections.specs.Parts.{Program}
use Rattle.m3_run_meaning.specs.State.{State, outside}
use Rattle.m3_run_meaning.specs.Progress.{Progress}
use Rattle.m3_run_meaning.specs.Points.{first_entry, later_entries, Collected_if, left, made, stuck, passed as point_passed, runs_on, Chooses, StopsAtPoint, nobody, trapped, nobody_left}
use Rattle.m3_run_meaning.specs.Runs.{Place, In_turn, At_point, Over as RunOver, Config, stands, Settles, goes_on, comes_to_point, leaves_code, lasts_too_long, rests, run_ends, Carries_out, Moves, in_turn, at_point, stops, spent, Leads, stays, moves}
use Rattle.m3_plain_image.specs.Image.{in_first_file}
use Rattle.m3_plain_runs.proofs.Courses.{Stage, Course, GoesOn, Ends, Strays, faults, plainly, acts, act, and_then, run}
use Rattle.m3_plain_runs.proofs.Bodies.{goes_on_not_ends, strays_not_ends}
use Rattle.m3_plain_runs.proofs.Steps.{Alone, found, has-regs, only-updated, points_by, Matches, acts_match}

same-end : (a b : Stage) (x y : Outcome) → Ends a x ≡ Ends b y → (a ≡ b) × (x ≡ y)
same-end a b x y e = (one a b x y e, two a b x y e)
  where
    one : (a b : Stage) (x y : Outcome) → Ends a x ≡ Ends b y → a ≡ b
    one a b x y e = cc

    two : (a b : Stage) (x y : Outcome) → Ends a x ≡ Ends b y → x ≡ y
    two a b x y e = cc

some-instr : (i j : Instr) → Some i ≡ Some j → i ≡ j
some-instr i j e = cc

none-instr : (i : Instr) → None ≡ Some i → ⊥
none-instr i e = cc

some-state : (s u : State) → Some s ≡ Some u → s ≡ u
some-state s u e = cc

not-none-state : (s : State) → Some s ≡ None → ⊥
not-none-state s e = cc

true-false : true ≡ false → ⊥
true-false e = cc

some-number : (m n : ℕ) → Some m ≡ Some n → m ≡ n
some-number m n e = cc

-- ---- what a course does by the way

-- points are those of the operation
abbrev PassesPoints : ℕ → Stage → Course → Type 0
PassesPoints n s (GoesOn u) = u.points ≡ s.points + n
PassesPoints n s (Ends u outcome) = u.points ≡ s.points + n
PassesPoints n s Strays = Unit {0}

plainly-passes : (s : Stage) (e : Effect) → PassesPoints 0 s (plainly s e)
plainly-passes s (isa.Goes regs memory) = omega arith
plainly-passes s (isa.Traps n) = tt
plainly-passes s isa.NotPlain = tt

faults-passes : (s : Stage) (kind : Option FaultKind) (line : Option ℕ) → PassesPoints 0 s (faults s kind line)
faults-passes s None line = tt
faults-passes s (Some kind) None = tt
faults-passes s (Some kind) (Some line) = omega arith

acts-passes : (lines : List ℕ) (i : Instr) (s : Stage) (o : Op) → PassesPoints (points_by o) s (acts o i lines s)
acts-passes lines i s Point = refl
acts-passes lines i s Putn = refl
acts-passes lines i s Endp = omega arith
acts-passes lines i s Fault = faults-passes s _ _
acts-passes lines i s Li = plainly-passes s _
acts-passes lines i s Lih = plainly-passes s _
acts-passes lines i s Addo = plainly-passes s _
acts-passes lines i s Subo = plainly-passes s _
acts-passes lines i s Mulo = plainly-passes s _
acts-passes lines i s _ = tt

-- an operation of plain code leaves its thread ready
stays-ready : (lines : List ℕ) (i : Instr) (s : Stage) (o : Op) (a b : ℕ) → (acts o i lines s ≡ Strays → ⊥) → status_at_of o a b ≡ ReadyStatus
stays-ready lines i s Point a b h = refl
stays-ready lines i s Putn a b h = refl
stays-ready lines i s Endp a b h = refl
stays-ready lines i s Fault a b h = refl
stays-ready lines i s Li a b h = refl
stays-ready lines i s Lih a b h = refl
stays-ready lines i s Addo a b h = refl
stays-ready lines i s Subo a b h = refl
stays-ready lines i s Mulo a b h = refl
stays-ready lines i s _ a b h = absurd (h refl)

module _ (p : Program) (lines : List ℕ) (final : Stage) (outcome : Outcome) where
  -- the rest of the course: so many instructions at most, to the end
  pub record Rest (s : Stage) : Type 0 where
    pub steps : ℕ
    pub ends : run p.code lines steps s ≡ Ends final outcome
    pub within : s.instructions + steps ≤ length p.code

  abbrev AfterCourse : Course → ℕ → Type 0
  AfterCourse c n = and_then c (run p.code lines n) ≡ Ends final outcome

  goes-further : (c : Course) (n points : ℕ) (s : Stage) → PassesPoints points s c → AfterCourse c n → ((u : Stage) → run p.code lines n u ≡ Ends final outcome → u.points ≤ final.points) → s.points + points ≤ final.points
  goes-further (GoesOn u) n points s h e more = omega (arith, h, more u e)
  goes-further (Ends u o) n points s h e more = let same = same-end u final o outcome e in omega (arith, h, ap (λ (x : Stage). x.points) same.0)
  goes-further Strays n points s h e more = absurd (strays_not_ends final outcome e)

  points-at : (n : ℕ) (s : Stage) (o : Option Instr) → ((u : Stage) → run p.code lines n u ≡ Ends final outcome → u.points ≤ final.points) → and_then (act o lines s) (run p.code lines n) ≡ Ends final outcome → s.points ≤ final.points
  points-at n s None more e = absurd (strays_not_ends final outcome e)
  points-at n s (Some i) more e = omega (arith, goes-further (acts i.op i lines s) n (points_by i.op) s (acts-passes lines i s i.op) e more)

  -- no point is taken back
  points-grow : (n : ℕ) (s : Stage) → run p.code lines n s ≡ Ends final outcome → s.points ≤ final.points
  points-grow zero s e = absurd (goes_on_not_ends s final outcome e)
  points-grow (suc n) s e = points-at n s (slice_get p.code s.regs.pc) (points-grow n) e

  -- the course of the rest begins with the instruction that stands there
  record First (s : Stage) (i : Instr) : Type 0 where
    steps : ℕ
    more : AfterCourse (acts i.op i lines s) steps
    within : s.instructions + (steps + 1) ≤ length p.code

  first : (s : Stage) (i : Instr) → slice_get p.code s.regs.pc ≡ Some i → Rest s → First s i
  first s i h r = by-steps r.steps r.ends r.within
    where
      by-steps : (n : ℕ) → run p.code lines n s ≡ Ends final outcome → s.instructions + n ≤ length p.code → First s i
      by-steps zero e w = absurd (goes_on_not_ends s final outcome e)
      by-steps (suc n) e w = record { steps = n; more = sym (ap (λ o. and_then (act o lines s) (run p.code lines n)) h) ∙ e; within = omega arith }

  not-straying : (s : Stage) (i : Instr) → First s i → acts i.op i lines s ≡ Strays → ⊥
  not-straying s i f e = strays_not_ends final outcome (sym (ap (λ c. and_then c (run p.code lines f.steps)) e) ∙ f.more)

  points-further : (s : Stage) (i : Instr) → First s i → s.points + points_by i.op ≤ final.points
  points-further s i f = goes-further (acts i.op i lines s) f.steps (points_by i.op) s (acts-passes lines i s i.op) f.more (points-grow f.steps)

  -- ---- places

  -- the run is at a stage of the course, before an instruction
  pub record At (s : State) (put : List ℕ) (point : Bool) : Type 0 where
    pub stage : Stage
    pub alone : Alone s stage put
    pub points : s.points ≡ stage.points
    pub instruction : Instr
    pub there : slice_get p.code stage.regs.pc ≡ Some instruction
    pub kind : is_point instruction.op ≡ point
    pub rest : Rest stage

  pub record OverAt (s : State) (put : List ℕ) (o : Outcome) : Type 0 where
    pub output : put ≡ final.output
    pub points : s.points ≡ final.points
    pub instructions : s.instructions ≡ final.instructions
    pub ended : o ≡ outcome

  -- the turn has executed no more instructions than the run
  pub record InTurn (s : State) (k : ℕ) (put : List ℕ) : Type 0 where
    pub at : At s put false
    pub short : k ≤ at.stage.instructions

  abbrev pub OnCourse : Place → List ℕ → Type 0
  OnCourse (In_turn s k) put = InTurn s k put
  OnCourse (At_point s) put = At s put true
  OnCourse (RunOver s o) put = OverAt s put o

  -- ---- an instruction

  same-code : (regs : Regs) (stage : Stage) (o : Option Instr) → regs ≡ stage.regs → slice_get p.code regs.pc ≡ o → slice_get p.code stage.regs.pc ≡ o
  same-code regs stage o e h = sym (ap (λ (r : Regs). slice_get p.code r.pc) e) ∙ h

  rest-of : (u : Stage) (n : ℕ) → run p.code lines n u ≡ Ends final outcome → u.instructions + n ≤ length p.code → Rest u
  rest-of u n e w = record { steps = n; ends = e; within = w }

  long-turn : (stack : ℕ) → length p.code ≤ (stack + 1) * length p.code
  long-turn stack = let e : (stack + 1) * length p.code ≡ stack * length p.code + length p.code = ap (λ (k : ℕ). k * length p.code) (add-one stack) ∙ suc-mul stack (length p.code) in omega (arith, e)

  ready-there : (i : Instr) (u : State) (stage : Stage) (put : List ℕ) → Alone u stage put → First stage i → Alone (stands i u) stage put
  ready-there i u stage put a f = record {
    thread = with_status (status_at i) a.thread;
    only = only-updated (with_status (status_at i)) a.thread u.running u.all.threads a.only a.number a.running;
    number = a.number;
    running = a.running;
    ready = stays-ready lines i stage i.op i.a i.b (not-straying stage i f);
    regs = a.regs;
    output = a.output;
    instructions = a.instructions;
  }

  settles : (s : State) (stage : Stage) (put : List ℕ) (points k : ℕ) (c : Course) (n : ℕ) (progress : Progress) (place : Place) → Matches s stage put points c progress → AfterCourse c n
      → stage.instructions + (n + 1) ≤ length p.code → s.points ≡ stage.points + points → k ≤ stage.instructions → Settles p (k + 1) progress place → OnCourse place put
  settles s stage put points k (GoesOn next) n progress place m e within same short (goes_on u t i running there plain more) =
      let regs = has-regs u next put t m.alone running in
      record {
        at = record {
          stage = next;
          alone = m.alone;
          points = omega (arith, m.points, m.stage_points, same);
          instruction = i;
          there = same-code t.regs next (Some i) regs there;
          kind = plain;
          rest = rest-of next n e (omega (arith, m.one_more, within));
        };
        short = omega (arith, m.one_more, short);
      }
  settles s stage put points k (GoesOn next) n progress place m e within same short (comes_to_point u t i running there point) =
      let regs = has-regs u next put t m.alone running in
      let there' = same-code t.regs next (Some i) regs there in
      let rest = rest-of next n e (omega (arith, m.one_more, within)) in
      record {
        stage = next;
        alone = ready-there i u next put m.alone (first next i there' rest);
        points = omega (arith, m.points, m.stage_points, same);
        instruction = i;
        there = there';
        kind = point;
        rest = rest;
      }
  settles s stage put points k (GoesOn next) n progress place m e within same short (leaves_code u t running none) =
      absurd (no-code n e)
    where
      no-code : (n : ℕ) → run p.code lines n next ≡ Ends final outcome → ⊥
      no-code zero e = goes_on_not_ends next final outcome e
      no-code (suc n) e = strays_not_ends final outcome (sym (ap (λ o. and_then (act o lines next) (run p.code lines n)) (same-code t.regs next None (has-regs u next put t m.alone running) none)) ∙ e)
  settles s stage put points k (GoesOn next) n progress place m e within same short (lasts_too_long u t i running there plain more) =
      let regs = has-regs u next put t m.alone running in
      let rest = rest-of next n e (omega (arith, m.one_more, within)) in
      let f = first next i (same-code t.regs next (Some i) regs there) rest in
      let long = long-turn u.all.stack in
      absurd (omega (arith, more, f.within, m.one_more, short, long))
  settles s stage put points k (GoesOn next) n progress place m e within same short (rests u) = absurd m
  settles s stage put points k (GoesOn next) n progress place m e within same short (run_ends u o) = absurd m
  settles s stage put points k (Ends last other) n progress place m e within same short (goes_on u t i running there plain more) = absurd m
  settles s stage put points k (Ends last other) n progress place m e within same short (comes_to_point u t i running there point) = absurd m
  settles s stage put points k (Ends last other) n progress place m e within same short (leaves_code u t running none) = absurd m
  settles s stage put points k (Ends last other) n progress place m e within same short (lasts_too_long u t i running there plain more) = absurd m
  settles s stage put points k (Ends last other) n progress place m e within same short (rests u) = absurd m
  settles s stage put points k (Ends last other) n progress place m e within same short (run_ends u o) =
      let end = same-end last final other outcome e in
      record {
        output = m.1.output ∙ ap (λ (x : Stage). x.output) end.0;
        points = omega (arith, m.1.points, m.1.stage_points, same, ap (λ (x : Stage). x.points) end.0);
        instructions = m.1.instructions ∙ ap (λ (x : Stage). x.instructions) end.0;
        ended = m.0 ∙ end.1;
      }
  settles s stage put points k Strays n progress place m e within same short settled = absurd (strays_not_ends final outcome e)

  carries : (input : List ℕ) (s : State) (stage : Stage) (put bytes : List ℕ) (i : Instr) (k : ℕ) (place : Place) → p.places ≡ map in_first_file lines → Alone s stage put → slice_get p.code stage.regs.pc ≡ Some i → Rest stage
      → s.points ≡ stage.points + points_by i.op → k ≤ stage.instructions → Carries_out p input (k + 1) s bytes place → OnCourse place (put ++ bytes)
  carries input s stage put bytes i k place places a there r same short c =
      let regs = has-regs s stage put c.thread a c.running in
      let own : c.instruction ≡ i = some-instr c.instruction i (sym (same-code c.thread.regs stage (Some c.instruction) regs c.stands) ∙ there) in
      let f = first stage c.instruction (same-code c.thread.regs stage (Some c.instruction) regs c.stands) r in
      let m = acts_match p input lines c.thread c.instruction s stage put bytes c.progress c.instruction.op refl places a regs c.does in
      settles s stage (put ++ bytes) (points_by c.instruction.op) k (acts c.instruction.op c.instruction lines stage) f.steps c.progress place m f.more f.within
      (same ∙ ap (λ (x : Instr). stage.points + points_by x.op) (sym own)) short c.settles

  -- ---- a point

  -- nothing is collected
  not-collected : (s : State) (asked : Bool) (o : Option State) (u : State) → Collected_if p s asked o → asked ≡ false → o ≡ Some u → u ≡ s
  not-collected s asked o u left e f = sym (some-state s u f)
  not-collected s asked o u (made v c) e f = absurd (true-false e)
  not-collected s asked o u stuck e f = absurd (true-false e)

  no-trap : (s : State) (asked : Bool) (o : Option State) → Collected_if p s asked o → asked ≡ false → o ≡ None → ⊥
  no-trap s asked o left e f = not-none-state s f
  no-trap s asked o (made v c) e f = true-false e
  no-trap s asked o stuck e f = true-false e

  may-go : (all : Everyone) (memory : Memory) (n : ℕ) (t : Thread) → thread_named all n ≡ Some t → t.status ≡ ReadyStatus → may_go all memory n ≡ true
  may-go all memory n t there ready =
      ap (λ (o : Option Thread). may_go_if (held all memory) o) there ∙ ap (λ (x : Status). may_go_at x t (held all memory)) ready

  goes-alone : (s : State) (stage : Stage) (put : List ℕ) (memory : Memory) → Alone s stage put → may_go s.all memory s.running ≡ true
  goes-alone s stage put memory a = may-go s.all memory s.running a.thread (found s stage put a) a.ready

  somebody : (s : State) (stage : Stage) (put : List ℕ) (memory : Memory) → Alone s stage put → NoneGoes s.all memory → ⊥
  somebody s stage put memory a none = true-false (sym (goes-alone s stage put memory a) ∙ none s.running)

  -- a point was passed, and the one thread was chosen
  chosen-alone : (s ready turn : State) (chosen : ℕ) (stage : Stage) (put : List ℕ) → Alone s stage put → ready ≡ point_passed s → turn ≡ runs_on ready chosen → chosen ≡ s.running
      → Alone turn stage put × (turn.points ≡ (point_passed s).points)
  chosen-alone s ready turn chosen stage put a e f g =
      let same : turn ≡ runs_on (point_passed s) s.running = f ∙ ap (λ (x : State). runs_on x chosen) e ∙ ap (runs_on (point_passed s)) g in
      subst (λ (x : State). Alone x stage put × (x.points ≡ (point_passed s).points)) (sym same)
      (record { thread = a.thread; only = a.only; number = a.number; running = a.running; ready = a.ready; regs = a.regs; output = a.output; instructions = a.instructions }, refl)

  same-choice : (s ready : State) (chosen : ℕ) (stage : Stage) (put : List ℕ) → Alone s stage put → ready ≡ point_passed s → IsChoice ready.all (outside p ready) None ready.running (Some chosen) → chosen ≡ s.running
  same-choice s ready chosen stage put a e choice =
      let goes : may_go ready.all (outside p ready) ready.running ≡ true = ap (λ (x : State). may_go x.all (outside p x) x.running) e ∙ goes-alone s stage put (outside p (point_passed s)) a in
      some-number chosen ready.running (choice.stays refl goes) ∙ ap (λ (x : State). x.running) e

  one-point : (s : State) (i : Instr) (stage : Stage) → s.points ≡ stage.points → is_point i.op ≡ true → s.points + 1 < 2 ^ 64 → (point_passed s).points ≡ stage.points + points_by i.op
  one-point s i stage same point small = let one : points_by i.op ≡ 1 = ap (λ b. cond b 1 0) point in omega (arith, same, one, small)

  one-further : (stage : Stage) (i : Instr) → First stage i → is_point i.op ≡ true → stage.points + 1 ≤ final.points
  one-further stage i f point = let one : points_by i.op ≡ 1 = ap (λ b. cond b 1 0) point in omega (arith, one, points-further stage i f)

  turns : (input : List ℕ) (s turn : State) (put bytes : List ℕ) (place : Place) → p.places ≡ map in_first_file lines → final.points < 2 ^ 64 → At s put true
      → Chooses p (first_entry []) s turn → Carries_out p input 1 turn bytes place → OnCourse place (put ++ bytes)
  turns input s turn put bytes place places small at c carried =
      let same = not-collected (point_passed s) false (Some c.ready) c.ready c.collected refl refl in
      let own = same-choice s c.ready c.chosen at.stage put at.alone same c.choice in
      let alone = chosen-alone s c.ready turn c.chosen at.stage put at.alone same c.turns own in
      let further = one-further at.stage at.instruction (first at.stage at.instruction at.there at.rest) at.kind in
      carries input turn at.stage put bytes at.instruction 0 place places alone.0 at.there at.rest
      (alone.1 ∙ one-point s at.instruction at.stage at.points at.kind (omega (arith, at.points, further, small))) (omega arith) carried

  -- at a point the run doesn't stop
  stops-not : (s u : State) (put : List ℕ) (o : Outcome) → At s put true → StopsAtPoint p (first_entry []) s u o → ⊥
  stops-not s u put o at (nobody none) = somebody s at.stage put (outside p s) at.alone none
  stops-not s u put o at (trapped v some c spoils) = no-trap (point_passed s) false None c refl refl
  stops-not s u put o at (nobody_left ready some c none) =
      let same = not-collected (point_passed s) false (Some ready) ready c refl refl in
      let goes : may_go ready.all (outside p ready) ready.running ≡ true = ap (λ (x : State). may_go x.all (outside p x) x.running) same ∙ goes-alone s at.stage put (outside p (point_passed s)) at.alone in
      true-false (sym goes ∙ none ready.running)

  -- ---- the run

  pub record On (c : Config) : Type 0 where
    pub entries : c.entries ≡ []
    pub course : OnCourse c.place c.output

  abbrev none-later : (entries : List Entry) → entries ≡ [] → later_entries entries ≡ []
  none-later entries e = ap later_entries e

  moves-on : (input : List ℕ) (allowed : ℕ) (c d : Config) → p.places ≡ map in_first_file lines → final.points ≤ allowed → allowed < 2 ^ 64 → On c → Moves p input allowed c d → On d
  moves-on input allowed c d places enough small on (in_turn s k b bytes place e carried) =
      let turn = subst (λ (x : Place). OnCourse x b.output) e on.course in
      let at = turn.at in
      let none : points_by at.instruction.op ≡ 0 = ap (λ b. cond b 1 0) at.kind in
      record {
        entries = on.entries;
        course = carries input s at.stage b.output bytes at.instruction k place places at.alone at.there at.rest (omega (arith, at.points, none)) turn.short carried;
      }
  moves-on input allowed c d places enough small on (at_point s turn b bytes place e few chooses carried) =
      let at = subst (λ (x : Place). OnCourse x b.output) e on.course in
      let chooses' = subst (λ (es : List Entry). Chooses p (first_entry es) s turn) on.entries chooses in
      record { entries = none-later b.entries on.entries; course = turns input s turn b.output bytes place places (omega (arith, enough, small)) at chooses' carried }
  moves-on input allowed c d places enough small on (stops s u b o e few stop) =
      let at = subst (λ (x : Place). OnCourse x b.output) e on.course in
      absurd (stops-not s u b.output o at (subst (λ (es : List Entry). StopsAtPoint p (first_entry es) s u o) on.entries stop))
  moves-on input allowed c d places enough small on (spent s b o e used says) =
      let at = subst (λ (x : Place). OnCourse x b.output) e on.course in
      let further = one-further at.stage at.instruction (first at.stage at.instruction at.there at.rest) at.kind in
      absurd (omega (arith, used, at.points, further, enough))

  pub leads-on : (input : List ℕ) (allowed : ℕ) (c d : Config) → p.places ≡ map in_first_file lines → final.points ≤ allowed → allowed < 2 ^ 64 → On c → Leads p input allowed c d → On d
  leads-on input allowed c d places enough small on (stays b) = on
  leads-on input allowed c d places enough small on (moves b m n first last) = moves-on input allowed m n places enough small (leads-on input allowed b m places enough small on first) last
