-- From the parts of a command over an image to what it answers.
use Rattle.std.proofs.Common.{◌≡◌, ◌<◌, ◌+◌, ◌^◌, arith, ℕ, Bool, cond, true, false, List, [], Option, refl, sym, ◌∙◌, subst, inl, inr}
use Rattle.std.specs.Prelude.{Result, Ok, Err, IfSome, IsOk, IsErr, is_some, None, Some}
use Rattle.std.specs.Prelude.{◌++◌}
use Rattle.std.proofs.Common.{ap, append_assoc}
use Rattle.m3_ports.specs.Files.{IsFront, LeavesAtFault}
use Rattle.m3_ports.specs.declared.sinks.Sink.{Ghosts as SinkGhosts}
use Rattle.std.specs.Option.{option_map}
use Rattle.m3_image.specs.Images.{read_of}
use Rattle.m3_base.specs.declared.outcomes.Outcome.{Outcome}
use Rattle.m3_heap.specs.Heap.{Heap}
use Rattle.m3_generational.specs.First.{first_heap}
use Rattle.m3_image_sections.specs.Parts.{Image, Program}
use Rattle.m3_run_meaning.specs.State.{State}
use Rattle.m3_run_meaning.specs.Runs.{Begins, begins, Leads, moves, starting}
use Rattle.m3_run_laws.specs.Stores.{IsLawful}
use Rattle.m3_run_state.specs.Cuts.{CutsOff}
use Rattle.m3_machine.specs.RunCalls.{Ran, RunOf}
use Rattle.m3_machine.specs.Faults.{RanToFault}
use Rattle.m3_image_dump.specs.Texts.{IsDump}
use Rattle.m3c_image_commands.specs.declared.answers.Answer.{Answer}
use Rattle.m3c_image_commands.specs.declared.answers.Refusal.{Refusal}
use Rattle.m3_base.specs.declared.outcomes.Entry.{Entry}
use Rattle.m3_base.specs.Schedules.{IsSchedule, IsFirstBadLine, HasTooMany}
use Rattle.m3_base.specs.ScheduleRefusals.{IsScheduleRefusal}
use Rattle.m3_base.specs.declared.schedules.ScheduleRefusal.{ScheduleRefusal}
use Rattle.m3_base.specs.declared.schedules.ScheduleRefusal.TheVariants.{BadLine, TooMany}
use Rattle.m3_image_sections.specs.declared.refusal.ImageRefusal.{ImageRefusal}
use Rattle.m3c_image_commands.specs.Reports.{Setting, Ended, RanAsFar, end_status, ending, counted}
use Rattle.m3c_image_commands.specs.Statuses.{Shelving, Putting, putting, StoresNothing, PutsNothing, Took, TookFront, RefusesBy, Unfetched, read_fault, no_memory as wants_memory, absent, too_long, LacksMemory, IsRead, IsGiven, image_cap}
use Rattle.m3c_image_commands.specs.Refusals.{image_line, bad_line, too_many, IsScheduleLine, of_bad_line, of_too_many, RefusesImage, RefusesSchedule}
use Rattle.m3c_image_commands.specs.ImageCommands.{by_schedule, on_input, Ends, ImageAnswer, image_refused, ended, RunsImage, BytesRanAsFar, RunsBytes, RunAnswer, OfRun, Runs, DumpAnswer, not_dumped, dumped, DumpsBytes, CutsDump, no_memory, Dumps}

-- the start of a run has passed no points
begins-first : (p : Program) (heap : Heap) (threads stack : ℕ) (s : State) → Begins p heap threads stack s → s.points ≡ 0
begins-first p heap threads stack s (begins i next) = refl

pub begins_first : (p : Program) (heap : Heap) (threads stack points : ℕ) (s : State) → Begins p heap threads stack s → points < 2 ^ 63 → s.points + points < 2 ^ 63
begins_first p heap threads stack points s begun few = let none = begins-first p heap threads stack s begun in omega (arith, none, few)

zero_either : (b : Bool) → ◌≡◌ {A = ℕ} (cond b 0 0) 0
zero_either true = refl
zero_either false = refl

-- a heap that was just made keeps the laws of a store
first_lawful : (young : Bool) (words : ℕ) → IsLawful (first_heap young words)
first_lawful false words = record {
  laws = record {
    half = refl;
    young = omega arith;
    some = omega arith;
    room = omega arith;
    placed = tt;
    apart = tt;
    free = omega arith;
    tenured = refl;
    watched = λ e. refl;
    minors = λ e. refl;
  };
  closed = refl;
}
first_lawful true words = record {
  laws = record {
    half = refl;
    young = omega arith;
    some = omega arith;
    room = omega arith;
    placed = tt;
    apart = tt;
    free = refl;
    tenured = refl;
    watched = λ e. zero_either _;
    minors = λ e. refl;
  };
  closed = refl;
}

-- the run of a machine that was made for it
pub ends_run : (i : Image) (setting : Setting) (tells : Bool) (out : Putting) (p : Program) (input : List ℕ) (heap : Heap) (start to : State) (outcome : Outcome) (status : ℕ) (line : List ℕ) → p ≡ i.program → input ≡ setting.input → heap ≡ first_heap setting.young setting.heap
    → Begins i.program heap setting.threads setting.stack start → (bytes : List ℕ) × Took out.taken bytes × Ran p input start setting.schedule setting.points bytes to outcome
    → status ≡ end_status outcome → line ≡ counted setting.young tells (ending i outcome) to → Ended i setting tells out status line
ends_run i setting tells out p input heap start to outcome status line program same empty begun ran by-status by-line = record {
  outcome = outcome;
  to = to;
  bytes = ran.0;
  run = record {
    start = start;
    begins = subst (λ (h : Heap). Begins i.program h setting.threads setting.stack start) empty begun;
    lawful = first_lawful setting.young setting.heap;
    ran = subst (λ (q : List ℕ). Ran i.program q start setting.schedule setting.points ran.0 to outcome) same (subst (λ (q : Program). Ran q input start setting.schedule setting.points ran.0 to outcome) program ran.2);
  };
  put = ran.1;
  by_status = by-status;
  by_line = by-line;
}

-- ---- a put that failed

regrouped : (had earlier part piece rest : List ℕ) → had ++ (earlier ++ ((part ++ piece) ++ rest)) ≡ ((had ++ (earlier ++ part)) ++ piece) ++ rest
regrouped had earlier part piece rest = sym
    (append_assoc (had ++ (earlier ++ part)) piece rest ∙ append_assoc had (earlier ++ part) (piece ++ rest)
    ∙ ap (λ (xs : List ℕ). had ++ xs) (append_assoc earlier part (piece ++ rest) ∙ ap (λ (xs : List ℕ). earlier ++ xs) (sym (append_assoc part piece rest))))

front-of : (before at after : Option (List ℕ)) (waiting : ℕ) (earlier part piece bytes : List ℕ) → IfSome before (λ had. at ≡ Some (had ++ (earlier ++ part))) → IsFront (part ++ piece) bytes
    → IfSome at (λ taken. (all : List ℕ) × LeavesAtFault waiting taken piece all × (after ≡ Some all)) → TookFront (before, after) (earlier ++ bytes)
front-of None at after waiting earlier part piece bytes took next left = tt
front-of (Some had) at after waiting earlier part piece bytes took next left =
    let l = subst (λ (o : Option (List ℕ)). IfSome o (λ taken. (all : List ℕ) × LeavesAtFault waiting taken piece all × (after ≡ Some all))) took left in
    let rest = next.0 in
    let same : had ++ (earlier ++ bytes) ≡ l.0 ++ (l.1.0.0 ++ rest) = ap (λ (xs : List ℕ). had ++ (earlier ++ xs)) next.1 ∙ regrouped had earlier part piece rest
    ∙ ap (λ (xs : List ℕ). xs ++ rest) l.1.0.1 ∙ append_assoc l.0 l.1.0.0 rest in
    (l.0, (l.1.0.0 ++ rest, same), l.2)

module _ {O : Type 0} (g : SinkGhosts O) (before after : O) where
  cut_front : (earlier bytes : List ℕ) → CutsOff g before after earlier bytes → TookFront (g.taken before, g.taken after) (earlier ++ bytes)
  cut_front earlier bytes h = front-of (g.taken before) (g.taken h.at) (g.taken after) (g.waiting h.at) earlier h.part h.piece bytes h.took h.next h.left

  pub ran_as_far : (i : Image) (setting : Setting) (p : Program) (input : List ℕ) (heap : Heap) (start : State) → p ≡ i.program → input ≡ setting.input → heap ≡ first_heap setting.young setting.heap
      → Begins i.program heap setting.threads setting.stack start → RanToFault g p input start setting.schedule setting.points before after → RanAsFar i setting (putting g before after)
  ran_as_far i setting p input heap start program same empty begun h =
      let allowed = start.points + setting.points in
      let from = starting start setting.schedule in
      let output : h.earlier ++ h.bytes ≡ h.next.output = sym (h.with_it ∙ ap (λ (o : List ℕ). o ++ h.bytes) h.so_far) in
      record {
        start = start;
        reached = h.next;
        begins = subst (λ (x : Heap). Begins i.program x setting.threads setting.stack start) empty begun;
        leads = subst (λ (q : List ℕ). Leads i.program q allowed from h.next) same (subst (λ (q : Program). Leads q input allowed from h.next) program (moves from h.last h.next h.leads h.puts));
        put = subst (λ (o : List ℕ). TookFront (g.taken before, g.taken after) o) output (cut_front h.earlier h.bytes h.cut);
      }

-- other refusals
pub memory_alone : (r : Refusal) → LacksMemory r → r.status ≡ 4 → ⊥
memory_alone r h e = let five = h.status in omega (arith, five, e)

pub unfetched_alone : (shelf : Shelving) (Reads : List ℕ → ℕ → Type 0) (status : ℕ) (front name : List ℕ) → Unfetched shelf Reads status front name → status ≡ 4 → ⊥
unfetched_alone shelf Reads status front name (read_fault n cap of rose) e = omega arith
unfetched_alone shelf Reads status front name wants_memory e = omega arith
unfetched_alone shelf Reads status front name (absent n cap of rose free) e = omega arith
unfetched_alone shelf Reads status front name (too_long n cap of rose over) e = omega arith

not_both : (r : Result Image ImageRefusal) → IsErr r → IsOk r → ⊥
not_both (Ok i) h k = absurd cc
not_both (Err e) h k = absurd cc

module _ (bytes : List ℕ) (setting : Setting) (tells : Bool) (out : Putting) where
  -- the run of the image that the bytes are
  pub ends_image : (result : Result Answer Refusal) (i : Image) → read_of bytes ≡ Ok i → Ends i setting tells out result → RunsImage bytes setting tells out result
  ends_image (Ok a) i e h = ended i a.status a.line.items e h
  ends_image (Err r) i e h = (h.0, λ status. (i, e, h.1 status))

  -- the refusal of bytes that are no image
  pub refuses_image : (result : Result Answer Refusal) → RefusesImage bytes result → PutsNothing out → RunsImage bytes setting tells out result
  refuses_image (Ok a) h p =
      subst (λ s. ImageAnswer bytes setting tells out s a.line.items) (sym h.2) (subst (λ l. ImageAnswer bytes setting tells out 8 l) (sym h.3) (image_refused h.0 h.1 p))
  refuses_image (Err r) h p = (inl (h, p), λ status. absurd (memory_alone r h status))

  -- by a schedule that the switches say, or of bytes that are no image
  pub image_bytes : (switches : List ℕ) (schedule : List Entry) (result : Result Answer Refusal) → (IsOk (read_of bytes) → IsSchedule switches schedule) → RunsImage bytes (by_schedule setting schedule) tells out result
      → RunsBytes bytes switches setting tells out result
  image_bytes switches schedule (Ok a) is h = inl (schedule, is, h)
  image_bytes switches schedule (Err r) is h =
      (h.0, λ status. let far = h.1 status in (schedule, is (subst (λ (x : Result Image ImageRefusal). IsOk x) (sym far.1) refl), far))

  pub refused_bytes : (switches : List ℕ) (result : Result Answer Refusal) → IsErr (read_of bytes) → RunsImage bytes setting tells out result → RunsBytes bytes switches setting tells out result
  refused_bytes switches (Ok a) bad h = inl (setting.schedule, (λ good. absurd (not_both (read_of bytes) bad good)), h)
  refused_bytes switches (Err r) bad h =
      (h.0, λ status. let far = h.1 status in absurd (not_both (read_of bytes) bad (subst (λ (x : Result Image ImageRefusal). IsOk x) (sym far.1) refl)))

pub is_some_named : {A B : Type 0} (f : A → B) (o : Option A) → is_some o ≡ is_some (option_map f o)
is_some_named f None = refl
is_some_named f (Some x) = refl

module _ (shelf : Shelving) (out : Putting) (name : List ℕ) where
  module _ (switches input : Option (List ℕ)) (limits : Setting) (image : List ℕ) where
    pub runs_fetched : (result : Result Answer Refusal) (bytes given text read taken : List ℕ) (tells : Bool) → bytes ≡ image → given ≡ text → read ≡ taken → tells ≡ is_some switches → StoresNothing shelf
        → IsRead shelf.held.0 name image_cap image → IsGiven shelf.held.0 switches text → IsGiven shelf.held.0 input taken → RunsBytes bytes given (on_input limits read) tells out result
        → Runs shelf out name switches input limits image result
    runs_fetched (Ok a) bytes given text read taken tells b v w e s r g k h = record {
      held = s;
      answer = (
        r,
        (
          text,
          taken,
          g,
          k,
          subst (λ t. RunAnswer image text (on_input limits taken) t out a.status a.line.items) e
              (subst (λ x. RunAnswer image text (on_input limits x) tells out a.status a.line.items) w
              (subst (λ x. RunAnswer image x (on_input limits read) tells out a.status a.line.items) v (subst (λ x. RunAnswer x given (on_input limits read) tells out a.status a.line.items) b h))),
        ),
      );
      refusal = tt;
      cut = tt;
    }
    runs_fetched (Err x) bytes given text read taken tells b v w e s r g k h = record {
      held = s;
      answer = tt;
      refusal = inr h.0;
      cut = λ status. (
        r,
        (
          text,
          taken,
          g,
          k,
          subst (λ y. BytesRanAsFar image text (on_input limits y) out) w
              (subst (λ y. BytesRanAsFar image y (on_input limits read) out) v (subst (λ y. BytesRanAsFar y given (on_input limits read) out) b (h.1 status))),
        ),
      );
    }

    pub runs_unfetched : (r : Refusal) → StoresNothing shelf → Unfetched shelf (OfRun shelf.held.0 name switches input) r.status r.front.now r.name.now → PutsNothing out
        → Runs shelf out name switches input limits image (Err r)
    runs_unfetched r held unfetched nothing = record {
      held = held;
      answer = tt;
      refusal = inl (unfetched, nothing);
      cut = λ status. absurd (unfetched_alone shelf (OfRun shelf.held.0 name switches input) r.status r.front.now r.name.now unfetched status);
    }

pub refuses_dump : (bytes : List ℕ) (out : Putting) (result : Result Answer Refusal) → RefusesImage bytes result → PutsNothing out → DumpsBytes bytes out result
refuses_dump bytes out (Ok a) h p = subst (λ s. DumpAnswer bytes out s a.line.items) (sym h.2) (subst (λ l. DumpAnswer bytes out 8 l) (sym h.3) (not_dumped h.0 h.1 p))
refuses_dump bytes out (Err r) h p = no_memory h p

-- the line of a refusal
pub refused_image : (bytes : List ℕ) (refusal : ImageRefusal) (result : Result Answer Refusal) → read_of bytes ≡ Err refusal → RefusesBy 8 (image_line refusal) result → RefusesImage bytes result
refused_image bytes refusal (Ok a) e h = (refusal, e, h.0, h.1)
refused_image bytes refusal (Err r) e h = h

first_bad : (text : List ℕ) (refusal : ScheduleRefusal) (number : ℕ) → refusal ≡ BadLine number → IsScheduleRefusal text refusal → IsFirstBadLine text number
first_bad text refusal number e h = subst (λ (r : ScheduleRefusal). IsScheduleRefusal text r) e h

has_more : (text : List ℕ) (refusal : ScheduleRefusal) → refusal ≡ TooMany → IsScheduleRefusal text refusal → HasTooMany text
has_more text refusal e h = subst (λ (r : ScheduleRefusal). IsScheduleRefusal text r) e h

pub refused_bad_line : (text : List ℕ) (refusal : ScheduleRefusal) (number : ℕ) (result : Result Answer Refusal) → refusal ≡ BadLine number → IsScheduleRefusal text refusal → RefusesBy 9 (bad_line number) result → RefusesSchedule text result
refused_bad_line text refusal number (Ok a) e r h = (h.0, subst (λ (l : List ℕ). IsScheduleLine text l) (sym h.1) (of_bad_line number (first_bad text refusal number e r)))
refused_bad_line text refusal number (Err x) e r h = h

pub refused_too_many : (text : List ℕ) (refusal : ScheduleRefusal) (result : Result Answer Refusal) → refusal ≡ TooMany → IsScheduleRefusal text refusal → RefusesBy 9 too_many result → RefusesSchedule text result
refused_too_many text refusal (Ok a) e r h = (h.0, subst (λ (l : List ℕ). IsScheduleLine text l) (sym h.1) (of_too_many (has_more text refusal e r)))
refused_too_many text refusal (Err x) e r h = h

-- the text of an image that was put
pub dumps_text : (bytes text line : List ℕ) (i : Image) (out : Putting) (status : ℕ) → status ≡ 0 → line ≡ [] → read_of bytes ≡ Ok i → IsDump i text → Took out.taken text
    → DumpAnswer bytes out status line
dumps_text bytes text line i out status s l same told took =
    subst (λ x. DumpAnswer bytes out x line) (sym s) (subst (λ x. DumpAnswer bytes out 0 x) (sym l) (dumped i text same told took))

-- a put of the text failed
pub front_taken : (before after : Option (List ℕ)) (waiting : ℕ) (piece : List ℕ) → IfSome before (λ bytes. (all : List ℕ) × LeavesAtFault waiting bytes piece all × (after ≡ Some all)) → TookFront (before, after) piece
front_taken None after waiting piece h = tt
front_taken (Some b) after waiting piece h = (h.0, h.1.0, h.2)

pub dumps_fetched : (shelf : Shelving) (out : Putting) (name image bytes : List ℕ) (result : Result Answer Refusal) → bytes ≡ image → StoresNothing shelf → IsRead shelf.held.0 name image_cap image → DumpsBytes bytes out result → Dumps shelf out name image result
dumps_fetched shelf out name image bytes (Ok a) e s r h = record { held = s; answer = (r, subst (λ (x : List ℕ). DumpAnswer x out a.status a.line.items) e h); refusal = tt }
dumps_fetched shelf out name image bytes (Err x) e s r h = record { held = s; answer = tt; refusal = inr (r, subst (λ (y : List ℕ). CutsDump y out x) e h) }

-- the run of a machine that was made for it, whatever became of its output
pub run_of : (i : Image) (setting : Setting) (p : Program) (input : List ℕ) (heap : Heap) (start to : State) (outcome : Outcome) (bytes : List ℕ) → p ≡ i.program → input ≡ setting.input → heap ≡ first_heap setting.young setting.heap → Begins i.program heap setting.threads setting.stack start
    → Ran p input start setting.schedule setting.points bytes to outcome → RunOf i.program (first_heap setting.young setting.heap) setting.threads setting.stack setting.points setting.schedule setting.input bytes to outcome
run_of i setting p input heap start to outcome bytes program same empty begun ran = record {
  start = start;
  begins = subst (λ (h : Heap). Begins i.program h setting.threads setting.stack start) empty begun;
  lawful = first_lawful setting.young setting.heap;
  ran = subst (λ (q : List ℕ). Ran i.program q start setting.schedule setting.points bytes to outcome) same (subst (λ (q : Program). Ran q input start setting.schedule setting.points bytes to outcome) program ran);
}
