-- From the parts of `inspect` to what it answers.
use Rattle.std.proofs.Common.{◌≡◌, ℕ, Bool, true, false, List, Option, refl, sym, ap, subst, inl, inr, arith}
use Rattle.std.specs.Prelude.{Result, Ok, Err, IsOk, IsErr, is_some}
use Rattle.m3_base.specs.Schedules.{IsSchedule}
use Rattle.m3_base.specs.declared.outcomes.Entry.{Entry}
use Rattle.m3_base.specs.declared.outcomes.Outcome.{Outcome}
use Rattle.m3_base.specs.declared.outcomes.Outcome.TheVariants.{Done, Fault, Uncaught, Deadlock, ThreadsFull, Spent, HeapFull, StackFull, Trap}
use Rattle.m3_heap.specs.Heap.{Heap}
use Rattle.m3_generational.specs.First.{first_heap}
use Rattle.m3_threads.specs.All.{Everyone}
use Rattle.m3_image.specs.Images.{read_of}
use Rattle.m3_image_sections.specs.Parts.{Image, Program}
use Rattle.m3_image_sections.specs.declared.refusal.ImageRefusal.{ImageRefusal}
use Rattle.m3_run_meaning.specs.State.{State}
use Rattle.m3_run_meaning.specs.Runs.{Begins}
use Rattle.m3_machine.specs.RunCalls.{Ran}
use Rattle.m3_inspect.specs.declared.values.View.{View}
use Rattle.m3_inspect.specs.declared.views.ViewRefused.{ViewRefused}
use Rattle.m3_inspect.specs.declared.views.ViewRefused.TheVariants.{Frame}
use Rattle.m3_inspect.specs.Shown.{shown_of, IsShown, IsUnframed, Refuses}
use Rattle.m3_inspect.specs.Texts.{text_of}
use Rattle.m3c_image_commands.specs.declared.answers.Answer.{Answer}
use Rattle.m3c_image_commands.specs.declared.answers.Refusal.{Refusal}
use Rattle.m3c_image_commands.specs.Statuses.{Shelving, Putting, StoresNothing, PutsNothing, IsRead, IsGiven, image_cap}
use Rattle.m3c_image_commands.specs.Refusals.{RefusesImage, RefusesSchedule}
use Rattle.m3c_image_commands.specs.Reports.{Setting, end_status}
use Rattle.m3c_image_commands.specs.ImageCommands.{by_schedule, on_input}
use Rattle.m3c_image_commands.proofs.RunLemmas.{run_of}
use Rattle.m3c_inspect_command.specs.Inspecting.{Stops, is_spent, shown_line, end_line, Inspected, shown, unframed, ended, InspectsView, PutsText, ShowsState, state_shown, state_unframed, Shows, InspectAnswer, image_refused, inspected, BytesAnswer, CutsBytes, InspectsBytes, Inspects}

-- ---- the state that is left

pub text_shown : (i j : Image) (young tells : Bool) (to : State) (out : Putting) (answer : Answer) (v : View) (result : Result Answer Refusal) → j ≡ i → IsShown j to.all to.globals (shown_of v) → answer.status ≡ 0 → answer.line.items ≡ shown_line young tells to → PutsText (text_of i (shown_of v)) answer out result
    → Shows i young tells to out result
text_shown i j young tells to out answer v (Ok a) same is status line h =
    let here = subst (λ (x : Image). IsShown x to.all to.globals (shown_of v)) same is in
    subst (λ (x : Answer). ShowsState i young tells to out x.status x.line.items) (sym h.0)
    (subst (λ (n : ℕ). ShowsState i young tells to out n answer.line.items) (sym status) (subst (λ (l : List ℕ). ShowsState i young tells to out 0 l) (sym line) (state_shown (shown_of v) here h.1)))
text_shown i j young tells to out answer v (Err r) same is status line (inl none) = inl none
text_shown i j young tells to out answer v (Err r) same is status line (inr failed) = inr (record {
  s = shown_of v;
  shown = subst (λ (x : Image). IsShown x to.all to.globals (shown_of v)) same is;
  lacks = failed.0;
  rose = failed.1;
  front = failed.2;
})

pub frame_told : (i j : Image) (young tells : Bool) (to : State) (out : Putting) (status : ℕ) (line : List ℕ) (number : ℕ) → j ≡ i → IsUnframed j to.all number → status ≡ 17 → line ≡ end_line i young tells (Trap 9) to → PutsNothing out → ShowsState i young tells to out status line
frame_told i j young tells to out status line number same is s l nothing =
    let here = subst (λ (x : Image). IsUnframed x to.all number) same is in
    subst (λ (n : ℕ). ShowsState i young tells to out n line) (sym s) (subst (λ (x : List ℕ). ShowsState i young tells to out 17 x) (sym l) (state_unframed number here nothing))

-- the thread that is told of
pub unframed_of : (i : Image) (all : Everyone) (e : ViewRefused) (number : ℕ) → e ≡ Frame number → Refuses i all e → IsUnframed i all number
unframed_of i all e number is h = subst (λ (x : ViewRefused). Refuses i all x) is h

-- ---- the run

pub stops_of : (i : Image) (setting : Setting) (p : Program) (input : List ℕ) (heap : Heap) (start to : State) (outcome : Outcome) (bytes : List ℕ) → p ≡ i.program → input ≡ setting.input → heap ≡ first_heap setting.young setting.heap → Begins i.program heap setting.threads setting.stack start
    → Ran p input start setting.schedule setting.points bytes to outcome → Stops i setting to outcome
stops_of i setting p input heap start to outcome bytes program same empty begun ran = record { bytes = bytes; run = run_of i setting p input heap start to outcome bytes program same empty begun ran }

pub spent_if : (outcome : Outcome) → is_spent outcome ≡ true → outcome ≡ Spent
spent_if Spent e = refl
spent_if Done e = absurd cc
spent_if (Fault kind file line) e = absurd cc
spent_if (Uncaught exception) e = absurd cc
spent_if Deadlock e = absurd cc
spent_if ThreadsFull e = absurd cc
spent_if HeapFull e = absurd cc
spent_if StackFull e = absurd cc
spent_if (Trap n) e = absurd cc

pub other_if : (outcome : Outcome) → is_spent outcome ≡ false → outcome ≡ Spent → ⊥
other_if outcome e same = let f : is_spent outcome ≡ true = ap is_spent same in absurd cc

of_state : (i : Image) (setting : Setting) (tells : Bool) (out : Putting) (to : State) (status : ℕ) (line : List ℕ) → Stops i setting to Spent → ShowsState i setting.young tells to out status line → Inspected i setting tells out status line
of_state i setting tells out to _ _ stops (state_shown s is took) = shown to s stops is took
of_state i setting tells out to _ _ stops (state_unframed number is nothing) = unframed to number stops is nothing

pub points_used : (i : Image) (setting : Setting) (tells : Bool) (out : Putting) (to : State) (result : Result Answer Refusal) → Stops i setting to Spent → Shows i setting.young tells to out result → InspectsView i setting tells out result
points_used i setting tells out to (Ok a) stops h = of_state i setting tells out to a.status a.line.items stops h
points_used i setting tells out to (Err r) stops (inl none) = inl none
points_used i setting tells out to (Err r) stops (inr failed) = inr (record { to = to; s = failed.s; stops = stops; shown = failed.shown; lacks = failed.lacks; rose = failed.rose; front = failed.front })

pub other_end : (i : Image) (setting : Setting) (tells : Bool) (out : Putting) (to : State) (outcome : Outcome) (status : ℕ) (line : List ℕ) → Stops i setting to outcome → (outcome ≡ Spent → ⊥) → PutsNothing out → status ≡ end_status outcome → line ≡ end_line i setting.young tells outcome to → Inspected i setting tells out status line
other_end i setting tells out to outcome status line stops other nothing s l =
    subst (λ (n : ℕ). Inspected i setting tells out n line) (sym s) (subst (λ (x : List ℕ). Inspected i setting tells out (end_status outcome) x) (sym l) (ended to outcome stops other nothing))

-- only Spent has the status 14
fourteen : (outcome : Outcome) → (outcome ≡ Spent → ⊥) → end_status outcome ≡ 14 → ⊥
fourteen Done other e = omega (arith, e)
fourteen (Fault kind file line) other e = omega (arith, e)
fourteen (Uncaught exception) other e = omega (arith, e)
fourteen Deadlock other e = omega (arith, e)
fourteen ThreadsFull other e = omega (arith, e)
fourteen Spent other e = other refl
fourteen HeapFull other e = omega (arith, e)
fourteen StackFull other e = omega (arith, e)
fourteen (Trap n) other e = omega (arith, e)

pub never_fourteen : (i : Image) (setting : Setting) (tells : Bool) (out : Putting) (status : ℕ) (line : List ℕ) → Inspected i setting tells out status line → status ≡ 14 → ⊥
never_fourteen i setting tells out _ _ (shown to s stops is took) e = omega (arith, e)
never_fourteen i setting tells out _ _ (unframed to number stops is nothing) e = omega (arith, e)
never_fourteen i setting tells out _ _ (ended to outcome stops other nothing) e = fourteen outcome other e

-- ---- bytes

not_both : (r : Result Image ImageRefusal) → IsErr r → IsOk r → ⊥
not_both (Ok i) h k = absurd cc
not_both (Err e) h k = absurd cc

module _ (bytes switches : List ℕ) (setting : Setting) (tells : Bool) (out : Putting) where
  pub inspects_image : (result : Result Answer Refusal) (i : Image) (schedule : List Entry) → read_of bytes ≡ Ok i → IsSchedule switches schedule → InspectsView i (by_schedule setting schedule) tells out result → InspectsBytes bytes switches setting tells out result
  inspects_image (Ok a) i schedule e is h = inl (schedule, (λ good. is), inspected i a.status a.line.items e h)
  inspects_image (Err r) i schedule e is (inl none) = inl none
  inspects_image (Err r) i schedule e is (inr failed) = inr (i, schedule, e, is, failed)

  pub refuses_bytes : (result : Result Answer Refusal) → RefusesImage bytes result → IsErr (read_of bytes) → PutsNothing out → InspectsBytes bytes switches setting tells out result
  refuses_bytes (Ok a) h bad nothing =
      let refused = subst (λ s. InspectAnswer bytes setting tells out s a.line.items) (sym h.2) (subst (λ l. InspectAnswer bytes setting tells out 8 l) (sym h.3) (image_refused h.0 h.1 nothing)) in
      inl (setting.schedule, (λ good. absurd (not_both (read_of bytes) bad good)), refused)
  refuses_bytes (Err r) h bad nothing = inl (h, nothing)

  pub refuses_switches : (result : Result Answer Refusal) → RefusesSchedule switches result → IsOk (read_of bytes) → PutsNothing out → InspectsBytes bytes switches setting tells out result
  refuses_switches (Ok a) h good nothing = inr ((h.0, h.1, nothing), good)
  refuses_switches (Err r) h good nothing = inl (h, nothing)

-- ---- files

module _ (shelf : Shelving) (out : Putting) (name : List ℕ) (switches input : Option (List ℕ)) (limits : Setting) (image : List ℕ) where
  pub inspects_fetched : (result : Result Answer Refusal) (bytes given text read taken : List ℕ) (tells : Bool) → bytes ≡ image → given ≡ text → read ≡ taken → tells ≡ is_some switches → StoresNothing shelf
      → IsRead shelf.held.0 name image_cap image → IsGiven shelf.held.0 switches text → IsGiven shelf.held.0 input taken → InspectsBytes bytes given (on_input limits read) tells out result
      → Inspects shelf out name switches input limits image result
  inspects_fetched (Ok a) bytes given text read taken tells b v w e s r g k h = record {
    held = s;
    answer = (
      r,
      (
        text,
        taken,
        g,
        k,
        subst (λ t. BytesAnswer image text (on_input limits taken) t out a.status a.line.items) e
            (subst (λ x. BytesAnswer image text (on_input limits x) tells out a.status a.line.items) w
            (subst (λ x. BytesAnswer image x (on_input limits read) tells out a.status a.line.items) v (subst (λ x. BytesAnswer x given (on_input limits read) tells out a.status a.line.items) b h))),
      ),
    );
    refusal = tt;
  }
  inspects_fetched (Err x) bytes given text read taken tells b v w e s r g k h = record {
    held = s;
    answer = tt;
    refusal = inr (
      r,
      (
        text,
        taken,
        g,
        k,
        subst (λ y. CutsBytes image text (on_input limits y) out x) w (subst (λ y. CutsBytes image y (on_input limits read) out x) v (subst (λ y. CutsBytes y given (on_input limits read) out x) b h)),
      ),
    );
  }
