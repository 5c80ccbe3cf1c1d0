-- From the parts of a command over sources to what it answers.
use Rattle.std.proofs.Common.{◌≡◌, ℕ, ◌≤◌, Bool, List, [], ◌∷◌, ◌++◌, Option, None, Some, refl, sym, ap, ◌∙◌, subst, inl, inr, ◌⊎◌, arith, map, slice_index_or}
use Rattle.std.specs.Prelude.{Result, Ok, Err, IfOk, IfErr, IsOk, IsErr, is_some, IfSome}
use Rattle.std.specs.Option.{option_map}
use Rattle.std.specs.FinMap.{insert}
use Rattle.std.proofs.lemmas.Bool.{false≢true}
use Rattle.m3_ports.specs.Counts.{Rose}
use Rattle.m3_ports.specs.Files.{Files, LeavesFront}
use Rattle.m3_ports.specs.declared.shelves.ShelfFault.{ShelfFault}
use Rattle.m3_ports.specs.declared.shelves.ShelfFault.TheVariants.{Absent, TooLong, Failed, NoMemory}
use Rattle.m3_base.specs.declared.refusals.Refusal.{Refusal as Broken}
use Rattle.m3_base.specs.declared.refusals.Refused.{Refused}
use Rattle.m3_base.specs.declared.refusals.Refused.TheVariants.{Rule}
use Rattle.m3_base.specs.Schedules.{IsSchedule, lines_of}
use Rattle.m3_base.specs.declared.outcomes.Entry.{Entry}
use Rattle.m3c_image_commands.specs.Reports.{Setting, setting_of}
use Rattle.m3_image.specs.Images.{read_of}
use Rattle.m3c_image_commands.specs.declared.answers.Answer.{Answer}
use Rattle.m3c_image_commands.specs.declared.answers.Refusal.{Refusal}
use Rattle.m3c_image_commands.specs.Statuses.{Shelving, Putting, StoresNothing, StoresFront, PutsNothing, Fetches, IsGiven, OfOptions, LacksMemory, LacksOutput}
use Rattle.m3c_image_commands.specs.Refusals.{IsScheduleLine, of_bad_line, of_too_many, RefusesSchedule}
use Rattle.m3_image_sections.specs.Parts.{Image}
use Rattle.m3_image_sections.specs.declared.refusal.ImageRefusal.{ImageRefusal}
use Rattle.m3c_image_commands.proofs.FetchLemmas.{Follows, Rises, Among, joined, options_before}
use Rattle.m3c_image_commands.proofs.RunLemmas.{memory_alone, unfetched_alone}
use Rattle.m3c_image_commands.specs.ImageCommands.{ImageAnswer, image_refused, ended, RunsImage, by_schedule, on_input}
use Rattle.m3c_words.specs.declared.limits.Limits.{Limits}
use Rattle.m3c_words.specs.Ranges.{AreOfBench}
use Rattle.m3c_source_commands.specs.Orders.{Order, Fulfils, bench_setting}
use Rattle.m3c_source_commands.specs.Judging.{Judgement, MaySay}
use Rattle.m3c_source_commands.specs.SourceCommands.{AreAccepted, AreAllRead, AreTextsOf, OfFiles, IsImageOf, IsNotPlain, RefusesFiles, RefusesRule, RefusesSources, TellsRefused, Stores, BuildAnswer, not_built, stored, Builds, ExecAnswer, not_run, no_schedule, run_ended, ExecsTexts, OfExec, Execs}

pub never_both : {A E : Type 0} (r : Result A E) → IsOk r → IsErr r → ⊥
never_both (Ok x) h e = false≢true e
never_both (Err x) h e = false≢true h

pub is_ok : {A E : Type 0} (r : Result A E) (x : A) → r ≡ Ok x → IsOk r
is_ok r x e = subst (λ s. IsOk s) (sym e) refl

pub if_ok : {A E P : Type 0} (r : Result A E) → IsOk r → IfOk r (λ _. P) → P
if_ok (Ok x) h p = p
if_ok (Err e) h p = absurd (false≢true h)

same_head : (x y : List ℕ) → x ∷ [] ≡ y ∷ [] → x ≡ y
same_head x y e = cc

-- the only one of some texts
pub only_one : {V : Type 0} (items : V → List ℕ) (all slice : List V) (v : V) (text : List ℕ) → slice ≡ all → v ≡ slice_index_or slice 0 v → map items all ≡ text ∷ [] → text ≡ items v
only_one items [] slice v text e is one = absurd (cc)
only_one items (x ∷ []) slice v text e is one =
    let first : v ≡ x = is ∙ ap (λ xs. slice_index_or xs 0 v) e in
    same_head text (items x) (sym one) ∙ ap items (sym first)
only_one items (x ∷ y ∷ rest) slice v text e is one = absurd (cc)

-- ---- refusals

-- the line of the rule that the checker tells
rule_told : (Says : Option Broken → Type 0) (files : List (List ℕ)) (refused : Refused) (broken : Broken) → refused ≡ Rule broken → MaySay Says refused → Says (Some broken)
rule_told Says files refused broken e h = subst (λ (r : Refused). MaySay Says r) e h

pub tells_rule : (Says : Option Broken → Type 0) (files : List (List ℕ)) (refused : Refused) (result : Result Answer Refusal) → MaySay Says refused → TellsRefused files refused result → RefusesRule Says files result
tells_rule Says files refused (Ok a) may h = (h.0, record { broken = h.1; judged = rule_told Says files refused h.1 h.2 may; told = h.3 })
tells_rule Says files refused (Err r) may h = h

-- sources that break a rule, or whose switches are no schedule
pub by_rule : (Says : Option Broken → Type 0) (files : List (List ℕ)) (switches : List ℕ) (result : Result Answer Refusal) → RefusesRule Says files result → RefusesSources Says files switches result
by_rule Says files switches (Ok a) h = inl h
by_rule Says files switches (Err r) h = h

pub by_schedule_line : (Says : Option Broken → Type 0) (files : List (List ℕ)) (switches : List ℕ) (result : Result Answer Refusal) → Says None → RefusesSchedule switches result → RefusesSources Says files switches result
by_schedule_line Says files switches (Ok a) accepted h = inr (h.0, accepted, h.1)
by_schedule_line Says files switches (Err r) accepted h = h

nothing_in : (good rest : List (List ℕ)) (line : List ℕ) → [] ≡ good ++ line ∷ rest → ⊥
nothing_in [] rest line e = cc
nothing_in (g ∷ good) rest line e = cc

-- what one says of them is said by another
pub refused_too : (Says Tells : Option Broken → Type 0) (files : List (List ℕ)) (switches : List ℕ) (result : Result Answer Refusal) → ((said : Option Broken) → Says said → Tells said) → RefusesSources Says files switches result → RefusesSources Tells files switches result
refused_too Says Tells files switches (Ok a) on (inl one) = inl (one.0, record { broken = one.1.broken; judged = on (Some one.1.broken) one.1.judged; told = one.1.told })
refused_too Says Tells files switches (Ok a) on (inr nine) = inr (nine.0, on None nine.1, nine.2)
refused_too Says Tells files switches (Err r) on h = h

-- of files of which none is the only one with a text in the plain form
pub files_refused : (judges : Judgement) (files texts : List (List ℕ)) (switches : List ℕ) (result : Result Answer Refusal) → IsNotPlain files texts → RefusesSources (judges files texts) files switches result → RefusesFiles judges files texts switches result
files_refused judges files texts switches (Ok a) other (inl one) = inl (one.0, other, one.1)
files_refused judges files texts switches (Ok a) other (inr nine) = inr (nine.0, inr (other, nine.1), nine.2)
files_refused judges files texts switches (Err r) other h = h

pub files_refused_if : {A : Type 0} (judges : Judgement) (files names own texts written : List (List ℕ)) (switches : List ℕ) (result : Result A (Result Answer Refusal)) → names ≡ files → own ≡ files → written ≡ texts → IsNotPlain files texts
    → IfErr result (RefusesSources (judges own written) names switches) → IfErr result (RefusesFiles judges files texts switches)
files_refused_if judges files names own texts written switches (Ok x) e o w other h = h
files_refused_if judges files names own texts written switches (Err r) e o w other h =
    files_refused judges files texts switches r other
    (subst (λ (f : List (List ℕ)). RefusesSources (judges files texts) f switches r) e
    (subst (λ (f : List (List ℕ)). RefusesSources (judges f texts) names switches r) o
    (subst (λ (t : List (List ℕ)). RefusesSources (judges own t) names switches r) w h)))

-- the checker accepted them
pub accepted_as : (judges : Judgement) (files own texts written : List (List ℕ)) → own ≡ files → written ≡ texts → judges own written None → judges files texts None
accepted_as judges files own texts written o w h =
    subst (λ (f : List (List ℕ)). judges f texts None) o (subst (λ (t : List (List ℕ)). judges own t None) w h)

-- of one in the plain form nothing but the switches
switches_refused : (judges : Judgement) (files texts : List (List ℕ)) (switches : List ℕ) (result : Result Answer Refusal) → AreAccepted judges files texts → RefusesSchedule switches result → RefusesFiles judges files texts switches result
switches_refused judges files texts switches (Ok a) accepted h = inr (h.0, accepted, h.1)
switches_refused judges files texts switches (Err r) accepted h = h

pub switches_refused_if : {A : Type 0} (judges : Judgement) (files texts : List (List ℕ)) (switches : List ℕ) (result : Result A (Result Answer Refusal)) → AreAccepted judges files texts → IfErr result (RefusesSchedule switches) → IfErr result (RefusesFiles judges files texts switches)
switches_refused_if judges files texts switches (Ok x) accepted h = h
switches_refused_if judges files texts switches (Err r) accepted h = switches_refused judges files texts switches r accepted h

-- the empty text is a schedule
pub is_schedule : (line : List ℕ) → IsScheduleLine [] line → ⊥
unfolding lines_of
is_schedule line (of_bad_line number b) = nothing_in b.good b.rest b.bad b.lines
is_schedule line (of_too_many m) = nothing_in m.good m.rest m.next m.lines

-- ---- build

failed_other : Failed ≡ NoMemory → ⊥
failed_other e = cc

pub stores_refused : {A : Type 0} (shelf : Shelving) (name bytes : List ℕ) (r : Refusal) (fault : ShelfFault) (result : Result A ShelfFault) → result ≡ Err fault → (result ≡ Err Absent → ⊥) → (result ≡ Err TooLong → ⊥) → (result ≡ Err Failed → StoresFront shelf name bytes) → (result ≡ Err NoMemory → StoresNothing shelf)
    → (fault ≡ NoMemory → LacksMemory r) → ((fault ≡ NoMemory → ⊥) → LacksOutput r) → (LacksMemory r × StoresNothing shelf) ⊎ (LacksOutput r × StoresFront shelf name bytes)
stores_refused shelf name bytes r Absent result e a t f k m o = absurd (a e)
stores_refused shelf name bytes r TooLong result e a t f k m o = absurd (t e)
stores_refused shelf name bytes r Failed result e a t f k m o = inr (o failed_other, f e)
stores_refused shelf name bytes r NoMemory result e a t f k m o = inl (m refl, k e)

rose_on : (a b b' c : ℕ) → a ≤ b → b ≡ b' → Rose b' c → Rose a c
rose_on a b b' c h e (inl l) = inl (omega arith)
rose_on a b b' c h e (inr m) = inr m

-- a store behind fetches
module _ (a b : Shelving) (f : Follows a b) (k : Rises a) (name bytes : List ℕ) where
  before : b.held.0 ≡ a.held.0
  before = sym f.held ∙ k.held

  front_on : StoresFront b name bytes → StoresFront (joined a b) name bytes
  front_on (rose, left) = (
    rose_on a.store_faults.0 a.store_faults.1 b.store_faults.0 b.store_faults.1 k.store_faults f.store_faults rose,
    subst (λ (o : Option Files). IfSome o (λ old. IfSome b.held.1 (λ new. LeavesFront old new name bytes))) before left,
  )

  refused_on : (r : Refusal) → (LacksMemory r × StoresNothing b) ⊎ (LacksOutput r × StoresFront b name bytes) → (LacksMemory r × StoresNothing (joined a b)) ⊎ (LacksOutput r × StoresFront (joined a b) name bytes)
  refused_on r (inl l) = inl (l.0, l.1 ∙ before)
  refused_on r (inr l) = inr (l.0, front_on l.1)

  pub stores_on : (result : Result Answer Refusal) → Stores b name bytes result → Stores (joined a b) name bytes result
  stores_on (Ok x) h = (h.0, h.1, h.2 ∙ ap (λ (o : Option Files). option_map (λ files. insert files name bytes) o) before)
  stores_on (Err r) h = refused_on r h

module _ (judges : Judgement) (shelf : Shelving) (name : List ℕ) (files : List (List ℕ)) (image : List ℕ) where
  pub builds_refused : (texts : List (List ℕ)) (result : Result Answer Refusal) → AreTextsOf shelf.held.0 files texts → RefusesFiles judges files texts [] result → StoresNothing shelf → Builds judges shelf name files image result
  builds_refused texts (Ok a) r (inl one) s = (texts, r, subst (λ x. BuildAnswer judges shelf files texts name image x a.line.items) (sym one.0) (not_built a.line.items one.1 one.2 s))
  builds_refused texts (Ok a) r (inr nine) s = absurd (is_schedule a.line.items nine.2)
  builds_refused texts (Err x) r h s = inr (inl (h, s))

  builds_image : (texts : List (List ℕ)) (result : Result Answer Refusal) → AreTextsOf shelf.held.0 files texts → Stores shelf name image result → IsImageOf judges files texts image → Builds judges shelf name files image result
  builds_image texts (Ok a) r h ok =
      (texts, r, subst (λ x. BuildAnswer judges shelf files texts name image x a.line.items) (sym h.0) (subst (λ l. BuildAnswer judges shelf files texts name image 0 l) (sym h.1) (stored ok h.2)))
  builds_image texts (Err x) r (inl h) ok = inr (inl h)
  builds_image texts (Err x) r (inr h) ok = inr (inr (h.0, h.1, (texts, r)))

  pub builds_stored : (texts : List (List ℕ)) (bytes : List ℕ) (result : Result Answer Refusal) → bytes ≡ image → AreTextsOf shelf.held.0 files texts → Stores shelf name bytes result → IsImageOf judges files texts image → Builds judges shelf name files image result
  builds_stored texts bytes result e r h ok = builds_image texts result r (subst (λ (b : List ℕ). Stores shelf name b result) e h) ok

  pub builds_unfetched : {A : Type 0} (r : Refusal) → Fetches {A = A} shelf (OfFiles shelf.held.0 files) (Err r) → Builds judges shelf name files image (Err r)
  builds_unfetched r f = inl (f.unfetched, f.held)

-- the files that the sources have
pub named_files : (judges : Judgement) (files names texts : List (List ℕ)) (image : List ℕ) → names ≡ files → IsImageOf judges names texts image → IsImageOf judges files texts image
named_files judges files names texts image e h = subst (λ (f : List (List ℕ)). IsImageOf judges f texts image) e h

pub named_refused : (judges : Judgement) (files names texts : List (List ℕ)) (switches : List ℕ) (result : Result Answer Refusal) → names ≡ files → RefusesFiles judges names texts switches result → RefusesFiles judges files texts switches result
named_refused judges files names texts switches result e h = subst (λ (f : List (List ℕ)). RefusesFiles judges f texts switches result) e h

-- ---- exec

-- an image of files is one
pub is_image : (judges : Judgement) (files texts : List (List ℕ)) (image : List ℕ) → IsImageOf judges files texts image → IsOk (read_of image)
is_image judges files texts image (inl h) = subst (λ (r : Result Image ImageRefusal). IsOk r) (sym h.bytes) refl
is_image judges files texts image (inr h) = h.2

module _ (judges : Judgement) (files texts : List (List ℕ)) (image switches : List ℕ) (MayRunBy : List Entry → Type 0) (setting : Setting) (tells : Bool) (out : Putting) where
  pub execs_refused : (result : Result Answer Refusal) → RefusesFiles judges files texts switches result → PutsNothing out → ExecsTexts judges files texts image switches MayRunBy setting tells out result
  execs_refused (Ok a) (inl one) p = subst (λ x. ExecAnswer judges files texts image switches MayRunBy setting tells out x a.line.items) (sym one.0) (not_run a.line.items one.1 one.2 p)
  execs_refused (Ok a) (inr nine) p = no_schedule a.status a.line.items nine.1 (nine.0, nine.2, p)
  execs_refused (Err r) h p = (inl (h, p), λ status. absurd (memory_alone r h status))

  never_image : (refusal : ImageRefusal) → IsOk (read_of image) → read_of image ≡ Err refusal → ⊥
  never_image refusal ok e = never_both (read_of image) ok (subst (λ (r : Result Image ImageRefusal). IsErr r) (sym e) refl)

  module _ (schedule : List Entry) (may : MayRunBy schedule) where
    answer_ran : (status : ℕ) (line : List ℕ) → IsImageOf judges files texts image → ImageAnswer image (by_schedule setting schedule) tells out status line
        → ExecAnswer judges files texts image switches MayRunBy setting tells out status line
    answer_ran status line ok (image_refused r e p) = absurd (never_image r (is_image judges files texts image ok) e)
    answer_ran status line ok (ended i s l e r) = run_ended i schedule s l ok e may r

    runs_answer : (result : Result Answer Refusal) → IsImageOf judges files texts image → RunsImage image (by_schedule setting schedule) tells out result → ExecsTexts judges files texts image switches MayRunBy setting tells out result
    runs_answer (Ok a) ok h = answer_ran a.status a.line.items ok h
    runs_answer (Err r) ok h = (h.0, λ status. (schedule, ok, may, h.1 status))

    pub execs_ran : (bytes : List ℕ) (told : Bool) (done : Setting) (result : Result Answer Refusal) → bytes ≡ image → told ≡ tells → done ≡ by_schedule setting schedule → IsImageOf judges files texts image → RunsImage bytes done told out result
        → ExecsTexts judges files texts image switches MayRunBy setting tells out result
    execs_ran bytes told done result b t d ok h =
        runs_answer result ok
        (subst (λ (x : Setting). RunsImage image x tells out result) d (subst (λ x. RunsImage image done x out result) t (subst (λ (x : List ℕ). RunsImage x done told out result) b h)))

-- the settings of two runs by the same schedule and on the same input
pub same_run : (limits : Setting) (schedule schedule' : List Entry) (input input' : List ℕ) → schedule ≡ schedule' → input ≡ input' → by_schedule (on_input limits input) schedule ≡ by_schedule (on_input limits input') schedule'
same_run limits schedule schedule' input input' e f =
    subst (λ (x : List ℕ). by_schedule (on_input limits input) schedule ≡ by_schedule (on_input limits x) schedule') f (ap (λ (x : List Entry). by_schedule (on_input limits input) x) e)

-- the limits of `bench`
abbrev of_numbers : ℕ → ℕ → ℕ → ℕ → Bool → Setting
of_numbers points heap stack threads young = record { points = points; heap = heap; stack = stack; threads = threads; young = young; schedule = []; input = [] }

pub bench_limits : (limits : Limits) → AreOfBench limits → setting_of limits ≡ bench_setting
bench_limits limits bench = λ i. of_numbers (bench.0 i) (bench.1 i) (bench.2 i) (bench.3 i) (bench.4 i)

-- the same bytes before and after
given_now : (a b : Option Files) (name : Option (List ℕ)) (text : List ℕ) → a ≡ b → IsGiven a name text → IsGiven b name text
given_now a b name text e h = subst (λ (o : Option Files). IsGiven o name text) e h

module _ (judges : Judgement) (shelf : Shelving) (out : Putting) (files : List (List ℕ)) (switches input : Option (List ℕ)) (limits : Setting) (image : List ℕ) where
  pub execs_fetched : (texts : List (List ℕ)) (result : Result Answer Refusal) (held : Option Files) (text bytes : List ℕ) → held ≡ shelf.held.0 → StoresNothing shelf → AreTextsOf shelf.held.0 files texts → IsGiven held switches text → IsGiven held input bytes
      → ExecsTexts judges files texts image text (IsSchedule text) (on_input limits bytes) (is_some switches) out result → Execs judges shelf out files switches input limits image result
  execs_fetched texts (Ok a) held text bytes e s r g k h =
      record { held = s; answer = (texts, r, (text, bytes, given_now held shelf.held.0 switches text e g, given_now held shelf.held.0 input bytes e k, h)); refusal = tt; cut = tt }
  execs_fetched texts (Err x) held text bytes e s r g k h = record {
    held = s;
    answer = tt;
    refusal = inr h.0;
    cut = λ status. (texts, r, (text, bytes, given_now held shelf.held.0 switches text e g, given_now held shelf.held.0 input bytes e k, h.1 status));
  }

  pub execs_told : (texts : List (List ℕ)) (result : Result Answer Refusal) (held : Option Files) (names : List (List ℕ)) (text bytes : List ℕ) (told : Bool) → names ≡ files → told ≡ is_some switches → held ≡ shelf.held.0 → StoresNothing shelf → AreTextsOf shelf.held.0 files texts
      → IsGiven held switches text → IsGiven held input bytes → ExecsTexts judges names texts image text (IsSchedule text) (on_input limits bytes) told out result → Execs judges shelf out files switches input limits image result
  execs_told texts result held names text bytes told n t e s r g k h =
      execs_fetched texts result held text bytes e s r g k
      (subst (λ (x : Bool). ExecsTexts judges files texts image text (IsSchedule text) (on_input limits bytes) x out result) t
      (subst (λ (x : List (List ℕ)). ExecsTexts judges x texts image text (IsSchedule text) (on_input limits bytes) told out result) n h))

  pub execs_unfetched : {A : Type 0} (r : Refusal) → PutsNothing out → Fetches {A = A} shelf (OfExec shelf.held.0 files switches input) (Err r) → Execs judges shelf out files switches input limits image (Err r)
  execs_unfetched r p f = record { held = f.held; answer = tt; refusal = inl (f.unfetched, p); cut = λ status. absurd (unfetched_alone shelf (OfExec shelf.held.0 files switches input) r.status r.front.now r.name.now f.unfetched status) }

-- the options, once the FILEs were read
pub among_exec : (a b : Option Files) (files : List (List ℕ)) (switches input : Option (List ℕ)) → a ≡ b → AreAllRead b files → Among (OfOptions a switches input) (OfExec b files switches input)
among_exec a b files switches input e r n c o = inr (r, options_before a b switches input e n c o)

-- the files as they were handed on
pub builds_of : (judges : Judgement) (shelf : Shelving) (name : List ℕ) (files given : List (List ℕ)) (image : List ℕ) (result : Result Answer Refusal) → given ≡ files → Builds judges shelf name given image result → Builds judges shelf name files image result
builds_of judges shelf name files given image result e h = subst (λ (f : List (List ℕ)). Builds judges shelf name f image result) e h

pub execs_of : (judges : Judgement) (shelf : Shelving) (out : Putting) (files given : List (List ℕ)) (switches input : Option (List ℕ)) (limits : Setting) (image : List ℕ) (result : Result Answer Refusal) → given ≡ files → Execs judges shelf out given switches input limits image result → Execs judges shelf out files switches input limits image result
execs_of judges shelf out files given switches input limits image result e h = subst (λ (f : List (List ℕ)). Execs judges shelf out f switches input limits image result) e h

pub carried : (judges : Judgement) (order done : Order) (shelf : Shelving) (out : Putting) (image : List ℕ) (result : Result Answer Refusal) → order ≡ done → Fulfils judges done shelf out image result → Fulfils judges order shelf out image result
carried judges order done shelf out image result e h = subst (λ (o : Order). Fulfils judges o shelf out image result) (sym e) h
