-- Each instruction of plain code does to the one thread of a run what its course says.
use Rattle.std.specs.Prelude.{ℕ, ◌≡◌, ◌+◌, ◌==◌, Bool, List, [], ◌∷◌, ◌++◌, find, map, slice_get, Option, None, Some}
use Rattle.std.specs.Int.{cast_unsigned, w32}
use Rattle.std.proofs.Common.{refl, sym, ap, subst, ◌∙◌, arith, cond, append-nil}
use Rattle.m3_base.specs.declared.outcomes.FaultKind.{FaultKind}
use Rattle.m3_base.specs.declared.outcomes.Outcome.{Outcome}
use Rattle.m3_base.specs.declared.outcomes.Outcome.TheVariants.{Done, Fault as FaultOutcome}
use Rattle.std.specs.Prelude.{zero, suc}
use Rattle.std.specs.Option.{option_map}
use Rattle.std.specs.Fmt.{signed_decimal}
use Rattle.m3_base.specs.Words.{word_of}
use Rattle.m3_isa.specs.Memory.{Memory}
use Rattle.m3_isa.specs.Arithmetic.{integer_word}
use Rattle.m3_isa.specs.Effects as isa
use Rattle.m3_isa.specs.Effects.{Effect, effect, effect_of, reg, signed, next, answered, answered_or_jumped}
use Rattle.std.specs.Prelude.{◌*◌, ◌%◌, ◌^◌, ◌+ℤ◌, ◌-ℤ◌, ◌*ℤ◌}
use Rattle.m3_isa.specs.Instructions.{is_point}
use Rattle.m3_isa.specs.declared.registers.Regs.{Regs}
use Rattle.m3_isa.specs.declared.instructions.Op.{Op}
use Rattle.m3_isa.specs.declared.instructions.Op.TheVariants.{Point, Fault, Endp, Putn, Li, Lih, Addo, Subo, Mulo}
use Rattle.m3_isa.specs.declared.instructions.Instr.{Instr}
use Rattle.m3_threads.specs.declared.status.Thread.{Thread}
use Rattle.m3_threads.specs.declared.status.Status.TheVariants.{Ready as ReadyStatus}
use Rattle.m3_threads.specs.All.{Everyone, is_named, updated}
use Rattle.m3_image_sections.specs.Parts.{Program}
use Rattle.m3_run_meaning.specs.State.{State, memory_of, can_set, running_thread, regs_set, with_regs, executed, HasOtherWords}
use Rattle.m3_run_meaning.specs.Progress.{Progress, Goes, Rests, Ends as RunEnds}
use Rattle.m3_run_meaning.specs.Acts as table
use Rattle.m3_run_meaning.specs.Acts.{fault_kinds}
use Rattle.m3_run_meaning.specs.Steps.{Plainly, goes, trap, Acted, Acts}
use Rattle.m3_plain_image.specs.Image.{in_first_file}
use Rattle.m3_plain_runs.proofs.Courses.{Stage, Course, GoesOn, Ends, Strays, counted, passed, faults, nothing, nowhere, plainly, by_table, acts}

-- ---- the one thread

-- the only thread is number 0, which runs, and has the registers of a stage; the output is the stage's, and so many
-- instructions were executed
pub record Alone (s : State) (stage : Stage) (put : List ℕ) : Type 0 where
  pub thread : Thread
  pub only : s.all.threads ≡ thread ∷ []
  pub number : thread.number ≡ 0
  pub running : s.running ≡ 0
  pub ready : thread.status ≡ ReadyStatus
  pub regs : thread.regs ≡ stage.regs
  pub output : put ≡ stage.output
  pub instructions : s.instructions ≡ stage.instructions

some-thread : (t u : Thread) → Some t ≡ Some u → t ≡ u
some-thread t u e = cc

named-first : (t : Thread) (n m : ℕ) → n ≡ 0 → m ≡ 0 → cond (n == m) (Some t) None ≡ Some t
named-first t n m e f = ap (λ x. cond (x == m) (Some t) None) e ∙ ap (λ x. cond (0 == x) (Some t) None) f

pub found : (s : State) (stage : Stage) (output : List ℕ) (a : Alone s stage output) → running_thread s ≡ Some a.thread
found s stage output a = ap (λ (ts : List Thread). find (is_named s.running) ts) a.only ∙ named-first a.thread a.thread.number s.running a.number a.running

pub is-thread : (s : State) (stage : Stage) (output : List ℕ) (t : Thread) (a : Alone s stage output) → running_thread s ≡ Some t → t ≡ a.thread
is-thread s stage output t a e = some-thread t a.thread (sym e ∙ found s stage output a)

pub has-regs : (s : State) (stage : Stage) (output : List ℕ) (t : Thread) → Alone s stage output → running_thread s ≡ Some t → t.regs ≡ stage.regs
has-regs s stage output t a e = ap (λ (x : Thread). x.regs) (is-thread s stage output t a e) ∙ a.regs

-- the thread alone is changed
pub only-updated : (change : Thread → Thread) (t : Thread) (n : ℕ) (ts : List Thread) → ts ≡ t ∷ [] → t.number ≡ 0 → n ≡ 0 → updated change n ts ≡ change t ∷ []
only-updated change t n ts only number running =
    ap (updated change n) only
    ∙ ap (λ (x : ℕ). cond (x == n) (change t ∷ []) (t ∷ [])) number
    ∙ ap (λ (x : ℕ). cond (0 == x) (change t ∷ []) (t ∷ [])) running

-- ---- what an instruction makes of a run, by what it makes of the course

-- how many points an operation passes
abbrev pub points_by : Op → ℕ
points_by op = cond (is_point op) 1 0

pub record Went (s u : State) (stage next : Stage) (put : List ℕ) (count : ℕ) : Type 0 where
  pub alone : Alone u next put
  pub points : u.points ≡ s.points
  pub stage_points : next.points ≡ stage.points + count
  pub one_more : next.instructions ≡ stage.instructions + 1

pub record Over (s u : State) (stage last : Stage) (put : List ℕ) (count : ℕ) : Type 0 where
  pub output : put ≡ last.output
  pub points : u.points ≡ s.points
  pub stage_points : last.points ≡ stage.points + count
  pub instructions : u.instructions ≡ last.instructions

abbrev pub Matches : State → Stage → List ℕ → ℕ → Course → Progress → Type 0
Matches s stage output points (GoesOn next) (Goes u) = Went s u stage next output points
Matches s stage output points (GoesOn next) (Rests u) = ⊥
Matches s stage output points (GoesOn next) (RunEnds u outcome) = ⊥
Matches s stage output points (Ends last outcome) (RunEnds u other) = (other ≡ outcome) × Over s u stage last output points
Matches s stage output points (Ends last outcome) (Goes u) = ⊥
Matches s stage output points (Ends last outcome) (Rests u) = ⊥
Matches s stage output points Strays progress = Unit {0}

-- the thread goes on with other registers, and other words stand in memory
pub goes-with : (s u : State) (stage : Stage) (output : List ℕ) (regs : Regs) (a : Alone s stage output) → HasOtherWords (with_regs (executed s) regs) u
    → Alone u (record (counted stage) { regs = regs }) output
goes-with s u stage output regs a h =
    let same_all : u.all.threads ≡ (with_regs (executed s) regs).all.threads = ap (λ (x : Everyone). x.threads) h.all.rest in
    let rest = h.rest in
    record {
      thread = regs_set regs a.thread;
      only = same_all ∙ only-updated (regs_set regs) a.thread s.running s.all.threads a.only a.number a.running;
      number = a.number;
      running = ap (λ (x : State). x.running) rest ∙ a.running;
      ready = a.ready;
      regs = refl;
      output = a.output;
      instructions = ap (λ (x : State). x.instructions) rest ∙ ap (λ n. n + 1) a.instructions;
    }

-- the same where nothing else is changed
pub goes-by : (s : State) (stage : Stage) (output : List ℕ) (regs : Regs) (a : Alone s stage output) → Alone (with_regs (executed s) regs) (record (counted stage) { regs = regs }) output
goes-by s stage output regs a = record {
  thread = regs_set regs a.thread;
  only = only-updated (regs_set regs) a.thread s.running s.all.threads a.only a.number a.running;
  number = a.number;
  running = a.running;
  ready = a.ready;
  regs = refl;
  output = a.output;
  instructions = ap (λ n. n + 1) a.instructions;
}

-- ---- instructions of the table

same-goes : (r q : Regs) (m n : Memory) → isa.Goes r m ≡ isa.Goes q n → r ≡ q
same-goes r q m n e = cc

goes-not-traps : (r : Regs) (m : Memory) (n : ℕ) → isa.Traps n ≡ isa.Goes r m → ⊥
goes-not-traps r m n e = cc

plainly-matches : (p : Program) (t : Thread) (i : Instr) (s : State) (stage : Stage) (output : List ℕ) (after : Regs) (m : Memory) (e : Effect) (progress : Progress) → Alone s stage output → e ≡ isa.Goes after m
    → Plainly p t i (executed s) e progress → Matches s stage output 0 (GoesOn (record (counted stage) { regs = after })) progress
plainly-matches p t i s stage output after m e progress a is (goes regs memory u becomes) =
    let same = same-goes regs after memory m is in
    let rest = becomes.others.rest in
    let alone = goes-with s u stage output regs a becomes.others in
    record {
      alone = subst (λ (r : Regs). Alone u (record (counted stage) { regs = r }) output) same alone;
      points = ap (λ (x : State). x.points) rest;
      stage_points = omega arith;
      one_more = refl;
    }
plainly-matches p t i s stage output after m e progress a is (trap n u off) = absurd (goes-not-traps after m n is)

-- whatever memory there is, these five do the same to the registers
record Certain (i : Instr) (regs : Regs) : Type 0 where
  after : Regs
  always : (m : Memory) (can : ℕ → Bool) → effect i regs m can ≡ isa.Goes after m

by-op : (o : Op) (i : Instr) (regs : Regs) (after : Regs) → i.op ≡ o → ((m : Memory) (can : ℕ → Bool) → effect_of o i.a i.b i.c i.imm regs m can ≡ isa.Goes after m) → Certain i regs
by-op o i regs after e h = record { after = after; always = λ m can. ap (λ (x : Op). effect_of x i.a i.b i.c i.imm regs m can) e ∙ h m can }

certain-li : (i : Instr) (regs : Regs) → i.op ≡ Li → Certain i regs
certain-li i regs e = by-op Li i regs (answered regs i.a (word_of i.imm)) e (λ m can. refl)

certain-lih : (i : Instr) (regs : Regs) → i.op ≡ Lih → Certain i regs
certain-lih i regs e = by-op Lih i regs (answered regs i.a (cast_unsigned w32 i.imm * 2 ^ 32 + reg regs i.a % 2 ^ 32)) e (λ m can. refl)

certain-addo : (i : Instr) (regs : Regs) → i.op ≡ Addo → Certain i regs
certain-addo i regs e = by-op Addo i regs (answered_or_jumped regs i.a i.imm (integer_word (signed regs i.b +ℤ signed regs i.c))) e (λ m can. refl)

certain-subo : (i : Instr) (regs : Regs) → i.op ≡ Subo → Certain i regs
certain-subo i regs e = by-op Subo i regs (answered_or_jumped regs i.a i.imm (integer_word (signed regs i.b -ℤ signed regs i.c))) e (λ m can. refl)

certain-mulo : (i : Instr) (regs : Regs) → i.op ≡ Mulo → Certain i regs
certain-mulo i regs e = by-op Mulo i regs (answered_or_jumped regs i.a i.imm (integer_word (signed regs i.b *ℤ signed regs i.c))) e (λ m can. refl)

table-matches : (p : Program) (t : Thread) (i : Instr) (s : State) (stage : Stage) (output bytes : List ℕ) (progress : Progress) → Alone s stage output → t.regs ≡ stage.regs → Certain i stage.regs
    → (bytes ≡ []) × Plainly p t i (executed s) (effect i t.regs (memory_of p (executed s)) (can_set (executed s))) progress
    → Matches s stage (output ++ bytes) 0 (by_table i stage) progress
table-matches p t i s stage output bytes progress a regs c h =
    let m = memory_of p (executed s) in
    let can = can_set (executed s) in
    let real : effect i t.regs m can ≡ isa.Goes c.after m = ap (λ (r : Regs). effect i r m can) regs ∙ c.always m can in
    let course : by_table i stage ≡ GoesOn (record (counted stage) { regs = c.after }) = ap (plainly stage) (c.always nothing nowhere) in
    let same : output ++ bytes ≡ output = ap (λ b. output ++ b) h.0 ∙ append-nil output in
    let one = plainly-matches p t i s stage output c.after m (effect i t.regs m can) progress a real h.1 in
    subst (λ (x : Course). Matches s stage (output ++ bytes) 0 x progress) (sym course)
    (subst (λ (o : List ℕ). Matches s stage o 0 (GoesOn (record (counted stage) { regs = c.after })) progress) (sym same) one)

-- ---- points, puts and ends

passes : (s : State) (stage : Stage) (output bytes : List ℕ) (regs : Regs) (a : Alone s stage output) → regs ≡ next stage.regs → Went s (with_regs (executed s) regs) stage (passed stage bytes) (output ++ bytes) 1
passes s stage output bytes regs a e =
    let g = goes-by s stage output regs a in
    record {
      alone = record {
        thread = g.thread;
        only = g.only;
        number = g.number;
        running = g.running;
        ready = g.ready;
        regs = g.regs ∙ e;
        output = ap (λ o. o ++ bytes) a.output;
        instructions = g.instructions;
      };
      points = refl;
      stage_points = refl;
      one_more = refl;
    }

by-goes : (s u : State) (stage : Stage) (output : List ℕ) (after : Stage) (points : ℕ) (progress : Progress) → progress ≡ Goes u → Went s u stage after output points → Matches s stage output points (GoesOn after) progress
by-goes s u stage output after points progress e w = subst (λ (q : Progress). Matches s stage output points (GoesOn after) q) (sym e) w

by-ends : (s : State) (stage : Stage) (output bytes : List ℕ) (outcome : Outcome) (progress : Progress) → Alone s stage output → bytes ≡ [] → progress ≡ RunEnds (executed s) outcome
    → Matches s stage (output ++ bytes) 0 (Ends (counted stage) outcome) progress
by-ends s stage output bytes outcome progress a none e =
    subst (λ (q : Progress). Matches s stage (output ++ bytes) 0 (Ends (counted stage) outcome) q) (sym e) (
      refl,
      record {
        output = ap (λ b. output ++ b) none ∙ append-nil output ∙ a.output;
        points = refl;
        stage_points = omega arith;
        instructions = ap (λ n. n + 1) a.instructions;
      },
    )

same-place : (x y : ℕ × ℕ) → Some x ≡ Some y → x ≡ y
same-place x y e = cc

none-not-some : (x : ℕ × ℕ) → None ≡ Some x → ⊥
none-not-some x e = cc

-- a fault of a kind and a line of the first file
fault-matches : (p : Program) (s : State) (stage : Stage) (output bytes : List ℕ) (progress : Progress) (kind : Option FaultKind) (line : Option ℕ) (place : Option (ℕ × ℕ)) → Alone s stage output
    → ((n : ℕ) → line ≡ Some n → place ≡ Some (0, n)) → Acted p (executed s) (table.faults kind place) bytes progress → Matches s stage (output ++ bytes) 0 (faults stage kind line) progress
fault-matches p s stage output bytes progress None line place a same h = tt
fault-matches p s stage output bytes progress (Some kind) None place a same h = tt
fault-matches p s stage output bytes progress (Some kind) (Some n) None a same h = absurd (none-not-some (0, n) (same n refl))
fault-matches p s stage output bytes progress (Some kind) (Some n) (Some place) a same h =
    let e = same-place place (0, n) (same n refl) in
    let ends : progress ≡ RunEnds (executed s) (FaultOutcome kind 0 n) = subst (λ (x : ℕ × ℕ). progress ≡ RunEnds (executed s) (FaultOutcome kind x.0 x.1)) e h.1 in
    by-ends s stage output bytes (FaultOutcome kind 0 n) progress a h.0 ends

pub in-file : (lines : List ℕ) (k n : ℕ) → slice_get lines k ≡ Some n → slice_get (map in_first_file lines) k ≡ Some (0, n)
in-file [] k n e = absurd (nothing-there n e)
  where
    nothing-there : (n : ℕ) → None ≡ Some n → ⊥
    nothing-there n e = cc
in-file (line ∷ lines) zero n e = ap (λ (o : Option ℕ). option_map in_first_file o) e
in-file (line ∷ lines) (suc k) n e = in-file lines k n e

-- ---- each operation

pub acts_match : (p : Program) (input : List ℕ) (lines : List ℕ) (t : Thread) (i : Instr) (s : State) (stage : Stage) (output bytes : List ℕ) (progress : Progress) (o : Op) → i.op ≡ o → p.places ≡ map in_first_file lines
    → Alone s stage output → t.regs ≡ stage.regs → Acts p input t i (executed s) bytes progress o → Matches s stage (output ++ bytes) (points_by o) (acts o i lines stage) progress
acts_match p input lines t i s stage output bytes progress Point e places a regs h =
    let out : output ++ bytes ≡ output ++ [] = ap (λ b. output ++ b) h.0 in
    let went = passes s stage output [] (next t.regs) a (ap next regs) in
    subst (λ (o : List ℕ). Matches s stage o 1 (GoesOn (passed stage [])) progress) (sym out) (by-goes s (with_regs (executed s) (next t.regs)) stage (output ++ []) (passed stage []) 1 progress h.1 went)
acts_match p input lines t i s stage output bytes progress Putn e places a regs h =
    let text = signed_decimal (signed stage.regs i.a) in
    let same : bytes ≡ text = h.0 ∙ ap (λ (r : Regs). signed_decimal (signed r i.a)) regs in
    let out : output ++ bytes ≡ output ++ text = ap (λ b. output ++ b) same in
    let went = passes s stage output text (next t.regs) a (ap next regs) in
    subst (λ (o : List ℕ). Matches s stage o 1 (GoesOn (passed stage text)) progress) (sym out) (by-goes s (with_regs (executed s) (next t.regs)) stage (output ++ text) (passed stage text) 1 progress h.1 went)
acts_match p input lines t i s stage output bytes progress Endp e places a regs h = by-ends s stage output bytes Done progress a h.0 h.1
acts_match p input lines t i s stage output bytes progress Fault e places a regs h =
    let n = cast_unsigned w32 i.imm in
    fault-matches p s stage output bytes progress (slice_get fault_kinds i.a) (slice_get lines n) (slice_get p.places n) a
    (λ m held. ap (λ (ps : List (ℕ × ℕ)). slice_get ps n) places ∙ in-file lines n m held) h
acts_match p input lines t i s stage output bytes progress Li e places a regs h = table-matches p t i s stage output bytes progress a regs (certain-li i stage.regs e) h
acts_match p input lines t i s stage output bytes progress Lih e places a regs h = table-matches p t i s stage output bytes progress a regs (certain-lih i stage.regs e) h
acts_match p input lines t i s stage output bytes progress Addo e places a regs h = table-matches p t i s stage output bytes progress a regs (certain-addo i stage.regs e) h
acts_match p input lines t i s stage output bytes progress Subo e places a regs h = table-matches p t i s stage output bytes progress a regs (certain-subo i stage.regs e) h
acts_match p input lines t i s stage output bytes progress Mulo e places a regs h = table-matches p t i s stage output bytes progress a regs (certain-mulo i stage.regs e) h
acts_match p input lines t i s stage output bytes progress _ e places a regs h = tt
