-- What stays of a state while words are set, cells are made and the heap is collected.
use Rattle.std.specs.Prelude.{ℕ, zero, suc, ◌≡◌, ◌+◌, ◌==◌, Bool, true, false, List, [], ◌∷◌, length, find, Option, None, Some, Result, Ok, Err}
use Rattle.std.specs.List.{AllByRecursion, slice_get}
use Rattle.std.proofs.Common.{refl, sym, ap, subst, ◌∙◌, arith, cond}
use Rattle.m3_base.specs.declared.outcomes.Outcome.{Outcome}
use Rattle.m3_isa.specs.declared.registers.Regs.{Regs}
use Rattle.m3_heap.specs.Heap.{Heap}
use Rattle.m3_threads.specs.declared.status.Thread.{Thread}
use Rattle.m3_threads.specs.All.{Everyone, is_named}
use Rattle.m3_threads.specs.Going.{IsAwake}
use Rattle.m3_threads.specs.Actions.{without}
use Rattle.m3_image_sections.specs.Parts.{Program}
use Rattle.m3_roots.specs.Collected.{with_registers}
use Rattle.m3_run_meaning.specs.State.{State, HasOtherWords, regs_set, with_regs}
use Rattle.m3_run_meaning.specs.Progress.{Progress, Goes, Rests, Ends}
use Rattle.m3_run_meaning.specs.Collecting.{Collects, Spoils}
use Rattle.m3_run_meaning.specs.Making.{Allocates, Makes, Makes_late, at_once, late, made_late, full_late, stuck_late}
use Rattle.m3_run_laws.specs.Courses.{IsOther}
use Rattle.m3_run_laws.specs.Standing.{AtPoint, Has, AllAtPoints, InTurnOf}
use Rattle.m3_run_laws.specs.Stores.{StaysLawful}
use Rattle.m3_run_laws.proofs.Stores.{words_lawful, lawful_itself, lawful_on, request_lawful, collection_lawful}
use Rattle.m3_run_laws.proofs.ThreadSteps.{SameThreads, turn_stays, points_stay, still}

-- ---- lists of threads that differ in their registers

abbrev pub Alike : List Thread → List Thread → Type 0
Alike [] [] = Unit {0}
Alike [] (u ∷ us) = ⊥
Alike (t ∷ ts) [] = ⊥
Alike (t ∷ ts) (u ∷ us) = (u ≡ with_registers u.regs.r t) × Alike ts us

abbrev pub SameButRegisters : List Thread → List Thread → Type 0
SameButRegisters ts us = (k : ℕ) (t u : Thread) → slice_get ts k ≡ Some t → slice_get us k ≡ Some u → u ≡ with_registers u.regs.r t

pub alike : (ts us : List Thread) → length us ≡ length ts → SameButRegisters ts us → Alike ts us
alike [] [] e h = tt
alike [] (u ∷ us) e h = absurd (omega (arith, e))
alike (t ∷ ts) [] e h = absurd (omega (arith, e))
alike (t ∷ ts) (u ∷ us) e h = (h zero t u refl refl, alike ts us (omega (arith, e)) (λ k x y a b. h (suc k) x y a b))

abbrev pub LeavesRegisters : (Thread → Type 0) → Type 0
LeavesRegisters P = (r : List ℕ) (t : Thread) → P t → P (with_registers r t)

alike-number : (t u : Thread) → u ≡ with_registers u.regs.r t → u.number ≡ t.number
alike-number t u e = ap (λ (x : Thread). x.number) e

alike-one : (P : Thread → Type 0) (t u : Thread) → LeavesRegisters P → u ≡ with_registers u.regs.r t → P t → P u
alike-one P t u leaves e h = subst (λ (x : Thread). P x) (sym e) (leaves u.regs.r t h)

pub alike_all : (P : Thread → Type 0) (ts us : List Thread) → LeavesRegisters P → Alike ts us → AllByRecursion P ts → AllByRecursion P us
alike_all P [] [] leaves a h = tt
alike_all P [] (u ∷ us) leaves a h = absurd a
alike_all P (t ∷ ts) [] leaves a h = absurd a
alike_all P (t ∷ ts) (u ∷ us) leaves a h = (alike-one P t u leaves a.0 h.0, alike_all P ts us leaves a.1 h.1)

but-at : (P : Thread → Type 0) (n : ℕ) (t u : Thread) (ts us : List Thread) (b : Bool) → LeavesRegisters P → u ≡ with_registers u.regs.r t → Alike ts us
    → (AllByRecursion P (without n ts) → AllByRecursion P (without n us)) → AllByRecursion P (cond b ts (t ∷ without n ts)) → AllByRecursion P (cond b us (u ∷ without n us))
but-at P n t u ts us true leaves e a go h = alike_all P ts us leaves a h
but-at P n t u ts us false leaves e a go h = (alike-one P t u leaves e h.0, go h.1)

pub alike_but : (P : Thread → Type 0) (n : ℕ) (ts us : List Thread) → LeavesRegisters P → Alike ts us → AllByRecursion P (without n ts) → AllByRecursion P (without n us)
alike_but P n [] [] leaves a h = tt
alike_but P n [] (u ∷ us) leaves a h = absurd a
alike_but P n (t ∷ ts) [] leaves a h = absurd a
alike_but P n (t ∷ ts) (u ∷ us) leaves a h =
    subst (λ (m : ℕ). AllByRecursion P (cond (m == n) us (u ∷ without n us))) (sym (alike-number t u a.0))
    (but-at P n t u ts us (t.number == n) leaves a.0 a.1 (alike_but P n ts us leaves a.1) h)

has-at : (P : Thread → Type 0) (n : ℕ) (t u x : Thread) (ts us : List Thread) (b : Bool) → LeavesRegisters P → u ≡ with_registers u.regs.r t
    → (find (is_named n) ts ≡ Some x → P x → Has P n us) → cond b (Some t) (find (is_named n) ts) ≡ Some x → P x → (y : Thread) × (cond b (Some u) (find (is_named n) us) ≡ Some y) × P y
has-at P n t u x ts us true leaves e go h here =
    let same : t ≡ x = cc in
    (u, refl, alike-one P t u leaves e (subst (λ (v : Thread). P v) (sym same) here))
has-at P n t u x ts us false leaves e go h here = go h here

alike-found : (P : Thread → Type 0) (n : ℕ) (ts us : List Thread) (x : Thread) → LeavesRegisters P → Alike ts us → find (is_named n) ts ≡ Some x → P x → Has P n us
alike-found P n [] [] x leaves a h here = absurd cc
alike-found P n [] (u ∷ us) x leaves a h here = absurd a
alike-found P n (t ∷ ts) [] x leaves a h here = absurd a
alike-found P n (t ∷ ts) (u ∷ us) x leaves a h here =
    subst (λ (m : ℕ). (y : Thread) × (cond (m == n) (Some u) (find (is_named n) us) ≡ Some y) × P y) (sym (alike-number t u a.0))
    (has-at P n t u x ts us (t.number == n) leaves a.0 (alike-found P n ts us x leaves a.1) h here)

pub alike_has : (P : Thread → Type 0) (n : ℕ) (ts us : List Thread) → LeavesRegisters P → Alike ts us → Has P n ts → Has P n us
alike_has P n ts us leaves a h = alike-found P n ts us h.0 leaves a h.1 h.2

-- ---- states

pub record SameCounts (s u : State) : Type 0 where
  pub points : u.points ≡ s.points
  pub instructions : u.instructions ≡ s.instructions
  pub store : StaysLawful s.heap u.heap

-- where threads stand stays, whoever runs
pub record Stays (p : Program) (s u : State) : Type 0 where
  pub counts : SameCounts s u
  pub running : u.running ≡ s.running
  pub depth : u.all.stack ≡ s.all.stack
  pub turn : (n : ℕ) → InTurnOf p n s.all → InTurnOf p n u.all
  pub at_points : AllAtPoints p s.all → AllAtPoints p u.all
  pub many : length u.all.threads ≡ length s.all.threads
  pub allowed : u.all.allowed ≡ s.all.allowed
  pub asked : s.heap.asked ≡ 0 → u.heap.asked ≡ 0

pub counts_on : (s t u : State) → SameCounts s t → SameCounts t u → SameCounts s u
counts_on s t u a b = record { points = b.points ∙ a.points; instructions = b.instructions ∙ a.instructions; store = lawful_on s.heap t.heap u.heap a.store b.store }

pub stays_on : (p : Program) (s t u : State) → Stays p s t → Stays p t u → Stays p s u
stays_on p s t u a b = record {
  counts = counts_on s t u a.counts b.counts;
  running = b.running ∙ a.running;
  depth = b.depth ∙ a.depth;
  turn = λ n h. b.turn n (a.turn n h);
  at_points = λ h. b.at_points (a.at_points h);
  many = b.many ∙ a.many;
  allowed = b.allowed ∙ a.allowed;
  asked = λ none. b.asked (a.asked none);
}

stays-by : (p : Program) (s u : State) → SameCounts s u → u.running ≡ s.running → SameThreads s.all u.all → u.heap.asked ≡ s.heap.asked → Stays p s u
stays-by p s u counts running same asked = record {
  counts = counts;
  running = running;
  depth = same.depth;
  turn = λ n h. turn_stays p n s.all u.all same h;
  at_points = λ h. points_stay p s.all u.all same h;
  many = ap (λ (ts : List Thread). length ts) same.threads;
  allowed = same.allowed;
  asked = λ none. asked ∙ none;
}

same-all : (all new : Everyone) → new ≡ all → SameThreads all new
same-all all new e = record { threads = ap (λ (a : Everyone). a.threads) e; depth = ap (λ (a : Everyone). a.stack) e; allowed = ap (λ (a : Everyone). a.allowed) e; counts = ap (λ (a : Everyone). a.forks + a.waits) e }

pub taken_stays : (p : Program) (s : State) (n : ℕ) → Stays p s (record s { taken = n })
taken_stays p s n = stays-by p s (record s { taken = n }) (record { points = refl; instructions = refl; store = lawful_itself s.heap }) refl (record { threads = refl; depth = refl; allowed = refl; counts = refl }) refl

pub words_stay : (p : Program) (s u : State) → HasOtherWords s u → Stays p s u
words_stay p s u h = stays-by p s u
    (record { points = ap (λ (x : State). x.points) h.rest; instructions = ap (λ (x : State). x.instructions) h.rest; store = words_lawful s.heap u.heap h.heap })
    (ap (λ (x : State). x.running) h.rest)
    (record { threads = ap (λ (a : Everyone). a.threads) h.all.rest; depth = ap (λ (a : Everyone). a.stack) h.all.rest; allowed = ap (λ (a : Everyone). a.allowed) h.all.rest; counts = ap (λ (a : Everyone). a.forks + a.waits) h.all.rest })
    (ap (λ (x : Heap). x.asked) h.heap.rest)

request-counts : (kind words : ℕ) (s : State) (o : Option ℕ) (u : State) → Allocates kind words s o u → SameCounts s u
request-counts kind words s o u a =
    record { points = ap (λ (x : State). x.points) a.rest; instructions = ap (λ (x : State). x.instructions) a.rest; store = request_lawful s.heap u.heap kind words o a.allots a.laws }

made-stays : (p : Program) (kind words : ℕ) (s : State) (start : ℕ) (u : State) → Allocates kind words s (Some start) u → Stays p s u
made-stays p kind words s start u a = stays-by p s u (request-counts kind words s (Some start) u a)
    (ap (λ (x : State). x.running) a.rest) (same-all s.all u.all (ap (λ (x : State). x.all) a.rest)) (ap (λ (h : Heap). h.asked) a.allots.2)

pub collects_stay : (p : Program) (s u : State) → Collects p s u → Stays p s u
collects_stay p s u c =
    let moves = c.collected.threads in
    let a = alike s.all.threads u.all.threads moves.count moves.same in
    let allowed : u.all.allowed ≡ s.all.allowed = ap (λ (x : Everyone). x.allowed) moves.rest in
    record {
      counts = record {
        points = ap (λ (x : State). x.points) c.rest;
        instructions = ap (λ (x : State). x.instructions) c.rest;
        store = collection_lawful s.heap u.heap c.collected.laws c.collected.sizes c.collected.closed;
      };
      running = ap (λ (x : State). x.running) c.rest;
      depth = ap (λ (x : Everyone). x.stack) moves.rest;
      turn = λ n h. record {
        running = alike_has IsAwake n s.all.threads u.all.threads (λ r t awake. awake) a h.running;
        others = alike_but (AtPoint p) n s.all.threads u.all.threads (λ r t at. at) a h.others;
        few = omega (arith, moves.count, allowed, h.few);
      };
      at_points = λ h. record {
        each = alike_all (AtPoint p) s.all.threads u.all.threads (λ r t at. at) a h.each;
        few = omega (arith, moves.count, allowed, h.few);
      };
      many = moves.count;
      allowed = allowed;
      asked = λ _. c.collected.asked;
    }

-- a collection behind a request that was refused
refused_stay : (p : Program) (kind words : ℕ) (s r u : State) → Allocates kind words s None r → Collects p r u → Stays p s u
refused_stay p kind words s r u a c =
    let k = collects_stay p r u c in
    let same : r.all ≡ s.all = ap (λ (x : State). x.all) a.rest in
    record {
      counts = counts_on s r u (request-counts kind words s None r a) k.counts;
      running = k.running ∙ ap (λ (x : State). x.running) a.rest;
      depth = k.depth ∙ ap (λ (x : Everyone). x.stack) same;
      turn = λ n h. k.turn n (subst (λ (x : Everyone). InTurnOf p n x) (sym same) h);
      at_points = λ h. k.at_points (subst (λ (x : Everyone). AllAtPoints p x) (sym same) h);
      many = k.many ∙ ap (λ (x : Everyone). length x.threads) same;
      allowed = k.allowed ∙ ap (λ (x : Everyone). x.allowed) same;
      asked = λ _. c.collected.asked;
    }

pub spoils_counts : (p : Program) (s u : State) → Spoils p s u → SameCounts s u
spoils_counts p s u h = record {
  points = ap (λ (x : State). x.points) h.rest;
  instructions = ap (λ (x : State). x.instructions) h.rest;
  store = collection_lawful s.heap u.heap h.laws h.sizes h.closed;
}

-- ---- what an instruction leaves

-- the thread goes on in its turn
pub record KeepsTurn (p : Program) (s u : State) : Type 0 where
  pub counts : SameCounts s u
  pub running : u.running ≡ s.running
  pub depth : u.all.stack ≡ s.all.stack
  pub turn : InTurnOf p s.running u.all
  pub asked : s.heap.asked ≡ 0 → u.heap.asked ≡ 0

-- it rests, and its turn is over
pub record EndsTurn (p : Program) (s u : State) : Type 0 where
  pub counts : SameCounts s u
  pub depth : u.all.stack ≡ s.all.stack
  pub at_points : AllAtPoints p u.all
  pub asked : s.heap.asked ≡ 0 → u.heap.asked ≡ 0

abbrev pub Keeps : Program → State → Progress → Type 0
Keeps p s (Goes u) = KeepsTurn p s u
Keeps p s (Rests u) = EndsTurn p s u
Keeps p s (Ends u outcome) = SameCounts s u × IsOther outcome

pub stays_then : (p : Program) (s t : State) (progress : Progress) → Stays p s t → Keeps p t progress → Keeps p s progress
stays_then p s t (Goes u) a k = record {
  counts = counts_on s t u a.counts k.counts;
  running = k.running ∙ a.running;
  depth = k.depth ∙ a.depth;
  turn = subst (λ (n : ℕ). InTurnOf p n u.all) a.running k.turn;
  asked = λ none. k.asked (a.asked none);
}
stays_then p s t (Rests u) a k = record { counts = counts_on s t u a.counts k.counts; depth = k.depth ∙ a.depth; at_points = k.at_points; asked = λ none. k.asked (a.asked none) }
stays_then p s t (Ends u outcome) a k = (counts_on s t u a.counts k.0, k.1)

pub ends_so : (p : Program) (s u : State) (outcome : Outcome) (progress : Progress) → SameCounts s u → IsOther outcome → progress ≡ Ends u outcome → Keeps p s progress
ends_so p s u outcome progress counts other e = subst (λ (q : Progress). Keeps p s q) (sym e) (counts, other)

-- the running thread has other registers
pub goes_so : (p : Program) (s : State) (regs : Regs) (progress : Progress) → InTurnOf p s.running s.all → progress ≡ Goes (with_regs s regs) → Keeps p s progress
goes_so p s regs progress turn e =
    let kept = still p s.all.stack (regs_set regs) s.running s.all (refl, turn) (λ t. refl) (λ t awake. awake) in
    let k : KeepsTurn p s (with_regs s regs) = record { counts = record { points = refl; instructions = refl; store = lawful_itself s.heap }; running = refl; depth = kept.0; turn = kept.1; asked = λ none. none } in
    subst (λ (q : Progress). Keeps p s q) (sym e) k

-- the same once where threads stand stayed
pub goes_later : (p : Program) (s t : State) (regs : Regs) (progress : Progress) → Stays p s t → InTurnOf p s.running s.all → progress ≡ Goes (with_regs t regs) → Keeps p s progress
goes_later p s t regs progress a turn e =
    stays_then p s t progress a (goes_so p t regs progress (subst (λ (n : ℕ). InTurnOf p n t.all) (sym a.running) (a.turn s.running turn)) e)

-- ---- new cells

-- a cell was made, or the run ends
abbrev pub Made : Program → State → Result ℕ Outcome → State → Type 0
Made p s (Ok start) u = Stays p s u
Made p s (Err outcome) u = SameCounts s u × IsOther outcome

made-late : (p : Program) (kind words : ℕ) (s r : State) (answer : Result ℕ Outcome) (left : State) → Allocates kind words s None r → Makes_late p kind words r answer left → Made p s answer left
made-late p kind words s r answer left refused (made_late t u start c a) = stays_on p s t u (refused_stay p kind words s r t refused c) (made-stays p kind words t start u a)
made-late p kind words s r answer left refused (full_late t u c again) = (counts_on s t u (refused_stay p kind words s r t refused c).counts (request-counts kind words t None u again), tt)
made-late p kind words s r answer left refused (stuck_late u h) = (counts_on s r u (request-counts kind words s None r refused) (spoils_counts p r u h), tt)

pub makes_keep : (p : Program) (kind words : ℕ) (s : State) (answer : Result ℕ Outcome) (left : State) → Makes p kind words s answer left → Made p s answer left
makes_keep p kind words s answer left (at_once start u a) = made-stays p kind words s start u a
makes_keep p kind words s answer left (late r u again refused m) = made-late p kind words s r again u refused m
