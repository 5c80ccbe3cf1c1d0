-- What an instruction on threads leaves of where the threads stand.
use Rattle.std.specs.Prelude.{ℕ, ◌≡◌, ◌+◌, ◌==◌, Bool, true, false, if◌then◌else◌, List, map, length, find, Option, None, Some}
use Rattle.std.specs.List.{AllByRecursion}
use Rattle.std.proofs.Common.{refl, sym, ap, subst, ◌∙◌, arith}
use Rattle.m3_base.specs.Words.{add_words}
use Rattle.m3_isa.specs.Arithmetic.{flag}
use Rattle.m3_isa.specs.Effects.{reg}
use Rattle.m3_isa.specs.Memory.{Memory}
use Rattle.m3_isa.specs.declared.instructions.Instr.{Instr}
use Rattle.m3_isa.specs.declared.registers.Regs.{Regs}
use Rattle.m3_threads.specs.declared.answers.Done.{Done}
use Rattle.m3_threads.specs.declared.answers.Done.TheVariants.{Went, Jumped, Slept, Trapped}
use Rattle.m3_threads.specs.declared.status.Thread.{Thread}
use Rattle.m3_threads.specs.declared.status.Status.{Status}
use Rattle.m3_threads.specs.declared.status.Status.TheVariants.{Ready, Wants, Waits, Joins}
use Rattle.m3_threads.specs.All.{Everyone, is_named, updated, with_stack}
use Rattle.m3_threads.specs.Going.{IsAwake, IsAwakeAt}
use Rattle.m3_threads.specs.Spaces.{held, replaceable, is_in_stack, put_inside, put_outside}
use Rattle.m3_threads.specs.Actions.{After, traps, with_threads, loading, putting, changes, gone_on, gone_on_with, given, jumped_to, alert_cleared, acquires, holder_at, frees, releases, sleeps, asleep, waits, waits_at, woken, woken_at, woken_on, sleeps_on, wakes, wakened_by, broadcasts, joins, without, ended, ends, alerted_at, alert_marked, alerts, tests_alert, alert_waits, alert_waits_at, alert_joins}
use Rattle.m3_image_sections.specs.Parts.{Program}
use Rattle.m3_image_sections.specs.Ranges.{is_point_at}
use Rattle.m3_run_laws.specs.Standing.{AtPoint, Has, AllAtPoints, InTurnOf}
use Rattle.m3_run_laws.proofs.ThreadLists.{Leaves, KeepsNumber, all_changed, all_of_but, others_stay, but_changed, but_mapped, has_own, has_changed, has_mapped, length_changed, length_mapped, length_without}

-- the threads of a turn go on, with stacks of so many words; or each stands at a point
abbrev pub GoOn : Program → ℕ → ℕ → Everyone → Type 0
GoOn p n depth all = (all.stack ≡ depth) × InTurnOf p n all

abbrev pub Rest : Program → ℕ → Everyone → Type 0
Rest p depth all = (all.stack ≡ depth) × AllAtPoints p all

-- what an instruction of a thread leaves, by its answer; and what one leaves that ends it
abbrev pub Leaves_turn : Program → ℕ → ℕ → Done → Everyone → Type 0
Leaves_turn p n depth Went all = GoOn p n depth all
Leaves_turn p n depth Jumped all = GoOn p n depth all
Leaves_turn p n depth Slept all = Rest p depth all
Leaves_turn p n depth (Trapped k) all = Unit {0}

abbrev pub Ends_turn : Program → ℕ → Done → Everyone → Type 0
Ends_turn p depth (Trapped k) all = Unit {0}
Ends_turn p depth _ all = Rest p depth all

-- ---- words alone

pub record SameThreads (all new : Everyone) : Type 0 where
  pub threads : new.threads ≡ all.threads
  pub depth : new.stack ≡ all.stack
  pub allowed : new.allowed ≡ all.allowed
  pub counts : new.forks + new.waits ≡ all.forks + all.waits

pub turn_stays : (p : Program) (n : ℕ) (all new : Everyone) → SameThreads all new → InTurnOf p n all → InTurnOf p n new
turn_stays p n all new same turn = record {
  running = subst (λ (ts : List Thread). Has IsAwake n ts) (sym same.threads) turn.running;
  others = subst (λ (ts : List Thread). AllByRecursion (AtPoint p) (without n ts)) (sym same.threads) turn.others;
  few = let l = ap (λ (ts : List Thread). length ts) same.threads in omega (arith, l, same.allowed, turn.few);
}

pub points_stay : (p : Program) (all new : Everyone) → SameThreads all new → AllAtPoints p all → AllAtPoints p new
points_stay p all new same points = record {
  each = subst (λ (ts : List Thread). AllByRecursion (AtPoint p) ts) (sym same.threads) points.each;
  few = let l = ap (λ (ts : List Thread). length ts) same.threads in omega (arith, l, same.allowed, points.few);
}

inside-at : (all : Everyone) (slot : ℕ) (words : List ℕ) (b : Bool) → SameThreads all (if b then with_stack all slot words else all)
inside-at all slot words true = record { threads = refl; depth = refl; allowed = refl; counts = refl }
inside-at all slot words false = record { threads = refl; depth = refl; allowed = refl; counts = refl }

inside : (all : Everyone) (at word : ℕ) → SameThreads all (put_inside all at word)
inside all at word = inside-at all _ _ (is_in_stack all at)

-- ---- what the definitions of m3_threads are made of

pub loading_leaves : (P : After → Type 0) (all : Everyone) (memory : Memory) (word : Option ℕ) (go : ℕ → After) → P (traps 2 all memory) → ((w : ℕ) → P (go w)) → P (loading all memory word go)
loading_leaves P all memory None go trap h = trap
loading_leaves P all memory (Some word) go trap h = h word

either_leaves : (P : After → Type 0) (b : Bool) (one other : After) → P one → P other → P (if b then one else other)
either_leaves P true one other h k = h
either_leaves P false one other h k = k

pub putting_leaves : (P : After → Type 0) (all : Everyone) (memory : Memory) (can : ℕ → Bool) (at word : ℕ) (go : Everyone → Memory → After) → P (traps 2 all memory)
    → ((a : Everyone) (m : Memory) → SameThreads all a → P (go a m)) → P (putting all memory can at word go)
putting_leaves P all memory can at word go trap h =
    either_leaves P (replaceable all can at) (go (put_inside all at word) (put_outside all memory at word)) (traps 2 all memory)
    (h (put_inside all at word) (put_outside all memory at word) (inside all at word)) trap

-- the thread of a turn goes on or jumps
pub going : (p : Program) (depth : ℕ) (change : Thread → Thread) (n : ℕ) (all : Everyone) → GoOn p n depth all → KeepsNumber change → ((t : Thread) → IsAwake (change t)) → GoOn p n depth (with_threads all (updated change n all.threads))
going p depth change n all h keeps awake = (
  h.0,
  record {
    running = has_own IsAwake change n all.threads h.1.running.0 keeps h.1.running.1 (awake h.1.running.0);
    others = subst (λ (ts : List Thread). AllByRecursion (AtPoint p) ts) (sym (others_stay change n all.threads keeps)) h.1.others;
    few = let l = length_changed change n all.threads in omega (arith, l, h.1.few);
  },
)

-- the same of a change that leaves it awake
pub still : (p : Program) (depth : ℕ) (change : Thread → Thread) (n : ℕ) (all : Everyone) → GoOn p n depth all → KeepsNumber change → Leaves IsAwake change → GoOn p n depth (with_threads all (updated change n all.threads))
still p depth change n all h keeps leaves = (
  h.0,
  record {
    running = has_changed IsAwake change n n all.threads keeps leaves h.1.running;
    others = subst (λ (ts : List Thread). AllByRecursion (AtPoint p) ts) (sym (others_stay change n all.threads keeps)) h.1.others;
    few = let l = length_changed change n all.threads in omega (arith, l, h.1.few);
  },
)

-- any thread is changed in what doesn't tell where it stands
pub anyone : (p : Program) (depth : ℕ) (change : Thread → Thread) (m n : ℕ) (all : Everyone) → GoOn p n depth all → KeepsNumber change → Leaves IsAwake change → Leaves (AtPoint p) change
    → GoOn p n depth (with_threads all (updated change m all.threads))
anyone p depth change m n all h keeps awake at = (
  h.0,
  record {
    running = has_changed IsAwake change m n all.threads keeps awake h.1.running;
    others = but_changed (AtPoint p) change m n all.threads keeps at h.1.others;
    few = let l = length_changed change m all.threads in omega (arith, l, h.1.few);
  },
)

everyone : (p : Program) (depth : ℕ) (f : Thread → Thread) (n : ℕ) (all : Everyone) → GoOn p n depth all → KeepsNumber f → Leaves IsAwake f → Leaves (AtPoint p) f → GoOn p n depth (with_threads all (map f all.threads))
everyone p depth f n all h keeps awake at = (
  h.0,
  record {
    running = has_mapped IsAwake f n all.threads keeps awake h.1.running;
    others = but_mapped (AtPoint p) f n all.threads keeps at h.1.others;
    few = let l = length_mapped f all.threads in omega (arith, l, h.1.few);
  },
)

-- it falls asleep where it stands
sleeping : (p : Program) (depth : ℕ) (change : Thread → Thread) (n waits : ℕ) (all : Everyone) (t : Thread) → GoOn p n depth all → Leaves (AtPoint p) change → find (is_named n) all.threads ≡ Some t → AtPoint p t
    → Rest p depth (record all { waits = waits; threads = updated change n all.threads })
sleeping p depth change n waits all t h leaves found here = (
  h.0,
  record {
    each = all_changed (AtPoint p) change n all.threads leaves (all_of_but (AtPoint p) n all.threads t here h.1.others found);
    few = let l = length_changed change n all.threads in omega (arith, l, h.1.few);
  },
)

-- ---- statuses

awake-again : (s : Status) → IsAwakeAt (woken_at s)
awake-again Ready = tt
awake-again (Wants mutex) = tt
awake-again (Waits mutex condition place alertable) = tt
awake-again (Joins cell alertable) = tt

alert-leaves : (s : Status) → IsAwakeAt s → IsAwakeAt (alerted_at s)
alert-leaves Ready h = tt
alert-leaves (Wants mutex) h = tt
alert-leaves (Waits mutex condition place true) h = tt
alert-leaves (Waits mutex condition place false) h = h
alert-leaves (Joins cell alertable) h = tt

on-at : (b : Bool) (t : Thread) → ((if b then woken t else t).number ≡ t.number) × ((if b then woken t else t).regs ≡ t.regs) × (IsAwake t → IsAwake (if b then woken t else t))
on-at true t = (refl, refl, λ h. awake-again t.status)
on-at false t = (refl, refl, λ h. h)

-- ---- each operation, of a thread of this number

abbrev pub By : Program → ℕ → ℕ → After → Type 0
By p n depth after = Leaves_turn p n depth after.answer after.all

stays-so : (p : Program) (n depth : ℕ) (all a : Everyone) → SameThreads all a → GoOn p n depth all → GoOn p n depth a
stays-so p n depth all a same h = (same.depth ∙ h.0, turn_stays p n all a same h.1)

pub acquires_leaves : (p : Program) (depth : ℕ) (t : Thread) (i : Instr) (all : Everyone) (memory : Memory) (can : ℕ → Bool) → GoOn p t.number depth all → By p t.number depth (acquires t i all memory can)
acquires_leaves p depth t i all memory can h =
    putting_leaves (λ after. By p t.number depth after) all memory can (holder_at t i.a) (t.number + 1) (changes Went gone_on t.number) tt
    (λ a m same. going p depth gone_on t.number a (stays-so p t.number depth all a same h) (λ u. refl) (λ u. tt))

frees_leaves : (p : Program) (depth : ℕ) (t : Thread) (i : Instr) (all : Everyone) (memory : Memory) (can : ℕ → Bool) (go : Everyone → Memory → After) → GoOn p t.number depth all
    → ((a : Everyone) (m : Memory) → SameThreads all a → By p t.number depth (go a m)) → By p t.number depth (frees t i all memory can go)
frees_leaves p depth t i all memory can go h rest =
    loading_leaves (λ after. By p t.number depth after) all memory (held all memory (holder_at t i.a))
    (λ holder. if holder == t.number + 1 then putting all memory can (holder_at t i.a) 0 go else changes Jumped (jumped_to i.imm) t.number all memory) tt (λ holder.
    either_leaves (λ after. By p t.number depth after) (holder == t.number + 1) (putting all memory can (holder_at t i.a) 0 go) (changes Jumped (jumped_to i.imm) t.number all memory)
    (putting_leaves (λ after. By p t.number depth after) all memory can (holder_at t i.a) 0 go tt rest)
    (going p depth (jumped_to i.imm) t.number all h (λ u. refl) (λ u. tt)))

pub releases_leaves : (p : Program) (depth : ℕ) (t : Thread) (i : Instr) (all : Everyone) (memory : Memory) (can : ℕ → Bool) → GoOn p t.number depth all → By p t.number depth (releases t i all memory can)
releases_leaves p depth t i all memory can h =
    frees_leaves p depth t i all memory can (changes Went gone_on t.number) h (λ a m same. going p depth gone_on t.number a (stays-so p t.number depth all a same h) (λ u. refl) (λ u. tt))

sleeps_leaves : (p : Program) (depth : ℕ) (t : Thread) (i : Instr) (alertable : Bool) (all : Everyone) (memory : Memory) → GoOn p t.number depth all → find (is_named t.number) all.threads ≡ Some t → AtPoint p t
    → By p t.number depth (sleeps t i alertable all memory)
sleeps_leaves p depth t i alertable all memory h found here = sleeping p depth (asleep i.a i.b all.waits alertable) t.number (all.waits + 1) all t h (λ u at. at) found here

still-found : (n : ℕ) (all a : Everyone) (t : Thread) → SameThreads all a → find (is_named n) all.threads ≡ Some t → find (is_named n) a.threads ≡ Some t
still-found n all a t same found = ap (λ (ts : List Thread). find (is_named n) ts) same.threads ∙ found

waits-first : (p : Program) (depth : ℕ) (t : Thread) (i : Instr) (alertable : Bool) (all : Everyone) (memory : Memory) (can : ℕ → Bool) → GoOn p t.number depth all → find (is_named t.number) all.threads ≡ Some t → AtPoint p t
    → By p t.number depth (frees t i all memory can (sleeps t i alertable))
waits-first p depth t i alertable all memory can h found here =
    frees_leaves p depth t i all memory can (sleeps t i alertable) h
    (λ a m same. sleeps_leaves p depth t i alertable a m (stays-so p t.number depth all a same h) (still-found t.number all a t same found) here)

waits-by : (p : Program) (depth : ℕ) (status : Status) (t : Thread) (i : Instr) (all : Everyone) (memory : Memory) (can : ℕ → Bool) → GoOn p t.number depth all → find (is_named t.number) all.threads ≡ Some t → AtPoint p t
    → By p t.number depth (waits_at status t i all memory can)
waits-by p depth (Wants mutex) t i all memory can h found here = acquires_leaves p depth t i all memory can h
waits-by p depth Ready t i all memory can h found here = waits-first p depth t i false all memory can h found here
waits-by p depth (Waits mutex condition place alertable) t i all memory can h found here = waits-first p depth t i false all memory can h found here
waits-by p depth (Joins cell alertable) t i all memory can h found here = waits-first p depth t i false all memory can h found here

pub waits_leaves : (p : Program) (depth : ℕ) (t : Thread) (i : Instr) (all : Everyone) (memory : Memory) (can : ℕ → Bool) → GoOn p t.number depth all → find (is_named t.number) all.threads ≡ Some t → AtPoint p t
    → By p t.number depth (waits t i all memory can)
waits_leaves p depth t i all memory can h found here = waits-by p depth t.status t i all memory can h found here

wakes-by : (p : Program) (depth : ℕ) (n : ℕ) (sleeper : Option Thread) (all : Everyone) → GoOn p n depth all → GoOn p n depth (with_threads all (wakened_by sleeper all.threads))
wakes-by p depth n None all h = (h.0, turn_stays p n all (with_threads all all.threads) (record { threads = refl; depth = refl; allowed = refl; counts = refl }) h.1)
wakes-by p depth n (Some u) all h = anyone p depth woken u.number n all h (λ v. refl) (λ v awake. awake-again v.status) (λ v at. at)

pub wakes_leaves : (p : Program) (depth : ℕ) (t : Thread) (sleeper : Option Thread) (all : Everyone) (memory : Memory) → GoOn p t.number depth all → By p t.number depth (wakes t sleeper all memory)
wakes_leaves p depth t sleeper all memory h = going p depth gone_on t.number (with_threads all (wakened_by sleeper all.threads)) (wakes-by p depth t.number sleeper all h) (λ u. refl) (λ u. tt)

pub broadcasts_leaves : (p : Program) (depth : ℕ) (t : Thread) (i : Instr) (all : Everyone) (memory : Memory) → GoOn p t.number depth all → By p t.number depth (broadcasts t i all memory)
broadcasts_leaves p depth t i all memory h =
    let at = reg t.regs i.a in
    let woke = everyone p depth (woken_on at) t.number all h (λ u. (on-at (sleeps_on at u) u).0) (λ u awake. (on-at (sleeps_on at u) u).2 awake)
    (λ u there. ap (λ (regs : Regs). is_point_at p.code regs.pc) (on-at (sleeps_on at u) u).1 ∙ there) in
    going p depth gone_on t.number (with_threads all (map (woken_on at) all.threads)) woke (λ u. refl) (λ u. tt)

-- what a JOIN does once the thread has ended, and where it is done
told : Thread → Instr → ℕ → Everyone → Memory → After
told t i result all memory = changes Went (gone_on_with i.a result) t.number all memory

taken : Thread → Instr → Everyone → Memory → After
unfolding told
taken t i all memory = loading all memory (held all memory (add_words (reg t.regs i.b) 3)) (λ result. told t i result all memory)

pub joins_leaves : (p : Program) (depth : ℕ) (t : Thread) (i : Instr) (all : Everyone) (memory : Memory) (can : ℕ → Bool) → GoOn p t.number depth all → By p t.number depth (joins t i all memory can)
unfolding taken told
joins_leaves p depth t i all memory can h =
    let cell = reg t.regs i.b in
    loading_leaves (λ after. By p t.number depth after) all memory (held all memory (add_words cell 2))
    (λ state. if state == 2 then changes Jumped (jumped_to i.imm) t.number all memory else putting all memory can (add_words cell 2) 2 (taken t i)) tt (λ state.
    either_leaves (λ after. By p t.number depth after) (state == 2) (changes Jumped (jumped_to i.imm) t.number all memory) (putting all memory can (add_words cell 2) 2 (taken t i))
    (going p depth (jumped_to i.imm) t.number all h (λ u. refl) (λ u. tt))
    (putting_leaves (λ after. By p t.number depth after) all memory can (add_words cell 2) 2 (taken t i) tt (λ a m same.
    loading_leaves (λ after. By p t.number depth after) a m (held a m (add_words cell 3)) (λ result. told t i result a m) tt (λ result.
    going p depth (gone_on_with i.a result) t.number a (stays-so p t.number depth all a same h) (λ u. refl) (λ u. tt)))))

pub alerts_leaves : (p : Program) (depth : ℕ) (t : Thread) (i : Instr) (all : Everyone) (memory : Memory) → GoOn p t.number depth all → By p t.number depth (alerts t i all memory)
alerts_leaves p depth t i all memory h =
    loading_leaves (λ after. By p t.number depth after) all memory (held all memory (add_words (reg t.regs i.a) 1))
    (λ n. changes Went gone_on t.number (with_threads all (updated alert_marked n all.threads)) memory) tt (λ n.
    going p depth gone_on t.number (with_threads all (updated alert_marked n all.threads))
    (anyone p depth alert_marked n t.number all h (λ v. refl) (λ v awake. alert-leaves v.status awake) (λ v at. at)) (λ u. refl) (λ u. tt))

pub tests_leaves : (p : Program) (depth : ℕ) (t : Thread) (i : Instr) (all : Everyone) (memory : Memory) → GoOn p t.number depth all → By p t.number depth (tests_alert t i all memory)
tests_leaves p depth t i all memory h = going p depth (λ u. gone_on_with i.a (flag t.alerted) (alert_cleared u)) t.number all h (λ u. refl) (λ u. tt)

-- AWAIT of a holder, whose mark is set or isn't
held-first : Thread → Instr → Everyone → Memory → (ℕ → Bool) → After
held-first t i all memory can =
    if t.alerted then changes Went (λ u. gone_on_with i.c 1 (alert_cleared u)) t.number all memory else putting all memory can (holder_at t i.a) 0 (sleeps t i true)

alert-first : (p : Program) (depth : ℕ) (t : Thread) (i : Instr) (all : Everyone) (memory : Memory) (can : ℕ → Bool) → GoOn p t.number depth all → find (is_named t.number) all.threads ≡ Some t → AtPoint p t
    → By p t.number depth (alert_waits_at Ready t i all memory can)
unfolding held-first
alert-first p depth t i all memory can h found here =
    loading_leaves (λ after. By p t.number depth after) all memory (held all memory (holder_at t i.a))
    (λ holder. if holder == t.number + 1 then held-first t i all memory can else changes Jumped (jumped_to i.imm) t.number all memory) tt (λ holder.
    either_leaves (λ after. By p t.number depth after) (holder == t.number + 1) (held-first t i all memory can) (changes Jumped (jumped_to i.imm) t.number all memory)
    (either_leaves (λ after. By p t.number depth after) t.alerted (changes Went (λ u. gone_on_with i.c 1 (alert_cleared u)) t.number all memory) (putting all memory can (holder_at t i.a) 0 (sleeps t i true))
    (going p depth (λ u. gone_on_with i.c 1 (alert_cleared u)) t.number all h (λ u. refl) (λ u. tt))
    (putting_leaves (λ after. By p t.number depth after) all memory can (holder_at t i.a) 0 (sleeps t i true) tt (λ a m same.
    sleeps_leaves p depth t i true a m (stays-so p t.number depth all a same h) (still-found t.number all a t same found) here)))
    (going p depth (jumped_to i.imm) t.number all h (λ u. refl) (λ u. tt)))

alert-by : (p : Program) (depth : ℕ) (status : Status) (t : Thread) (i : Instr) (all : Everyone) (memory : Memory) (can : ℕ → Bool) → GoOn p t.number depth all → find (is_named t.number) all.threads ≡ Some t → AtPoint p t
    → By p t.number depth (alert_waits_at status t i all memory can)
alert-by p depth (Wants mutex) t i all memory can h found here =
    putting_leaves (λ after. By p t.number depth after) all memory can (holder_at t i.a) (t.number + 1) (changes Went (λ u. gone_on_with i.c (flag t.alerted) (alert_cleared u)) t.number) tt (λ a m same.
    going p depth (λ u. gone_on_with i.c (flag t.alerted) (alert_cleared u)) t.number a (stays-so p t.number depth all a same h) (λ u. refl) (λ u. tt))
alert-by p depth Ready t i all memory can h found here = alert-first p depth t i all memory can h found here
alert-by p depth (Waits mutex condition place alertable) t i all memory can h found here = alert-first p depth t i all memory can h found here
alert-by p depth (Joins cell alertable) t i all memory can h found here = alert-first p depth t i all memory can h found here

pub alert_waits_leaves : (p : Program) (depth : ℕ) (t : Thread) (i : Instr) (all : Everyone) (memory : Memory) (can : ℕ → Bool) → GoOn p t.number depth all → find (is_named t.number) all.threads ≡ Some t → AtPoint p t
    → By p t.number depth (alert_waits t i all memory can)
alert_waits_leaves p depth t i all memory can h found here = alert-by p depth t.status t i all memory can h found here

pub alert_joins_leaves : (p : Program) (depth : ℕ) (t : Thread) (i : Instr) (all : Everyone) (memory : Memory) (can : ℕ → Bool) → GoOn p t.number depth all → By p t.number depth (alert_joins t i all memory can)
alert_joins_leaves p depth t i all memory can h =
    let marked = with_threads all (updated (given i.c 0) t.number all.threads) in
    either_leaves (λ after. By p t.number depth after) t.alerted (changes Went (λ u. gone_on_with i.a 0 (given i.c 1 (alert_cleared u))) t.number all memory) (joins (given i.c 0 t) i marked memory can)
    (going p depth (λ u. gone_on_with i.a 0 (given i.c 1 (alert_cleared u))) t.number all h (λ u. refl) (λ u. tt))
    (joins_leaves p depth (given i.c 0 t) i marked memory can (still p depth (given i.c 0) t.number all h (λ u. refl) (λ u awake. awake)))

-- ---- the end of a thread

abbrev pub Ends_by : Program → ℕ → After → Type 0
Ends_by p depth after = Ends_turn p depth after.answer after.all

gone : Thread → Everyone → Memory → After
gone t all memory = record { answer = Went; all = ended t all; memory = memory }

marked_ended : Thread → ℕ → (ℕ → Bool) → Everyone → Memory → After
marked_ended t cell can all memory = putting all memory can (add_words cell 2) 1 (gone t)

pub ends_leaves : (p : Program) (depth : ℕ) (t : Thread) (i : Instr) (all : Everyone) (memory : Memory) (can : ℕ → Bool) → GoOn p t.number depth all → Ends_by p depth (ends t i all memory can)
unfolding gone marked_ended
ends_leaves p depth t i all memory can h =
    loading_leaves (λ after. Ends_by p depth after) all memory (held all memory (add_words t.regs.fp 2))
    (λ cell. putting all memory can (add_words cell 3) (reg t.regs i.a) (marked_ended t cell can)) tt (λ cell.
    putting_leaves (λ after. Ends_by p depth after) all memory can (add_words cell 3) (reg t.regs i.a) (marked_ended t cell can) tt (λ a m same.
    putting_leaves (λ after. Ends_by p depth after) a m can (add_words cell 2) 1 (gone t) tt (λ b n again.
    let k = stays-so p t.number depth a b again (stays-so p t.number depth all a same h) in
    (k.0, record { each = k.1.others; few = let l = length_without t.number b.threads in omega (arith, l, k.1.few) }))))

-- what ends a thread is no fork and no wait
pub ends_uncounted : (t : Thread) (i : Instr) (all : Everyone) (memory : Memory) (can : ℕ → Bool) → (ends t i all memory can).all.forks + (ends t i all memory can).all.waits ≡ all.forks + all.waits
unfolding gone marked_ended
ends_uncounted t i all memory can =
    loading_leaves (λ after. after.all.forks + after.all.waits ≡ all.forks + all.waits) all memory (held all memory (add_words t.regs.fp 2))
    (λ cell. putting all memory can (add_words cell 3) (reg t.regs i.a) (marked_ended t cell can)) refl (λ cell.
    putting_leaves (λ after. after.all.forks + after.all.waits ≡ all.forks + all.waits) all memory can (add_words cell 3) (reg t.regs i.a) (marked_ended t cell can) refl (λ a m same.
    putting_leaves (λ after. after.all.forks + after.all.waits ≡ all.forks + all.waits) a m can (add_words cell 2) 1 (gone t) same.counts (λ b n again. again.counts ∙ same.counts)))
