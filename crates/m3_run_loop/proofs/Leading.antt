-- A turn goes on over an instruction, and over a point where no choice is left.
use Rattle.std.specs.Prelude.{ℕ, ◌≡◌, ◌≤◌, ◌<◌, ◌+◌, ◌-◌, ◌*◌, ◌^◌, ◌==◌, Bool, true, false, List, [], ◌∷◌, ◌++◌, length, find, Option, None, Some, slice_get, slice_index_or}
use Rattle.std.proofs.Common.{refl, sym, ap, subst, ◌∙◌, arith, cond, true≢false}
use Rattle.std.proofs.lemmas.List.{append-nil}
use Rattle.std.proofs.Math.ListN.{get_or-map}
use Rattle.m3_base.specs.declared.outcomes.Outcome.{Outcome}
use Rattle.m3_isa.specs.Instructions.{is_point}
use Rattle.m3_isa.specs.declared.instructions.Instr.{Instr}
use Rattle.m3_isa.specs.declared.registers.Regs.{Regs}
use Rattle.m3_heap.specs.Heap.{Heap}
use Rattle.m3_threads.specs.declared.status.Thread.{Thread}
use Rattle.m3_threads.specs.declared.status.Status.{Status}
use Rattle.m3_threads.specs.declared.status.Status.TheVariants.{Ready}
use Rattle.m3_threads.specs.All.{Everyone, is_named, updated, base_of, words_of}
use Rattle.m3_threads.specs.Spaces.{held}
use Rattle.m3_threads.specs.Going.{IsChoice, may_go, may_go_if, may_go_at, status_at, with_status}
use Rattle.m3_image_sections.specs.Parts.{Program}
use Rattle.m3_run_memory.specs.Kept.{KeepsStacks}
use Rattle.m3_run_meaning.specs.declared.near.Stack.{Stack}
use Rattle.m3_run_meaning.specs.State.{State, outside, regs_set, running_thread, with_all, executed, raised}
use Rattle.m3_run_meaning.specs.Progress.{Progress, Goes, Ends}
use Rattle.m3_run_meaning.specs.Calls.{stack_of}
use Rattle.m3_run_meaning.specs.Points.{Chooses, left as uncollected, passed, runs_on, first_entry, later_entries}
use Rattle.m3_run_meaning.specs.Steps.{Does}
use Rattle.m3_run_meaning.specs.State.{seen}
use Rattle.m3_run_meaning.specs.Runs.{Place, In_turn, At_point, Over, Settles, goes_on, comes_to_point, run_ends, Leads, moves, in_turn, at_point, then_at, turn_limit, stands}
use Rattle.m3_run_loop.specs.Leading.{config, Track, LeadsTo, Went, Enters, Goes_on, Standing, further}
use Rattle.m3_run_loop.proofs.PlainSteps.{found-again, found_still}

-- ---- into an instruction, and over it

pub enters_on : (p : Program) (k : Track) (u : State) (t : Thread) (i : Instr) (n : ℕ)
    → Went p k u n → running_thread u ≡ Some t → slice_get p.code t.regs.pc ≡ Some i → is_point i.op ≡ false → n < turn_limit p u → Enters p k u (n + 1)
enters_on p k u t i n went running next plain more = λ bytes place carried.
    let d = config (In_turn u n) k.entries k.output in
    moves k.from d (then_at d place bytes) (went (In_turn u n) (goes_on u t i running next plain more)) (in_turn u n d bytes place refl carried)

pub enters_past : (p : Program) (k : Track) (u turn : State) (t : Thread) (i : Instr) (n : ℕ)
    → k.entries ≡ [] → Went p k u n → running_thread u ≡ Some t → slice_get p.code t.regs.pc ≡ Some i → is_point i.op ≡ true → u.points < k.allowed
    → Chooses p (first_entry []) (stands i u) turn → Enters p k turn 1
enters_past p k u turn t i n none went running next point few chooses = λ bytes place carried.
    let d = config (At_point (stands i u)) k.entries k.output in
    let chosen : Chooses p (first_entry k.entries) (stands i u) turn = subst (λ es. Chooses p (first_entry es) (stands i u) turn) (sym none) chooses in
    let later : later_entries k.entries ≡ k.entries = ap (λ es. later_entries es) none ∙ sym none in
    subst (λ es. Leads p k.input k.allowed k.from (config place es (k.output ++ bytes))) later
    (moves k.from d (then_at (config (At_point (stands i u)) (later_entries k.entries) k.output) place bytes) (went (At_point (stands i u)) (comes_to_point u t i running next point))
    (at_point (stands i u) turn d bytes place refl few chosen carried))

pub leads_over : (p : Program) (k : Track) (bytes : List ℕ) (s : State) (t : Thread) (i : Instr) (n : ℕ) (progress : Progress)
    → Enters p k s n → running_thread s ≡ Some t → slice_get p.code t.regs.pc ≡ Some i → Does p k.input t i (executed s) bytes progress
    → (place : Place) → Settles p n progress place → Leads p k.input k.allowed k.from (config place k.entries (k.output ++ bytes))
leads_over p k bytes s t i n progress enters running next does = λ place settles.
    enters bytes place (record { thread = t; instruction = i; progress = progress; running = running; stands = next; does = does; settles = settles })

pub leads_silently : (p : Program) (k : Track) (s : State) (t : Thread) (i : Instr) (n : ℕ) (progress : Progress)
    → Enters p k s n → running_thread s ≡ Some t → slice_get p.code t.regs.pc ≡ Some i → Does p k.input t i (executed s) [] progress
    → (place : Place) → Settles p n progress place → LeadsTo p k place
leads_silently p k s t i n progress enters running next does = λ place settles.
    subst (λ o. Leads p k.input k.allowed k.from (config place k.entries o)) (append-nil k.output)
    (leads_over p k [] s t i n progress enters running next does place settles)

-- ---- a thread that is ready, at a point

same-at : (change : Thread → Thread) (n : ℕ) (x t : Thread) (xs : List Thread) (b : Bool) → (x.number == n) ≡ b → (find (is_named n) xs ≡ Some t → updated change n xs ≡ xs)
    → change t ≡ t → cond b (Some x) (find (is_named n) xs) ≡ Some t → cond b (change x ∷ xs) (x ∷ updated change n xs) ≡ x ∷ xs
same-at change n x t xs true e go same h =
    let one : x ≡ t = cc in
    ap (λ y. y ∷ xs) (ap change one ∙ same ∙ sym one)
same-at change n x t xs false e go same h = ap (λ ys. x ∷ ys) (go h)

-- what leaves the thread of a number as it is leaves all threads
pub same_threads : (change : Thread → Thread) (n : ℕ) (ts : List Thread) (t : Thread) → change t ≡ t → find (is_named n) ts ≡ Some t → updated change n ts ≡ ts
same_threads change n [] t same h = refl
same_threads change n (x ∷ xs) t same h = same-at change n x t xs (x.number == n) refl (same_threads change n xs t same) same h

at_base : Thread → ℕ → Stack
at_base t n = record { base = base_of t; words = n }

all_with : Everyone → List Thread → Everyone
all_with all threads = record all { threads = threads }

with-same-status : (status : Status) (t : Thread) → t.status ≡ status → with_status status t ≡ t
with-same-status status t e = ap (λ (s : Status). record t { status = s }) (sym e)

-- a thread that is ready stands at an instruction that doesn't let it wait as it is
pub stands_so : (i : Instr) (u : State) (t : Thread) → running_thread u ≡ Some t → t.status ≡ Ready → status_at i ≡ Ready → stands i u ≡ u
unfolding all_with
stands_so i u t running ready free =
    ap (λ ts. with_all u (all_with u.all ts)) (same_threads (with_status (status_at i)) u.running u.all.threads t (with-same-status (status_at i) t (ready ∙ sym free)) running)

goes-ready : (s : State) (t : Thread) (p : Program) → running_thread s ≡ Some t → t.status ≡ Ready → may_go s.all (outside p s) s.running ≡ true
goes-ready s t p running ready =
    ap (λ (o : Option Thread). may_go_if (held s.all (outside p s)) o) running ∙ ap (λ (status : Status). may_go_at status t (held s.all (outside p s))) ready

-- it is chosen again
pub goes_again : (p : Program) (s : State) (t : Thread) → running_thread s ≡ Some t → t.status ≡ Ready → Chooses p (first_entry []) s (runs_on (passed s) s.running)
goes_again p s t running ready =
    let goes = goes-ready s t p running ready in
    let choice : IsChoice (passed s).all (outside p (passed s)) None s.running (Some s.running) = record {
      named = λ n e. cc;
      stays = λ e f. refl;
      lowest = λ e asleep. absurd (true≢false (sym goes ∙ asleep));
      none = (λ e. cc, λ nobody. absurd (true≢false (sym goes ∙ nobody s.running)));
    } in
    record {
      some = λ nobody. true≢false (sym goes ∙ nobody s.running);
      ready = passed s;
      collected = uncollected;
      chosen = s.running;
      choice = choice;
      turns = refl;
    }

point_more : State → ℕ → State
point_more u n = record u { points = n }

one-more : (n m : ℕ) → n < m → m < 2 ^ 64 → raised 64 n ≡ n + 1
one-more n m few small = omega (arith, few, small)

-- so a turn goes on over a point
pub enters_again : (p : Program) (k : Track) (u : State) (t : Thread) (i : Instr) (n : ℕ)
    → k.entries ≡ [] → Went p k u n → running_thread u ≡ Some t → slice_get p.code t.regs.pc ≡ Some i → is_point i.op ≡ true → status_at i ≡ Ready → t.status ≡ Ready
    → u.points < k.allowed → k.allowed < 2 ^ 64 → Enters p k (record u { points = u.points + 1 }) 1
unfolding point_more
enters_again p k u t i n none went running next point free ready few small =
    let here = stands_so i u t running ready free in
    let chosen : Chooses p (first_entry []) (stands i u) (runs_on (passed u) u.running) =
    subst (λ (s : State). Chooses p (first_entry []) s (runs_on (passed u) u.running)) (sym here) (goes_again p u t running ready) in
    subst (λ (s : State). Enters p k s 1) (ap (λ m. point_more u m) (one-more u.points k.allowed few small))
    (enters_past p k u (runs_on (passed u) u.running) t i n none went running next point few chosen)

-- ---- a turn that stands between two instructions

-- a stack stays where it is, as long as it is
pub stack_stays : (all new : Everyone) (t : Thread) → KeepsStacks all new → stack_of new t ≡ stack_of all t
unfolding at_base
stack_stays all new t k =
    let same : length (words_of new t) ≡ length (words_of all t) =
    sym (get_or-map (λ (words : List ℕ). length words) new.stacks t.slot []) ∙ ap (λ (ds : List ℕ). slice_index_or ds t.slot 0) k.same_depths ∙ get_or-map (λ (words : List ℕ). length words) all.stacks t.slot [] in
    ap (λ n. at_base t n) same

turn-of : Program → Everyone → ℕ
turn-of p all = (all.stack + 1) * length p.code

turn-stays : (p : Program) (all new : Everyone) → KeepsStacks all new → turn-of p new ≡ turn-of p all
unfolding turn-of
turn-stays p all new k = ap (λ (a : Everyone). turn-of p a) k.rest

number-more : (limit left : ℕ) → left ≤ limit → 1 ≤ left → limit - left + 1 ≡ limit - (left - 1)
number-more limit left within some = omega (arith, within, some)

number-one : (limit : ℕ) → 1 ≤ limit → 1 ≡ limit - (limit - 1)
number-one limit some = omega (arith, some)

number-below : (limit left : ℕ) → left ≤ limit → 1 ≤ left → limit - left < limit
number-below limit left within some = omega (arith, within, some)

-- into an instruction that is no point
pub stands_before : (p : Program) (k : Track) (stack : Stack) (limit left points : ℕ) (i : Instr) (regs : Regs) (all : Everyone) (g : List ℕ) (heap : Heap)
    → Standing p k stack limit left points regs all g heap → slice_get p.code regs.pc ≡ Some i → is_point i.op ≡ false → 1 ≤ left → Enters p k (seen k.base regs all g heap) (limit - left + 1)
unfolding turn-of
stands_before p k stack limit left points i regs all g heap st next plain some =
    let within : limit - left < turn-of p all = subst (λ n. limit - left < n) (sym st.turn) (number-below limit left st.within some) in
    enters_on p k (seen k.base regs all g heap) (regs_set regs k.thread) i (limit - left) st.went (found-again regs k.base.running all.threads k.thread st.running) next plain within

with_base : Track → ℕ → ℕ → Track
with_base k points instructions = record k { base = record k.base { points = points; instructions = instructions } }

-- over it
pub stood_on : (p : Program) (k : Track) (stack : Stack) (limit left points : ℕ) (i : Instr) (regs to : Regs) (all new_all : Everyone) (g g' : List ℕ) (heap heap' : Heap)
    → Standing p k stack limit left points regs all g heap → slice_get p.code regs.pc ≡ Some i → is_point i.op ≡ false → 1 ≤ left
    → Goes_on p stack i regs all g heap to new_all g' heap'
    → Standing p (further k 0 1) stack limit (left - 1) points to new_all g' heap'
unfolding turn-of with_base
stood_on p k stack limit left points i regs to all new_all g g' heap heap' st next plain some goes =
    let enters = stands_before p k stack limit left points i regs all g heap st next plain some in
    let v = seen (executed k.base) to new_all g' heap' in
    let went : Went p k v (limit - left + 1) =
    leads_silently p k (seen k.base regs all g heap) (regs_set regs k.thread) i (limit - left + 1) (Goes v) enters
    (found-again regs k.base.running all.threads k.thread st.running) next (goes.does k.input k.base k.thread st.running st.place) in
    let on : Standing p (with_base k k.base.points (k.base.instructions + 1)) stack limit (left - 1) points to new_all g' heap' = record {
      running = found_still all new_all k.base.running k.thread goes.keeps st.running;
      ready = st.ready;
      place = stack_stays all new_all k.thread goes.keeps ∙ st.place;
      turn = turn-stays p all new_all goes.keeps ∙ st.turn;
      within = omega (arith, st.within);
      few = st.few;
      small = st.small;
      free = st.free;
      went = subst (λ n. Went p k v n) (number-more limit left st.within some) went;
    } in
    subst (λ n. Standing p (with_base k n (k.base.instructions + 1)) stack limit (left - 1) points to new_all g' heap') (omega arith) on

-- over one that is a point, where no choice is left
pub stood_past : (p : Program) (k : Track) (stack : Stack) (limit left points : ℕ) (i : Instr) (regs to : Regs) (all new_all : Everyone) (g g' : List ℕ) (heap heap' : Heap)
    → Standing p k stack limit left points regs all g heap → slice_get p.code regs.pc ≡ Some i → is_point i.op ≡ true → status_at i ≡ Ready → 1 ≤ points → 1 ≤ limit
    → Goes_on p stack i regs all g heap to new_all g' heap'
    → Standing p (further k 1 1) stack limit (limit - 1) (points - 1) to new_all g' heap'
unfolding turn-of
stood_past p k stack limit left points i regs to all new_all g g' heap heap' st next point free some more goes =
    let u = seen k.base regs all g heap in
    let one : State = record k.base { points = k.base.points + 1 } in
    let none : k.entries ≡ [] = st.free some in
    let there = found-again regs k.base.running all.threads k.thread st.running in
    let few : k.base.points < k.allowed = omega (arith, st.few, some) in
    let enters = enters_again p k u (regs_set regs k.thread) i (limit - left) none st.went there next point free (st.ready some) few st.small in
    let v = seen (executed one) to new_all g' heap' in
    let over : Went p k v 1 =
    leads_silently p k (seen one regs all g heap) (regs_set regs k.thread) i 1 (Goes v) enters there next (goes.does k.input one k.thread st.running st.place) in
    record {
      running = found_still all new_all k.base.running k.thread goes.keeps st.running;
      ready = λ h. st.ready some;
      place = stack_stays all new_all k.thread goes.keeps ∙ st.place;
      turn = turn-stays p all new_all goes.keeps ∙ st.turn;
      within = omega arith;
      few = omega (arith, st.few, some);
      small = st.small;
      free = λ h. none;
      went = subst (λ n. Went p k v n) (number-one limit more) over;
    }

-- into the end of the run
pub stood_end : (p : Program) (k : Track) (stack : Stack) (limit left points : ℕ) (i : Instr) (regs : Regs) (all : Everyone) (g : List ℕ) (heap : Heap) (v : State) (outcome : Outcome)
    → Standing p k stack limit left points regs all g heap → slice_get p.code regs.pc ≡ Some i → is_point i.op ≡ false → 1 ≤ left
    → Does p k.input (regs_set regs k.thread) i (executed (seen k.base regs all g heap)) [] (Ends v outcome) → LeadsTo p k (Over v outcome)
stood_end p k stack limit left points i regs all g heap v outcome st next plain some does =
    let enters = stands_before p k stack limit left points i regs all g heap st next plain some in
    leads_silently p k (seen k.base regs all g heap) (regs_set regs k.thread) i (limit - left + 1) (Ends v outcome) enters
    (found-again regs k.base.running all.threads k.thread st.running) next does (Over v outcome) (run_ends v outcome)

-- ---- the same by other names of the same numbers

base_after : State → ℕ → ℕ → State
base_after base a b = record base { points = base.points + a; instructions = base.instructions + b }

pub renumber : (p : Program) (constants : List ℕ) (k : Track) (stack : Stack) (limit a b left points a' b' left' points' : ℕ) (regs : Regs) (all : Everyone) (g : List ℕ) (heap : Heap)
    → constants ≡ p.constants → a ≡ a' → b ≡ b' → left ≡ left' → points ≡ points' → Standing p (further k a b) stack limit left points regs all g heap
    → Standing (record p { constants = constants }) (further k a' b') stack limit left' points' regs all g heap
renumber p constants k stack limit a b left points a' b' left' points' regs all g heap same one two three four st =
    subst (λ cs. Standing (record p { constants = cs }) (further k a' b') stack limit left' points' regs all g heap) (sym same)
    (subst (λ n. Standing p (further k a' b') stack limit left' n regs all g heap) four
    (subst (λ n. Standing p (further k a' b') stack limit n points regs all g heap) three
    (subst (λ n. Standing p (further k a' n) stack limit left points regs all g heap) two
    (subst (λ n. Standing p (further k n b) stack limit left points regs all g heap) one st))))

pub reover : (p : Program) (constants : List ℕ) (k : Track) (a b : ℕ) (regs : Regs) (all : Everyone) (g : List ℕ) (heap : Heap) (outcome : Outcome)
    → constants ≡ p.constants → a ≡ 0 → b ≡ 1 → LeadsTo p k (Over (seen (executed k.base) regs all g heap) outcome)
    → LeadsTo (record p { constants = constants }) (further k a b) (Over (seen (further k a b).base regs all g heap) outcome)
unfolding base_after
reover p constants k a b regs all g heap outcome same one two leads =
    let points : k.base.points ≡ k.base.points + a = omega (arith, one) in
    let instructions : k.base.instructions + 1 ≡ k.base.instructions + b = omega (arith, two) in
    let base : executed k.base ≡ base_after k.base a b =
    ap (λ n. record k.base { points = n; instructions = k.base.instructions + 1 }) points ∙ ap (λ n. record k.base { points = k.base.points + a; instructions = n }) instructions in
    subst (λ cs. LeadsTo (record p { constants = cs }) k (Over (seen (base_after k.base a b) regs all g heap) outcome)) (sym same)
    (subst (λ (s : State). LeadsTo p k (Over (seen s regs all g heap) outcome)) base leads)

track_after : Track → ℕ → ℕ → Track
track_after k points instructions = record k { base = record k.base { points = points; instructions = instructions } }

-- after some and some more
pub further_on : (k : Track) (a b a' b' x y : ℕ) → a + a' ≡ x → b + b' ≡ y → further (further k a b) a' b' ≡ further k x y
unfolding track_after
further_on k a b a' b' x y one two =
    let points : k.base.points + a + a' ≡ k.base.points + x = omega (arith, one) in
    let instructions : k.base.instructions + b + b' ≡ k.base.instructions + y = omega (arith, two) in
    ap (λ n. track_after k n (k.base.instructions + b + b')) points ∙ ap (λ n. track_after k (k.base.points + x) n) instructions
