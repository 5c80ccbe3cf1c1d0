-- What each instruction leaves of where the threads stand.
use Rattle.std.specs.Prelude.{ℕ, ◌≡◌, ◌≢◌, ◌<◌, ◌+◌, true, false, List, [], ◌∷◌, length, find, slice_get, Option, None, Some, Result, Ok, Err}
use Rattle.std.specs.Int.{cast_unsigned, w32}
use Rattle.std.specs.Option.{option_map_or}
use Rattle.std.proofs.Common.{refl, sym, ap, subst, ◌∙◌, arith}
use Rattle.m3_base.specs.declared.outcomes.Outcome.{Outcome}
use Rattle.m3_base.specs.declared.outcomes.Outcome.TheVariants.{Done, Trap}
use Rattle.m3_isa.specs.Memory.{Memory}
use Rattle.m3_isa.specs.Effects as isa
use Rattle.m3_base.specs.Words.{add_words}
use Rattle.m3_isa.specs.Effects.{Effect, reg, answered}
use Rattle.m3_isa.specs.Instructions.{is_point}
use Rattle.m3_isa.specs.declared.registers.Regs.{Regs}
use Rattle.m3_isa.specs.declared.instructions.Op.{Op}
use Rattle.m3_isa.specs.declared.instructions.Op.TheVariants as op
use Rattle.m3_isa.specs.declared.instructions.Instr.{Instr}
use Rattle.m3_threads.specs.declared.answers.Done.{Done as Ended}
use Rattle.m3_threads.specs.declared.answers.Done.TheVariants.{Went, Jumped, Slept, Trapped}
use Rattle.m3_threads.specs.declared.status.Thread.{Thread}
use Rattle.m3_threads.specs.All.{Everyone, is_named}
use Rattle.m3_threads.specs.Going.{IsAwake, IsAwakeAt, status_at, status_at_of, with_status}
use Rattle.m3_threads.specs.Actions.{After, IsAfter, Forks, forked, started, ends, joins, acquires, releases, waits, wakes, broadcasts, alerts, tests_alert, alert_waits, alert_joins}
use Rattle.m3_threads.proofs.Places.{found-number}
use Rattle.m3_image_sections.specs.declared.procs.ProcPart.{ProcPart}
use Rattle.m3_image_sections.specs.Parts.{Program, CellType}
use Rattle.m3_image_sections.specs.Ranges.{containing, is_point_at}
use Rattle.m3_run_meaning.specs.State.{State, outside, settable, can_set, running_thread, with_regs, with_all, memory_of}
use Rattle.m3_run_meaning.specs.Act as act
use Rattle.m3_run_meaning.specs.Act.{Act}
use Rattle.m3_run_meaning.specs.Progress.{Progress, Goes, Rests, Ends, GoesOver, Follows, became}
use Rattle.m3_run_meaning.specs.Calls.{place_of, stack_of, number_before, method_called}
use Rattle.m3_run_meaning.specs.Acts.{fault_kinds, puts_number, puts_byte, tells_end}
use Rattle.m3_run_meaning.specs.Making.{GivesCell, Makes_fixed, not_fixed, makes_fixed}
use Rattle.m3_run_meaning.specs.NewTexts.{Fills, FillsText, GivesText, Makes_text, Cats, Subs, GivesOpen, Makes_open, not_open, no_sizes, makes_open, standing_at, Starts_thread, GivesThread, Forks_thread, too_many, makes_thread}
use Rattle.m3_run_meaning.specs.OnThreads.{Acts_on_threads, answer_of, answer_of_end, On_threads}
use Rattle.m3_run_meaning.specs.Steps.{Plainly, goes, trap, Acts, Does}
use Rattle.m3_run_laws.specs.Standing.{AtPoint, InTurnOf, BeginsAtPoints}
use Rattle.m3_run_laws.proofs.ThreadLists.{but_one_more, has_more, length_more}
use Rattle.m3_run_laws.proofs.ThreadSteps.{GoOn, Leaves_turn, Ends_turn, By, Ends_by, anyone, acquires_leaves, releases_leaves, waits_leaves, wakes_leaves, broadcasts_leaves, joins_leaves, alerts_leaves, tests_leaves, alert_waits_leaves, alert_joins_leaves, ends_leaves}
use Rattle.m3_run_laws.proofs.Ending.{FailsOtherwise, StopsOtherwise, by-trap, before-fails, from-fails, call-stops, return-stops, method-stops, type-stops, fault-stops, is-uncaught-stops, text-stops, get-stops, self-stops, fixed-fails, open-fails, sizes-fail, lengths-fail}
use Rattle.m3_run_laws.proofs.Stores.{lawful_itself}
use Rattle.m3_run_laws.proofs.Stays.{SameCounts, counts_on, Stays, taken_stays, words_stay, KeepsTurn, Keeps, stays_then, ends_so, goes_so, goes_later, Made, makes_keep}

no-counts : (s : State) → SameCounts s s
no-counts s = record { points = refl; instructions = refl; store = lawful_itself s.heap }

-- ---- acts

written : (p : Program) (s : State) (regs : Regs) (memory : Memory) (progress : Progress) → InTurnOf p s.running s.all → GoesOver p (with_regs s regs) memory progress → Keeps p s progress
written p s regs memory (Goes u) turn h =
    let first : KeepsTurn p s (with_regs s regs) = goes_so p s regs (Goes (with_regs s regs)) turn refl in
    let a = words_stay p (with_regs s regs) u h.others in
    record {
      counts = record { points = a.counts.points; instructions = a.counts.instructions; store = a.counts.store };
      running = a.running;
      depth = a.depth;
      turn = a.turn s.running first.turn;
      asked = a.asked;
    }
written p s regs memory (Rests u) turn h = absurd h
written p s regs memory (Ends u outcome) turn h = absurd h

pub follows_keep : (p : Program) (deed : Act) (s : State) (progress : Progress) → InTurnOf p s.running s.all → StopsOtherwise deed → Follows p deed s progress → Keeps p s progress
follows_keep p (act.Proceeds regs) s progress turn k h = goes_so p s regs progress turn h
follows_keep p (act.Writes regs memory) s progress turn k h = written p s regs memory progress turn h
follows_keep p (act.Puts bytes regs) s progress turn k h = goes_so p s regs progress turn h
follows_keep p (act.Takes regs) s progress turn k h = goes_later p s (record s { taken = s.taken + 1 }) regs progress (taken_stays p s (s.taken + 1)) turn h
follows_keep p (act.Stops outcome) s progress turn k h = ends_so p s s outcome progress (no-counts s) k h

plainly-keeps : (p : Program) (t : Thread) (i : Instr) (s : State) (e : Effect) (progress : Progress) → InTurnOf p s.running s.all → Plainly p t i s e progress → Keeps p s progress
plainly-keeps p t i s e progress turn (goes regs memory u becomes) = written p s regs memory (Goes u) turn becomes
plainly-keeps p t i s e progress turn (trap n u off) = ((words_stay p s u off.others).counts, tt)

-- ---- new cells

cell-keeps : (p : Program) (i : Instr) (s : State) (answer : Result ℕ Outcome) (u : State) (progress : Progress) → InTurnOf p s.running s.all → Made p s answer u → GivesCell i answer u progress → Keeps p s progress
cell-keeps p i s (Ok start) u progress turn a gives =
    let later = subst (λ (n : ℕ). InTurnOf p n u.all) (sym a.running) (a.turn s.running turn) in
    stays_then p s u progress a (goes_so p u (answered later.running.0.regs i.a start) progress later (gives later.running.0 later.running.1))
cell-keeps p i s (Err outcome) u progress turn a gives = ends_so p s u outcome progress a.0 a.1 gives

fixed-keeps : (p : Program) (i : Instr) (kind : ℕ) (s : State) (words : Result ℕ Outcome) (progress : Progress) → InTurnOf p s.running s.all → FailsOtherwise words → Makes_fixed p i kind s words progress → Keeps p s progress
fixed-keeps p i kind s words progress turn fails (not_fixed outcome e) = (no-counts s, subst (λ (r : Result ℕ Outcome). FailsOtherwise r) e fails)
fixed-keeps p i kind s words progress turn fails (makes_fixed n answer u q e m gives) = cell-keeps p i s answer u q turn (makes_keep p kind n s answer u m) gives

fills-keep : (p : Program) (a start : ℕ) (words : List ℕ) (u : State) (t : Thread) (progress : Progress) → InTurnOf p u.running u.all → Fills p a start words u t progress → Keeps p u progress
fills-keep p a start words u t progress turn h = goes_later p u h.filled (answered t.regs a start) progress (words_stay p u h.filled h.becomes.others) turn h.goes

text-keeps : (p : Program) (a start : ℕ) (bytes : Option (List ℕ)) (u : State) (t : Thread) (progress : Progress) → InTurnOf p u.running u.all → FillsText p a start bytes u t progress → Keeps p u progress
text-keeps p a start None u t progress turn h = ends_so p u u (Trap 2) progress (no-counts u) tt h
text-keeps p a start (Some bytes) u t progress turn h = fills-keep p a start _ u t progress turn h

gives-text : (p : Program) (a : ℕ) (bytes : Memory → Thread → Option (List ℕ)) (s : State) (answer : Result ℕ Outcome) (u : State) (progress : Progress) → InTurnOf p s.running s.all → Made p s answer u
    → GivesText p a bytes answer u progress → Keeps p s progress
gives-text p a bytes s (Ok start) u progress turn k gives =
    let later = subst (λ (n : ℕ). InTurnOf p n u.all) (sym k.running) (k.turn s.running turn) in
    let t = later.running.0 in
    stays_then p s u progress k (text-keeps p a start (bytes (memory_of p u) t) u t progress later (gives t later.running.1))
gives-text p a bytes s (Err outcome) u progress turn k gives = ends_so p s u outcome progress k.0 k.1 gives

makes-text : (p : Program) (a : ℕ) (s : State) (count : ℕ) (bytes : Memory → Thread → Option (List ℕ)) (progress : Progress) → InTurnOf p s.running s.all → Makes_text p a s count bytes progress → Keeps p s progress
makes-text p a s count bytes progress turn h = gives-text p a bytes s h.made h.left progress turn (makes_keep p 0 _ s h.made h.left h.makes) h.gives

cats-keep : (p : Program) (i : Instr) (s : State) (told : Result (ℕ × ℕ) Outcome) (progress : Progress) → InTurnOf p s.running s.all → FailsOtherwise told → Cats p i s told progress → Keeps p s progress
cats-keep p i s (Err outcome) progress turn fails h = ends_so p s s outcome progress (no-counts s) fails h
cats-keep p i s (Ok (left, right)) progress turn fails h = makes-text p i.a s (left + right) _ progress turn h

subs-keep : (p : Program) (t : Thread) (i : Instr) (s : State) (told : Result ℕ Outcome) (progress : Progress) → InTurnOf p s.running s.all → FailsOtherwise told → Subs p t i s told progress → Keeps p s progress
subs-keep p t i s (Err outcome) progress turn fails h = ends_so p s s outcome progress (no-counts s) fails h
subs-keep p t i s (Ok bytes) progress turn fails h = makes-text p i.a s _ _ progress turn h

gives-open : (p : Program) (a : ℕ) (sizes : List ℕ) (s : State) (answer : Result ℕ Outcome) (u : State) (progress : Progress) → InTurnOf p s.running s.all → Made p s answer u
    → GivesOpen p a sizes answer u progress → Keeps p s progress
gives-open p a sizes s (Ok start) u progress turn k gives =
    let later = subst (λ (n : ℕ). InTurnOf p n u.all) (sym k.running) (k.turn s.running turn) in
    let t = later.running.0 in
    stays_then p s u progress k (fills-keep p a start sizes u t progress later (gives t later.running.1))
gives-open p a sizes s (Err outcome) u progress turn k gives = ends_so p s u outcome progress k.0 k.1 gives

open-keeps : (p : Program) (t : Thread) (i : Instr) (s : State) (told : Result CellType Outcome) (progress : Progress) → InTurnOf p s.running s.all → FailsOtherwise told → Makes_open p t i s told progress → Keeps p s progress
open-keeps p t i s told progress turn bad (not_open outcome e) = (no-counts s, subst (λ (r : Result CellType Outcome). FailsOtherwise r) e bad)
open-keeps p t i s told progress turn bad (no_sizes form outcome e fails) = (no-counts s, sizes-fail _ _ _ outcome fails)
open-keeps p t i s told progress turn bad (makes_open form sizes answer u q e read m gives) = gives-open p i.a sizes s answer u q turn (makes_keep p _ _ s answer u m) gives

-- ---- a new thread

pub some-at : (o : Option Instr) → option_map_or (λ i. is_point i.op) o false ≡ true → (i : Instr) × (o ≡ Some i)
some-at None e = absurd cc
some-at (Some i) e = (i, refl)

stands-awake : (o : Op) (a b : ℕ) → IsAwakeAt (status_at_of o a b)
stands-awake op.Acq a b = tt
stands-awake op.Join a b = tt
stands-awake op.Ajoin a b = tt
stands-awake _ a b = tt

forks-keep : (p : Program) (n : ℕ) (old new : Everyone) (first closure cell number : ℕ) → is_point_at p.code first ≡ true → length old.threads < old.allowed → Forks old first closure cell number new → InTurnOf p n old
    → (new.stack ≡ old.stack) × InTurnOf p n new
forks-keep p n old new first closure cell number point room f turn =
    let next = forked old f.0 first closure cell in
    let t = started (old.forks + 1) f.0 first in
    let l = length_more t old.threads in
    let k : InTurnOf p n next = record {
      running = has_more IsAwake n old.threads (t ∷ []) turn.running;
      others = but_one_more (AtPoint p) n t old.threads point turn.others;
      few = omega (arith, l, room);
    } in
    subst (λ (a : Everyone). (a.stack ≡ old.stack) × InTurnOf p n a) (sym f.3) (refl, k)

-- from a state of the same counts, with the same running thread
keeps-from : (p : Program) (u there : State) (progress : Progress) → SameCounts u there → there.running ≡ u.running → there.all.stack ≡ u.all.stack → (u.heap.asked ≡ 0 → there.heap.asked ≡ 0) → Keeps p there progress → Keeps p u progress
keeps-from p u there (Goes v) counts running depth asked k = record {
  counts = counts_on u there v counts k.counts;
  running = k.running ∙ running;
  depth = k.depth ∙ depth;
  turn = subst (λ (m : ℕ). InTurnOf p m v.all) running k.turn;
  asked = λ none. k.asked (asked none);
}
keeps-from p u there (Rests v) counts running depth asked k = record {
  counts = counts_on u there v counts k.counts;
  depth = k.depth ∙ depth;
  at_points = k.at_points;
  asked = λ none. k.asked (asked none);
}
keeps-from p u there (Ends v outcome) counts running depth asked k = (counts_on u there v counts k.0, k.1)

starts-keep : (p : Program) (i : Instr) (start : ℕ) (first : ProcPart) (begins : Instr) (u : State) (t : Thread) (progress : Progress) → is_point_at p.code first.first ≡ true → length u.all.threads < u.all.allowed
    → InTurnOf p u.running u.all → Starts_thread p i start first begins u t progress → Keeps p u progress
starts-keep p i start first begins u t progress point room turn h =
    let n = u.running in
    let f = forks-keep p n u.all h.forked first.first _ start _ point room h.forks turn in
    let w = words_stay p (with_all u h.forked) h.numbered h.number.others in
    let later : InTurnOf p n h.numbered.all = w.turn n f.1 in
    let stood = anyone p h.numbered.all.stack (with_status (status_at begins)) (u.all.forks + 1) n h.numbered.all (refl, later) (λ v. refl) (λ v awake. stands-awake begins.op begins.a begins.b) (λ v at. at) in
    let there : State = with_all h.numbered (standing_at begins (u.all.forks + 1) h.numbered.all) in
    let last : Keeps p there progress = goes_so p there (answered t.regs i.a start) progress (subst (λ (m : ℕ). InTurnOf p m there.all) (sym w.running) stood.1) h.goes in
    keeps-from p u there progress (record { points = w.counts.points; instructions = w.counts.instructions; store = w.counts.store }) w.running (w.depth ∙ f.0) w.asked last

gives-thread : (p : Program) (i : Instr) (s : State) (answer : Result ℕ Outcome) (u : State) (progress : Progress) → BeginsAtPoints p → InTurnOf p s.running s.all → length s.all.threads ≢ s.all.allowed → Made p s answer u
    → GivesThread p i answer u progress → Keeps p s progress
gives-thread p i s (Ok start) u progress begins turn apart k gives =
    let later = subst (λ (n : ℕ). InTurnOf p n u.all) (sym k.running) (k.turn s.running turn) in
    let t = later.running.0 in
    let b = some-at (slice_get p.code begins.first.first) begins.point in
    let room : length u.all.threads < u.all.allowed = omega (arith, k.many, k.allowed, later.few, apart) in
    stays_then p s u progress k (starts-keep p i start begins.first b.0 u t progress begins.point room later (gives t begins.first b.0 later.running.1 room begins.there b.1))
gives-thread p i s (Err outcome) u progress begins turn apart k gives = ends_so p s u outcome progress k.0 k.1 gives

fork-keeps : (p : Program) (i : Instr) (s : State) (progress : Progress) → BeginsAtPoints p → InTurnOf p s.running s.all → Forks_thread p i s progress → Keeps p s progress
fork-keeps p i s progress begins turn (too_many e) = (no-counts s, tt)
fork-keeps p i s progress begins turn (makes_thread answer u q apart m gives) = gives-thread p i s answer u q begins turn apart (makes_keep p 1 4 s answer u m) gives

-- ---- instructions on threads

left-counts : (s left : State) → SameCounts (with_all s left.all) left → SameCounts s left
left-counts s left h = record { points = h.points; instructions = h.instructions; store = h.store }

thread-keeps : (p : Program) (s left : State) (done : Ended) → Stays p (with_all s left.all) left → Leaves_turn p s.running s.all.stack done left.all → Keeps p s (became (answer_of done) left)
thread-keeps p s left Went w k = record { counts = left-counts s left w.counts; running = w.running; depth = k.0; turn = k.1; asked = w.asked }
thread-keeps p s left Jumped w k = record { counts = left-counts s left w.counts; running = w.running; depth = k.0; turn = k.1; asked = w.asked }
thread-keeps p s left Slept w k = record { counts = left-counts s left w.counts; depth = k.0; at_points = k.1; asked = w.asked }
thread-keeps p s left (Trapped n) w k = (left-counts s left w.counts, tt)

end-keeps : (p : Program) (s left : State) (done : Ended) → Stays p (with_all s left.all) left → Ends_turn p s.all.stack done left.all → Keeps p s (became (answer_of_end done) left)
end-keeps p s left Went w k = record { counts = left-counts s left w.counts; depth = k.0; at_points = k.1; asked = w.asked }
end-keeps p s left Jumped w k = record { counts = left-counts s left w.counts; depth = k.0; at_points = k.1; asked = w.asked }
end-keeps p s left Slept w k = record { counts = left-counts s left w.counts; depth = k.0; at_points = k.1; asked = w.asked }
end-keeps p s left (Trapped n) w k = (left-counts s left w.counts, tt)

-- by what m3_threads says of it
on-by : (p : Program) (t : Thread) (i : Instr) (s : State) (progress : Progress) (h : On_threads p t i s answer_of progress) (after : After) → t.number ≡ s.running
    → IsAfter after h.done h.left.all (outside p h.left) → By p t.number s.all.stack after → Keeps p s progress
on-by p t i s progress h after own is k =
    let one = subst (λ (n : ℕ). Leaves_turn p n s.all.stack after.answer after.all) own k in
    let two = subst (λ (d : Ended). Leaves_turn p s.running s.all.stack d after.all) (sym is.answered) one in
    let three = subst (λ (a : Everyone). Leaves_turn p s.running s.all.stack h.done a) (sym is.threads) two in
    subst (λ (q : Progress). Keeps p s q) (sym h.became) (thread-keeps p s h.left h.done (words_stay p (with_all s h.left.all) h.left h.others) three)

end-by : (p : Program) (t : Thread) (i : Instr) (s : State) (progress : Progress) (h : On_threads p t i s answer_of_end progress) (after : After)
    → IsAfter after h.done h.left.all (outside p h.left) → Ends_by p s.all.stack after → Keeps p s progress
end-by p t i s progress h after is k =
    let one = subst (λ (d : Ended). Ends_turn p s.all.stack d after.all) (sym is.answered) k in
    let two = subst (λ (a : Everyone). Ends_turn p s.all.stack h.done a) (sym is.threads) one in
    subst (λ (q : Progress). Keeps p s q) (sym h.became) (end-keeps p s h.left h.done (words_stay p (with_all s h.left.all) h.left h.others) two)

-- ---- each operation

pub at-point : (p : Program) (t : Thread) (i : Instr) → slice_get p.code t.regs.pc ≡ Some i → is_point i.op ≡ true → AtPoint p t
at-point p t i next point = ap (λ (o : Option Instr). option_map_or (λ x. is_point x.op) o false) next ∙ point

own-number : (s : State) (t : Thread) → running_thread s ≡ Some t → t.number ≡ s.running
own-number s t found = found-number s.running s.all.threads t found

own-turn : (p : Program) (s : State) (t : Thread) → running_thread s ≡ Some t → InTurnOf p s.running s.all → GoOn p t.number s.all.stack s.all
own-turn p s t found turn = (refl, subst (λ (n : ℕ). InTurnOf p n s.all) (sym (own-number s t found)) turn)

own-found : (s : State) (t : Thread) → running_thread s ≡ Some t → find (is_named t.number) s.all.threads ≡ Some t
own-found s t found = ap (λ (n : ℕ). find (is_named n) s.all.threads) (own-number s t found) ∙ found

acts_keep : (p : Program) (input : List ℕ) (t : Thread) (i : Instr) (s : State) (bytes : List ℕ) (progress : Progress) (o : Op) → i.op ≡ o → BeginsAtPoints p → InTurnOf p s.running s.all
    → running_thread s ≡ Some t → slice_get p.code t.regs.pc ≡ Some i → Acts p input t i s bytes progress o → Keeps p s progress
acts_keep p input t i s bytes progress op.Call e begins turn found next h = follows_keep p _ s progress turn (call-stops p (Ok (cast_unsigned w32 i.imm)) (stack_of s.all t) t.regs (memory_of p s) (can_set s) tt) h.1
acts_keep p input t i s bytes progress op.Callr e begins turn found next h = follows_keep p _ s progress turn (call-stops p (number_before 3 (reg t.regs i.a)) (stack_of s.all t) t.regs (memory_of p s) (can_set s) (before-fails 3 (reg t.regs i.a))) h.1
acts_keep p input t i s bytes progress op.Callm e begins turn found next h = follows_keep p _ s progress turn (call-stops p (method_called p (cast_unsigned w32 i.imm) (place_of t.regs) (memory_of p s)) (stack_of s.all t) t.regs (memory_of p s) (can_set s) (from-fails (containing p.procs t.regs.pc) p.types (cast_unsigned w32 i.imm) (place_of t.regs) (memory_of p s))) h.1
acts_keep p input t i s bytes progress op.Ret e begins turn found next h = follows_keep p _ s progress turn (return-stops (length p.code) t.regs (memory_of p s)) h.1
acts_keep p input t i s bytes progress op.Meth e begins turn found next h = follows_keep p _ s progress turn (method-stops p.types i t.regs (memory_of p s)) h.1
acts_keep p input t i s bytes progress op.Subt e begins turn found next h = follows_keep p h.0 s progress turn (type-stops p.types i t.regs (memory_of p s) h.0 h.1) h.2.1
acts_keep p input t i s bytes progress op.New e begins turn found next h = fixed-keeps p i _ s _ progress turn (fixed-fails (slice_get p.types (cast_unsigned w32 i.imm))) h.1
acts_keep p input t i s bytes progress op.Newo e begins turn found next h = open-keeps p t i s _ progress turn (open-fails (slice_get p.types (cast_unsigned w32 i.imm))) h.1
acts_keep p input t i s bytes progress op.Point e begins turn found next h = follows_keep p (act.Proceeds (isa.next t.regs)) s progress turn (tt) h.1
acts_keep p input t i s bytes progress op.Fault e begins turn found next h = follows_keep p _ s progress turn (fault-stops (slice_get fault_kinds i.a) (slice_get p.places (cast_unsigned w32 i.imm))) h.1
acts_keep p input t i s bytes progress op.Unc e begins turn found next h = follows_keep p _ s progress turn (is-uncaught-stops p i t.regs) h.1
acts_keep p input t i s bytes progress op.Endp e begins turn found next h = follows_keep p (act.Stops Done) s progress turn (tt) h.1
acts_keep p input t i s bytes progress op.Endt e begins turn found next h =
    end-by p t i s progress h.1 (ends t i s.all (outside p s) (settable s)) (subst (λ (x : Op). Acts_on_threads x t i s.all (outside p s) (settable s) h.1.done h.1.left.all (outside p h.1.left)) e h.1.acts)
    (ends_leaves p s.all.stack t i s.all (outside p s) (settable s) (own-turn p s t found turn))
acts_keep p input t i s bytes progress op.Cat e begins turn found next h = cats-keep p i s _ progress turn (lengths-fail (memory_of p s) (reg t.regs i.b) (reg t.regs i.c)) h.1
acts_keep p input t i s bytes progress op.Tchr e begins turn found next h = makes-text p i.a s 1 _ progress turn h.1
acts_keep p input t i s bytes progress op.Tsub e begins turn found next h = subs-keep p t i s _ progress turn (by-trap 2 (memory_of p s (add_words (reg t.regs i.b) 1))) h.1
acts_keep p input t i s bytes progress op.Fork e begins turn found next h = fork-keeps p i s progress begins turn h.1
acts_keep p input t i s bytes progress op.Join e begins turn found next h =
    on-by p t i s progress h.1 (joins t i s.all (outside p s) (settable s)) (own-number s t found) (subst (λ (x : Op). Acts_on_threads x t i s.all (outside p s) (settable s) h.1.done h.1.left.all (outside p h.1.left)) e h.1.acts)
    (joins_leaves p s.all.stack t i s.all (outside p s) (settable s) (own-turn p s t found turn))
acts_keep p input t i s bytes progress op.Acq e begins turn found next h =
    on-by p t i s progress h.1 (acquires t i s.all (outside p s) (settable s)) (own-number s t found) (subst (λ (x : Op). Acts_on_threads x t i s.all (outside p s) (settable s) h.1.done h.1.left.all (outside p h.1.left)) e h.1.acts)
    (acquires_leaves p s.all.stack t i s.all (outside p s) (settable s) (own-turn p s t found turn))
acts_keep p input t i s bytes progress op.Rel e begins turn found next h =
    on-by p t i s progress h.1 (releases t i s.all (outside p s) (settable s)) (own-number s t found) (subst (λ (x : Op). Acts_on_threads x t i s.all (outside p s) (settable s) h.1.done h.1.left.all (outside p h.1.left)) e h.1.acts)
    (releases_leaves p s.all.stack t i s.all (outside p s) (settable s) (own-turn p s t found turn))
acts_keep p input t i s bytes progress op.Wait e begins turn found next h =
    on-by p t i s progress h.1 (waits t i s.all (outside p s) (settable s)) (own-number s t found) (subst (λ (x : Op). Acts_on_threads x t i s.all (outside p s) (settable s) h.1.done h.1.left.all (outside p h.1.left)) e h.1.acts)
    (waits_leaves p s.all.stack t i s.all (outside p s) (settable s) (own-turn p s t found turn) (own-found s t found) (at-point p t i next (ap is_point e)))
acts_keep p input t i s bytes progress op.Sig e begins turn found next h =
    let signals = subst (λ (x : Op). Acts_on_threads x t i s.all (outside p s) (settable s) h.1.done h.1.left.all (outside p h.1.left)) e h.1.acts in
    on-by p t i s progress h.1 (wakes t signals.sleeper s.all (outside p s)) (own-number s t found) signals.after
    (wakes_leaves p s.all.stack t signals.sleeper s.all (outside p s) (own-turn p s t found turn))
acts_keep p input t i s bytes progress op.Bca e begins turn found next h =
    on-by p t i s progress h.1 (broadcasts t i s.all (outside p s)) (own-number s t found) (subst (λ (x : Op). Acts_on_threads x t i s.all (outside p s) (settable s) h.1.done h.1.left.all (outside p h.1.left)) e h.1.acts)
    (broadcasts_leaves p s.all.stack t i s.all (outside p s) (own-turn p s t found turn))
acts_keep p input t i s bytes progress op.Self_ e begins turn found next h = follows_keep p _ s progress turn (self-stops (stack_of s.all t) i t.regs (memory_of p s)) h.1
acts_keep p input t i s bytes progress op.Put e begins turn found next h = follows_keep p _ s progress turn (text-stops i t.regs (memory_of p s)) h.1
acts_keep p input t i s bytes progress op.Putn e begins turn found next h = follows_keep p (puts_number i t.regs) s progress turn (tt) h.1
acts_keep p input t i s bytes progress op.Putc e begins turn found next h = follows_keep p (puts_byte i t.regs) s progress turn (tt) h.1
acts_keep p input t i s bytes progress op.Alert e begins turn found next h =
    on-by p t i s progress h.1 (alerts t i s.all (outside p s)) (own-number s t found) (subst (λ (x : Op). Acts_on_threads x t i s.all (outside p s) (settable s) h.1.done h.1.left.all (outside p h.1.left)) e h.1.acts)
    (alerts_leaves p s.all.stack t i s.all (outside p s) (own-turn p s t found turn))
acts_keep p input t i s bytes progress op.Talert e begins turn found next h =
    on-by p t i s progress h.1 (tests_alert t i s.all (outside p s)) (own-number s t found) (subst (λ (x : Op). Acts_on_threads x t i s.all (outside p s) (settable s) h.1.done h.1.left.all (outside p h.1.left)) e h.1.acts)
    (tests_leaves p s.all.stack t i s.all (outside p s) (own-turn p s t found turn))
acts_keep p input t i s bytes progress op.Await e begins turn found next h =
    on-by p t i s progress h.1 (alert_waits t i s.all (outside p s) (settable s)) (own-number s t found) (subst (λ (x : Op). Acts_on_threads x t i s.all (outside p s) (settable s) h.1.done h.1.left.all (outside p h.1.left)) e h.1.acts)
    (alert_waits_leaves p s.all.stack t i s.all (outside p s) (settable s) (own-turn p s t found turn) (own-found s t found) (at-point p t i next (ap is_point e)))
acts_keep p input t i s bytes progress op.Ajoin e begins turn found next h =
    on-by p t i s progress h.1 (alert_joins t i s.all (outside p s) (settable s)) (own-number s t found) (subst (λ (x : Op). Acts_on_threads x t i s.all (outside p s) (settable s) h.1.done h.1.left.all (outside p h.1.left)) e h.1.acts)
    (alert_joins_leaves p s.all.stack t i s.all (outside p s) (settable s) (own-turn p s t found turn))
acts_keep p input t i s bytes progress op.Getc e begins turn found next h = follows_keep p _ s progress turn (get-stops input s.taken i t.regs) h.1
acts_keep p input t i s bytes progress op.Eof e begins turn found next h = follows_keep p (tells_end input s.taken i t.regs) s progress turn (tt) h.1
acts_keep p input t i s bytes progress _ e begins turn found next h = plainly-keeps p t i s _ progress turn h.1

-- an instruction of the thread of a turn, whatever it is
pub does_keep : (p : Program) (input : List ℕ) (t : Thread) (i : Instr) (s : State) (bytes : List ℕ) (progress : Progress) → BeginsAtPoints p → InTurnOf p s.running s.all
    → running_thread s ≡ Some t → slice_get p.code t.regs.pc ≡ Some i → Does p input t i s bytes progress → Keeps p s progress
does_keep p input t i s bytes progress begins turn found next h = acts_keep p input t i s bytes progress i.op refl begins turn found next h
