-- A put that fails, seen from its instruction, its turn and its run.
use Rattle.std.specs.Prelude.{ℕ, ◌≡◌, ◌≤◌, ◌<◌, ◌+◌, true, false, List, [], ◌++◌, Option, None, Some, IfSome, Result, Ok, Err, OnErr, slice_get}
use Rattle.std.proofs.Common.{refl, sym, ap, subst, ◌∙◌, append_assoc, ⊎_elim}
use Rattle.std.proofs.lemmas.Bool.{cases_Bool, cases_lt}
use Rattle.std.proofs.lemmas.List.{append-nil}
use Rattle.m3_ports.specs.Files.{LeavesAtFault}
use Rattle.m3_ports.specs.declared.sinks.Sink.{Ghosts as SinkGhosts}
use Rattle.m3_base.specs.declared.outcomes.Outcome.TheVariants.{Trap}
use Rattle.m3_isa.specs.Instructions.{is_point}
use Rattle.m3_isa.specs.declared.instructions.Instr.{Instr}
use Rattle.m3_isa.specs.declared.registers.Regs.{Regs}
use Rattle.m3_heap.specs.declared.store.Store.{Ghosts}
use Rattle.m3_threads.specs.declared.status.Thread.{Thread}
use Rattle.m3_threads.specs.All.{thread_named}
use Rattle.m3_image_sections.specs.Parts.{Program}
use Rattle.m3_run_meaning.specs.State.{State, running_thread, executed, with_regs}
use Rattle.m3_run_meaning.specs.Act.{Act, Puts, bytes_of}
use Rattle.m3_run_meaning.specs.Progress.{Goes, Follows}
use Rattle.m3_run_meaning.specs.Steps.{Acts}
use Rattle.m3_run_meaning.specs.Runs.{Config, Place, In_turn, At_point, Over, Settles, Carries_out, turn_limit, stands, goes_on, comes_to_point, leaves_code, lasts_too_long}
use Rattle.m3_run_loop.specs.Leading.{Track, config}
use Rattle.m3_run_laws.proofs.Stays.{KeepsTurn}
use Rattle.m3_run_laws.proofs.Doing.{does_keep}
use Rattle.m3_run_state.specs.declared.parts.Parts.{Parts}
use Rattle.m3_run_state.specs.Seen.{state_of, Took}
use Rattle.m3_run_state.specs.Cuts.{CutsOff}
use Rattle.m3_machine.specs.declared.runs.Turn.{Turn}
use Rattle.m3_machine.specs.Turns.{IsCourse, Acts_next}
use Rattle.m3_machine.specs.Faults.{PutsToFault, StopsAtFault}
use Rattle.m3_machine.proofs.Taking.{took_nothing, took_more}

-- what holds after any failure, and what follows from that
pub at_any : {T E : Type 0} (P : Type 0) (r : Result T E) → P → OnErr r P
at_any P (Ok _) h = tt
at_any P (Err _) h = h

pub on_err : {T E : Type 0} {P Q : Type 0} (r : Result T E) → (P → Q) → OnErr r P → OnErr r Q
on_err (Ok _) f h = tt
on_err (Err _) f h = f h

-- ---- the sink

-- all bytes were put in one piece
cut_at_once : {O : Type 0} (g : SinkGhosts O) (before after : O) (bytes : List ℕ)
    → IfSome (g.taken before) (λ taken. (all : List ℕ) × LeavesAtFault (g.waiting before) taken bytes all × (g.taken after ≡ Some all)) → CutsOff g before after [] bytes
cut_at_once g before after bytes failed =
    record { at = before; part = []; piece = bytes; took = took_nothing (g.taken before); next = ([], sym (append-nil bytes)); left = failed }

pub cut_as_told : {O : Type 0} (g : SinkGhosts O) (before after : O) (piece bytes : List ℕ) → piece ≡ bytes
    → IfSome (g.taken before) (λ taken. (all : List ℕ) × LeavesAtFault (g.waiting before) taken piece all × (g.taken after ≡ Some all)) → CutsOff g before after [] bytes
cut_as_told g before after piece bytes same failed = subst (λ (b : List ℕ). CutsOff g before after [] b) same (cut_at_once g before after piece failed)

-- other bytes were taken before
cut_later : {O : Type 0} (g : SinkGhosts O) (before mid after : O) (x earlier bytes : List ℕ) → Took (g.taken before) (g.taken mid) x → CutsOff g mid after earlier bytes → CutsOff g before after (x ++ earlier) bytes
cut_later g before mid after x earlier bytes took h = record {
  at = h.at;
  part = h.part;
  piece = h.piece;
  took = subst (λ (xs : List ℕ). Took (g.taken before) (g.taken h.at) xs) (sym (append_assoc x earlier h.part)) (took_more (g.taken before) (g.taken mid) (g.taken h.at) x (earlier ++ h.part) took h.took);
  next = h.next;
  left = h.left;
}

-- ---- the instruction

pub puts_to_fault : {O : Type 0} (g : SinkGhosts O) (p : Program) (input : List ℕ) (t : Thread) (i : Instr) (s one : State) (before after : O) (deed : Act) (bytes : List ℕ) (regs : Regs)
    → deed ≡ Puts bytes regs → one ≡ s → ((z : List ℕ) → (z ≡ bytes_of deed) × Follows p deed one (Goes (with_regs one regs)) → Acts p input t i one z (Goes (with_regs one regs)) i.op) → CutsOff g before after [] bytes
    → PutsToFault g p input t i s before after
puts_to_fault g p input t i s one before after deed bytes regs puts same acts cut = record {
  bytes = bytes;
  left = with_regs one regs;
  does = subst (λ (z : State). Acts p input t i z bytes (Goes (with_regs one regs)) i.op) same
      (acts bytes (subst (λ (d : Act). (bytes ≡ bytes_of d) × Follows p d one (Goes (with_regs one regs))) (sym puts) (refl, refl)));
  cut = cut;
}

-- ---- its turn

settles-so : (p : Program) (n : ℕ) (u : State) (t : Thread) (o : Option Instr) → running_thread u ≡ Some t → slice_get p.code t.regs.pc ≡ o → (place : Place) × Settles p n (Goes u) place
settles-so p n u t None running e = (Over u (Trap 1), leaves_code u t running e)
settles-so p n u t (Some i) running e = ⊎_elim
    (λ (point : is_point i.op ≡ true). (At_point (stands i u), comes_to_point u t i running e point))
    (λ (plain : is_point i.op ≡ false). ⊎_elim
    (λ (more : n < turn_limit p u). (In_turn u n, goes_on u t i running e plain more))
    (λ (long : turn_limit p u ≤ n). (Over u (Trap 8), lasts_too_long u t i running e plain long))
    (cases_lt n (turn_limit p u)))
    (cases_Bool (is_point i.op))

pub stops_now : {S L : Type 0} {g : Ghosts S} {O : Type 0} (sink : SinkGhosts O) (p : Program) (start : State) (k : Track) (others : ℕ) (m : Parts S L g) (turn : Turn) (before after : O) → IsCourse p start k
    → (h : Acts_next p start k others m turn) → PutsToFault sink p k.input h.thread h.instruction (executed (state_of m)) before after → StopsAtFault sink p k.input k.allowed k.from k.output before after
stops_now sink p start k others m turn before after known h f =
    let u = f.left in
    let keeps : KeepsTurn p (executed (state_of m)) u = does_keep p k.input h.thread h.instruction (executed (state_of m)) f.bytes (Goes u) known.begins h.sound.turn h.running h.stands f.does in
    let has = keeps.turn.running in
    let running : running_thread u ≡ Some has.0 = ap (λ (x : ℕ). thread_named u.all x) keeps.running ∙ has.1 in
    let place = settles-so p (turn.done + 1) u has.0 (slice_get p.code has.0.regs.pc) running refl in
    let carried : Carries_out p k.input (turn.done + 1) (state_of m) f.bytes place.0 =
    record { thread = h.thread; instruction = h.instruction; progress = Goes u; running = h.running; stands = h.stands; does = f.does; settles = place.1 } in
    let r = h.reaches in
    record {
      last = r.last;
      next = config place.0 k.entries (k.output ++ f.bytes);
      earlier = [];
      bytes = f.bytes;
      leads = r.leads;
      puts = r.carries f.bytes place.0 carried;
      so_far = r.output ∙ sym (append-nil k.output);
      with_it = ap (λ (o : List ℕ). o ++ f.bytes) (sym r.output);
      cut = f.cut;
    }

-- ---- behind what was put before

pub stops_later : {O : Type 0} (g : SinkGhosts O) (p : Program) (input : List ℕ) (allowed : ℕ) (from : Config) (output x : List ℕ) (before mid after : O) → Took (g.taken before) (g.taken mid) x
    → StopsAtFault g p input allowed from (output ++ x) mid after → StopsAtFault g p input allowed from output before after
stops_later g p input allowed from output x before mid after took h = record {
  last = h.last;
  next = h.next;
  earlier = x ++ h.earlier;
  bytes = h.bytes;
  leads = h.leads;
  puts = h.puts;
  so_far = h.so_far ∙ append_assoc output x h.earlier;
  with_it = h.with_it;
  cut = cut_later g before mid after x h.earlier h.bytes took h.cut;
}
