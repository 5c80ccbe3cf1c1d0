-- A procedure with operations added, run beside the one without.
use Rattle.std.proofs.Common.{◌≡◌, ℕ, zero, suc, ◌<◌, ◌≤◌, length, Bool, true, false, ◌&&◌, List, [], ◌∷◌, Option, Some, None, refl, sym, ap, ap₂, ◌∙◌, subst, arith, lt_of_lt_of_le, lt_irrefl}
use Rattle.std.specs.Prelude.{◌==◌, nat_le, nat_lt, if◌then◌else◌, slice_get}
use Rattle.std.proofs.lemmas.Bool.Decides.{nat_tests}
use Rattle.m3_base.specs.Words.{word_of, sub_words}
use Rattle.m3_mid.specs.declared.procs.Proc.{Proc}
use Rattle.m3_mid.specs.declared.procs.Block.{Block}
use Rattle.m3_mid.specs.declared.procs.End.{End}
use Rattle.m3_mid.specs.declared.ops.MidOp.{MidOp}
use Rattle.m3_mid_meaning.specs.Words.{Word, normal, Place, InCell, Outside}
use Rattle.m3_mid_meaning.specs.Words as words
use Rattle.m3_mid_meaning.specs.Memory.{Memory, Around, environment_address, slot_address, seen}
use Rattle.m3_mid_meaning.specs.States.{State, Next, Goes, Ends, sets}
use Rattle.m3_mid_meaning.specs.Points.{Event, Answer, Effect, Plain, Acts, Outcome}
use Rattle.m3_mid_meaning.specs.Meaning.{effect_of, Exit, To, Over, exit_of}
use Rattle.m3_mid_meaning.specs.Machinery.{Progress, Following, behind, go_on, carry_out, leave, run_ops, run_block, run_blocks}
use Rattle.m3_mid_meaning.specs.Runs.{is_clear, start_of, IsRun}
use Rattle.m3_mid_additions.specs.Additions.{IsAdded, number, moved, formal, AreWithAdded, none, same, added, AreBlocksWithAdded, block, IsWithAdded}
use Rattle.m3_mid_additions.specs.Naming.{ReadOwn, EndReadsOwn, BlocksReadOwn, NamesOwnTemporaries}
use Rattle.m3_mid_additions.specs.Laws.{BeginsWithFormals, LeaveFormals}
use Rattle.m3_mid_additions.proofs.Agreeing.{with_temps, Below, NextAgrees, EffectAgrees, op_so, end_so}
use Rattle.m3_mid_additions.proofs.Staying.{HasFormals, GoesWithFormals, ActsWithFormals, stay}

module _ (p q : Proc) (is : IsWithAdded p q) (names : NamesOwnTemporaries p) (around : Around) where
  abbrev temps : ℕ
  temps = length p.temps.now

  abbrev Has : State → Type 0
  Has s = HasFormals p around s

  abbrev Same : State → (ℕ → Word) → Type 0
  Same s f = Below temps p.slots.now around s f

  abbrev Leave : List Answer → Type 0
  Leave answers = LeaveFormals p around answers

  -- wherever the one leads, so does the other
  abbrev Along : Following → Following → Type 0
  Along go go' =
      (s : State) (f : ℕ → Word) (answers : List Answer) (o : Outcome) → Has s → Same s f → Leave answers → go s answers ≡ Some o → go' (with_temps s f) answers ≡ Some o

  -- ---- what is added

  abbrev with_set : (ℕ → Word) → ℕ → Word → ℕ → Word
  with_set f to w t = if t == to then normal w else f t

  away_at : (f : ℕ → Word) (to : ℕ) (w : Word) (t : ℕ) (b : Bool) → (t == to) ≡ b → t < temps → temps ≤ to → (if b then normal w else f t) ≡ f t
  away_at f to w t true e own far = let e' : t ≡ to = grind (arith, nat_tests) in let bad : t < t = lt_of_lt_of_le own (subst (λ z. temps ≤ z) (sym e') far) in absurd (lt_irrefl t bad)
  away_at f to w t false e own far = refl

  away : (s : State) (f : ℕ → Word) (to : ℕ) (w : Word) → temps ≤ to → Same s f → Same s (with_set f to w)
  away s f to w far h t own = away_at f to w t (t == to) refl own far ∙ h t own

  abbrev Sets : State → (ℕ → Word) → MidOp → Type 0
  Sets s f op = (g : ℕ → Word) × (effect_of p.slots.now around (with_temps s f) op ≡ Plain (Goes (with_temps s g))) × Same s g

  sets_so : (s : State) (f : ℕ → Word) (op : MidOp) → IsAdded temps p.formals op → Has s → Same s f → Sets s f op
  sets_so s f _ (number to value far) has h =
      (with_set f to (words.number (word_of value)), refl, away s f to (words.number (word_of value)) far h)
  sets_so s f _ (moved to from far) has h = (with_set f to (f from), refl, away s f to (f from) far h)
  sets_so s f _ (formal to slot far below) has h =
      let there = has slot below in
      (with_set f to there.0, ap (λ z. Plain (sets (with_temps s f) to z)) there.1, away s f to there.0 far h)

  -- ---- operations of the procedure

  later_of : (event : Event) (r : Progress) (o : Outcome) → behind event r ≡ Some o → (later : Outcome) × (r ≡ Some later) × (behind event (Some later) ≡ Some o)
  later_of event None o e = absurd (let bad : None ≡ Some o = e in cc)
  later_of event (Some later) o e = (later, refl, e)

  next_so : (go go' : Following) → Along go go' → (x y : Next) (answers : List Answer) (o : Outcome) → NextAgrees temps p.slots.now around x y → GoesWithFormals p around x → Leave answers → go_on x answers go ≡ Some o → go_on y answers go' ≡ Some o
  next_so go go' along (Goes s) y answers o (r, e, (f, e', h)) has still run =
      let there = along s f answers o has h still run in
      subst (λ z. go_on z answers go' ≡ Some o) (sym (e ∙ ap (λ z. Goes z) e')) there
  next_so go go' along (Ends ending) y answers o e has still run =
      subst (λ z. go_on z answers go' ≡ Some o) (sym e) run

  effect_so : (go go' : Following) → Along go go' → (x y : Effect) (answers : List Answer) (o : Outcome) → EffectAgrees temps p.slots.now around x y → ActsWithFormals p around x → Leave answers → carry_out x answers go ≡ Some o → carry_out y answers go' ≡ Some o
  effect_so go go' along (Plain next) y answers o (next', e, agrees) acts still run =
      subst (λ z. carry_out z answers go' ≡ Some o) (sym e) (next_so go go' along next next' answers o agrees acts still run)
  effect_so go go' along (Acts event reply) y [] o (reply', e, agrees) acts still run =
      subst (λ z. carry_out z [] go' ≡ Some o) (sym e) run
  effect_so go go' along (Acts event reply) y (answer ∷ answers) o (reply', e, agrees) acts still run =
      let later = later_of event (go_on (reply answer) answers go) o run in
      let there = next_so go go' along (reply answer) (reply' answer) answers later.0 (agrees answer) (acts answer still.0) still.1 later.1 in
      subst (λ z. carry_out z (answer ∷ answers) go' ≡ Some o) (sym e) (ap (behind event) there ∙ later.2)

  exit_so : (go go' : ℕ → Following) → ((b : ℕ) → Along (go b) (go' b)) → (x : Exit) (s : State) (f : ℕ → Word) (answers : List Answer) (o : Outcome) → Has s → Same s f → Leave answers → leave x (λ b. go b s answers) ≡ Some o → leave x (λ b. go' b (with_temps s f) answers) ≡ Some o
  exit_so go go' along (To b) s f answers o has h still run = along b s f answers o has h still run
  exit_so go go' along (Over ending) s f answers o has h still run = run

  in_q : (s : State) (op : MidOp) → effect_of p.slots.now around s op ≡ effect_of q.slots.now around s op
  in_q s op = ap (λ z. effect_of z around s op) (sym is.slots)

  ops_so : (go go' : ℕ → Following) → ((b : ℕ) → Along (go b) (go' b)) → (ops ops' : List MidOp) → AreWithAdded temps p.formals ops ops' → ReadOwn temps ops → (end : End) → EndReadsOwn temps end → Along (λ s answers. run_ops p around ops end s answers go) (λ s answers. run_ops q around ops' end s answers go')
  ops_so go go' along _ _ none own end ends s f answers o has h still run =
      let there = exit_so go go' along (exit_of s end) s f answers o has h still run in
      subst (λ z. leave z (λ b. go' b (with_temps s f) answers) ≡ Some o) (sym (end_so temps p.slots.now around s f end h ends)) there
  ops_so go go' along _ _ (same op first second more) own end ends s f answers o has h still run =
      let rest = ops_so go go' along first second more own.1 end ends in
      let there = effect_so (λ after left. run_ops p around first end after left go) (λ after left. run_ops q around second end after left go') rest (effect_of p.slots.now around s op) (effect_of p.slots.now around (with_temps s f) op) answers o (op_so temps p.slots.now around s f op h own.0) (stay p around s op has) still run in
      subst (λ z. carry_out z answers (λ after left. run_ops q around second end after left go') ≡ Some o) (in_q (with_temps s f) op) there
  ops_so go go' along first _ (added op first' second is_added more) own end ends s f answers o has h still run =
      let set = sets_so s f op is_added has h in
      let there = ops_so go go' along first' second more own end ends s set.0 answers o has set.2 still run in
      subst (λ z. carry_out z answers (λ after left. run_ops q around second end after left go') ≡ Some o) (sym set.1 ∙ in_q (with_temps s f) op) there

  -- ---- blocks

  abbrev BlockAgrees : Option Block → Option Block → Type 0
  BlockAgrees None y = y ≡ None
  BlockAgrees (Some a) y =
      (b : Block) × (y ≡ Some b) × AreWithAdded temps p.formals a.ops.now b.ops.now × (b.end ≡ a.end) × ReadOwn temps a.ops.now × EndReadsOwn temps a.end

  block_at : (first second : List Block) → AreBlocksWithAdded temps p.formals first second → BlocksReadOwn temps first → (n : ℕ) → BlockAgrees (slice_get first n) (slice_get second n)
  block_at _ _ none own n = refl
  block_at _ _ (block a b first second ops end more) own zero = (b, refl, ops, end, own.0.0, own.0.1)
  block_at _ _ (block a b first second ops end more) own (suc n) = block_at first second more own.1 n

  block_so : (go go' : ℕ → Following) → ((b : ℕ) → Along (go b) (go' b)) → (x y : Option Block) → BlockAgrees x y → Along (λ s answers. run_block p around x s answers go) (λ s answers. run_block q around y s answers go')
  block_so go go' along None y e s f answers o has h still run =
      subst (λ z. run_block q around z (with_temps s f) answers go' ≡ Some o) (sym e) run
  block_so go go' along (Some a) y (b, e, ops, end, own, ends) s f answers o has h still run =
      let there = ops_so go go' along a.ops.now b.ops.now ops own a.end ends s f answers o has h still run in
      let here = subst (λ z. run_ops q around b.ops.now z (with_temps s f) answers go' ≡ Some o) (sym end) there in
      subst (λ z. run_block q around z (with_temps s f) answers go' ≡ Some o) (sym e) here

  blocks_so : (n b : ℕ) → Along (run_blocks n p around b) (run_blocks n q around b)
  blocks_so zero b s f answers o has h still run = absurd (let bad : None ≡ Some o = run in cc)
  blocks_so (suc n) b s f answers o has h still run =
      block_so (run_blocks n p around) (run_blocks n q around) (blocks_so n) (slice_get p.blocks.now b) (slice_get q.blocks.now b) (block_at p.blocks.now q.blocks.now is.blocks names b) s f answers o has h still run

  -- ---- the start

  clear_so : (place : Place) → is_clear p around place ≡ is_clear q around place
  clear_so (InCell c n) = refl
  clear_so (Outside address) =
      ap₂ (λ x y. nat_le x (sub_words address (slot_address around 0)) && nat_lt (sub_words address (slot_address around 0)) (length y)) (sym is.formals) (sym is.slots)

  start_so : (memory : Memory) → start_of p around memory ≡ start_of q around memory
  start_so memory = λ i. record {
    temps = λ t. words.number 0;
    own = λ n.
        if nat_le (sym is.formals i) n && nat_lt n (length (sym is.slots i)) then Some (words.number 0)
        else memory.words (Outside (slot_address around n));
    environment = memory.words (Outside (environment_address around));
    memory = seen (sym is.slots i) around (record memory { words = λ place. if clear_so place i then Some (words.number 0) else memory.words place });
  }

  pub follows : (memory : Memory) (answers : List Answer) (o : Outcome) → BeginsWithFormals p around memory → LeaveFormals p around answers → IsRun p around memory answers o → IsRun q around memory answers o
  follows memory answers o begins still run =
      let there = blocks_so run.blocks p.start (start_of p around memory) (λ t. words.number 0) answers o begins (λ t own. refl) still run.is in
      let here = subst (λ z. run_blocks run.blocks q around p.start z answers ≡ Some o) (start_so memory) there in
      record { blocks = run.blocks; is = subst (λ z. run_blocks run.blocks q around z (start_of q around memory) answers ≡ Some o) (sym is.start) here }
