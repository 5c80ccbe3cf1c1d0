-- Over named cells each activation has one next move.
use Rattle.std.proofs.Common.{◌≡◌, ℕ, zero, suc, ◌≤◌, Bool, true, false, List, [], ◌∷◌, Option, Some, None, refl, sym, ap, ◌∙◌, arith}
use Rattle.std.specs.Prelude.{slice_get}
use Rattle.std.proofs.lemmas.Bool.{cases_lt}
use Rattle.std.proofs.Common.{⊎_elim}
use Rattle.m3_runs.specs.Languages.{New, Answer, Gives, Raises, Fails, Move, Breaks, Entered, Begins}
use Rattle.m3_runs.specs.Laws.{IsDetermined}
use Rattle.m3_runs_tests.specs.Code as code
use Rattle.m3_runs_tests.specs.Code.{Op, End, Block, Start, Code}
use Rattle.m3_runs_tests.specs.Meaning.{Tagged, Activation, Lowest, Within, Going, setting, storing, run_op, choosing, run_end, run_ops, run_block, run_blocks, answered, nothing, go_from, go_on, begin}
use Rattle.m3_runs_tests.specs.Named as named
use Rattle.m3_runs_tests.specs.Named.{Word, Frame, Memory, Cell, Named_parts, named}

module _ (c : Code) (limit : ℕ) where
  abbrev Goings : Type 0
  Goings = Going (named.words limit) c

  -- the second comes to each move to which the first comes
  abbrev AsFar : Goings → Goings → Type 0
  AsFar r r' = (move : Move (Activation Frame) (Tagged Word) Memory) → r ≡ Some move → r' ≡ Some move

  abbrev AllAsFar : (ℕ → Frame → Memory → Goings) → (ℕ → Frame → Memory → Goings) → Type 0
  AllAsFar go go' = (b : ℕ) (f : Frame) (m : Memory) → AsFar (go b f m) (go' b f m)

  same_far : (r : Goings) → AsFar r r
  same_far r move e = e

  set_far : (go go' : Frame → Memory → Goings) (f : Frame) (m : Memory) (t : ℕ) (o : Option Word) → ((f : Frame) (m : Memory) → AsFar (go f m) (go' f m)) → AsFar (setting (named.words limit) c go f m t o) (setting (named.words limit) c go' f m t o)
  set_far go go' f m t None h = same_far (Some Breaks)
  set_far go go' f m t (Some x) h = h (named.set f t x) m

  store_far : (go go' : Frame → Memory → Goings) (f : Frame) (o : Option Memory) → ((f : Frame) (m : Memory) → AsFar (go f m) (go' f m)) → AsFar (storing (named.words limit) c go f o) (storing (named.words limit) c go' f o)
  store_far go go' f None h = same_far (Some Breaks)
  store_far go go' f (Some m) h = h f m

  op_far : (op : Op) (f : Frame) (m : Memory) (go go' : Frame → Memory → Goings) → ((f : Frame) (m : Memory) → AsFar (go f m) (go' f m)) → AsFar (run_op (named.words limit) c op f m go) (run_op (named.words limit) c op f m go')
  op_far (code.Number t n) f m go go' h = h (named.set f t (named.Number n)) m
  op_far (code.Move t a) f m go go' h = h (named.set f t (f a)) m
  op_far (code.Advance t a n) f m go go' h = h (named.set f t (named.further (f a) n)) m
  op_far (code.Load t a) f m go go' h = set_far go go' f m t (named.load m (f a)) h
  op_far (code.Store a x) f m go go' h = store_far go go' f (named.store m (f a) (f x)) h

  choose_far : (o : Option Bool) (a b a' b' : Goings) → AsFar a a' → AsFar b b' → AsFar (choosing (named.words limit) c o a b) (choosing (named.words limit) c o a' b')
  choose_far None a b a' b' h k = same_far (Some Breaks)
  choose_far (Some true) a b a' b' h k = h
  choose_far (Some false) a b a' b' h k = k

  end_far : (end : End) (f : Frame) (m : Memory) (go go' : ℕ → Frame → Memory → Goings) → AllAsFar go go' → AsFar (run_end (named.words limit) c end f m go) (run_end (named.words limit) c end f m go')
  end_far (code.Goto b) f m go go' h = h b f m
  end_far (code.Choose t first second) f m go go' h = choose_far (named.is_zero (f t)) (go first f m) (go second f m) (go' first f m) (go' second f m) (h first f m) (h second f m)
  end_far (code.Act ask shown dest next) f m go go' h = λ move e. e
  end_far (code.Return t) f m go go' h = λ move e. e
  end_far (code.Raise exception t) f m go go' h = λ move e. e
  end_far (code.FaultAt kind line) f m go go' h = λ move e. e

  ops_far : (ops : List Op) (end : End) (f : Frame) (m : Memory) (go go' : ℕ → Frame → Memory → Goings) → AllAsFar go go' → AsFar (run_ops (named.words limit) c ops end f m go) (run_ops (named.words limit) c ops end f m go')
  ops_far [] end f m go go' h = end_far end f m go go' h
  ops_far (op ∷ ops) end f m go go' h =
      op_far op f m (λ g n. run_ops (named.words limit) c ops end g n go) (λ g n. run_ops (named.words limit) c ops end g n go') (λ g n. ops_far ops end g n go go' h)

  block_far : (o : Option Block) (f : Frame) (m : Memory) (go go' : ℕ → Frame → Memory → Goings) → AllAsFar go go' → AsFar (run_block (named.words limit) c o f m go) (run_block (named.words limit) c o f m go')
  block_far None f m go go' h = same_far (Some Breaks)
  block_far (Some b) f m go go' h = ops_far b.ops b.end f m go go' h

  -- more blocks come as far
  blocks_far : (n k : ℕ) → n ≤ k → AllAsFar (run_blocks (named.words limit) c n) (run_blocks (named.words limit) c k)
  blocks_far zero k le b f m = λ move e. absurd (let bad : None ≡ Some move = e in cc)
  blocks_far (suc n) zero le b f m = absurd (omega (arith, le))
  blocks_far (suc n) (suc k) le b f m = block_far (slice_get c.blocks b) f m (run_blocks (named.words limit) c n) (run_blocks (named.words limit) c k) (blocks_far n k (omega (arith, le)))

  from_far : (n k b : ℕ) (m : Memory) (o : Option Frame) → n ≤ k → AsFar (go_from (named.words limit) c n b m o) (go_from (named.words limit) c k b m o)
  from_far n k b m None le = same_far (Some Breaks)
  from_far n k b m (Some f) le = blocks_far n k le b f m

  go_far : (n k : ℕ) (s : Activation Frame) (a : Answer (Tagged Word)) (m : Memory) → n ≤ k → AsFar (go_on (named.words limit) c n s a m) (go_on (named.words limit) c k s a m)
  go_far n k Lowest a m le = λ move e. e
  go_far n k (Within s) (Gives (Some v)) m le = from_far n k s.next m (answered (named.words limit) c (c.kind s.dest) s.frame s.dest v) le
  go_far n k (Within s) (Gives None) m le = from_far n k s.next m (answered (named.words limit) c (c.kind s.dest) s.frame s.dest (nothing (named.words limit) c (c.kind s.dest))) le
  go_far n k (Within s) (Raises exception v u) m le = λ move e. e
  go_far n k (Within s) (Fails kind) m le = λ move e. e

  begin_far : (n k : ℕ) (o : Option Start) (vs : List (Tagged Word)) (m : Memory) → n ≤ k → AsFar (begin (named.words limit) c n named.no_words o vs m) (begin (named.words limit) c k named.no_words o vs m)
  begin_far n k None vs m le = same_far (Some Breaks)
  begin_far n k (Some start) [] m le = same_far (Some Breaks)
  begin_far n k (Some start) (v ∷ []) m le = from_far n k start.block m (answered (named.words limit) c (c.kind start.formal) named.no_words start.formal v) le
  begin_far n k (Some start) (v ∷ u ∷ vs) m le = same_far (Some Breaks)

  -- what comes to two moves by numbers of blocks comes to one
  one_move : (r : ℕ → Goings) → ((n k : ℕ) → n ≤ k → AsFar (r n) (r k)) → (n k : ℕ) (move move' : Move (Activation Frame) (Tagged Word) Memory) → r n ≡ Some move → r k ≡ Some move' → move ≡ move'
  one_move r far n k move move' e h = ⊎_elim
      (λ lt. let q : Some move ≡ Some move' = sym (far n k (omega (arith, lt)) move e) ∙ h in let same : move ≡ move' = cc in same)
      (λ le. let q : Some move ≡ Some move' = sym e ∙ far k n (omega (arith, le)) move' h in let same : move ≡ move' = cc in same)
      (cases_lt n k)

  enters_once : (q : ℕ) (vs : List (Tagged Word)) (m : Memory) (e e' : Entered (Activation Frame) (Tagged Word) Memory) → named.Enters c limit q vs m e → named.Enters c limit q vs m e' → e ≡ e'
  enters_once q vs m e e' (named.enters n move h) (named.enters k move' h') =
      ap Begins (one_move (λ i. begin (named.words limit) c i named.no_words (slice_get c.starts q) vs m) (λ i j le. begin_far i j (slice_get c.starts q) vs m le) n k move move' h h')

  made_once : (parts : Named_parts) (new : New (Tagged Word)) (v v' : Option (Tagged Word)) (after after' : Named_parts) → named.Made parts new v after → named.Made parts new v' after' → v ≡ v'
  made_once parts new v v' after after' (named.made n e) (named.made n' e') = refl

  after_once : (parts : Named_parts) (new : New (Tagged Word)) (v v' : Option (Tagged Word)) (after after' : Named_parts) → named.Made parts new v after → named.Made parts new v' after' → after ≡ after'
  after_once parts new v v' after after' (named.made n e) (named.made n' e') =
      let q : Some n ≡ Some n' = sym e ∙ e' in let same : n ≡ n' = cc in ap (λ i. record parts { memory = named.with_cell parts.memory i }) same

  pub determined : IsDetermined (named c limit)
  determined = record {
    enters = λ ss q environment vs m e e'. enters_once q vs m e e';
    goes = λ s a m move move' h h'. one_move (λ i. go_on (named.words limit) c i s a m) (λ i j le. go_far i j s a m le) h.0 h'.0 move move' h.1 h'.1;
    made = λ parts n new v v' after after'. made_once parts new v v' after after';
    makes = λ parts n new v v' after after'. after_once parts new v v' after after';
    collects = λ parts after after' e e'. e ∙ sym e';
  }
