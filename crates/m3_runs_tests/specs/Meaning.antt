-- What such code does, whatever words, frames and memories are.
use Rattle.std.specs.Prelude.{ℕ, zero, suc, Bool, true, false, List, [], ◌∷◌, Option, Some, None, if◌then◌else◌, ◌==◌, slice_get}
use Rattle.m3_runs.specs.Languages.{New, Cell, ThreadCell, Service, Form, Decimal, Action, Calls, Makes, Forks, Serves, Passes, Answer, Gives, Raises, Fails, Move, Acts, Leaves, Faults, Breaks, Entered, Begins, Life, Alive, Ended, Joined, Begun}
use Rattle.m3_runs.specs.Languages as asked
use Rattle.m3_runs_tests.specs.Code as code
use Rattle.m3_runs_tests.specs.Code.{Kind, Numeric, Pointer, Derived, Op, Asked, Ask, End, Block, Start, Code}

-- a word that is passed: it is known which are tidy
pub data Tagged (X : Type 0) : Type 0 where
  Plain : X → Tagged X
  Tidy : X → Tagged X

-- words, frames and memories
pub record Words (X F M : Type 0) : Type 0 where
  pub get : F → ℕ → X
  pub set : F → ℕ → X → F
  -- numbers as words, those that a cell may hold, and words as numbers
  pub number : ℕ → X
  pub is_small : ℕ → Bool
  pub as_number : X → Option ℕ
  pub further : X → ℕ → X
  pub is_zero : X → Option Bool
  pub is_one : X → X → Bool
  pub load : M → X → Option X
  pub store : M → X → X → Option M

-- an activation that waits for an answer
pub record Waiting (F : Type 0) : Type 0 where
  pub shown : List ℕ
  pub dest : ℕ
  pub next : ℕ
  pub frame : F

-- the lowest one of a thread hands on what it is told
pub data Activation (F : Type 0) : Type 0 where
  Lowest : Activation F
  Within : Waiting F → Activation F

abbrev pub mapped : {A B : Type 0} → (A → B) → Option A → Option B
mapped f None = None
mapped f (Some x) = Some (f x)

abbrev pub found : {A B : Type 0} → Option A → (A → Option B) → Option B
found None f = None
found (Some x) f = f x

abbrev pub service_of : {V : Type 0} → Asked → V → Service V
service_of code.Put v = asked.Put Decimal v
service_of code.Acquire v = asked.Acquire v
service_of code.Release v = asked.Release v
service_of code.Signal v = asked.Signal v
service_of (code.Join alertable) v = asked.Join v alertable

abbrev pub waiting_for : {V : Type 0} → Bool → Option V → Option V → Option (Action V)
waiting_for alertable None c = None
waiting_for alertable (Some m) None = None
waiting_for alertable (Some m) (Some c) = Some (Serves (asked.Wait m c alertable))

-- the words of what is made; texts aren't
abbrev pub words_of : {V : Type 0} → New V → Option ℕ
words_of (Cell words sizes) = Some words
words_of (ThreadCell number) = Some 3
words_of _ = None

module _ {X F M : Type 0} (k : Words X F M) (c : Code) where
  abbrev pub Going : Type 0
  Going = Option (Move (Activation F) (Tagged X) M)

  -- ---- operations

  abbrev pub setting : (F → M → Going) → F → M → ℕ → Option X → Going
  setting go f m t None = Some Breaks
  setting go f m t (Some x) = go (k.set f t x) m

  abbrev pub storing : (F → M → Going) → F → Option M → Going
  storing go f None = Some Breaks
  storing go f (Some m) = go f m

  abbrev pub run_op : Op → F → M → (F → M → Going) → Going
  run_op (code.Number t n) f m go = setting go f m t (Some (k.number n))
  run_op (code.Move t a) f m go = setting go f m t (Some (k.get f a))
  run_op (code.Advance t a n) f m go = setting go f m t (Some (k.further (k.get f a) n))
  run_op (code.Load t a) f m go = setting go f m t (k.load m (k.get f a))
  run_op (code.Store a x) f m go = storing go f (k.store m (k.get f a) (k.get f x))

  -- ---- what is asked for

  abbrev pub tag : Kind → X → Option (Tagged X)
  tag Numeric x = Some (Plain x)
  tag Pointer x = Some (Tidy x)
  tag (Derived b) x = None

  abbrev pub tagged : F → ℕ → Option (Tagged X)
  tagged f t = tag (c.kind t) (k.get f t)

  abbrev pub with_row : Option (Tagged X) → Option (List (Tagged X)) → Option (List (Tagged X))
  with_row None r = None
  with_row (Some x) None = None
  with_row (Some x) (Some xs) = Some (x ∷ xs)

  abbrev pub row : F → List ℕ → Option (List (Tagged X))
  row f [] = Some []
  row f (t ∷ ts) = with_row (tagged f t) (row f ts)

  abbrev pub action : F → Ask → Option (Action (Tagged X))
  action f (code.Call p ts) = mapped (Calls p (Plain (k.number 0))) (row f ts)
  action f (code.New words) = Some (Makes (Cell words []))
  action f (code.Fork t) = mapped Forks (tagged f t)
  action f (code.Serve service t) = mapped (λ v. Serves (service_of service v)) (tagged f t)
  action f (code.Wait t u alertable) = waiting_for alertable (tagged f t) (tagged f u)
  action f code.Point = Some Passes

  -- ---- ends

  abbrev pub asking : Waiting F → M → Option (Action (Tagged X)) → Going
  asking s m None = Some Breaks
  asking s m (Some a) = Some (Acts a (Within s) m)

  abbrev pub leaving : (Tagged X → Answer (Tagged X)) → M → Option (Tagged X) → Going
  leaving how m None = Some Breaks
  leaving how m (Some v) = Some (Leaves (how v) m)

  abbrev pub returned : Tagged X → Answer (Tagged X)
  returned v = Gives (Some v)

  abbrev pub raised : ℕ → Tagged X → Answer (Tagged X)
  raised exception v = Raises exception v v

  abbrev pub choosing : Option Bool → Going → Going → Going
  choosing None a b = Some Breaks
  choosing (Some true) a b = a
  choosing (Some false) a b = b

  abbrev pub run_end : End → F → M → (ℕ → F → M → Going) → Going
  run_end (code.Goto b) f m go = go b f m
  run_end (code.Choose t first second) f m go =
      choosing (k.is_zero (k.get f t)) (go first f m) (go second f m)
  run_end (code.Act ask shown dest next) f m go =
      asking (record { shown = shown; dest = dest; next = next; frame = f }) m (action f ask)
  run_end (code.Return t) f m go = leaving returned m (tagged f t)
  run_end (code.Raise exception t) f m go = leaving (raised exception) m (tagged f t)
  run_end (code.FaultAt kind line) f m go = Some (Faults kind 0 line)

  abbrev pub run_ops : List Op → End → F → M → (ℕ → F → M → Going) → Going
  run_ops [] end f m go = run_end end f m go
  run_ops (op ∷ ops) end f m go = run_op op f m (λ f' m'. run_ops ops end f' m' go)

  abbrev pub run_block : Option Block → F → M → (ℕ → F → M → Going) → Going
  run_block None f m go = Some Breaks
  run_block (Some b) f m go = run_ops b.ops b.end f m go

  -- at most so many blocks
  abbrev pub run_blocks : ℕ → ℕ → F → M → Going
  run_blocks zero b f m = None
  run_blocks (suc n) b f m = run_block (slice_get c.blocks b) f m (run_blocks n)

  -- ---- answers

  -- a word is put where it is awaited, where it is of the temporary's kind
  abbrev pub answered : Kind → F → ℕ → Tagged X → Option F
  answered Numeric f t (Plain x) = Some (k.set f t x)
  answered Pointer f t (Tidy x) = Some (k.set f t x)
  answered _ f t v = None

  -- in place of a value that isn't there
  abbrev pub nothing : Kind → Tagged X
  nothing Pointer = Tidy (k.number 0)
  nothing _ = Plain (k.number 0)

  abbrev pub go_from : ℕ → ℕ → M → Option F → Going
  go_from n b m None = Some Breaks
  go_from n b m (Some f) = run_blocks n b f m

  -- the block that follows stands for the place of an action
  abbrev pub go_within : ℕ → Waiting F → Answer (Tagged X) → M → Going
  go_within n s (Gives (Some v)) m = go_from n s.next m (answered (c.kind s.dest) s.frame s.dest v)
  go_within n s (Gives None) m =
      go_from n s.next m (answered (c.kind s.dest) s.frame s.dest (nothing (c.kind s.dest)))
  go_within n s (Raises exception v u) m = Some (Leaves (Raises exception v u) m)
  go_within n s (Fails kind) m = Some (Faults kind 0 s.next)

  abbrev pub go_on : ℕ → Activation F → Answer (Tagged X) → M → Going
  go_on n Lowest a m = Some (Leaves a m)
  go_on n (Within s) a m = go_within n s a m

  -- a procedure begins with its formal in its place
  abbrev pub begin : ℕ → F → Option Start → List (Tagged X) → M → Going
  begin n none None vs m = Some Breaks
  begin n none (Some start) (v ∷ []) m =
      go_from n start.block m (answered (c.kind start.formal) none start.formal v)
  begin n none (Some start) vs m = Some Breaks

  -- ---- what is shown

  abbrev pub with_shown : ℕ → Option (Tagged X) → List (ℕ × Tagged X) → List (ℕ × Tagged X)
  with_shown t None rest = rest
  with_shown t (Some v) rest = (t, v) ∷ rest

  abbrev pub shown_row : F → List ℕ → List (ℕ × Tagged X)
  shown_row f [] = []
  shown_row f (t ∷ ts) = with_shown t (tagged f t) (shown_row f ts)

  abbrev pub shows : Activation F → List (ℕ × Tagged X)
  shows Lowest = []
  shows (Within s) = shown_row s.frame s.shown

  -- ---- cells that everybody shares

  -- A mutex has its holder in its first word, a closure its procedure, a thread's cell its state
  -- in its second word (0: it lives, 1: it has ended, 2: it was joined) and its result in its
  -- third.
  abbrev pub holder : M → Tagged X → Option ℕ
  holder m (Plain x) = None
  holder m (Tidy x) = found (k.load m x) k.as_number

  abbrev pub hold : M → Tagged X → ℕ → Option M
  hold m (Plain x) n = None
  hold m (Tidy x) n = if k.is_small n then k.store m x (k.number n) else None

  abbrev pub life_of : Option X → ℕ → Option (Life (Tagged X))
  life_of result state =
      if state == 0 then Some Alive
      else if state == 1 then mapped (λ x. Ended (Tidy x)) result
      else if state == 2 then Some Joined else None

  abbrev pub life : M → Tagged X → Option (Life (Tagged X))
  life m (Plain x) = None
  life m (Tidy x) =
      found (found (k.load m (k.further x 1)) k.as_number) (life_of (k.load m (k.further x 2)))

  abbrev pub join : M → Tagged X → Option M
  join m (Plain x) = None
  join m (Tidy x) = k.store m (k.further x 1) (k.number 2)

  abbrev pub end_with : M → Tagged X → Tagged X → Option M
  end_with m (Tidy x) (Tidy result) =
      found (k.store m (k.further x 2) result) (λ m. k.store m (k.further x 1) (k.number 1))
  end_with m _ _ = None

  abbrev pub begun : X → ℕ → Begun (Activation F) (Tagged X)
  begun closure p =
      record { action = Calls p (Plain (k.number 0)) (Tidy closure ∷ []); lowest = Lowest }

  abbrev pub begins : M → Tagged X → Option (Begun (Activation F) (Tagged X))
  begins m (Plain x) = None
  begins m (Tidy x) = mapped (begun x) (found (k.load m x) k.as_number)

  abbrev pub is_same : Tagged X → Tagged X → Bool
  is_same (Tidy x) (Tidy y) = k.is_one x y
  is_same _ _ = false

  abbrev pub bytes : M → Form → Tagged X → Option (List ℕ)
  bytes m form (Plain x) = mapped (λ n. n ∷ []) (k.as_number x)
  bytes m form (Tidy x) = None

  -- the main thread begins procedure 0
  abbrev pub main : Begun (Activation F) (Tagged X)
  main =
      record { action = Calls 0 (Plain (k.number 0)) (Plain (k.number 0) ∷ []); lowest = Lowest }
