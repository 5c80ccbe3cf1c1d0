-- When places and rows of code are sound; and what stands for what then.
use Rattle.std.specs.Prelude.{◌≡◌, ◌≢◌, ℕ, ◌+◌, ◌==◌, ◌≤◌, ◌<◌, ◌⊎◌, Bool, true, false, List, [], ◌∷◌, length, Option, Some, if◌then◌else◌, slice_get}
use Rattle.m3_base.specs.declared.outcomes.FaultKind.{FaultKind}
use Rattle.m3_runs.specs.Languages.{Action, Answer, Move, Acts, Leaves, Faults, Breaks, Thread}
use Rattle.m3_runs.specs.States.{thread_at}
use Rattle.m3_runs.specs.Follows.{Standing, Each, SameAction, SameAnswer, Room}
use Rattle.m3_runs_tests.specs.Code as code
use Rattle.m3_runs_tests.specs.Code.{Kind, Numeric, Pointer, Derived, Op, Asked, Ask, End, Block, Start, Code}
use Rattle.m3_runs_tests.specs.Meaning.{Tagged, Plain, Tidy, Waiting, Activation, Lowest, Within}
use Rattle.m3_runs_tests.specs.Named as named
use Rattle.m3_runs_tests.specs.Named.{Word, Number, Cell}
use Rattle.m3_runs_tests.specs.Moving as moving
use Rattle.m3_runs_tests.specs.Moving.{Places, is_kept, Apart}

-- which temporaries are live
abbrev pub Live : Type 0
Live = ℕ → Bool

module _ (c : Code) (p : Places) (limit : ℕ) where
  -- what is derived from a live pointer: a base is live, and tidy
  abbrev pub Closed : Live → Type 0
  Closed x = (t b : ℕ) → x t ≡ true → c.kind t ≡ Derived b → (x b ≡ true) × (c.kind b ≡ Pointer)

  -- after a temporary is set, others are live only that were, that have another place, and whose
  -- base isn't the one that was set
  abbrev pub Stays : Live → ℕ → ℕ → Type 0
  Stays x t u =
      (x u ≡ true) × (u ≢ t) × (p.place u ≢ p.place t)
      × ((b : ℕ) → c.kind u ≡ Derived b → b ≢ t)

  abbrev pub Sets : Live → ℕ → Live → Type 0
  Sets x t y = (u : ℕ) → y u ≡ true → (u ≡ t) ⊎ Stays x t u

  abbrev pub Within_live : Live → Live → Type 0
  Within_live y x = (u : ℕ) → y u ≡ true → x u ≡ true

  abbrev pub NumberFits : ℕ → Kind → Type 0
  NumberFits n Numeric = Unit {0}
  NumberFits n Pointer = n < limit
  NumberFits n (Derived b) = ⊥

  -- so far from a word of the one kind is one of the other kind
  pub data StepFits (a : ℕ) : ℕ → Kind → Kind → Type 0 where
    numeric : (n : ℕ) → StepFits a n Numeric Numeric
    pointer : StepFits a 0 Pointer Pointer
    derives : (n : ℕ) → StepFits a n Pointer (Derived a)
    derived : (n b : ℕ) → StepFits a n (Derived b) (Derived b)

  pub data IsAddress : Kind → Type 0 where
    pointer : IsAddress Pointer
    derived : (b : ℕ) → IsAddress (Derived b)

  pub data SoundOp (x y : Live) : Op → Type 0 where
    number : (t n : ℕ) → Sets x t y → NumberFits n (c.kind t) → SoundOp x y (code.Number t n)
    move : (t a : ℕ) → Sets x t y → x a ≡ true → StepFits a 0 (c.kind a) (c.kind t)
        → SoundOp x y (code.Move t a)
    advance : (t a n : ℕ) → Sets x t y → x a ≡ true → StepFits a n (c.kind a) (c.kind t)
        → SoundOp x y (code.Advance t a n)
    load : (t a : ℕ) → Sets x t y → x a ≡ true → IsAddress (c.kind a) → c.kind t ≡ Pointer
        → SoundOp x y (code.Load t a)
    store : (a v : ℕ) → Within_live y x → x a ≡ true → x v ≡ true → IsAddress (c.kind a)
        → c.kind v ≡ Pointer → SoundOp x y (code.Store a v)

  -- a row of a point, behind which a temporary is set and a block follows
  pub record SoundRow (dest next : ℕ) : Type 0 where
    pub kept : Live
    pub is : (t : ℕ) → kept t ≡ (if t == dest then false else p.live next t)
    pub closed : Closed kept
    pub sets : Sets kept dest (p.live next)
    pub next_closed : Closed (p.live next)

  pub data AllLive (x : Live) : List ℕ → Type 0 where
    none : AllLive x []
    more : (t : ℕ) (ts : List ℕ) → x t ≡ true → AllLive x ts → AllLive x (t ∷ ts)

  abbrev pub SoundAsk : Live → Ask → Type 0
  SoundAsk x (code.Call q ts) = AllLive x ts
  SoundAsk x (code.New words) = Unit {0}
  SoundAsk x (code.Fork t) = x t ≡ true
  SoundAsk x (code.Serve service t) = x t ≡ true
  SoundAsk x (code.Wait t u alertable) = (x t ≡ true) × (x u ≡ true)
  SoundAsk x code.Point = Unit {0}

  pub data SoundEnd (x : Live) : End → Type 0 where
    goto : (b : ℕ) → Within_live (p.live b) x → SoundEnd x (code.Goto b)
    choose : (t first second : ℕ) → x t ≡ true → (c.kind t ≡ Numeric) ⊎ (c.kind t ≡ Pointer)
        → Within_live (p.live first) x → Within_live (p.live second) x
        → SoundEnd x (code.Choose t first second)
    act : (ask : Ask) (shown : List ℕ) (dest next : ℕ) → SoundAsk x ask
        → (row : SoundRow dest next) → AllLive row.kept shown → Within_live row.kept x
        → SoundEnd x (code.Act ask shown dest next)
    return : (t : ℕ) → x t ≡ true → SoundEnd x (code.Return t)
    raise : (exception t : ℕ) → x t ≡ true → SoundEnd x (code.Raise exception t)
    fault : (kind : FaultKind) (line : ℕ) → SoundEnd x (code.FaultAt kind line)

  pub data SoundOps : Live → List Op → End → Type 0 where
    end : (x : Live) (e : End) → SoundEnd x e → SoundOps x [] e
    op : (x y : Live) (o : Op) (os : List Op) (e : End) → SoundOp x y o → Closed y
        → SoundOps y os e → SoundOps x (o ∷ os) e

  -- where a procedure begins nothing is live but its formal
  pub record SoundStart (start : Start) : Type 0 where
    pub closed : Closed (p.live start.block)
    pub alone : (u : ℕ) → p.live start.block u ≡ true → u ≡ start.formal

  -- THE CHECK, procedure by procedure
  pub record Sound : Type 0 where
    pub heap : 2 < limit
    pub blocks : (b : ℕ) (block : Block) → slice_get c.blocks b ≡ Some block
        → Closed (p.live b) × SoundOps (p.live b) block.ops block.end
    pub starts : (q : ℕ) (start : Start) → slice_get c.starts q ≡ Some start → SoundStart start

  -- ---- what stands for what, where cells lie so

  abbrev pub World : Type 0
  World = ℕ → Option ℕ

  abbrev pub TidyAs : World → Word → ℕ → Type 0
  TidyAs w (Number n) k = (n ≡ k) × (k < limit)
  TidyAs w (Cell e d) k = (d ≡ 0) × (w e ≡ Some k)

  pub data ValueAs (w : World) : Tagged Word → Tagged ℕ → Type 0 where
    plain : (n : ℕ) → ValueAs w (Plain (Number n)) (Plain n)
    tidy : (v : Word) (k : ℕ) → TidyAs w v k → ValueAs w (Tidy v) (Tidy k)

  abbrev pub FitsAs : World → Kind → Word → ℕ → named.Frame → moving.Frame → Type 0
  FitsAs w Numeric v k f f' = v ≡ Number k
  FitsAs w Pointer v k f f' = TidyAs w v k
  FitsAs w (Derived b) v k f f' = (d : ℕ) × (v ≡ named.further (f b) d) × (k ≡ f' (p.place b) + d)

  abbrev pub Fits : World → Live → named.Frame → moving.Frame → Type 0
  Fits w x f f' = (t : ℕ) → x t ≡ true → FitsAs w (c.kind t) (f t) (f' (p.place t)) f f'

  pub record WaitingAs (w : World) (s : Waiting named.Frame) (s' : Waiting moving.Frame)
      : Type 0 where
    pub dest : s.dest ≡ s'.dest
    pub next : s.next ≡ s'.next
    pub row : SoundRow s'.dest s'.next
    pub shown : s.shown ≡ s'.shown
    pub live : AllLive row.kept s'.shown
    pub words : Fits w row.kept s.frame s'.frame

  pub data ActivationAs (w : World)
      : Activation named.Frame → Activation moving.Frame → Type 0 where
    lowest : ActivationAs w Lowest Lowest
    within : (s : Waiting named.Frame) (s' : Waiting moving.Frame) → WaitingAs w s s'
        → ActivationAs w (Within s) (Within s')

  pub record WordThere (w : World) (m' : moving.Memory) (a i : ℕ) (v : Word) : Type 0 where
    pub size : ℕ
    pub sized : m'.sizes a ≡ Some size
    pub within : i < size
    pub word : ℕ
    pub there : m'.words (a + i) ≡ Some word
    pub same : TidyAs w v word

  pub record MemoryAs (w : World) (m : named.Memory) (m' : moving.Memory) : Type 0 where
    pub words : (e a i : ℕ) (v : Word) → w e ≡ Some a → m.words e i ≡ Some v → WordThere w m' a i v
    pub sized : (e a : ℕ) → w e ≡ Some a → (n : ℕ) × (m'.sizes a ≡ Some n)
    pub fresh : (e a : ℕ) → w e ≡ Some a → e < m.next
    pub one : (d e a : ℕ) → w d ≡ Some a → w e ≡ Some a → d ≡ e
    pub high : (e a : ℕ) → w e ≡ Some a → limit ≤ a
    pub apart : Apart m'

  abbrev pub standing : Standing World (Activation named.Frame) (Tagged Word) named.Memory
      (Activation moving.Frame) (Tagged ℕ) moving.Memory
  standing = record {
    value = ValueAs;
    stack = λ w ss ss'. Each (ActivationAs w) ss ss';
    memory = MemoryAs;
    later = λ w w'. (e a : ℕ) → w e ≡ Some a → w' e ≡ Some a;
  }

  -- the moves of two activations, whatever stands below them
  pub data MoveAs (w : World)
      : Move (Activation named.Frame) (Tagged Word) named.Memory
      → Move (Activation moving.Frame) (Tagged ℕ) moving.Memory → Type 0 where
    does : (a : Action (Tagged Word)) (a' : Action (Tagged ℕ)) (s : Activation named.Frame)
        (s' : Activation moving.Frame) (m : named.Memory) (m' : moving.Memory)
        → SameAction standing w a a' → ActivationAs w s s' → MemoryAs w m m'
        → MoveAs w (Acts a s m) (Acts a' s' m')
    leaves : (a : Answer (Tagged Word)) (a' : Answer (Tagged ℕ)) (m : named.Memory)
        (m' : moving.Memory) → SameAnswer standing w a a' → MemoryAs w m m'
        → MoveAs w (Leaves a m) (Leaves a' m')
    faults : (kind : FaultKind) (line : ℕ) → MoveAs w (Faults kind 0 line) (Faults kind 0 line)
    breaks : (move' : Move (Activation moving.Frame) (Tagged ℕ) moving.Memory)
        → MoveAs w Breaks move'

  -- of a heap without room nothing is said; a stack without room has as many activations as it may
  abbrev pub room : ℕ → Room standing
  room depth = record {
    no_cell = λ parts n. Unit {0};
    no_frame = λ parts n. (t : Thread (Activation named.Frame) (Tagged Word))
        × (thread_at parts.threads n ≡ Some t) × (depth ≤ length t.stack);
  }
