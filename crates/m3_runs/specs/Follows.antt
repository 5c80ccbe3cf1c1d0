-- What it means that one language follows another: what the second one does, the first one does.
use Rattle.std.specs.Prelude.{◌≡◌, ◌≤◌, ◌+◌, ℕ, Bool, List, [], ◌∷◌, length, map, Option, Some, None}
use Rattle.m3_base.specs.declared.outcomes.FaultKind.{FaultKind}
use Rattle.m3_runs.specs.Languages.{Form, New, Cell, Concatenated, ByteText, Subtext, ThreadCell, Service, Put, GetByte, EndOfInput, Join, Acquire, Release, Wait, Signal, Broadcast, MySelf, Alert, TestAlert, Action, Calls, Makes, Forks, Serves, Passes, Answer, Gives, Raises, Fails, Move, Acts, Leaves, Faults, Breaks, Entered, Begins, Overflows, Status, Ready, Wants, Waits, Joins, Thread, Life, Alive, Ended, Joined, Begun, Parts, Language}
use Rattle.m3_runs.specs.States.{State, thread_at}

-- ---- rows

-- one by one
pub data Each {A B : Type 0} (R : A → B → Type 0) : List A → List B → Type 0 where
  none : Each R [] []
  more : (x : A) (y : B) (xs : List A) (ys : List B) → R x y → Each R xs ys
      → Each R (x ∷ xs) (y ∷ ys)

-- there is one on both sides, or on neither
pub data Both {A B : Type 0} (R : A → B → Type 0) : Option A → Option B → Type 0 where
  neither : Both R None None
  both : (x : A) (y : B) → R x y → Both R (Some x) (Some y)

-- where the first one is defined, so is the second one
pub data AsDefined {A B : Type 0} (R : A → B → Type 0) : Option A → Option B → Type 0 where
  undefined : (y : Option B) → AsDefined R None y
  defined : (x : A) (y : B) → R x y → AsDefined R (Some x) (Some y)

abbrev pub IsOne : {A : Type 0} → A → A → Type 0
IsOne x y = x ≡ y

-- an action needs something that is made
pub data Needs {V : Type 0} : Action V → New V → Type 0 where
  needs_new : (new : New V) → Needs (Makes new) new
  needs_cell : (closure : V) (number : ℕ) → Needs (Forks closure) (ThreadCell number)

-- ---- what holds wherever runs come

-- Of a state between two turns; in the turn of a thread, before its action; and behind that, of the
-- move to which its activations came, over the older ones. That a language keeps it is a law
-- (Keeping).
pub record Invariant (S V M : Type 0) : Type 1 where
  pub between : State S V M → Type 0
  pub acting : State S V M → (thread : ℕ) → Type 0
  pub within : State S V M → (thread : ℕ) → List S → Move S V M → Type 0

-- nothing is asked
abbrev pub anything : {S V M : Type 0} → Invariant S V M
anything = record {
  between = λ s. Unit {0};
  acting = λ s n. Unit {0};
  within = λ s n stack move. Unit {0};
}

-- ---- what stands for what

-- WHAT STANDS FOR WHAT at a moment: values, stacks of activations and memories of the one language
-- for those of the other. A moment is a world, such as where each cell lies. Stacks are related as
-- wholes, so an activation may be described by the one below it.
pub record Standing (W SA VA MA SB VB MB : Type 0) : Type 1 where
  pub value : W → VA → VB → Type 0
  pub stack : W → List SA → List SB → Type 0
  pub memory : W → MA → MB → Type 0
  -- the second moment comes later, without a collection between
  pub later : W → W → Type 0

module _ {W SA VA MA SB VB MB : Type 0} (R : Standing W SA VA MA SB VB MB) where
  -- ---- actions and answers

  pub data SameNew (w : W) : New VA → New VB → Type 0 where
    cell : (kind : ℕ) (sizes : List VA) (others : List VB) → Each (R.value w) sizes others
        → SameNew w (Cell kind sizes) (Cell kind others)
    concatenated : (t u : VA) (t' u' : VB) → R.value w t t' → R.value w u u'
        → SameNew w (Concatenated t u) (Concatenated t' u')
    byte_text : (v : VA) (v' : VB) → R.value w v v' → SameNew w (ByteText v) (ByteText v')
    subtext : (t i n : VA) (t' i' n' : VB) → R.value w t t' → R.value w i i' → R.value w n n'
        → SameNew w (Subtext t i n) (Subtext t' i' n')
    thread_cell : (number : ℕ) → SameNew w (ThreadCell number) (ThreadCell number)

  pub data SameService (w : W) : Service VA → Service VB → Type 0 where
    put : (form : Form) (v : VA) (v' : VB) → R.value w v v'
        → SameService w (Put form v) (Put form v')
    get_byte : SameService w GetByte GetByte
    end_of_input : SameService w EndOfInput EndOfInput
    join : (v : VA) (v' : VB) (alertable : Bool) → R.value w v v'
        → SameService w (Join v alertable) (Join v' alertable)
    acquire : (v : VA) (v' : VB) → R.value w v v' → SameService w (Acquire v) (Acquire v')
    release : (v : VA) (v' : VB) → R.value w v v' → SameService w (Release v) (Release v')
    wait : (v u : VA) (v' u' : VB) (alertable : Bool) → R.value w v v' → R.value w u u'
        → SameService w (Wait v u alertable) (Wait v' u' alertable)
    signal : (v : VA) (v' : VB) → R.value w v v' → SameService w (Signal v) (Signal v')
    broadcast : (v : VA) (v' : VB) → R.value w v v' → SameService w (Broadcast v) (Broadcast v')
    my_self : SameService w MySelf MySelf
    alert : (v : VA) (v' : VB) → R.value w v v' → SameService w (Alert v) (Alert v')
    test_alert : SameService w TestAlert TestAlert

  pub data SameAction (w : W) : Action VA → Action VB → Type 0 where
    calls : (p : ℕ) (v : VA) (v' : VB) (formals : List VA) (others : List VB) → R.value w v v'
        → Each (R.value w) formals others → SameAction w (Calls p v formals) (Calls p v' others)
    makes : (new : New VA) (other : New VB) → SameNew w new other
        → SameAction w (Makes new) (Makes other)
    forks : (v : VA) (v' : VB) → R.value w v v' → SameAction w (Forks v) (Forks v')
    serves : (service : Service VA) (other : Service VB) → SameService w service other
        → SameAction w (Serves service) (Serves other)
    passes : SameAction w Passes Passes

  pub data SameAnswer (w : W) : Answer VA → Answer VB → Type 0 where
    gives : (v : Option VA) (v' : Option VB) → Both (R.value w) v v'
        → SameAnswer w (Gives v) (Gives v')
    raises : (exception : ℕ) (v u : VA) (v' u' : VB) → R.value w v v' → R.value w u u'
        → SameAnswer w (Raises exception v u) (Raises exception v' u')
    fails : (kind : FaultKind) → SameAnswer w (Fails kind) (Fails kind)

  -- over older activations; where the first move isn't defined, nothing is said of the second one
  pub data SameMove (w : W) (rest : List SA) (rest' : List SB)
      : Move SA VA MA → Move SB VB MB → Type 0 where
    acts : (a : Action VA) (a' : Action VB) (s : SA) (s' : SB) (m : MA) (m' : MB)
        → SameAction w a a' → R.stack w (s ∷ rest) (s' ∷ rest') → R.memory w m m'
        → SameMove w rest rest' (Acts a s m) (Acts a' s' m')
    leaves : (a : Answer VA) (a' : Answer VB) (m : MA) (m' : MB)
        → SameAnswer w a a' → R.stack w rest rest' → R.memory w m m'
        → SameMove w rest rest' (Leaves a m) (Leaves a' m')
    faults : (kind : FaultKind) (file line : ℕ)
        → SameMove w rest rest' (Faults kind file line) (Faults kind file line)
    breaks : (move' : Move SB VB MB) → SameMove w rest rest' Breaks move'

  -- ---- threads and states

  pub data SameStatus (w : W) : Status VA → Status VB → Type 0 where
    ready : SameStatus w Ready Ready
    wants : (v : VA) (v' : VB) → R.value w v v' → SameStatus w (Wants v) (Wants v')
    waits : (v u : VA) (v' u' : VB) (place : ℕ) (alertable : Bool) → R.value w v v'
        → R.value w u u' → SameStatus w (Waits v u place alertable) (Waits v' u' place alertable)
    joins : (v : VA) (v' : VB) (alertable : Bool) → R.value w v v'
        → SameStatus w (Joins v alertable) (Joins v' alertable)

  pub record SameThread (w : W) (t : Thread SA VA) (t' : Thread SB VB) : Type 0 where
    pub action : SameAction w t.action t'.action
    pub status : SameStatus w t.status t'.status
    pub alerted : t.alerted ≡ t'.alerted
    pub cell : R.value w t.cell t'.cell
    pub stack : R.stack w t.stack t'.stack

  pub data SameLife (w : W) : Life VA → Life VB → Type 0 where
    alive : SameLife w Alive Alive
    ended : (v : VA) (v' : VB) → R.value w v v' → SameLife w (Ended v) (Ended v')
    joined : SameLife w Joined Joined

  pub record SameBegun (w : W) (b : Begun SA VA) (b' : Begun SB VB) : Type 0 where
    pub action : SameAction w b.action b'.action
    pub stack : R.stack w (b.lowest ∷ []) (b'.lowest ∷ [])

  pub record SameParts (w : W) (parts : Parts SA VA MA) (parts' : Parts SB VB MB) : Type 0 where
    pub threads : Each (Both (SameThread w)) parts.threads parts'.threads
    pub memory : R.memory w parts.memory parts'.memory

  -- what was put, taken and counted is the same
  pub record SameCounts (s : State SA VA MA) (s' : State SB VB MB) : Type 0 where
    pub output : s.output ≡ s'.output
    pub taken : s.taken ≡ s'.taken
    pub points : s.points ≡ s'.points
    pub running : s.running ≡ s'.running
    pub waits : s.waits ≡ s'.waits

  -- the one state shows the other
  pub record Shows (w : W) (s : State SA VA MA) (s' : State SB VB MB) : Type 0 where
    pub parts : SameParts w s.parts s'.parts
    pub counts : SameCounts s s'

  -- a variable of the same place is shown with the same value
  pub record SameShown (w : W) (v : ℕ × VA) (v' : ℕ × VB) : Type 0 where
    pub place : v.0 ≡ v'.0
    pub value : R.value w v.1 v'.1

  -- Two functions give the same of a value in memory, wherever the first one is defined: a result
  -- that stands for the other, or a memory that does.
  abbrev pub ReadsSo : {A B : Type 0} → (W → A → B → Type 0) → (MA → VA → Option A)
      → (MB → VB → Option B) → Type 0
  ReadsSo P f g = (w : W) (m : MA) (m' : MB) (v : VA) (v' : VB) → R.memory w m m'
      → R.value w v v' → AsDefined (P w) (f m v) (g m' v')

  -- ---- steps

  -- thread n is t on the one side and t' on the other, and stands at its action
  pub record IsActing (w : W) (parts : Parts SA VA MA) (parts' : Parts SB VB MB) (n : ℕ)
      (t : Thread SA VA) (t' : Thread SB VB) : Type 0 where
    pub state : SameParts w parts parts'
    pub there : thread_at parts.threads n ≡ Some t
    pub there' : thread_at parts'.threads n ≡ Some t'
    pub same : SameThread w t t'

  -- what the first language does as the second one moves so
  pub record GoesSo (K : Language SA VA MA) (w : W) (s : SA) (rest : List SA) (rest' : List SB)
      (a : Answer VA) (m : MA) (move' : Move SB VB MB) : Type 0 where
    pub world : W
    pub later : R.later w world
    pub move : Move SA VA MA
    pub goes : K.goes s a m move
    pub same : SameMove world rest rest' move move'

  -- what it does as the second one enters a procedure so: where that one's stack is full, `Deep`
  -- is known of the thread
  pub data EntersSo (K : Language SA VA MA) (w : W) (stack : List SA) (stack' : List SB) (p : ℕ)
      (environment : VA) (formals : List VA) (m : MA) (Deep : Type 0)
      : Entered SB VB MB → Type 0 where
    begins_so : (world : W) (move : Move SA VA MA) (move' : Move SB VB MB) → R.later w world
        → K.enters stack p environment formals m (Begins move)
        → SameMove world stack stack' move move'
        → EntersSo K w stack stack' p environment formals m Deep (Begins move')
    overflows_so : Deep → EntersSo K w stack stack' p environment formals m Deep Overflows
    breaks_so : (entered : Entered SB VB MB)
        → K.enters stack p environment formals m (Begins Breaks)
        → EntersSo K w stack stack' p environment formals m Deep entered

  pub record MakesSo (K : Language SA VA MA) (parts : Parts SA VA MA) (n : ℕ) (new : New VA)
      (v' : VB) (after' : Parts SB VB MB) : Type 0 where
    pub world : W
    pub value : VA
    pub after : Parts SA VA MA
    pub makes : K.makes parts n new (Some value) after
    pub same : SameParts world after after'
    pub given : R.value world value v'

  -- what is known of the thread that acts, where the second language has no room for a cell, or
  -- for a frame
  pub record Room : Type 1 where
    pub no_cell : Parts SA VA MA → ℕ → Type 0
    pub no_frame : Parts SA VA MA → ℕ → Type 0

  -- A LANGUAGE L FOLLOWS A LANGUAGE K, activation by activation and cell by cell: what L does, K
  -- does. Worlds grow as cells are made. A collection of L leaves the state of K as it is, in
  -- another world. What is asked is asked of states that a run may come to: an invariant of each
  -- language holds there.
  pub record Follows (K : Language SA VA MA) (L : Language SB VB MB) (I : Invariant SA VA MA)
      (J : Invariant SB VB MB) (room : Room) : Type 0 where
    -- moments
    pub same_moment : (w : W) → R.later w w
    pub later_still : (w w' w2 : W) → R.later w w' → R.later w' w2 → R.later w w2
    pub value_stays : (w w' : W) (v : VA) (v' : VB) → R.later w w' → R.value w v v'
        → R.value w' v v'
    pub stack_stays : (w w' : W) (ss : List SA) (ss' : List SB) → R.later w w' → R.stack w ss ss'
        → R.stack w' ss ss'
    -- activations
    pub as_deep : (w : W) (ss : List SA) (ss' : List SB) → R.stack w ss ss'
        → length ss ≡ length ss'
    pub enters : (w : W) (u : State SA VA MA) (u' : State SB VB MB) (n : ℕ)
        (t : Thread SA VA) (t' : Thread SB VB)
        (p : ℕ) (v : VA) (v' : VB) (formals : List VA) (others : List VB)
        (entered : Entered SB VB MB)
        → I.acting u n → J.acting u' n
        → IsActing w u.parts u'.parts n t t' → t.action ≡ Calls p v formals → R.value w v v'
        → Each (R.value w) formals others
        → L.enters t'.stack p v' others u'.parts.memory entered
        → EntersSo K w t.stack t'.stack p v formals u.parts.memory (room.no_frame u.parts n) entered
    pub goes : (w : W) (s : SA) (s' : SB) (rest : List SA) (rest' : List SB) (a : Answer VA)
        (a' : Answer VB) (m : MA) (m' : MB) (move' : Move SB VB MB)
        (u : State SA VA MA) (u' : State SB VB MB) (n : ℕ)
        → I.within u n (s ∷ rest) (Leaves a m) → J.within u' n (s' ∷ rest') (Leaves a' m')
        → R.stack w (s ∷ rest) (s' ∷ rest') → SameAnswer w a a' → R.memory w m m'
        → L.goes s' a' m' move' → GoesSo K w s rest rest' a m move'
    pub shows : (w : W) (u : State SA VA MA) (u' : State SB VB MB) (n : ℕ)
        (t : Thread SA VA) (t' : Thread SB VB)
        → I.between u → J.between u' → IsActing w u.parts u'.parts n t t'
        → Each (Each (SameShown w)) (map (K.shows u.parts.memory) t.stack)
        (map (L.shows u'.parts.memory) t'.stack)
    -- cells
    pub makes : (w : W) (u : State SA VA MA) (u' : State SB VB MB) (after' : Parts SB VB MB) (n : ℕ)
        (t : Thread SA VA) (t' : Thread SB VB) (new : New VA) (new' : New VB) (v' : VB)
        → I.acting u n → J.acting u' n
        → IsActing w u.parts u'.parts n t t' → Needs t.action new → SameNew w new new'
        → L.makes u'.parts n new' (Some v') after'
        → MakesSo K u.parts n new v' after'
    pub full : (w : W) (u : State SA VA MA) (u' : State SB VB MB) (after' : Parts SB VB MB) (n : ℕ)
        (t : Thread SA VA) (t' : Thread SB VB) (new : New VA) (new' : New VB)
        → I.acting u n → J.acting u' n
        → IsActing w u.parts u'.parts n t t' → Needs t.action new → SameNew w new new'
        → L.makes u'.parts n new' None after'
        → room.no_cell u.parts n
    pub collects : (w : W) (parts : Parts SA VA MA) (parts' after' : Parts SB VB MB)
        → SameParts w parts parts' → L.collects parts' after'
        → (w' : W) × SameParts w' parts after'
    pub ignores : (parts : Parts SA VA MA) → K.collects parts parts
    -- values
    pub number : (w : W) (n : ℕ) → R.value w (K.number n) (L.number n)
    pub is_same : (w : W) (m : MA) (m' : MB) (v u : VA) (v' u' : VB) → R.memory w m m'
        → R.value w v v' → R.value w u u' → K.is_same v u ≡ L.is_same v' u'
    pub bytes : (w : W) (u : State SA VA MA) (u' : State SB VB MB) (n : ℕ)
        (t : Thread SA VA) (t' : Thread SB VB) (form : Form) (v : VA) (v' : VB)
        → I.acting u n → J.acting u' n
        → IsActing w u.parts u'.parts n t t' → t.action ≡ Serves (Put form v) → R.value w v v'
        → AsDefined IsOne (K.bytes u.parts.memory form v) (L.bytes u'.parts.memory form v')
    -- mutexes
    pub holder : ReadsSo (λ w. IsOne) K.holder L.holder
    pub hold : (w : W) (u : State SA VA MA) (u' : State SB VB MB) (n holder : ℕ) (v : VA) (v' : VB)
        → I.acting u n → J.acting u' n → R.memory w u.parts.memory u'.parts.memory
        → R.value w v v' → holder ≤ n + 1
        → AsDefined (R.memory w) (K.hold u.parts.memory v holder) (L.hold u'.parts.memory v' holder)
    -- threads
    pub number_of : ReadsSo (λ w. IsOne) K.number_of L.number_of
    pub life : ReadsSo SameLife K.life L.life
    pub join : ReadsSo R.memory K.join L.join
    pub end_with : (w : W) (u : State SA VA MA) (u' : State SB VB MB) (n : ℕ) (m : MA)
        (m' : MB) (v x : VA) (v' x' : VB)
        → I.within u n [] (Leaves (Gives (Some x)) m)
        → J.within u' n [] (Leaves (Gives (Some x')) m')
        → R.memory w m m' → R.value w v v' → R.value w x x'
        → AsDefined (R.memory w) (K.end_with m v x) (L.end_with m' v' x')
    pub begins : ReadsSo SameBegun K.begins L.begins
    pub alerted : K.alerted ≡ L.alerted
