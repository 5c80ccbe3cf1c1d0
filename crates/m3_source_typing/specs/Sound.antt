-- WHAT IS WELL TYPED IS DEFINED: what this says of a phrase.
use Rattle.std.specs.Prelude.{◌≡◌, ◌≤◌, ℕ, Bool, true, List, ◌∷◌, ◌++◌, length, Option, Some, None}
use Rattle.m3_runs.specs.Languages.{Action}
use Rattle.m3_values.specs.Values.{Value}
use Rattle.m3_values.specs.Programs.{Program}
use Rattle.m3_values.specs.Arrays.{shape}
use Rattle.m3_values.specs.Places.{Place, Thing, Is, At}
use Rattle.m3_values.specs.Store.{Store, Memory, thing_in, read, write, value_now}
use Rattle.m3_source_meaning.specs.Meanings.{Told, Raised, Around, Standing, Now, Exits, End, Waits, Left, Faulted, Undefined, Evaluates}
use Rattle.m3_source_meaning.specs.Phrases.{Expression}
use Rattle.m3_source_meaning.specs.Travelling.{argument_type}
use Rattle.m3_source_typing.specs.ValueTypes.{HasType}
use Rattle.m3_source_typing.specs.Stores.{IsLater, IsTyped}
use Rattle.m3_source_typing.specs.Points.{Fits, IsArgument}

-- The own variables of an activation that hold values: how many variables its procedure declares,
-- and which of them are known to be made, with their types.
pub record Owned : Type 0 where
  pub count : ℕ
  pub kind : ℕ → Option ℕ

-- all that is known in the first is known in the second
pub record Knows (known own : Owned) : Type 0 where
  pub count : known.count ≤ own.count
  pub kinds : (x t : ℕ) → known.kind x ≡ Some t → own.kind x ≡ Some t

-- a name that stands for a place of a type, which is a variable or not, and the variables that were
-- known where it was bound
pub record Alias : Type 0 where
  pub known : Owned
  pub is_variable : Bool
  pub kind : ℕ

-- what is known of an activation at a place of its procedure
pub record Scope : Type 0 where
  pub holds : Owned
  pub names : ℕ → Option Alias

-- how statements may be left beside their end and exceptions: by EXIT, where they stand in a loop,
-- and by RETURN, with a value of the type of a result where there is one
pub record Leaving : Type 0 where
  pub in_loop : Bool
  pub result : Option ℕ

module _ (p : Program) where
  -- the end is defined, and leaves the store well typed
  abbrev pub IsDefined : End → Type 0
  IsDefined (Waits action standing s) = IsTyped p None s
  IsDefined (Left answer s) = IsTyped p None s
  IsDefined (Faulted kind at) = Unit {0}
  IsDefined Undefined = ⊥

  -- Each answer fits the action at which the course stands when it takes it: that is where the
  -- course ends if it is told no more than the answers before that one.
  abbrev pub AllFit : (course : Now → End) → Now → Type 0
  AllFit course now =
      (before after : List Told) (told : Told) (action : Action Thing) (standing : Standing)
      (s : Store) → now.answers ≡ before ++ told ∷ after →
      course (record now { answers = before }) ≡ Waits action standing s → Fits p s action told

  -- where the answers fit, the end is defined
  abbrev pub IsSound : (course : Now → End) → Now → Type 0
  IsSound course now = AllFit course now → IsDefined (course now)

  -- what an own variable holds
  pub record HasOwn (m : Memory) (x t : ℕ) : Type 0 where
    pub value : Value
    pub is : thing_in m.own x ≡ Some (Is value)
    pub typed : HasType p m.store value t

  -- The store is well typed, and the own variables of the activation that are known to be made hold
  -- values of their types. There is room for the others.
  pub record IsFair (own : Owned) (m : Memory) : Type 0 where
    pub store : IsTyped p None m.store
    pub room : own.count ≤ length m.own
    pub variables : (x t : ℕ) → own.kind x ≡ Some t → HasOwn m x t

  -- Memory becomes another one, in which all variables that were known before hold values of their
  -- types still, and names stand for the same places.
  pub record Becomes (known : Owned) (m : Memory) (o : Option Memory) : Type 0 where
    pub after : Memory
    pub is : o ≡ Some after
    pub later : IsLater m.store after.store
    pub fair : (own : Owned) → Knows known own → IsFair own m → IsFair own after
    pub names : (x : ℕ) (place : Place) → thing_in m.own x ≡ Some (At place)
        → thing_in after.own x ≡ Some (At place)

  -- From a store on the place holds values of a type, which have one shape, wherever these own
  -- variables hold values of their types; and values of the type that have that shape may be
  -- written to it, where it is a variable.
  pub record IsPlaceOf (known : Owned) (is_variable : Bool) (s : Store) (to : Place) (t : ℕ)
      : Type 0 where
    pub sizes : List ℕ
    pub reads : (m : Memory) → IsLater s m.store → IsFair known m
        → (v : Value) × (read m to ≡ Some v) × HasType p m.store v t × (shape v ≡ sizes)
    pub writes : is_variable ≡ true → (m : Memory) → IsLater s m.store → IsFair known m
        → (v : Value) → HasType p m.store v t → shape v ≡ sizes → Becomes known m (write to v m)

  -- what a name stands for
  pub record HasName (m : Memory) (x : ℕ) (a : Alias) : Type 0 where
    pub place : Place
    pub is : thing_in m.own x ≡ Some (At place)
    pub leads : IsPlaceOf a.known a.is_variable m.store place a.kind

module _ (p : Program) (own : Scope) where
  -- MEMORY IS WELL TYPED: the store and the own variables are, and the names stand for such places.
  pub record IsGood (m : Memory) : Type 0 where
    pub fair : IsFair p own.holds m
    pub names : (x : ℕ) (a : Alias) → own.names x ≡ Some a → HasName p m x a

  -- what follows a phrase that gives such things is sound, in every later well typed store
  pub record AreSound {A : Type 0} (s : Store) (P : Store → A → Type 0) (exits : Exits A)
      : Type 0 where
    pub gives : (x : A) (later : Now) → IsLater s later.memory.store
        → IsGood later.memory → P later.memory.store x → IsSound p (exits.gives x) later
    pub raised : (r : Raised) (later : Now) → IsLater s later.memory.store
        → IsGood later.memory
        → IsArgument p later.memory.store r.argument (argument_type p r.exception)
        → IsSound p (exits.raised r) later

  -- A PHRASE IS SOUND and gives such things, from a store on: wherever what follows it is sound, so
  -- is the whole.
  pub record Gives {A : Type 0} (s : Store) (P : Store → A → Type 0) (e : Evaluates A)
      : Type 0 where
    pub ends : (around : Around) (now : Now) (exits : Exits A) → IsLater s now.memory.store
        → IsGood now.memory → AreSound s P exits
        → IsSound p (λ later. e around later exits) now

  -- a thing that can be read from now on
  pub record IsReadable (s : Store) (thing : Thing) : Type 0 where
    pub reads : (m : Memory) → IsLater s m.store → IsGood m
        → (v : Value) × (value_now m thing ≡ Some v)

  -- AN EXPRESSION HAS A TYPE: from every store on it is sound and gives values of the type, and the
  -- same unread
  pub record IsOfType (e : Expression) (t : ℕ) : Type 0 where
    pub value : (s : Store) → Gives s (λ later v. HasType p later v t) e.value
    pub unread : (s : Store) → Gives s IsReadable e.unread

  -- ---- phrases that may be left

  -- what follows a phrase is sound for each way in which the phrase may be left
  pub record AreSoundFor {A : Type 0} (a : Leaving) (s : Store) (P : Store → A → Type 0)
      (exits : Exits A) : Type 0 where
    pub after : AreSound s P exits
    pub exit : a.in_loop ≡ true → (later : Now) → IsLater s later.memory.store
        → IsGood later.memory → IsSound p (exits.exit) later
    pub return : (v : Option Value) (later : Now) → IsLater s later.memory.store
        → IsGood later.memory → IsArgument p later.memory.store v a.result
        → IsSound p (exits.return v) later

  -- THE PHRASE IS SOUND, which may be left so, and gives such things
  pub record Does {A : Type 0} (a : Leaving) (s : Store) (P : Store → A → Type 0)
      (e : Evaluates A) : Type 0 where
    pub ends : (around : Around) (now : Now) (exits : Exits A) → IsLater s now.memory.store
        → IsGood now.memory → AreSoundFor a s P exits
        → IsSound p (λ later. e around later exits) now
