-- Phrases that keep an invariant, and how they are put together.
use Rattle.std.proofs.Common.{◌≡◌, ℕ, Bool, true, false, List, [], ◌∷◌, ◌++◌, Option, Some, None, refl}
use Rattle.m3_base.specs.declared.outcomes.FaultKind.{FaultKind}
use Rattle.m3_base.specs.declared.places.Pos.{Pos}
use Rattle.m3_runs.specs.Languages.{Action, Answer}
use Rattle.m3_values.specs.Values.{Value}
use Rattle.m3_values.specs.Integers.{Computed, Result, Fault}
use Rattle.m3_values.specs.Programs.{Program}
use Rattle.m3_values.specs.Places as place
use Rattle.m3_values.specs.Places.{Name, Referent, Global, Own, Local, Fresh, Place, Thing, Is, At, Selector, whole}
use Rattle.m3_values.specs.Store as store
use Rattle.m3_values.specs.Store.{Memory, thing_in, shared_thing, write, read, value_now}
use Rattle.m3_source_meaning.specs.Meanings as meaning
use Rattle.m3_source_meaning.specs.Meanings.{Told, Raised, Around, Now, Exits, End, Waits, Faulted, Undefined, Evaluates, Acts, given, done, fault, undefined, there, computed, unless, seeing, changing, reading, valued, writing, acting, raising, holding, holding_all, in_scope, standing, ◌>>=◌, ◌>>◌}
use Rattle.m3_source_meaning.specs.Phrases.{Here}
use Rattle.m3_source_meaning.specs.Designators.{stands_for, is_own, is_shared_here}
use Rattle.m3_source_meaning.specs.Assignment.{bound_in}
use Rattle.m3_source_meaning.specs.Sharing.{Use, use_of, out_of}
use Rattle.m3_source_laws.specs.Own.{AllOf, things_of_action}

-- WHAT IS KEPT from phrase to phrase: something that holds of memory and of the answers that are
-- left, and something of the ends of two courses that differ only in what follows the phrase.
pub record Invariant : Type 1 where
  pub holds : Now → Type 0
  pub compares : End → End → Type 0
  -- things that others may see; things that a chain gives which is a place of such a variable; and
  -- uses of variables that trees may have
  pub out : Thing → Type 0
  pub rooted : Option Use → Thing → Type 0
  pub may : Use → Type 0
  pub faults : (kind : FaultKind) (at : Pos) → compares (Faulted kind at) (Faulted kind at)
  pub undefined : compares Undefined Undefined
  pub waits : (action : Action Thing) (around : Around) (now : Now) → AllOf out (things_of_action action) → holds now → compares (Waits action (standing around now) now.memory.store) (Waits action (standing around now) now.memory.store)
  pub told : (m : Memory) (told : Told) (answers : List Told) → holds (record { memory = m; answers = told ∷ answers }) → holds (record { memory = record m { store = told.store }; answers = answers })
  pub written : (now : Now) (m : Memory) (to : Place) (v : Value) → write to v now.memory ≡ Some m → holds now → holds (record now { memory = m })
  pub filled : (now : Now) (m : Memory) (c : ℕ) (v : Value) → store.holding (Referent c) v now.memory ≡ Some m → holds now → holds (record now { memory = m })
  pub value : (v : Value) → out (Is v)
  pub new : (v : Value) → out (At (whole (Fresh v)))
  pub cell : (c : ℕ) → out (At (whole (Referent c)))
  pub global : (g : ℕ) → out (At (whole (Global g)))
  pub of_any : (r : Option Use) (thing : Thing) → out thing → rooted r thing
  pub further : (r : Option Use) (to : Place) (s : Selector) → rooted r (At to) → rooted r (At (place.further to s))
  pub taken : (r : Option Use) (thing : Thing) → AllOf may (out_of r) → rooted r thing → out thing

-- what an activation's variables keep
pub record Within (p : Program) (here : Here) (k : Invariant) : Type 0 where
  pub bound : (now : Now) (x : ℕ) (thing : Thing) → k.out thing → k.holds now → k.holds (record now { memory = bound_in p here (is_shared_here p here x) x thing now.memory })
  pub own : (level x : ℕ) (now : Now) (v : Value) → is_own p here level x ≡ true → k.holds now → thing_in now.memory.own x ≡ Some (Is v) → k.rooted (Some (use_of level x)) (At (whole (Own x)))
  pub alias : (x : ℕ) (now : Now) (to : Place) → k.holds now → thing_in now.memory.own x ≡ Some (At to) → k.out (At to)
  pub shared : (a x : ℕ) (now : Now) (thing : Thing) → k.holds now → shared_thing now.memory.store a x ≡ Some thing → k.out (stands_for (Local a x) thing)

pub record Both (k : Invariant) {A : Type 0} (P : A → Type 0) (exits others : Exits A) : Type 0 where
  pub gives : (x : A) (now : Now) → P x → k.holds now → k.compares (exits.gives x now) (others.gives x now)
  pub raised : (r : Raised) (now : Now) → k.holds now → k.compares (exits.raised r now) (others.raised r now)
  pub exit : (now : Now) → k.holds now → k.compares (exits.exit now) (others.exit now)
  pub return : (v : Option Value) (now : Now) → k.holds now → k.compares (exits.return v now) (others.return v now)

-- A PHRASE KEEPS IT, and gives such things, if it leads to such ends wherever what follows it does.
pub record Gives (k : Invariant) {A : Type 0} (P : A → Type 0) (e : Evaluates A) : Type 0 where
  pub ends : (around : Around) (now : Now) (exits others : Exits A) → k.holds now → Both k P exits others → k.compares (e around now exits) (e around now others)

abbrev pub Any : {A : Type 0} → A → Type 0
Any x = Unit {0}

abbrev pub Safe : (k : Invariant) → {A : Type 0} → Evaluates A → Type 0
Safe k e = Gives k Any e

-- ---- one phrase behind another

pub gives_given : {k : Invariant} {A : Type 0} {P : A → Type 0} (x : A) → P x → Gives k P (given x)
gives_given x h = record { ends = λ around now exits others g b. b.gives x now h g }

pub safe_given : {k : Invariant} {A : Type 0} (x : A) → Safe k (given x)
safe_given x = gives_given x tt

pub safe_done : {k : Invariant} → Safe k done
safe_done = record { ends = λ around now exits others g b. b.gives tt now tt g }

pub gives_bind : {k : Invariant} {A B : Type 0} {P : A → Type 0} {Q : B → Type 0} {e : Evaluates A} {f : A → Evaluates B} → Gives k P e → ((x : A) → P x → Gives k Q (f x)) → Gives k Q (e >>= f)
gives_bind h n = record {
  ends = λ around now exits others g b. h.ends around now _ _ g (record {
    gives = λ x later q good. (n x q).ends around later exits others good b;
    raised = b.raised;
    exit = b.exit;
    return = b.return;
  });
}

pub safe_bind : {k : Invariant} {A B : Type 0} {Q : B → Type 0} {e : Evaluates A} {f : A → Evaluates B} → Safe k e → ((x : A) → Gives k Q (f x)) → Gives k Q (e >>= f)
safe_bind h n = gives_bind h (λ x q. n x)

pub safe_then : {k : Invariant} {B : Type 0} {Q : B → Type 0} {e : Acts} {f : Evaluates B} → Safe k e → Gives k Q f → Gives k Q (e >> f)
safe_then h n = gives_bind h (λ x q. n)

-- it gives other things too, if these are such
pub gives_so : {k : Invariant} {A : Type 0} {P Q : A → Type 0} {e : Evaluates A} → Gives k P e → ((x : A) → P x → Q x) → Gives k Q e
gives_so h n = record {
  ends = λ around now exits others g b. h.ends around now exits others g (record {
    gives = λ x later q good. b.gives x later (n x q) good;
    raised = b.raised;
    exit = b.exit;
    return = b.return;
  });
}

pub gives_any : {k : Invariant} {A : Type 0} {P : A → Type 0} {e : Evaluates A} → Gives k P e → Safe k e
gives_any h = gives_so h (λ x q. tt)

pub safe_holding : {k : Invariant} {A : Type 0} {P : A → Type 0} (thing : Thing) {e : Evaluates A} → Gives k P e → Gives k P (holding thing e)
safe_holding thing h = record { ends = λ around now exits others g b. h.ends (record around { held = thing ∷ around.held }) now exits others g b }

pub safe_holding_all : {k : Invariant} {A : Type 0} {P : A → Type 0} (things : List Thing) {e : Evaluates A} → Gives k P e → Gives k P (holding_all things e)
safe_holding_all things h = record { ends = λ around now exits others g b. h.ends (record around { held = things ++ around.held }) now exits others g b }

pub safe_in_scope : {k : Invariant} {A : Type 0} {P : A → Type 0} (xs : List ℕ) {e : Evaluates A} → Gives k P e → Gives k P (in_scope xs e)
safe_in_scope xs h = record { ends = λ around now exits others g b. h.ends (record around { scope = around.scope ++ xs }) now exits others g b }

-- ---- faults, and what can't happen

pub safe_fault : {k : Invariant} {A : Type 0} {P : A → Type 0} (kind : FaultKind) (at : Pos) → Gives k P (fault {A = A} kind at)
safe_fault {k = k} kind at = record { ends = λ around now exits others g b. k.faults kind at }

pub safe_undefined : {k : Invariant} {A : Type 0} {P : A → Type 0} → Gives k P (undefined {A = A})
safe_undefined {k = k} = record { ends = λ around now exits others g b. k.undefined }

pub gives_there : {k : Invariant} {A : Type 0} {P : A → Type 0} (o : Option A) → ((x : A) → o ≡ Some x → P x) → Gives k P (there o)
gives_there None h = safe_undefined
gives_there (Some x) h = gives_given x (h x refl)

pub safe_there : {k : Invariant} {A : Type 0} (o : Option A) → Safe k (there o)
safe_there o = gives_there o (λ x is. tt)

pub safe_computed : {k : Invariant} {A : Type 0} (at : Pos) (c : Computed A) → Safe k (computed at c)
safe_computed at (Result x) = safe_given x
safe_computed at (Fault kind) = safe_fault kind at

pub safe_unless : {k : Invariant} (kind : FaultKind) (at : Pos) (b : Bool) → Safe k (unless kind at b)
safe_unless kind at true = safe_fault kind at
safe_unless kind at false = safe_done

-- ---- memory

pub gives_seeing : {k : Invariant} {A : Type 0} {P : A → Type 0} (look : Memory → Option A) → ((now : Now) (x : A) → k.holds now → look now.memory ≡ Some x → P x) → Gives k P (seeing look)
gives_seeing look h = record { ends = λ around now exits others g b. (gives_there (look now.memory) (λ x is. h now x g is)).ends around now exits others g b }

pub safe_seeing : {k : Invariant} {A : Type 0} (look : Memory → Option A) → Safe k (seeing look)
safe_seeing look = gives_seeing look (λ now x g is. tt)

pub safe_reading : {k : Invariant} (at : Place) → Safe k (reading at)
safe_reading at = safe_seeing (λ m. read m at)

pub safe_valued : {k : Invariant} (thing : Thing) → Safe k (valued thing)
safe_valued thing = safe_seeing (λ m. value_now m thing)

change_ends : (k : Invariant) (around : Around) (now : Now) (exits others : Exits (Unit {0})) (o : Option Memory) → ((m : Memory) → o ≡ Some m → k.holds (record now { memory = m })) → Both k Any exits others →
    k.compares ((there o >>= (λ memory around later exits. exits.gives tt (record later { memory = memory }))) around now exits)
    ((there o >>= (λ memory around later exits. exits.gives tt (record later { memory = memory }))) around now others)
change_ends k around now exits others None h b = k.undefined
change_ends k around now exits others (Some m) h b = b.gives tt (record now { memory = m }) tt (h m refl)

pub safe_changing : {k : Invariant} (change : Memory → Option Memory) → ((now : Now) (m : Memory) → change now.memory ≡ Some m → k.holds now → k.holds (record now { memory = m })) → Safe k (changing change)
safe_changing {k = k} change h = record { ends = λ around now exits others g b. change_ends k around now exits others (change now.memory) (λ m e. h now m e g) b }

pub safe_writing : {k : Invariant} (at : Place) (v : Value) → Safe k (writing at v)
safe_writing {k = k} at v = safe_changing (write at v) (λ now m e g. k.written now m at v e g)

pub safe_filling : {k : Invariant} (c : ℕ) (v : Value) → Safe k (changing (store.holding (Referent c) v))
safe_filling {k = k} c v = safe_changing (store.holding (Referent c) v) (λ now m e g. k.filled now m c v e g)

-- ---- points

answer_ends : (k : Invariant) (action : Action Thing) (around : Around) (m : Memory) (answers : List Told) (exits others : Exits (Answer Thing)) → AllOf k.out (things_of_action action) → k.holds (record { memory = m; answers = answers }) → Both k Any exits others →
    k.compares (meaning.answered action around (record { memory = m; answers = answers }) answers exits) (meaning.answered action around (record { memory = m; answers = answers }) answers others)
answer_ends k action around m [] exits others h g b = k.waits action around (record { memory = m; answers = [] }) h g
answer_ends k action around m (told ∷ answers) exits others h g b =
    b.gives told.answer (record { memory = record m { store = told.store }; answers = answers }) tt (k.told m told answers g)

pub safe_acting : {k : Invariant} (action : Action Thing) → AllOf k.out (things_of_action action) → Safe k (acting action)
safe_acting {k = k} action h = record { ends = λ around now exits others g b. answer_ends k action around now.memory now.answers exits others h g b }

pub safe_raising : {k : Invariant} {A : Type 0} {P : A → Type 0} (r : Raised) → Gives k P (raising {A = A} r)
safe_raising r = record { ends = λ around now exits others g b. b.raised r now g }
