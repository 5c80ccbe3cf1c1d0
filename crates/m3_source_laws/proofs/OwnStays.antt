-- No place of an own variable gets out.
use Rattle.std.proofs.Common.{◌≡◌, ℕ, zero, suc, ◌+◌, ◌<◌, ◌≤◌, ◌⊎◌, inl, inr, ⊎_elim, Bool, true, false, List, [], ◌∷◌, ◌++◌, length, Option, Some, None, refl, sym, ap, ◌∙◌, subst, arith}
use Rattle.std.specs.Prelude.{slice_get, slice_set, ◌==◌, ◌&&◌, ◌||◌, not, cond, nat_lt}
use Rattle.std.specs.List.{list_any, filter, range_with_len}
use Rattle.std.specs.Option.{option_map, option_and_then, option_map_or}
use Rattle.std.proofs.lemmas.Option.{slice_get_within}
use Rattle.std.proofs.Math.Nat.{eq-or-lt_of_le}
use Rattle.std.proofs.lemmas.Bool.{eqb-true}
use Rattle.std.proofs.lemmas.Bool.Decides.{nat_tests}
use Rattle.m3_core.specs.declared.program.ProcDef.{ProcDef}
use Rattle.m3_core.specs.declared.program.VarDef.{VarDef}
use Rattle.m3_core.specs.declared.program.VarKind.{VarKind}
use Rattle.m3_core.specs.declared.program.VarKind.TheVariants as kind
use Rattle.m3_runs.specs.Languages.{Gives}
use Rattle.m3_values.specs.Values as value
use Rattle.m3_values.specs.Values.{Value}
use Rattle.m3_values.specs.Programs.{Program, procedure_at}
use Rattle.m3_values.specs.Types.{is_open, holds_reference}
use Rattle.m3_values.specs.Places as place
use Rattle.m3_values.specs.Places.{Name, Place, Selector, Thing, Is, At, whole, value_with, with_item}
use Rattle.m3_values.specs.Store as store
use Rattle.m3_values.specs.Store.{Variables, Kept, Store, Memory, Cell, thing_in, with_thing, shared_thing, with_shared, with_shared_in, with_content, with_content_in, with_globals, kept_at, cell_at, value_of, held_by, write}
use Rattle.m3_source_meaning.specs.Meanings.{Told, Raised, Now}
use Rattle.m3_source_meaning.specs.Phrases.{Here}
use Rattle.m3_source_meaning.specs.Designators.{stands_for, is_shared_here}
use Rattle.m3_source_meaning.specs.Assignment.{bound_in, variables_of}
use Rattle.m3_source_meaning.specs.Sharing as sharing
use Rattle.m3_source_meaning.specs.Sharing.{Use, Uses, use_of, out_of}
use Rattle.m3_source_meaning.specs.Travelling as travelling
use Rattle.m3_source_meaning.specs.Procedures as procedures
use Rattle.m3_source_laws.specs.Own.{AllOf, things_of_answer, IsOutName, IsOut, AliasesOut, StoreOut, EndOut, NamesNone, OwnStays}
use Rattle.m3_source_laws.proofs.Safe.{Invariant, Within, Both, Any}
use Rattle.m3_source_laws.proofs.SafeProcedures.{safe_body, in_initial}

-- ---- variables that are set

pub thing_set : (vs : Variables) (x : ℕ) (thing : Thing) (y : ℕ) (t : Thing) → thing_in (with_thing x thing vs) y ≡ Some t → ((x ≡ y) × (thing ≡ t)) ⊎ (thing_in vs y ≡ Some t)
thing_set [] x thing y t h = inr h
thing_set (v ∷ vs) zero thing zero t h = let q : Some thing ≡ Some t = h in inl (refl, cc)
thing_set (v ∷ vs) zero thing (suc y) t h = inr h
thing_set (v ∷ vs) (suc x) thing zero t h = inr h
thing_set (v ∷ vs) (suc x) thing (suc y) t h = ⊎_elim
    (λ q. inl (ap suc q.0, q.1))
    (λ q. inr q)
    (thing_set vs x thing y t h)

pub length_set : {A : Type 0} (xs : List A) (n : ℕ) (x : A) → length (slice_set xs n x) ≡ length xs
length_set [] n x = refl
length_set (y ∷ xs) zero x = refl
length_set (y ∷ xs) (suc n) x = ap suc (length_set xs n x)

-- another item at a place, and at every other place the same
pub set_at : {A : Type 0} (xs : List A) (n : ℕ) (old new : A) → slice_get xs n ≡ Some old → (k : ℕ) → ((n ≡ k) × (slice_get (slice_set xs n new) k ≡ Some new) × (slice_get xs k ≡ Some old)) ⊎ (slice_get (slice_set xs n new) k ≡ slice_get xs k)
set_at [] n old new e k = inr refl
set_at (x ∷ xs) zero old new e zero = inl (refl, refl, e)
set_at (x ∷ xs) zero old new e (suc k) = inr refl
set_at (x ∷ xs) (suc n) old new e zero = inr refl
set_at (x ∷ xs) (suc n) old new e (suc k) = ⊎_elim
    (λ q. inl (ap suc q.0, q.1, q.2))
    (λ q. inr q)
    (set_at xs n old new e k)

abbrev in_kept : ℕ → Option Kept → Option Thing
in_kept y o = option_and_then (λ (k : Kept). thing_in k.variables y) o

shared_set_in : (s : Store) (a x : ℕ) (thing : Thing) (o : Option Kept) → kept_at s a ≡ o → (b y : ℕ) (t : Thing) → shared_thing (with_shared_in s a x thing o) b y ≡ Some t → ((a ≡ b) × (x ≡ y) × (thing ≡ t)) ⊎ (shared_thing s b y ≡ Some t)
shared_set_in s a x thing None e b y t h = inr h
shared_set_in s a x thing (Some old) e b y t h =
    let new : Kept = record old { variables = with_thing x thing old.variables } in
    ⊎_elim
    (λ q. ⊎_elim
    (λ r. inl (q.0, r.0, r.1))
    (λ r. inr (ap (in_kept y) q.2 ∙ r))
    (thing_set old.variables x thing y t (sym (ap (in_kept y) q.1) ∙ h)))
    (λ q. inr (sym (ap (in_kept y) q) ∙ h))
    (set_at s.activations a old new e b)

pub shared_set : (s : Store) (a x : ℕ) (thing : Thing) (b y : ℕ) (t : Thing) → shared_thing (with_shared a x thing s) b y ≡ Some t → ((a ≡ b) × (x ≡ y) × (thing ≡ t)) ⊎ (shared_thing s b y ≡ Some t)
shared_set s a x thing b y t h = shared_set_in s a x thing (kept_at s a) refl b y t h

-- ---- the invariant

module _ (p : Program) (here : Here) (count : ℕ) where
  -- a chain with such a root is a place of an own variable
  record OwnRoot (r : Option Use) (x : ℕ) : Type 0 where
    pub named : Use
    pub is : r ≡ Some named
    pub level : (named.level == here.level) ≡ true
    pub variable : named.variable ≡ x
    pub own : is_shared_here p here x ≡ false
    pub there : x < count

  abbrev RootedName : Option Use → Name → Type 0
  RootedName r (place.Own x) = OwnRoot r x
  RootedName r (place.Local a x) = IsOutName p here (place.Local a x)
  RootedName r (place.Referent c) = Unit {0}
  RootedName r (place.Global g) = Unit {0}
  RootedName r (place.Fresh v) = Unit {0}

  abbrev Rooted : Option Use → Thing → Type 0
  Rooted r (Is v) = Unit {0}
  Rooted r (At to) = RootedName r to.name

  -- a place of a variable gets out only where the variable is shared
  abbrev MayUse : Use → Type 0
  MayUse u = u.gets_out ≡ true → (u.level == here.level) ≡ true → u.variable < count → is_shared_here p here u.variable ≡ true

  name_of_any : (r : Option Use) (name : Name) → IsOutName p here name → RootedName r name
  name_of_any r (place.Own x) h = absurd h
  name_of_any r (place.Local a x) h = h
  name_of_any r (place.Referent c) h = tt
  name_of_any r (place.Global g) h = tt
  name_of_any r (place.Fresh v) h = tt

  of_any : (r : Option Use) (t : Thing) → IsOut p here t → Rooted r t
  of_any r (Is v) h = tt
  of_any r (At to) h = name_of_any r to.name h

  own_taken : (r : Option Use) (x : ℕ) → AllOf MayUse (out_of r) → OwnRoot r x → ⊥
  own_taken r x g h =
      let f : AllOf MayUse (out_of (Some h.named)) = subst (λ o. AllOf MayUse (out_of o)) h.is g in
      let less : h.named.variable < count = subst (λ n. n < count) (sym h.variable) h.there in
      let shared : is_shared_here p here h.named.variable ≡ true = f.0 refl h.level less in
      let same : is_shared_here p here x ≡ true = subst (λ n. is_shared_here p here n ≡ true) h.variable shared in
      let bad : true ≡ false = sym same ∙ h.own in
      absurd cc

  name_taken : (r : Option Use) (name : Name) → AllOf MayUse (out_of r) → RootedName r name → IsOutName p here name
  name_taken r (place.Own x) g h = own_taken r x g h
  name_taken r (place.Local a x) g h = h
  name_taken r (place.Referent c) g h = tt
  name_taken r (place.Global c) g h = tt
  name_taken r (place.Fresh v) g h = tt

  taken : (r : Option Use) (t : Thing) → AllOf MayUse (out_of r) → Rooted r t → IsOut p here t
  taken r (Is v) g h = tt
  taken r (At to) g h = name_taken r to.name g h

  -- what holds between phrases
  record OwnGood (now : Now) : Type 0 where
    pub aliases : AliasesOut p here now.memory.own
    pub room : length now.memory.own ≤ count
    pub kept : StoreOut p here now.memory.store
    pub told : AllOf (λ (told : Told). StoreOut p here told.store) now.answers

  -- memory with such a store and such variables
  good_with : (now : Now) (m : Memory) → OwnGood now → AliasesOut p here m.own → length m.own ≤ count → StoreOut p here m.store → OwnGood (record now { memory = m })
  good_with now m g a r s = record { aliases = a; room = r; kept = s; told = g.told }

  -- a thing in a variable that others may reach
  store_with : (s : Store) (a x : ℕ) (thing : Thing) → StoreOut p here s → IsOut p here thing → (a ≡ here.activation → is_shared_here p here x ≡ true) → StoreOut p here (with_shared a x thing s)
  store_with s a x thing h out shared = record {
    aliases = λ b y t e. ⊎_elim (λ q. subst (IsOut p here) q.2 out) (λ q. h.aliases b y t q) (shared_set s a x thing b y t e);
    shared = λ y t e. ⊎_elim (λ q. subst (λ n. is_shared_here p here n ≡ true) q.1 (shared q.0)) (λ q. h.shared y t q) (shared_set s a x thing here.activation y t e);
  }

  aliases_with : (vs : Variables) (x : ℕ) (thing : Thing) → AliasesOut p here vs → IsOut p here thing → AliasesOut p here (with_thing x thing vs)
  aliases_with vs x thing h out y t e = ⊎_elim (λ q. subst (IsOut p here) q.1 out) (λ q. h y t q) (thing_set vs x thing y t e)

  room_with : (vs : Variables) (x : ℕ) (thing : Thing) → length vs ≤ count → length (with_thing x thing vs) ≤ count
  room_with vs x thing h = subst (λ n. n ≤ count) (sym (length_set vs x (Some thing))) h

  -- a store with other cells or other variables of modules
  same_kept : (s t : Store) → s.activations ≡ t.activations → StoreOut p here s → StoreOut p here t
  same_kept s t e h = record {
    aliases = λ a x thing is. h.aliases a x thing (ap (λ ks. option_and_then (λ (k : Kept). thing_in k.variables x) (slice_get ks a)) e ∙ is);
    shared = λ x thing is. h.shared x thing (ap (λ ks. option_and_then (λ (k : Kept). thing_in k.variables x) (slice_get ks here.activation)) e ∙ is);
  }

  some_one : {A : Type 0} (P : A → Type 0) (x y : A) → Some x ≡ Some y → P x → P y
  some_one P x y e h = let q : x ≡ y = cc in subst P q h

  mapped_through : {A B : Type 0} (P : B → Type 0) (f : A → B) (o : Option A) → ((x : A) → o ≡ Some x → P (f x)) → (y : B) → option_map f o ≡ Some y → P y
  mapped_through P f None h y e = absurd (let bad : None ≡ Some y = e in cc)
  mapped_through P f (Some x) h y e = some_one P (f x) y e (h x refl)

  through : {A B : Type 0} (P : B → Type 0) (f : A → Option B) (o : Option A) → ((x : A) (y : B) → o ≡ Some x → f x ≡ Some y → P y) → (y : B) → option_and_then f o ≡ Some y → P y
  through P f None h y e = absurd (let bad : None ≡ Some y = e in cc)
  through P f (Some x) h y e = h x y refl e

  content_same : (s : Store) (c : ℕ) (v : Value) (o : Option Cell) → (t : Store) → with_content_in s c v o ≡ Some t → s.activations ≡ t.activations
  content_same s c v None t h = absurd (let bad : None ≡ Some t = h in cc)
  content_same s c v (Some (store.Made k content holder)) t h = some_one (λ t. s.activations ≡ t.activations) (store.with_cell c (store.Made k v holder) s) t h refl
  content_same s c v (Some (store.Bytes bytes)) t h = absurd (let bad : None ≡ Some t = h in cc)
  content_same s c v (Some (store.Forked n r j)) t h = absurd (let bad : None ≡ Some t = h in cc)

  filled : (now : Now) (m : Memory) (c : ℕ) (v : Value) → store.holding (place.Referent c) v now.memory ≡ Some m → OwnGood now → OwnGood (record now { memory = m })
  filled now m c v e g = mapped_through (λ m. OwnGood (record now { memory = m })) (λ s. record now.memory { store = s }) (with_content c v now.memory.store)
      (λ s is. good_with now (record now.memory { store = s }) g g.aliases g.room (same_kept now.memory.store s (content_same now.memory.store c v (cell_at now.memory.store c) s is) g.kept)) m e

  -- what holds a value is there
  value_there : (o : Option Thing) (v : Value) → option_and_then value_of o ≡ Some v → (t : Thing) × (o ≡ Some t)
  value_there None v e = absurd (let bad : None ≡ Some v = e in cc)
  value_there (Some t) v e = (t, refl)

  held : (now : Now) (m : Memory) (name : Name) (old v : Value) → held_by now.memory name ≡ Some old → store.holding name v now.memory ≡ Some m → OwnGood now → OwnGood (record now { memory = m })
  held now m (place.Referent c) old v was e g = filled now m c v e g
  held now m (place.Global n) old v was e g = mapped_through (λ m. OwnGood (record now { memory = m })) (λ s. record now.memory { store = s }) (with_globals now.memory.store (with_item n v now.memory.store.globals))
      (λ s is. mapped_through (λ s. OwnGood (record now { memory = record now.memory { store = s } })) (λ gs. record now.memory.store { globals = gs }) (with_item n v now.memory.store.globals)
      (λ gs k. good_with now (record now.memory { store = record now.memory.store { globals = gs } }) g g.aliases g.room (same_kept now.memory.store (record now.memory.store { globals = gs }) refl g.kept)) s is) m e
  held now m (place.Local a x) old v was e g =
      let found = value_there (shared_thing now.memory.store a x) old was in
      some_one (λ m. OwnGood (record now { memory = m })) (record now.memory { store = with_shared a x (Is v) now.memory.store }) m e
      (good_with now (record now.memory { store = with_shared a x (Is v) now.memory.store }) g g.aliases g.room
      (store_with now.memory.store a x (Is v) g.kept tt (λ same. g.kept.shared x found.0 (subst (λ b. shared_thing now.memory.store b x ≡ Some found.0) same found.1))))
  held now m (place.Own x) old v was e g =
      some_one (λ m. OwnGood (record now { memory = m })) (record now.memory { own = with_thing x (Is v) now.memory.own }) m e
      (good_with now (record now.memory { own = with_thing x (Is v) now.memory.own }) g (aliases_with now.memory.own x (Is v) g.aliases tt) (room_with now.memory.own x (Is v) g.room) g.kept)
  held now m (place.Fresh u) old v was e g = absurd (let bad : None ≡ Some m = e in cc)

  written : (now : Now) (m : Memory) (to : Place) (v : Value) → write to v now.memory ≡ Some m → OwnGood now → OwnGood (record now { memory = m })
  written now m to v e g =
      through (λ m. OwnGood (record now { memory = m })) (λ old. option_and_then (λ new. store.holding to.name new now.memory) (value_with to.path v old)) (held_by now.memory to.name)
      (λ old n was h. through (λ m. OwnGood (record now { memory = m })) (λ new. store.holding to.name new now.memory) (value_with to.path v old) (λ new m is k. held now m to.name old new was k g) n h) m e

  abbrev own_kept : Invariant
  own_kept = record {
    holds = OwnGood;
    compares = λ e f. EndOut p here e;
    out = IsOut p here;
    rooted = Rooted;
    may = MayUse;
    faults = λ kind at. tt;
    undefined = tt;
    waits = λ action around now h g. (h, g.aliases, g.kept);
    told = λ m told answers g. record { aliases = g.aliases; room = g.room; kept = g.told.0; told = g.told.1 };
    written = written;
    filled = filled;
    value = λ v. tt;
    new = λ v. tt;
    cell = λ c. tt;
    global = λ g. tt;
    of_any = of_any;
    further = λ r to s h. h;
    taken = taken;
  }

  bound_good : (b : Bool) (now : Now) (x : ℕ) (thing : Thing) → is_shared_here p here x ≡ b → IsOut p here thing → OwnGood now → OwnGood (record now { memory = bound_in p here b x thing now.memory })
  bound_good true now x thing is out g = good_with now _ g g.aliases g.room (store_with now.memory.store here.activation x thing g.kept out (λ same. is))
  bound_good false now x thing is out g = good_with now _ g (aliases_with now.memory.own x thing g.aliases out) (room_with now.memory.own x thing g.room) g.kept

  -- both parts of a test
  first_true : (a b : Bool) → (a && b) ≡ true → a ≡ true
  first_true true b h = refl
  first_true false b h = h

  second_true : (a b : Bool) → (a && not b) ≡ true → b ≡ false
  second_true true true h = absurd (let bad : false ≡ true = h in cc)
  second_true true false h = refl
  second_true false b h = absurd (let bad : false ≡ true = h in cc)

  variable_there : (vs : Variables) (x : ℕ) (t : Thing) → thing_in vs x ≡ Some t → x < length vs
  variable_there [] x t h = absurd (let bad : None ≡ Some t = h in cc)
  variable_there (v ∷ vs) zero t h = omega arith
  variable_there (v ∷ vs) (suc x) t h = let less : x < length vs = variable_there vs x t h in omega arith

  stands_out : (a x : ℕ) (now : Now) (t : Thing) → OwnGood now → shared_thing now.memory.store a x ≡ Some t → IsOut p here (stands_for (place.Local a x) t)
  stands_out a x now (Is v) g e = λ same. g.kept.shared x (Is v) (subst (λ b. shared_thing now.memory.store b x ≡ Some (Is v)) same e)
  stands_out a x now (At to) g e = g.kept.aliases a x (At to) e

  own_within : Within p here own_kept
  own_within = record {
    bound = λ now x thing out g. bound_good (is_shared_here p here x) now x thing refl out g;
    own = λ level x now v own g is. record {
      named = use_of level x;
      is = refl;
      level = first_true (level == here.level) (not (is_shared_here p here x)) own;
      variable = refl;
      own = second_true (level == here.level) (is_shared_here p here x) own;
      there = let less : x < length now.memory.own = variable_there now.memory.own x (Is v) is in let room : length now.memory.own ≤ count = g.room in omega arith;
    };
    alias = λ x now to g is. g.aliases x (At to) is;
    shared = λ a x now thing g is. stands_out a x now thing g is;
  }

-- ---- procedures

module _ (p : Program) (here : Here) (count : ℕ) where
  end_out : (s : Store) (q : ProcDef) (b : Bool) → StoreOut p here s → EndOut p here (procedures.at_end p q b s)
  end_out s q true h = tt
  end_out s q false h = (tt, h)

  sent_out : (e : ℕ) (b : Bool) (v : Value) → AllOf (IsOut p here) (things_of_answer (travelling.sent e b v))
  sent_out e true v = (tt, (tt, tt))
  sent_out e false v = (tt, (tt, tt))

  sent_as_out : (e : ℕ) (v : Option Value) (t : Option ℕ) → AllOf (IsOut p here) (things_of_answer (travelling.sent_as p e v t))
  sent_as_out e None t = (tt, (tt, tt))
  sent_as_out e (Some v) None = (tt, (tt, tt))
  sent_as_out e (Some v) (Some t) = sent_out e (holds_reference p t) v

  raised_out : (s : Store) (q : ProcDef) (b : Bool) (r : Raised) → StoreOut p here s → EndOut p here (procedures.leaves_raised p q b r s)
  raised_out s q true r h = (sent_as_out r.exception r.argument (travelling.argument_type p r.exception), h)
  raised_out s q false r h = tt

  returned_out : (v : Option Value) → AllOf (IsOut p here) (things_of_answer (Gives (option_map Is v)))
  returned_out None = tt
  returned_out (Some v) = (tt, tt)

  ways_out : (q : ProcDef) → Both (own_kept p here count) Any (procedures.ways_out p q) (procedures.ways_out p q)
  ways_out q = record {
    gives = λ u now t g. end_out now.memory.store q (procedures.has_result p q) g.kept;
    raised = λ r now g. raised_out now.memory.store q (procedures.may_raise p (option_map (λ es. es.now) q.raises) r.exception) r g.kept;
    exit = λ now g. tt;
    return = λ v now g. (returned_out v, g.kept);
  }

-- ---- what a body may use

or_left : (a b : Bool) → a ≡ true → (a || b) ≡ true
or_left true b h = refl
or_left false b h = absurd (let bad : false ≡ true = h in cc)

or_right : (a b : Bool) → b ≡ true → (a || b) ≡ true
or_right true b h = refl
or_right false b h = h

-- a number of a range
in_range : (test : ℕ → Bool) (a n x : ℕ) → a ≤ x → x < a + n → test x ≡ true → list_any test (range_with_len a n) ≡ true
in_range test a zero x le less h = absurd (omega arith)
in_range test a (suc n) x le less h = ⊎_elim
    (λ same. or_left (test a) _ (ap test same ∙ h))
    (λ more. or_right (test a) _ (in_range test (a + 1) n x (omega arith) (omega arith) h))
    (eq-or-lt_of_le le)

with_or_without : (test : ℕ → Bool) (b : Bool) (y : ℕ) (ys : List ℕ) → list_any test ys ≡ true → list_any test (cond b (y ∷ ys) ys) ≡ true
with_or_without test true y ys h = or_right (test y) _ h
with_or_without test false y ys h = h

-- a number that passes is left
is_left : (f : ℕ → Bool) (x : ℕ) (xs : List ℕ) → f x ≡ true → list_any (λ y. x == y) xs ≡ true → list_any (λ y. x == y) (filter f xs) ≡ true
is_left f x [] pass h = h
is_left f x (y ∷ ys) pass h =
    elim (x == y) as (λ b. (x == y) ≡ b → (b || list_any (λ z. x == z) ys) ≡ true → list_any (λ z. x == z) (cond (f y) (y ∷ filter f ys) (filter f ys)) ≡ true) [
      | true ↦ λ e g. subst (λ b. list_any (λ z. x == z) (cond b (y ∷ filter f ys) (filter f ys)) ≡ true) (sym (ap f (sym (eqb-true x y e)) ∙ pass)) (or_left (x == y) _ e)
      | false ↦ λ e g. with_or_without (λ z. x == z) (f y) y (filter f ys) (is_left f x ys pass g)
    ] refl h

itself : (x : ℕ) → (x == x) ≡ true
itself x = grind (arith, nat_tests)

not_below : (m n : ℕ) → m ≡ n → nat_lt m n ≡ false
not_below m n e = grind (arith, nat_tests)

both_true : (a b : Bool) → a ≡ true → b ≡ true → (a && b) ≡ true
both_true true b h g = g
both_true false b h g = absurd (let bad : false ≡ true = h in cc)

module _ (p : Program) (procedure : ℕ) (q : ProcDef) (is : procedure_at p procedure ≡ Some q) where
  level_is : sharing.level_of p procedure ≡ q.level
  level_is = ap (λ o. option_map_or (λ (d : ProcDef). d.level) o 0) is

  owner_found : (b : Bool) (o : Option ℕ) → b ≡ false → sharing.is_owner p procedure (elim b as (λ x. Option ℕ) [ true ↦ o | false ↦ Some procedure ]) ≡ true
  owner_found true o h = absurd (let bad : true ≡ false = h in cc)
  owner_found false o h = itself procedure

  owner_is : (limit level : ℕ) → 0 < limit → level ≡ q.level → sharing.is_owner p procedure (sharing.owner_to p limit procedure level) ≡ true
  owner_is zero level h e = absurd (omega arith)
  owner_is (suc limit) level h e = owner_found (nat_lt level (sharing.level_of p procedure)) _ (not_below level (sharing.level_of p procedure) (e ∙ sym level_is))

  is_there : procedure < length p.procedures
  is_there = slice_get_within p.procedures procedure q is

  -- in its own body a use whose place gets out shares the variable
  use_shares : (u : Use) → u.gets_out ≡ true → (u.level == q.level) ≡ true → sharing.shares_in p procedure u.variable procedure u ≡ true
  use_shares u out level =
      both_true _ _ (both_true _ _ (itself u.variable) (or_left u.gets_out _ out))
      (owner_is (length p.procedures) u.level (let less : procedure < length p.procedures = is_there in omega arith) (eqb-true u.level q.level level))

  abbrev count : ℕ
  count = sharing.variable_count p procedure

  abbrev Shares : Uses → Type 0
  Shares us = (x : ℕ) → x < count → list_any (sharing.shares_in p procedure x procedure) us ≡ true → procedures.is_among (sharing.shared_by p procedure) x ≡ true

  all_may : (here : Here) → here.level ≡ q.level → here.shared ≡ sharing.shared_by p procedure → (us : Uses) → Shares us → AllOf (MayUse p here count) us
  all_may here level shared [] h = tt
  all_may here level shared (u ∷ us) h = (
    λ out same less. subst (λ xs. list_any (λ y. u.variable == y) xs ≡ true) (sym shared)
        (h u.variable less (or_left (sharing.shares_in p procedure u.variable procedure u) _ (use_shares u out (subst (λ l. (u.level == l) ≡ true) level same)))),
    all_may here level shared us (λ x less e. h x less (or_right (sharing.shares_in p procedure x procedure u) _ e)),
  )

  body_shares : Shares (sharing.in_body q)
  body_shares x less e =
      let body : sharing.body_shares p procedure x procedure ≡ true = ap (λ o. list_any (sharing.shares_in p procedure x procedure) (option_map_or sharing.in_body o [])) is ∙ e in
      let shared : sharing.is_shared p procedure x ≡ true = in_range (sharing.body_shares p procedure x) 0 (length p.procedures) procedure (omega arith) (let l : procedure < length p.procedures = is_there in omega arith) body in
      is_left (sharing.is_shared p procedure) x (range_with_len 0 count) shared (in_range (λ y. x == y) 0 count x (omega arith) (omega arith) (itself x))

-- ---- an activation at its start

module _ (p : Program) (here : Here) where
  array_out : (t : Thing) → IsOut p here t → IsOut p here (procedures.array_in t)
  array_out (Is (value.Pointer c)) h = tt
  array_out (Is (value.Ordinal z)) h = h
  array_out (Is value.Nil) h = h
  array_out (Is (value.Text n)) h = h
  array_out (Is value.MainThread) h = h
  array_out (Is (value.Procedure n a)) h = h
  array_out (Is (value.Members ms)) h = h
  array_out (Is (value.Record vs)) h = h
  array_out (Is (value.Array below vs)) h = h
  array_out (At to) h = h

  by_value_out : (b : Bool) (t : Thing) → IsOut p here t → IsOut p here (procedures.formal_by_value p b t)
  by_value_out true t h = array_out t h
  by_value_out false t h = h

  formal_out : (k : VarKind) (t : Thing) → IsOut p here t → IsOut p here (procedures.formal_thing p k t)
  formal_out (kind.ByValue k) t h = by_value_out (is_open p k.0) t h
  formal_out (kind.Variable k) t h = h
  formal_out (kind.ByVar k) t h = h
  formal_out (kind.ByReadonly k) t h = h
  formal_out (kind.Alias k) t h = h

  first_out : (vs : List VarDef) (things : List Thing) → AllOf (IsOut p here) things → AliasesOut p here (procedures.first_things p vs things)
  first_out [] things h x t e = absurd (let bad : None ≡ Some t = e in cc)
  first_out (v ∷ vs) [] h zero t e = absurd (let bad : None ≡ Some t = e in cc)
  first_out (v ∷ vs) [] h (suc x) t e = first_out vs [] h x t e
  first_out (v ∷ vs) (thing ∷ things) h zero t e =
      let same : Some (procedures.formal_thing p v.kind thing) ≡ Some t = e in
      let one : procedures.formal_thing p v.kind thing ≡ t = cc in
      subst (IsOut p here) one (formal_out v.kind thing h.0)
  first_out (v ∷ vs) (thing ∷ things) h (suc x) t e = first_out vs things h.1 x t e

length_first : (p : Program) (vs : List VarDef) (things : List Thing) → length (procedures.first_things p vs things) ≡ length vs
length_first p [] things = refl
length_first p (v ∷ vs) [] = ap suc (length_first p vs [])
length_first p (v ∷ vs) (thing ∷ things) = ap suc (length_first p vs things)

length_part : (shared : List ℕ) (wanted : Bool) (at : ℕ) (things : List (Option Thing)) → length (procedures.part_of shared wanted at things) ≡ length things
length_part shared wanted at [] = refl
length_part shared wanted at (thing ∷ things) = ap suc (length_part shared wanted (suc at) things)

wanted_one : (wanted b : Bool) (o : Option Thing) (t : Thing) → procedures.if_is wanted b o ≡ Some t → (o ≡ Some t) × (b ≡ wanted)
wanted_one true true o t h = (h, refl)
wanted_one false false o t h = (h, refl)
wanted_one true false o t h = absurd (let bad : None ≡ Some t = h in cc)
wanted_one false true o t h = absurd (let bad : None ≡ Some t = h in cc)

part_is : (shared : List ℕ) (wanted : Bool) (at : ℕ) (things : List (Option Thing)) (x : ℕ) (t : Thing) → thing_in (procedures.part_of shared wanted at things) x ≡ Some t → (thing_in things x ≡ Some t) × (procedures.is_among shared (at + x) ≡ wanted)
part_is shared wanted at [] x t h = absurd (let bad : None ≡ Some t = h in cc)
part_is shared wanted at (thing ∷ things) zero t h =
    let one = wanted_one wanted (procedures.is_among shared at) thing t h in
    let same : at + 0 ≡ at = omega arith in
    (one.0, ap (procedures.is_among shared) same ∙ one.1)
part_is shared wanted at (thing ∷ things) (suc x) t h =
    let more = part_is shared wanted (suc at) things x t h in
    let same : at + suc x ≡ suc at + x = omega arith in
    (more.0, ap (procedures.is_among shared) same ∙ more.1)

last_or_before : {A : Type 0} (xs : List A) (y : A) (n : ℕ) (x : A) → slice_get (xs ++ y ∷ []) n ≡ Some x → (slice_get xs n ≡ Some x) ⊎ (y ≡ x)
last_or_before [] y zero x h = let q : Some y ≡ Some x = h in inr cc
last_or_before [] y (suc n) x h = absurd (let bad : None ≡ Some x = h in cc)
last_or_before (z ∷ xs) y zero x h = inl h
last_or_before (z ∷ xs) y (suc n) x h = last_or_before xs y n x h

found_in : {A B : Type 0} (f : A → Option B) (o : Option A) (y : B) → option_and_then f o ≡ Some y → (x : A) × (o ≡ Some x) × (f x ≡ Some y)
found_in f None y h = absurd (let bad : None ≡ Some y = h in cc)
found_in f (Some x) y h = (x, refl, h)

module _ (p : Program) (here : Here) (s : Store) (around : Option ℕ) (things : List (Option Thing)) (out : AliasesOut p here things) (kept : StoreOut p here s) where
  abbrev new_kept : Kept
  new_kept = record { around = around; variables = procedures.part_of here.shared true 0 things }

  shared_part : (x : ℕ) (t : Thing) → thing_in new_kept.variables x ≡ Some t → IsOut p here t × (is_shared_here p here x ≡ true)
  shared_part x t e =
      let q = part_is here.shared true 0 things x t e in
      let same : 0 + x ≡ x = omega arith in
      (out x t q.0, subst (λ n. procedures.is_among here.shared n ≡ true) same q.1)

  abbrev new_store : Store
  new_store = record s { activations = s.activations ++ new_kept ∷ [] }

  new_thing : (a x : ℕ) (t : Thing) → shared_thing new_store a x ≡ Some t → (shared_thing s a x ≡ Some t) ⊎ (thing_in new_kept.variables x ≡ Some t)
  new_thing a x t e =
      let q = found_in (λ (k : Kept). thing_in k.variables x) (kept_at new_store a) t e in
      ⊎_elim
      (λ old. inl (ap (in_kept x) old ∙ q.2))
      (λ new. inr (ap (λ (k : Kept). thing_in k.variables x) new ∙ q.2))
      (last_or_before s.activations new_kept a q.0 q.1)

  new_out : StoreOut p here new_store
  new_out = record {
    aliases = λ a x t e. ⊎_elim (λ old. kept.aliases a x t old) (λ new. (shared_part x t new).0) (new_thing a x t e);
    shared = λ x t e. ⊎_elim (λ old. kept.shared x t old) (λ new. (shared_part x t new).1) (new_thing here.activation x t e);
  }

  own_out : AliasesOut p here (procedures.part_of here.shared false 0 things)
  own_out x t e = out x t (part_is here.shared false 0 things x t e).0

none_named : (may : Use → Type 0) (vs : List VarDef) → AllOf NamesNone vs → AllOf (λ v. AllOf may (in_initial v)) vs
none_named may [] h = tt
none_named may (v ∷ vs) h = (subst (AllOf may) (sym h.0) tt, none_named may vs h.1)

pub own_stays : OwnStays
own_stays p procedure q around formals s answers is none formals_out kept told =
    let here : Here = procedures.here_in p s procedure q in
    let n : ℕ = sharing.variable_count p procedure in
    let things : List (Option Thing) = procedures.first_things p (variables_of q) formals in
    let out : AliasesOut p here things = first_out p here (variables_of q) formals formals_out in
    let long : length things ≡ n = length_first p (variables_of q) formals ∙ sym (ap (λ o. option_map_or (λ (d : ProcDef). length (d.formals.now ++ d.locals.now)) o 0) is) in
    let own : Variables = procedures.part_of here.shared false 0 things in
    let room : length own ≡ n = length_part here.shared false 0 things ∙ long in
    let good : OwnGood p here n (record { memory = record { own = own; store = new_store p here s around things out kept }; answers = answers }) = record {
      aliases = own_out p here s around things out kept;
      room = omega (arith, room);
      kept = new_out p here s around things out kept;
      told = told;
    } in
    (safe_body (own_kept p here n) p here (own_within p here n) q (none_named _ p.globals none) (all_may p procedure q is here refl refl (sharing.in_body q) (body_shares p procedure q is))).ends
    _ (record { memory = record { own = own; store = new_store p here s around things out kept }; answers = answers })
    (procedures.ways_out p q) (procedures.ways_out p q) good (ways_out p here n q)
