-- Each procedure lets the store grow.
use Rattle.std.proofs.Common.{◌≡◌, ℕ, zero, suc, Bool, true, false, List, [], ◌∷◌, Option, Some, None, refl, sym, ap, ◌∙◌, subst}
use Rattle.std.specs.Prelude.{slice_get, slice_set}
use Rattle.std.specs.Option.{option_map, option_and_then}
use Rattle.m3_core.specs.declared.program.ProcDef.{ProcDef}
use Rattle.m3_values.specs.Values.{Value}
use Rattle.m3_values.specs.Programs.{Program}
use Rattle.m3_values.specs.Places as place
use Rattle.m3_values.specs.Places.{Name, Place, Thing, Is, At, value_with}
use Rattle.m3_values.specs.Store as store
use Rattle.m3_values.specs.Store.{Cell, Kept, Store, Memory, cell_at, kept_at, with_cell, with_content_in, with_content, with_shared_in, with_shared, with_globals, with_store, with_thing, held_by, write}
use Rattle.m3_source_meaning.specs.Meanings.{Told, Raised, Now}
use Rattle.m3_source_meaning.specs.Phrases.{Here}
use Rattle.m3_source_meaning.specs.Designators.{is_shared_here}
use Rattle.m3_source_meaning.specs.Assignment.{bound_in}
use Rattle.m3_source_meaning.specs.Procedures as procedures
use Rattle.m3_source_laws.specs.Growing as grow
use Rattle.m3_source_laws.specs.Growing.{Sort, sort_of, HasCell, HasActivation, Grows, AllGrow, EndGrows, StoreGrows}
use Rattle.m3_source_laws.proofs.Safe.{Invariant, Within, Both, Any}
use Rattle.m3_source_laws.proofs.Everywhere.{all_may, all_may_start}
use Rattle.m3_source_laws.proofs.SafeProcedures.{safe_body}

-- ---- stores

pub stays : (s : Store) → Grows s s
stays s = record { cells = λ c sort h. h; activations = λ a around h. h }

pub further : {s t u : Store} → Grows s t → Grows t u → Grows s u
further g h = record { cells = λ c sort k. h.cells c sort (g.cells c sort k); activations = λ a around k. h.activations a around (g.activations a around k) }

-- a list with another item at a place, which is of the same sort
abbrev HasItem : {A B : Type 0} → (A → B) → List A → ℕ → B → Type 0
HasItem {A} sort xs c b = (x : A) × (slice_get xs c ≡ Some x) × (sort x ≡ b)

set_keeps : {A B : Type 0} (sort : A → B) (xs : List A) (d : ℕ) (old new : A) → slice_get xs d ≡ Some old → sort new ≡ sort old → (c : ℕ) (b : B) → HasItem sort xs c b → HasItem sort (slice_set xs d new) c b
set_keeps sort [] d old new e same c b h = h
set_keeps sort (x ∷ xs) zero old new e same zero b h =
    let first : Some x ≡ Some old = e in
    let one : x ≡ old = cc in
    let second : Some x ≡ Some h.0 = h.1 in
    let other : x ≡ h.0 = cc in
    (new, refl, same ∙ ap sort (sym one ∙ other) ∙ h.2)
set_keeps sort (x ∷ xs) zero old new e same (suc c) b h = h
set_keeps sort (x ∷ xs) (suc d) old new e same zero b h = h
set_keeps sort (x ∷ xs) (suc d) old new e same (suc c) b h = set_keeps sort xs d old new e same c b h

-- and the other way round
set_adds_none : {A B : Type 0} (sort : A → B) (xs : List A) (d : ℕ) (old new : A) → slice_get xs d ≡ Some old → sort new ≡ sort old → (c : ℕ) (b : B) → HasItem sort (slice_set xs d new) c b → HasItem sort xs c b
set_adds_none sort [] d old new e same c b h = h
set_adds_none sort (x ∷ xs) zero old new e same zero b h =
    let first : Some x ≡ Some old = e in
    let one : x ≡ old = cc in
    let second : Some new ≡ Some h.0 = h.1 in
    let other : new ≡ h.0 = cc in
    (x, refl, ap sort one ∙ sym same ∙ ap sort other ∙ h.2)
set_adds_none sort (x ∷ xs) zero old new e same (suc c) b h = h
set_adds_none sort (x ∷ xs) (suc d) old new e same zero b h = h
set_adds_none sort (x ∷ xs) (suc d) old new e same (suc c) b h = set_adds_none sort xs d old new e same c b h

-- stores with the same cells and activations, as far as they stay for ever
pub record Alike (s t : Store) : Type 0 where
  pub on : Grows s t
  pub back : Grows t s

pub alike : (s : Store) → Alike s s
alike s = record { on = stays s; back = stays s }

with_cell_alike : (s : Store) (d : ℕ) (old new : Cell) → cell_at s d ≡ Some old → sort_of new ≡ sort_of old → Alike s (with_cell d new s)
with_cell_alike s d old new e same = record {
  on = record {
    cells = λ c sort h. let k = set_keeps sort_of s.cells d old new e same c sort (h.cell, h.there, h.same) in record { cell = k.0; there = k.1; same = k.2 };
    activations = λ a around h. record { kept = h.kept; there = h.there; same = h.same };
  };
  back = record {
    cells = λ c sort h. let k = set_adds_none sort_of s.cells d old new e same c sort (h.cell, h.there, h.same) in record { cell = k.0; there = k.1; same = k.2 };
    activations = λ a around h. record { kept = h.kept; there = h.there; same = h.same };
  };
}

abbrev around_in : Kept → Option ℕ
around_in k = k.around

shared_in_alike : (s : Store) (a x : ℕ) (thing : Thing) (o : Option Kept) → kept_at s a ≡ o → Alike s (with_shared_in s a x thing o)
shared_in_alike s a x thing None e = alike s
shared_in_alike s a x thing (Some old) e =
    let new : Kept = record old { variables = with_thing x thing old.variables } in
    record {
      on = record {
        cells = λ c sort h. record { cell = h.cell; there = h.there; same = h.same };
        activations = λ b around h. let k = set_keeps around_in s.activations a old new e refl b around (h.kept, h.there, h.same) in record { kept = k.0; there = k.1; same = k.2 };
      };
      back = record {
        cells = λ c sort h. record { cell = h.cell; there = h.there; same = h.same };
        activations = λ b around h. let k = set_adds_none around_in s.activations a old new e refl b around (h.kept, h.there, h.same) in record { kept = k.0; there = k.1; same = k.2 };
      };
    }

pub shared_alike : (s : Store) (a x : ℕ) (thing : Thing) → Alike s (with_shared a x thing s)
shared_alike s a x thing = shared_in_alike s a x thing (kept_at s a) refl

globals_alike : (s : Store) (globals : List Value) → Alike s (record s { globals = globals })
globals_alike s globals = record {
  on = record {
    cells = λ c sort h. record { cell = h.cell; there = h.there; same = h.same };
    activations = λ a around h. record { kept = h.kept; there = h.there; same = h.same };
  };
  back = record {
    cells = λ c sort h. record { cell = h.cell; there = h.there; same = h.same };
    activations = λ a around h. record { kept = h.kept; there = h.there; same = h.same };
  };
}

-- ---- what a write leaves

through : {A B : Type 0} (P : B → Type 0) (f : A → Option B) (o : Option A) → ((x : A) (y : B) → f x ≡ Some y → P y) → (y : B) → option_and_then f o ≡ Some y → P y
through P f None h y e = absurd (let bad : None ≡ Some y = e in cc)
through P f (Some x) h y e = h x y e

mapped_through : {A B : Type 0} (P : B → Type 0) (f : A → B) (o : Option A) → ((x : A) → o ≡ Some x → P (f x)) → (y : B) → option_map f o ≡ Some y → P y
mapped_through P f None h y e = absurd (let bad : None ≡ Some y = e in cc)
mapped_through P f (Some x) h y e =
    let q : Some (f x) ≡ Some y = e in
    let same : f x ≡ y = cc in
    subst P same (h x refl)

some_one : {A : Type 0} (P : A → Type 0) (x y : A) → Some x ≡ Some y → P x → P y
some_one P x y e h = let q : x ≡ y = cc in subst P q h

content_alike : (s : Store) (c : ℕ) (v : Value) (o : Option Cell) → cell_at s c ≡ o → (t : Store) → with_content_in s c v o ≡ Some t → Alike s t
content_alike s c v None e t h = absurd (let bad : None ≡ Some t = h in cc)
content_alike s c v (Some (store.Made kind content holder)) e t h =
    some_one (Alike s) (with_cell c (store.Made kind v holder) s) t h (with_cell_alike s c (store.Made kind content holder) (store.Made kind v holder) e refl)
content_alike s c v (Some (store.Bytes bytes)) e t h = absurd (let bad : None ≡ Some t = h in cc)
content_alike s c v (Some (store.Forked n r j)) e t h = absurd (let bad : None ≡ Some t = h in cc)

pub held_alike : (name : Name) (v : Value) (m m' : Memory) → store.holding name v m ≡ Some m' → Alike m.store m'.store
held_alike (place.Referent c) v m m' e =
    mapped_through (λ n. Alike m.store n.store) (λ s. record m { store = s }) (with_content c v m.store) (λ s h. content_alike m.store c v (cell_at m.store c) refl s h) m' e
held_alike (place.Global g) v m m' e =
    mapped_through (λ n. Alike m.store n.store) (λ s. record m { store = s }) (with_globals m.store (place.with_item g v m.store.globals))
    (λ s h. mapped_through (Alike m.store) (λ gs. record m.store { globals = gs }) (place.with_item g v m.store.globals) (λ gs k. globals_alike m.store gs) s h) m' e
held_alike (place.Local a x) v m m' e =
    some_one (λ n. Alike m.store n.store) (record m { store = with_shared a x (Is v) m.store }) m' e (shared_alike m.store a x (Is v))
held_alike (place.Own x) v m m' e =
    some_one (λ n. Alike m.store n.store) (record m { own = with_thing x (Is v) m.own }) m' e (alike m.store)
held_alike (place.Fresh u) v m m' e = absurd (let bad : None ≡ Some m' = e in cc)

write_alike : (at : Place) (v : Value) (m m' : Memory) → write at v m ≡ Some m' → Alike m.store m'.store
write_alike at v m m' e =
    through (λ n. Alike m.store n.store) (λ old. option_and_then (λ new. store.holding at.name new m) (value_with at.path v old)) (held_by m at.name)
    (λ old n h. through (λ n. Alike m.store n.store) (λ new. store.holding at.name new m) (value_with at.path v old) (λ new n k. held_alike at.name new m n k) n h) m' e

-- ---- the invariant

-- memory has all that a store had, and the answers only add to it
pub record Good (s : Store) (now : Now) : Type 0 where
  pub grown : Grows s now.memory.store
  pub answers : AllGrow now.memory.store now.answers

all_from : (s t : Store) (answers : List Told) → Grows t s → AllGrow s answers → AllGrow t answers
all_from s t [] back a = grow.none t
all_from s t (told ∷ answers) back (grow.more _ _ _ h rest) = grow.more t told answers (further back h) rest

good_with : (s : Store) (now : Now) (m : Memory) → Good s now → Alike now.memory.store m.store → Good s (record now { memory = m })
good_with s now m g h = record { grown = further g.grown h.on; answers = all_from now.memory.store m.store now.answers h.back g.answers }

good_told : (s : Store) (m : Memory) (told : Told) (answers : List Told) → Grows s m.store → AllGrow m.store (told ∷ answers) → Good s (record { memory = record m { store = told.store }; answers = answers })
good_told s m told answers g (grow.more _ _ _ h rest) = record { grown = further g h; answers = rest }

abbrev growth : Store → Invariant
growth s = record {
  holds = Good s;
  compares = λ e f. EndGrows s e;
  out = λ t. Unit {0};
  rooted = λ r t. Unit {0};
  may = λ u. Unit {0};
  faults = λ kind at. tt;
  undefined = tt;
  waits = λ action around now h g. g.grown;
  told = λ m told answers g. good_told s m told answers g.grown g.answers;
  written = λ now m to v e g. good_with s now m g (write_alike to v now.memory m e);
  filled = λ now m c v e g. good_with s now m g (held_alike (place.Referent c) v now.memory m e);
  value = λ v. tt;
  new = λ v. tt;
  cell = λ c. tt;
  global = λ g. tt;
  of_any = λ r t h. tt;
  further = λ r to s h. tt;
  taken = λ r t h g. tt;
}

bound_alike : (p : Program) (here : Here) (b : Bool) (x : ℕ) (thing : Thing) (m : Memory) → Alike m.store (bound_in p here b x thing m).store
bound_alike p here true x thing m = shared_alike m.store here.activation x thing
bound_alike p here false x thing m = alike m.store

growth_within : (s : Store) (p : Program) (here : Here) → Within p here (growth s)
growth_within s p here = record {
  bound = λ now x thing h g. good_with s now _ g (bound_alike p here (is_shared_here p here x) x thing now.memory);
  own = λ level x now v own g is. tt;
  alias = λ x now to g is. tt;
  shared = λ a x now thing g is. tt;
}

-- ---- procedures

module _ (p : Program) where
  end_grows : (s t : Store) (q : ProcDef) (b : Bool) → Grows s t → EndGrows s (procedures.at_end p q b t)
  end_grows s t q true g = tt
  end_grows s t q false g = g

  raised_grows : (s t : Store) (q : ProcDef) (b : Bool) (r : Raised) → Grows s t → EndGrows s (procedures.leaves_raised p q b r t)
  raised_grows s t q true r g = g
  raised_grows s t q false r g = tt

  good_ways : (s : Store) (q : ProcDef) → Both (growth s) Any (procedures.ways_out p q) (procedures.ways_out p q)
  good_ways s q = record {
    gives = λ u now t g. end_grows s now.memory.store q (procedures.has_result p q) g.grown;
    raised = λ r now g. raised_grows s now.memory.store q (procedures.may_raise p (option_map (λ es. es.now) q.raises) r.exception) r g.grown;
    exit = λ now g. tt;
    return = λ v now g. g.grown;
  }

pub store_grows : StoreGrows
store_grows p here q memory answers a =
    (safe_body (growth memory.store) p here (growth_within memory.store p here) q (all_may_start _ (λ u. tt) p.globals) (all_may _ (λ u. tt) _)).ends
    _ (record { memory = memory; answers = answers }) (procedures.ways_out p q) (procedures.ways_out p q) (record { grown = stays memory.store; answers = a }) (good_ways p memory.store q)
