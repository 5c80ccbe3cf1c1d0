-- Values keep their types as the store goes on.
use Rattle.std.proofs.Common.{◌≡◌, ℕ, Bool, true, List, [], ◌∷◌, Option, Some, None, refl, sym, ap, ◌∙◌}
use Rattle.std.specs.Option.{option_map}
use Rattle.m3_types.specs.declared.nodes.Field.{Field}
use Rattle.m3_values.specs.Values as value
use Rattle.m3_values.specs.Values.{Value, Values}
use Rattle.m3_values.specs.Programs.{Program}
use Rattle.m3_values.specs.Types.{node_of, element, unveiled}
use Rattle.m3_values.specs.Places.{Place}
use Rattle.m3_values.specs.Store as store
use Rattle.m3_values.specs.Store.{Cell, Store, cell_at, cell_has_type, has_type}
use Rattle.m3_source_typing.specs.ValueTypes.{HasType, AreFields, AreElements, record_fields}
use Rattle.m3_source_typing.specs.Points.{IsArgument}
use Rattle.m3_source_typing.specs.Sound.{Owned, IsPlaceOf}
use Rattle.m3_source_typing.specs.Stores as stores
use Rattle.m3_source_typing.specs.Stores.{Becomes, HasStill, IsLater}

pub becomes_itself : (cell : Cell) → Becomes cell cell
becomes_itself (store.Made kind v n) = stores.made kind v v n n refl
becomes_itself (store.Bytes bytes) = stores.text bytes
becomes_itself (store.Forked n v b) = stores.thread n v v b b

becomes_then : (a b c : Cell) → Becomes a b → Becomes b c → Becomes a c
becomes_then _ _ _ (stores.made kind v u m n e) (stores.made _ _ w _ k f) = stores.made kind v w m k (e ∙ f)
becomes_then _ _ _ (stores.text bytes) (stores.text _) = stores.text bytes
becomes_then _ _ _ (stores.thread n v u a b) (stores.thread _ _ w _ c) = stores.thread n v w a c

pub now_itself : (s : Store) → IsLater s s
now_itself s = record { cells = λ c cell is. record { now = cell; there = is; becomes = becomes_itself cell } }

pub and_later : (s t u : Store) → IsLater s t → IsLater t u → IsLater s u
and_later s t u g h = record {
  cells = λ c cell is.
      let one = g.cells c cell is in
      let two = h.cells c one.now one.there in
      record { now = two.now; there = two.there; becomes = becomes_then cell one.now two.now one.becomes two.becomes };
}

module _ (p : Program) where
  same_type : (t : ℕ) (a b : Cell) → Becomes a b → cell_has_type p t a ≡ cell_has_type p t b
  same_type t _ _ (stores.made kind v u m n e) = refl
  same_type t _ _ (stores.text bytes) = refl
  same_type t _ _ (stores.thread n v u a b) = refl

  -- all cells are there still and belong to the same types, whatever they hold
  pub record Keeps (s t : Store) : Type 0 where
    pub cells : (c : ℕ) (cell : Cell) → cell_at s c ≡ Some cell → (now : Cell) × (cell_at t c ≡ Some now) × ((k : ℕ) → cell_has_type p k cell ≡ cell_has_type p k now)

  pub later_keeps : (s t : Store) → IsLater s t → Keeps s t
  later_keeps s t h = record { cells = λ c cell is. let still = h.cells c cell is in (still.now, still.there, λ k. same_type k cell still.now still.becomes) }

  cell_kept : (s t : Store) → Keeps s t → (c k : ℕ) (o : Option Cell) → cell_at s c ≡ o → option_map (cell_has_type p k) o ≡ Some true → option_map (cell_has_type p k) (cell_at t c) ≡ Some true
  cell_kept s t h c k None is e = absurd (let bad : None ≡ Some true = e in cc)
  cell_kept s t h c k (Some cell) is e =
      let still = h.cells c cell is in
      ap (option_map (cell_has_type p k)) still.1 ∙ ap Some (sym (still.2 k)) ∙ e

  reference_kept : (s t : Store) → Keeps s t → (c k : ℕ) → has_type p s k (value.Pointer c) ≡ Some true → has_type p t k (value.Pointer c) ≡ Some true
  reference_kept s t h c k e = cell_kept s t h c (unveiled p k) (cell_at s c) refl e

  mutual
    pub type_kept : (s t : Store) → Keeps s t → (v : Value) (k : ℕ) → HasType p s v k → HasType p t v k
    type_kept s t h (value.Ordinal z) k e = e
    type_kept s t h value.Nil k e = e
    type_kept s t h (value.Pointer c) k e = (e.0, reference_kept s t h c k e.1)
    type_kept s t h (value.Text n) k e = e
    type_kept s t h value.MainThread k e = e
    type_kept s t h (value.Procedure q a) k e = e
    type_kept s t h (value.Members ms) k e = e
    type_kept s t h (value.Record vs) k e = (e.0, fields_kept s t h vs (record_fields (node_of p k)) e.1)
    type_kept s t h (value.Array below vs) k e = (e.0, elements_kept s t h vs below (element p k) e.1, e.2)

    pub fields_kept : (s t : Store) → Keeps s t → (vs : Values) (fs : List Field) → AreFields p s vs fs → AreFields p t vs fs
    fields_kept s t h value.End [] e = tt
    fields_kept s t h (value.More v vs) (f ∷ fs) e = (type_kept s t h v f.kind.0 e.0, fields_kept s t h vs fs e.1)
    fields_kept s t h value.End (f ∷ fs) e = e
    fields_kept s t h (value.More v vs) [] e = e

    elements_kept : (s t : Store) → Keeps s t → (vs : Values) (below : List ℕ) (o : Option ℕ) → AreElements p s vs below o → AreElements p t vs below o
    elements_kept s t h vs below None e = absurd e
    elements_kept s t h value.End below (Some k) e = tt
    elements_kept s t h (value.More v vs) below (Some k) e = (type_kept s t h v k e.0, e.1, elements_kept s t h vs below (Some k) e.2)

  pub reference_stays : (s t : Store) → IsLater s t → (c k : ℕ) → has_type p s k (value.Pointer c) ≡ Some true → has_type p t k (value.Pointer c) ≡ Some true
  reference_stays s t h c k e = reference_kept s t (later_keeps s t h) c k e

  pub type_stays : (s t : Store) → IsLater s t → (v : Value) (k : ℕ) → HasType p s v k → HasType p t v k
  type_stays s t h v k e = type_kept s t (later_keeps s t h) v k e

  -- a place is one from every later store on
  abbrev pub place_stays : (known : Owned) (b : Bool) (s u : Store) (to : Place) (t : ℕ) → IsLater s u → IsPlaceOf p known b s to t → IsPlaceOf p known b u to t
  place_stays known b s u to t l h = record {
    sizes = h.sizes;
    reads = λ m k fair. h.reads m (and_later s u m.store l k) fair;
    writes = λ is m k fair v g e. h.writes is m (and_later s u m.store l k) fair v g e;
  }

  pub argument_stays : (s t : Store) → IsLater s t → (v : Option Value) (k : Option ℕ) → IsArgument p s v k → IsArgument p t v k
  argument_stays s t l v None h = tt
  argument_stays s t l None (Some k) h = h
  argument_stays s t l (Some v) (Some k) h = type_stays s t l v k h
