-- What a reference leads to.
use Rattle.std.proofs.Common.{◌≡◌, ℕ, ◌⊎◌, inl, inr, true, false, Option, Some, None, refl, sym, ap, ◌∙◌}
use Rattle.std.specs.Option.{option_map, option_and_then}
use Rattle.m3_values.specs.Values as value
use Rattle.m3_values.specs.Values.{Value}
use Rattle.m3_values.specs.Programs.{Program}
use Rattle.m3_values.specs.Types.{node_of, unveiled}
use Rattle.m3_values.specs.Store as store
use Rattle.m3_values.specs.Store.{Cell, Store, cell_has_type, has_type, is_made_type, is_text_type, is_thread_type, kind_in}
use Rattle.m3_source_typing.specs.ValueTypes.{OfReferences, class_of, HasType}
use Rattle.m3_source_typing.specs.Operators as rule

module _ (p : Program) where
  -- the values of a reference type that holds no texts and no threads
  pub references : (s : Store) (v : Value) (t : ℕ) → class_of p t ≡ OfReferences → is_text_type p (node_of p (unveiled p t)) ≡ false → is_thread_type p (node_of p (unveiled p t)) ≡ false → HasType p s v t → (v ≡ value.Nil) ⊎ ((c : ℕ) × (v ≡ value.Pointer c) × (has_type p s t (value.Pointer c) ≡ Some true))
  references s value.Nil t c no_text no_thread h = inl refl
  references s (value.Pointer n) t c no_text no_thread h = inr (n, refl, h.1)
  references s (value.Text n) t c no_text no_thread h = let bad : Some false ≡ Some true = ap Some (sym no_text) ∙ h.1 in absurd cc
  references s value.MainThread t c no_text no_thread h = let bad : Some false ≡ Some true = ap Some (sym no_thread) ∙ h.1 in absurd cc
  references s (value.Ordinal z) t c no_text no_thread h = let bad : true ≡ false = sym (ap rule.is_references c) ∙ ap rule.is_references h.0 in absurd cc
  references s (value.Procedure q a) t c no_text no_thread h = let bad : true ≡ false = sym (ap rule.is_references c) ∙ ap rule.is_references h.0 in absurd cc
  references s (value.Members ms) t c no_text no_thread h = let bad : true ≡ false = sym (ap rule.is_references c) ∙ ap rule.is_references h.0 in absurd cc
  references s (value.Record vs) t c no_text no_thread h = let bad : true ≡ false = sym (ap rule.is_references c) ∙ ap rule.is_references h.0 in absurd cc
  references s (value.Array below vs) t c no_text no_thread h = let bad : true ≡ false = sym (ap rule.is_references c) ∙ ap rule.is_references h.0 in absurd cc

  -- the type of such a cell
  abbrev pub IsKind : ℕ → Store → ℕ → Type 0
  IsKind t s kind = is_made_type p kind (unveiled p t) (node_of p (unveiled p t)) ≡ true

  pub kind_there : (t : ℕ) (s : Store) → is_text_type p (node_of p (unveiled p t)) ≡ false → is_thread_type p (node_of p (unveiled p t)) ≡ false → (o : Option Cell) → option_map (cell_has_type p (unveiled p t)) o ≡ Some true → (kind : ℕ) × (option_and_then (kind_in p) o ≡ Some kind) × IsKind t s kind
  kind_there t s no_text no_thread None h = absurd (let bad : None ≡ Some true = h in cc)
  kind_there t s no_text no_thread (Some (store.Made kind v holder)) h = let made : Some (is_made_type p kind (unveiled p t) (node_of p (unveiled p t))) ≡ Some true = h in (kind, refl, cc)
  kind_there t s no_text no_thread (Some (store.Bytes bytes)) h = let bad : Some false ≡ Some true = ap Some (sym no_text) ∙ h in absurd cc
  kind_there t s no_text no_thread (Some (store.Forked number result is_joined)) h = let bad : Some false ≡ Some true = ap Some (sym no_thread) ∙ h in absurd cc
