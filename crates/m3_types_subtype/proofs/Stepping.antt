-- What adding the steps above a type makes of the list of places.
use Rattle.std.proofs.Common.{◌≡◌, ℕ, zero, suc, ◌+◌, take, get_or, false, ◌<◌, ◌≤◌, ◌⊎◌, arith, length, List, [], ◌∷◌, ◌++◌, Option, Some, None, true, refl, sym, ◌∙◌, ap, subst, ⊎_elim}
use Rattle.std.specs.Prelude.{Contains, IsTrue, slice_get}
use Rattle.std.proofs.lemmas.List.{take_more, take_all}
use Rattle.std.proofs.lemmas.List.Elements.{Contains-push_cases, Contains-get_or}
use Rattle.m3_types.specs.declared.nodes.TypeNode.{TypeNode}
use Rattle.m3_types.specs.declared.nodes.Reveal.{Reveal}
use Rattle.std.specs.Option.{option_map_or}
use Rattle.std.proofs.lemmas.Bool.{cases_lt}
use Rattle.m3_types.specs.Definitions.{node_at, head_at, head_of, Missing, AnOpaque}
use Rattle.m3_types.specs.Kinds.{has_nil, named_above}
use Rattle.m3_types_subtype.specs.Subtypes.{NullBelow, Directly, Step, up, reveal, hide, nil, Steps, further}
use Rattle.m3_types_subtype.specs.Reaching.{AddsSteps, BoundAbove, OpaqueAbove, Has}
use Rattle.m3_types_subtype.proofs.Adding.{extends_itself, extends_chained, extends_added, all_added}

module _ (nodes : List TypeNode) (reveals : List Reveal) (view x : ℕ) where
  pub adds_nothing : (old : List ℕ) → AddsSteps nodes reveals view x old old
  adds_nothing old = record { extends = extends_itself old; sound = λ a s all. all }

  pub adds_chained : (old mid new : List ℕ) → AddsSteps nodes reveals view x old mid → AddsSteps nodes reveals view x mid new → AddsSteps nodes reveals view x old new
  adds_chained old mid new p q = record { extends = extends_chained old mid new p.extends q.extends; sound = λ a s all. q.sound a s (p.sound a s all) }

  pub adds_step : (y : ℕ) (old new : List ℕ) → (new ≡ old) ⊎ (new ≡ old ++ y ∷ []) → Step nodes reveals view x y → AddsSteps nodes reveals view x old new
  adds_step y old new e s = record { extends = extends_added y old new e; sound = λ a p all. all_added (Steps nodes reveals view a) y old new e (further p s) all }

  pub bound_step : (r : Reveal) → Contains reveals r → BoundAbove nodes r view x → Step nodes reveals view x r.bound.0
  bound_step r c b = reveal (r, c, b.0, b.1, refl, b.2)

  pub opaque_step : (r : Reveal) → Contains reveals r → OpaqueAbove nodes r view x → Step nodes reveals view x r.opaque.0
  opaque_step r c b = hide (r, c, b.0, refl, refl, b.2, b.1) b.3

-- a type that NIL belongs to is in the list
pub nil_place : (nodes : List TypeNode) (y : ℕ) → IsTrue (has_nil (head_at nodes y)) → y < length nodes
nil_place nodes y h = ⊎_elim (λ l. l) (λ ge. absurd (let e : head_at nodes y ≡ Missing = ap (λ (o : Option TypeNode). option_map_or (head_of y) o Missing) (past nodes y ge) in let t : has_nil Missing ≡ true = ap has_nil (sym e) ∙ h in let z : ⊥ = cc in z)) (cases_lt y (length nodes))
  where
    past : (xs : List TypeNode) (k : ℕ) → length xs ≤ k → slice_get xs k ≡ None
    past [] k l = refl
    past (x ∷ xs) zero l = absurd (omega arith)
    past (x ∷ xs) (suc k) l = past xs k (omega arith)

-- the reveal that stands past the end of a list
abbrev pub no_reveal : Reveal
no_reveal = record { view = 0; opaque = record { 0 = 0 }; bound = record { 0 = 0 }; full = false }

pub reveals_more : (P : Reveal → Type 0) (xs : List Reveal) (i : ℕ) → i < length xs → ((r : Reveal) → Contains (take i xs) r → P r) → P (get_or xs i no_reveal) → (r : Reveal) → Contains (take (i + 1) xs) r → P r
reveals_more P xs i l h p r c =
    let d : Contains (take i xs ++ get_or xs i no_reveal ∷ []) r = subst (λ ys. Contains ys r) (take_more xs i no_reveal l) c in
    ⊎_elim (h r) (λ e. subst P e p) (Contains-push_cases (take i xs) (get_or xs i no_reveal) r d)

pub reveals_all : (xs : List Reveal) (n : ℕ) (r : Reveal) → length xs ≤ n → Contains xs r → Contains (take n xs) r
reveals_all xs n r l c = subst (λ ys. Contains ys r) (sym (take_all n xs l)) c

pub reveal_at : (xs : List Reveal) (i : ℕ) → i < length xs → Contains xs (get_or xs i no_reveal)
reveal_at xs i l = Contains-get_or xs i no_reveal l

-- each step above x is there, if what each kind of step gives is
pub step_added : (nodes : List TypeNode) (reveals : List Reveal) (view x : ℕ) (places : List ℕ) → ((y : ℕ) → named_above (node_at nodes x) ≡ Some y → Has places y) → ((y : ℕ) → NullBelow nodes x y → Has places y) → ((r : Reveal) → Contains reveals r → BoundAbove nodes r view x → Has places r.bound.0) → ((r : Reveal) → Contains reveals r → OpaqueAbove nodes r view x → Has places r.opaque.0) → (y : ℕ) → Step nodes reveals view x y → Has places y
step_added nodes reveals view x places u n b o y s = by_kind x y s (λ z. u z) (λ z. n z) (λ r c q. b r c q) (λ r c q. o r c q)
  where
    by_kind : (x y : ℕ) → Step nodes reveals view x y → ((z : ℕ) → named_above (node_at nodes x) ≡ Some z → Has places z) → ((z : ℕ) → NullBelow nodes x z → Has places z) → ((r : Reveal) → Contains reveals r → BoundAbove nodes r view x → Has places r.bound.0) → ((r : Reveal) → Contains reveals r → OpaqueAbove nodes r view x → Has places r.opaque.0) → Has places y
    by_kind x y (up h) u n b o = u y h
    by_kind x y (reveal h) u n b o = subst (Has places) h.4 (b h.0 h.1 (h.2, h.3, h.5))
    by_kind x y (hide {z = z} h d) u n b o = subst (Has places) h.3 (o h.0 h.1 (h.2, h.6, subst (λ k. head_at nodes k ≡ AnOpaque k) (sym h.3) h.5, subst (Directly nodes x) (sym h.4) d))
    by_kind x y (nil h) u n b o = n y h
