-- The least type that partial reveals give, reveal by reveal.
use Rattle.std.proofs.Common.{◌≡◌, ◌⊎◌, ℕ, ◌+◌, ◌<◌, take, get_or, true, List, [], ◌∷◌, length, All, Option, Some, None, refl, sym, ap, subst, ⊎_elim}
use Rattle.std.specs.Prelude.{Contains, IfSome, IfNone, unwrap_or}
use Rattle.std.proofs.Math.Logic.{∥∥₁_elim}
use Rattle.std.proofs.lemmas.List.{take_more}
use Rattle.std.proofs.lemmas.List.Elements.{All-contains, Contains-push, Contains-append_left}
use Rattle.m3_types.specs.declared.nodes.TypeNode.{TypeNode}
use Rattle.m3_types.specs.declared.nodes.Reveal.{Reveal}
use Rattle.m3_types.specs.declared.nodes.TypeId.{TypeId}
use Rattle.m3_types_subtype.specs.Subtypes.{Subtype, transitive}
use Rattle.m3_types_subtype.specs.Views.{whole_program, bound_at, IsOf, Applies, NoneIsFull, NoneApplies, IsStrictlyBelow, IsLeastOf, Sees, by_bound, partly}
use Rattle.m3_types_subtype.proofs.Stepping.{no_reveal, reveals_more}

module _ (nodes : List TypeNode) (reveals found : List Reveal) (view t i : ℕ) (l : i < length found) where
  abbrev new_one : Reveal
  new_one = get_or found i no_reveal

  new_there : Contains (take (i + 1) found) new_one
  new_there = subst (λ xs. Contains xs new_one) (sym (take_more found i no_reveal l)) (Contains-push (take i found) new_one)

  old_there : (r : Reveal) → Contains (take i found) r → Contains (take (i + 1) found) r
  old_there r c = subst (λ xs. Contains xs r) (sym (take_more found i no_reveal l)) (Contains-append_left (take i found) (new_one ∷ []) r c)

  pub none_more : NoneApplies (take i found) view t → (IsOf view t (get_or found i no_reveal) → ⊥) → NoneApplies (take (i + 1) found) view t
  none_more was other = reveals_more (λ r. IsOf view t r → ⊥) found i l was other

  -- those before are where they were, and none of them is strictly below
  with_new : (b c : ℕ) → IsLeastOf nodes reveals (take i found) view t b → ((r : Reveal) → IsStrictlyBelow nodes reveals r.bound.0 c → (IsStrictlyBelow nodes reveals r.bound.0 b → ⊥) → ⊥) → (r : Reveal) → Contains (take i found) r → IsOf view t r → IsStrictlyBelow nodes reveals r.bound.0 c → ⊥
  with_new b c was lower r there of below = lower r below (was.least r there of)

  pub least_stays : (b : ℕ) → IsLeastOf nodes reveals (take i found) view t b → (IsOf view t (get_or found i no_reveal) → IsStrictlyBelow nodes reveals (get_or found i no_reveal).bound.0 b → ⊥) → IsLeastOf nodes reveals (take (i + 1) found) view t b
  least_stays b was other = record {
    reveal = was.reveal;
    given = record { there = old_there was.reveal was.given.there; applies = was.given.applies };
    gives = was.gives;
    least = reveals_more (λ r. IsOf view t r → IsStrictlyBelow nodes reveals r.bound.0 b → ⊥) found i l was.least other;
  }

  new_itself : IsStrictlyBelow nodes reveals (get_or found i no_reveal).bound.0 (get_or found i no_reveal).bound.0 → ⊥
  new_itself h = h.strictly h.below

  pub least_first : NoneApplies (take i found) view t → IsOf view t (get_or found i no_reveal) → IsLeastOf nodes reveals (take (i + 1) found) view t (get_or found i no_reveal).bound.0
  least_first none of = record {
    reveal = new_one;
    given = record { there = new_there; applies = of };
    gives = refl;
    least = reveals_more (λ r. IsOf view t r → IsStrictlyBelow nodes reveals r.bound.0 new_one.bound.0 → ⊥) found i l (λ r c o h. none r c o) (λ o h. new_itself h);
  }

  pub least_lower : (b : ℕ) → IsLeastOf nodes reveals (take i found) view t b → IsOf view t (get_or found i no_reveal) → Subtype nodes reveals whole_program (get_or found i no_reveal).bound.0 b → IsLeastOf nodes reveals (take (i + 1) found) view t (get_or found i no_reveal).bound.0
  least_lower b was of below = record {
    reveal = new_one;
    given = record { there = new_there; applies = of };
    gives = refl;
    least = reveals_more (λ r. IsOf view t r → IsStrictlyBelow nodes reveals r.bound.0 new_one.bound.0 → ⊥) found i l
        (with_new b new_one.bound.0 was (λ r h other. other (record { below = transitive h.below below; strictly = λ up. h.strictly (transitive below up) }))) (λ o h. new_itself h);
  }

  -- whichever is the lesser
  pub least_next : (least : Option TypeId) (b : TypeId) → IfNone least (NoneApplies (take i found) view t) → IfSome least (λ o. IsLeastOf nodes reveals (take i found) view t o.0) → IsOf view t (get_or found i no_reveal)
      → (least ≡ None → b ≡ (get_or found i no_reveal).bound)
      → IfSome least (λ o. ((b ≡ (get_or found i no_reveal).bound) × Subtype nodes reveals whole_program (get_or found i no_reveal).bound.0 o.0) ⊎ ((b ≡ o) × (Subtype nodes reveals whole_program (get_or found i no_reveal).bound.0 o.0 → ⊥)))
      → IsLeastOf nodes reveals (take (i + 1) found) view t b.0
  least_next None b none some of only lesser = subst (λ (x : TypeId). IsLeastOf nodes reveals (take (i + 1) found) view t x.0) (sym (only refl)) (least_first none of)
  least_next (Some o) b none some of only lesser = ⊎_elim
      (λ h. subst (λ (x : TypeId). IsLeastOf nodes reveals (take (i + 1) found) view t x.0) (sym h.0) (least_lower o.0 some of h.1))
      (λ h. subst (λ (x : TypeId). IsLeastOf nodes reveals (take (i + 1) found) view t x.0) (sym h.0) (least_stays o.0 some (λ o below. h.1 below.below)))
      lesser

  pub none_still : (least : Option TypeId) → IfNone least (NoneApplies (take i found) view t) → (IsOf view t (get_or found i no_reveal) → ⊥) → IfNone least (NoneApplies (take (i + 1) found) view t)
  none_still None none other = none_more none other
  none_still (Some o) none other = tt

  pub least_still : (least : Option TypeId) → IfSome least (λ o. IsLeastOf nodes reveals (take i found) view t o.0) → (IsOf view t (get_or found i no_reveal) → ⊥) → IfSome least (λ o. IsLeastOf nodes reveals (take (i + 1) found) view t o.0)
  least_still None some other = tt
  least_still (Some o) some other = least_stays o.0 some (λ of below. other of)

pub same_type : (a b : TypeId) → a.0 ≡ b.0 → a ≡ b
same_type a b e = ap (λ (n : ℕ). record { 0 = n }) e

-- ---- from those that were found to all

never_prop : (a b : ⊥) → a ≡ b
never_prop a b = absurd a

module _ (nodes : List TypeNode) (reveals found : List Reveal) (view t : ℕ) (there : All (λ r. Contains reveals r) found)
    (all : (r : Reveal) → Contains reveals r → r.view ≡ view → r.opaque.0 ≡ t → ∥ Contains found r ∥₁) where
  pub applies_there : (r : Reveal) → Contains found r → IsOf view t r → Applies reveals view t r
  applies_there r c of = record { there = All-contains (Contains reveals) found r there c; applies = of }

  pub none_at_all : NoneApplies found view t → NoneApplies reveals view t
  none_at_all none r c of = ∥∥₁_elim (all r c of.0 of.1) never_prop (λ has. none r has of)

  pub none_is_full : ((r : Reveal) → Contains found r → IsOf view t r → r.full ≡ true → ⊥) → NoneIsFull reveals view t
  none_is_full none r c of full = ∥∥₁_elim (all r c of.0 of.1) never_prop (λ has. none r has of full)

  pub least_of_all : (b : ℕ) → IsLeastOf nodes reveals found view t b → IsLeastOf nodes reveals reveals view t b
  least_of_all b h = record {
    reveal = h.reveal;
    given = applies_there h.reveal h.given.there h.given.applies;
    gives = h.gives;
    least = λ r c of below. ∥∥₁_elim (all r c of.0 of.1) never_prop (λ has. h.least r has of below);
  }

  pub sees_else : (least : Option TypeId) (bound : TypeId) → bound_at nodes t ≡ Some bound.0 → ((r : Reveal) → Contains found r → IsOf view t r → r.full ≡ true → ⊥)
      → IfSome least (λ b. IsLeastOf nodes reveals found view t b.0) → IfNone least (NoneApplies found view t) → Sees nodes reveals view t (unwrap_or least bound).0
  sees_else None bound is full some none = by_bound is (none_at_all none)
  sees_else (Some b) bound is full some none = partly is (none_is_full full) (least_of_all b.0 some)
