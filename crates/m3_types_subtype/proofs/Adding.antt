-- A list of places without repeats, beside a set of them.
use Rattle.std.proofs.Common.{◌≡◌, ◌≢◌, ℕ, ◌^◌, ◌<◌, ◌≤◌, ◌⊎◌, Bool, true, false, not, List, [], ◌∷◌, ◌++◌, length, refl, sym, ◌∙◌, ap, subst, arith, ⊎_elim, append_assoc, append-nil}
use Rattle.std.specs.Prelude.{◌||◌, nat_eq, All}
use Rattle.std.specs.List.{IsDistinct, list_any}
use Rattle.std.specs.Ordering.{nat_cmp}
use Rattle.std.specs.BTreeSet.{BTreeSet, contains, Updates}
use Rattle.std.proofs.lemmas.Bool.{cases_eq}
use Rattle.std.proofs.lemmas.Bool.Decides.{nat_tests}
use Rattle.std.proofs.lemmas.Grind.{common_steps}
use Rattle.std.proofs.lemmas.Cmp.{nat_eq_equiv}
use Rattle.std.proofs.lemmas.List.Elements.{All-push}
use Rattle.std.proofs.lemmas.List.Folds.{list_any-append}
use Rattle.std.proofs.lemmas.Map.Keys.{IsDistinct-push}
use Rattle.std.proofs.lemmas.Map.Steps.{length-le_from_distinct_below}
use Rattle.m3_types_subtype.proofs.Parents.{elsewhere}
use Rattle.m3_types_subtype.specs.Reaching.{Has, IsVisited, Extends}

pub kept_empty : (seen : BTreeSet ℕ) → seen.keys ≡ [] → IsVisited seen []
unfolding IsDistinct
kept_empty seen e = record {
  distinct = tt;
  agrees = λ q. grind (arith, common_steps);
  small = λ q h. absurd (let z : ⊥ = cc in z);
}

has_last : (places : List ℕ) (y q : ℕ) → list_any (nat_eq q) (places ++ y ∷ []) ≡ (list_any (nat_eq q) places || (nat_eq q y || false))
has_last places y q = list_any-append (nat_eq q) places (y ∷ [])

or_false : (a b : Bool) → b ≡ false → (a || (b || false)) ≡ a
or_false true b e = refl
or_false false b e = ap (λ c. c || false) e

or_true : (a b : Bool) → b ≡ true → (a || (b || false)) ≡ true
or_true true b e = refl
or_true false b e = ap (λ c. c || false) e

pub kept_added : (old new : BTreeSet ℕ) (places : List ℕ) (y : ℕ) → y < 2 ^ 64 → IsVisited old places → true ≡ not (contains nat_cmp old y) → Updates nat_cmp old new y true → IsVisited new (places ++ y ∷ [])
kept_added old new places y l k fresh u = record {
  distinct = IsDistinct-push nat_eq_equiv places y k.distinct (sym (k.agrees y) ∙ was_false (contains nat_cmp old y) fresh);
  agrees = λ q. ⊎_elim (at_new q) (at_other q) (cases_eq q y);
  small = λ q h. ⊎_elim (λ e. omega arith) (λ ne. k.small q (sym (without q ne) ∙ h)) (cases_eq q y);
}
  where
    was_false : (b : Bool) → true ≡ not b → b ≡ false
    was_false true e = absurd (let z : ⊥ = cc in z)
    was_false false e = refl

    without : (q : ℕ) → q ≢ y → list_any (nat_eq q) (places ++ y ∷ []) ≡ list_any (nat_eq q) places
    without q ne = has_last places y q ∙ or_false (list_any (nat_eq q) places) (nat_eq q y) (grind (arith, nat_tests))

    at_new : (q : ℕ) → q ≡ y → contains nat_cmp new q ≡ list_any (nat_eq q) (places ++ y ∷ [])
    at_new q e = ap (contains nat_cmp new) e ∙ u.1 ∙ sym (has_last places y q ∙ or_true (list_any (nat_eq q) places) (nat_eq q y) (grind (arith, nat_tests)))

    at_other : (q : ℕ) → q ≢ y → contains nat_cmp new q ≡ list_any (nat_eq q) (places ++ y ∷ [])
    at_other q ne = u.2 q (elsewhere y q ne) ∙ k.agrees q ∙ sym (without q ne)

pub has_added : (places : List ℕ) (y : ℕ) → Has (places ++ y ∷ []) y
has_added places y = has_last places y y ∙ or_true (list_any (nat_eq y) places) (nat_eq y y) (grind (arith, nat_tests))

pub has_stays : (old new : List ℕ) (y : ℕ) → Extends old new → Has old y → Has new y
has_stays old new y e h = ap (list_any (nat_eq y)) e.1 ∙ list_any-append (nat_eq y) old e.0 ∙ ap (λ b. b || list_any (nat_eq y) e.0) h

-- the list is no longer than there are numbers
pub few_reached : (seen : BTreeSet ℕ) (places : List ℕ) → IsVisited seen places → length places ≤ 2 ^ 64
few_reached seen places k = length-le_from_distinct_below places (2 ^ 64) k.distinct k.small

pub extends_itself : (xs : List ℕ) → Extends xs xs
extends_itself xs = ([], sym (append-nil xs))

pub extends_chained : (xs ys zs : List ℕ) → Extends xs ys → Extends ys zs → Extends xs zs
extends_chained xs ys zs p q = (p.0 ++ q.0, q.1 ∙ ap (λ ws. ws ++ q.0) p.1 ∙ append_assoc xs p.0 q.0)

pub extends_added : (y : ℕ) (old new : List ℕ) → (new ≡ old) ⊎ (new ≡ old ++ y ∷ []) → Extends old new
extends_added y old new a = ⊎_elim (λ e. subst (Extends old) (sym e) (extends_itself old)) (λ e. (y ∷ [], e)) a

pub all_added : (P : ℕ → Type 0) (y : ℕ) (old new : List ℕ) → (new ≡ old) ⊎ (new ≡ old ++ y ∷ []) → P y → All P old → All P new
all_added P y old new a p all = ⊎_elim (λ e. subst (All P) (sym e) all) (λ e. subst (All P) (sym e) (All-push P old y all p)) a
