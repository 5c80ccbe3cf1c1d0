-- One step of the comparison of two types: the next pair agrees at its top, and its parts are assumed.
use Rattle.std.proofs.Common.{◌≡◌, ℕ, zero, suc, ◌+◌, ◌-◌, ◌<◌, ◌≤◌, List, [], ◌∷◌, refl, length, get_or, take, All, sym, subst, arith}
use Rattle.std.proofs.lemmas.List.Elements.{All-more, All-weaker}
use Rattle.std.proofs.lemmas.List.{take_all}
use Rattle.m3_types.specs.declared.nodes.TypeNode.{TypeNode}
use Rattle.m3_types_subtype.specs.Classes.{SameClass}
use Rattle.m3_types_subtype.specs.Assumptions.{Agrees}
use Rattle.m3_types_subtype.proofs.Agreement.{agrees_weaker}

pub at_place : {A : Type 0} (P : A → Type 0) (xs : List A) (k : ℕ) (x : A) → All P xs → k < length xs → x ≡ get_or xs k x → P x
at_place P xs k x all l e = subst P (sym e) (all k x l)

front_of_front : {A : Type 0} (old new : List A) (n : ℕ) → n ≤ length old → take (length old) new ≡ old → take n new ≡ take n old
front_of_front old new zero l e = refl
front_of_front [] new (suc n) l e = absurd (omega arith)
front_of_front (x ∷ xs) [] (suc n) l e = absurd (let z : ⊥ = cc in z)
front_of_front (x ∷ xs) (y ∷ ys) (suc n) l e =
    let head : y ≡ x = cc in
    let tail : take (length xs) ys ≡ xs = cc in
    let rest : take n ys ≡ take n xs = front_of_front xs ys n (omega arith) tail in
    cc

-- the measure of the comparison falls
pub shrinks : (n k m : ℕ) → k < m → m ≤ n → n - (k + 1) < n - k
shrinks n k m l h = omega arith

pub whole : {A : Type 0} (P : A → Type 0) (xs : List A) (n : ℕ) → length xs ≤ n → All P (take n xs) → All P xs
whole P xs n l all = subst (All P) (take_all n xs l) all

pub step_done : (nodes : List TypeNode) (f g : ℕ → ℕ) (old new : List (ℕ × ℕ)) (next : ℕ) (p : ℕ × ℕ) → ((i j : ℕ) → SameClass f i j → SameClass g i j) → next < length old → take (length old) new ≡ old → p ≡ get_or old next p → All (λ q. Agrees nodes (SameClass f) q.0 q.1) (take next old) → Agrees nodes (SameClass g) p.0 p.1 → All (λ q. Agrees nodes (SameClass g) q.0 q.1) (take (next + 1) new)
step_done nodes f g old new next p keeps l front at done now =
    let P = λ (q : ℕ × ℕ). Agrees nodes (SameClass g) q.0 q.1 in
    let before : All P (take next old) = All-weaker (λ q. Agrees nodes (SameClass f) q.0 q.1) P (λ q a. agrees_weaker nodes (SameClass f) (SameClass g) keeps q.0 q.1 a) (take next old) done in
    subst (All P) (sym (front_of_front old new (next + 1) (omega arith) front)) (All-more P old next p l before (subst P at now))
