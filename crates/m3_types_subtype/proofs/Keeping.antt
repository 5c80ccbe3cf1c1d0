-- The classes stay those that the pairs make.
use Rattle.std.proofs.Common.{◌≡◌, ℕ, ◌+◌, ◌<◌, ◌≤◌, ◌^◌, List, [], ◌∷◌, ◌++◌, length, take, All, Contains, sym, ◌∙◌, ap, subst, arith, ⊎_elim, length-append}
use Rattle.std.proofs.lemmas.List.Elements.{All-nil, All-push, All-weaker, Contains-append_left, Contains-push}
use Rattle.std.proofs.lemmas.List.{take-append-le}
use Rattle.m3_types.specs.declared.nodes.TypeNode.{TypeNode}
use Rattle.m3_types_subtype.specs.Sameness.{Same}
use Rattle.m3_types_subtype.specs.Classes.{root_count, SameClass, Joins}
use Rattle.m3_types_subtype.specs.Assumptions.{Linked, given, itself, turned, chained, IsKept, AddsPair}
use Rattle.m3_types_subtype.proofs.Forest.{root_of_root, root_count_all}
use Rattle.m3_types_subtype.proofs.Agreement.{linked_more}

linked_equal : (pairs : List (ℕ × ℕ)) (i j : ℕ) → i ≡ j → Linked pairs i j
linked_equal pairs i j e = subst (λ k. Linked pairs i k) e itself

pub kept_none : (parent : ℕ → ℕ) → ((i : ℕ) → parent i ≡ i) → IsKept parent []
kept_none parent h = record {
  sound = λ i j e. linked_equal [] i j (sym (root_of_root parent i (h i)) ∙ e ∙ root_of_root parent j (h j));
  each = All-nil (λ p. SameClass parent p.0 p.1);
  count = λ n l. let all : root_count parent n ≡ n = root_count_all parent h n in omega arith;
}

-- two numbers that were in different classes are in one now, and the pair was added
pub kept_joined : (f g : ℕ → ℕ) (pairs : List (ℕ × ℕ)) (x y : ℕ) → x < 2 ^ 64 → y < 2 ^ 64 → IsKept f pairs → SameClass g x y → ((i j : ℕ) → SameClass f i j → SameClass g i j) → ((i j : ℕ) → SameClass g i j → Joins (SameClass f) x y i j) → ((n : ℕ) → x < n → y < n → root_count g n + 1 ≡ root_count f n) → IsKept g (pairs ++ (x, y) ∷ [])
kept_joined f g pairs x y lx ly old joined keeps only count =
    let pair : Contains (pairs ++ (x, y) ∷ []) (x, y) = Contains-push pairs (x, y) in
    let more = λ (i : ℕ) (j : ℕ) (e : SameClass f i j). linked_more pairs (pairs ++ (x, y) ∷ []) (λ p c. Contains-append_left pairs ((x, y) ∷ []) p c) i j (old.sound i j e) in
    record {
      sound = λ i j e. ⊎_elim (more i j) (⊎_elim (λ p. chained (more i x p.0) (chained (given pair) (turned (more j y p.1)))) (λ p. chained (more i y p.0) (chained (turned (given pair)) (turned (more j x p.1))))) (only i j e);
      each = All-push (λ p. SameClass g p.0 p.1) pairs (x, y) (All-weaker (λ p. SameClass f p.0 p.1) (λ p. SameClass g p.0 p.1) (λ p q. keeps p.0 p.1 q) pairs old.each) joined;
      count = λ n l.
          let fewer : root_count g n + 1 ≡ root_count f n = count n (omega arith) (omega arith) in
          let before : root_count f n + length pairs ≡ n = old.count n l in
          omega (arith, length-append pairs ((x, y) ∷ []));
    }

-- two numbers that were in one class, so that nothing has changed
pub kept_unchanged : (f g : ℕ → ℕ) (pairs : List (ℕ × ℕ)) (x y : ℕ) → x < 2 ^ 64 → y < 2 ^ 64 → IsKept f pairs → SameClass f x y → ((i j : ℕ) → SameClass f i j → SameClass g i j) → ((i j : ℕ) → SameClass g i j → Joins (SameClass f) x y i j) → ((n : ℕ) → x < n → y < n → root_count g n + 0 ≡ root_count f n) → IsKept g pairs
kept_unchanged f g pairs x y lx ly old one keeps only count = record {
  sound = λ i j e. old.sound i j (⊎_elim (λ s. s) (⊎_elim (λ p. p.0 ∙ one ∙ sym p.1) (λ p. p.0 ∙ sym one ∙ sym p.1)) (only i j e));
  each = All-weaker (λ p. SameClass f p.0 p.1) (λ p. SameClass g p.0 p.1) (λ p q. keeps p.0 p.1 q) pairs old.each;
  count = λ n l.
      let fewer : root_count g n + 0 ≡ root_count f n = count n (omega arith) (omega arith) in
      let before : root_count f n + length pairs ≡ n = old.count n l in
      omega arith;
}

-- what a pair more does to the front, and to the pairs of same types
pub front_stays : (x y : ℕ) (front old new : List (ℕ × ℕ)) → take (length front) old ≡ front → length front ≤ length old → AddsPair x y old new → take (length front) new ≡ front
front_stays x y front old new e l a = ⊎_elim (λ p. ap (take (length front)) p ∙ e) (λ p. ap (take (length front)) p ∙ take-append-le (length front) old ((x, y) ∷ []) l ∙ e) a

pub longer_stays : (x y n : ℕ) (old new : List (ℕ × ℕ)) → n ≤ length old → AddsPair x y old new → n ≤ length new
longer_stays x y n old new l a = ⊎_elim (λ p. let e : length new ≡ length old = ap length p in omega arith) (λ p. let e : length new ≡ length (old ++ (x, y) ∷ []) = ap length p in omega (arith, length-append old ((x, y) ∷ []))) a

pub forced_stays : (nodes : List TypeNode) (x y : ℕ) (old new : List (ℕ × ℕ)) → Same nodes x y → All (λ p. Same nodes p.0 p.1) old → AddsPair x y old new → All (λ p. Same nodes p.0 p.1) new
forced_stays nodes x y old new s all a = ⊎_elim (λ p. subst (All (λ q. Same nodes q.0 q.1)) (sym p) all) (λ p. subst (All (λ q. Same nodes q.0 q.1)) (sym p) (All-push (λ q. Same nodes q.0 q.1) old (x, y) all s)) a
