-- What a definition or a reveal more makes of how reveals are found.
use Rattle.std.proofs.Common.{◌≡◌, ◌≢◌, ℕ, zero, suc, ◌+◌, ◌<◌, ◌≤◌, ◌⊎◌, inl, inr, Bool, true, false, List, [], ◌∷◌, ◌++◌, length, length-append, get_or, take, All, Option, Some, None, refl, sym, ◌∙◌, ap, subst, arith, ⊎_elim}
use Rattle.std.proofs.Math.Logic.{∥∥₁_elim, ∥∥₁_prop}
use Rattle.std.specs.Prelude.{◌&&◌, ◌==◌, if◌then◌else◌, slice_get, slice_set, Contains, nat_eq}
use Rattle.std.specs.Option.{option_and_then, option_map_or}
use Rattle.std.proofs.lemmas.Bool.{cases_eq, cases_lt}
use Rattle.std.proofs.lemmas.List.Elements.{All-push, All-weaker, Contains-push_cases}
use Rattle.std.proofs.lemmas.List.{take_more, take_all}
use Rattle.std.proofs.lemmas.Option.{slice_get-get_or}
use Rattle.std.specs.HashMap.{HashMap}
use Rattle.m3_types.specs.declared.nodes.Reveal.{Reveal}
use Rattle.m3_types.specs.declared.nodes.TypeNode.{TypeNode}
use Rattle.m3_types.specs.declared.nodes.TypeNode.TheVariants.{Reserved}
use Rattle.m3_types.specs.declared.places.Link.{Link}
use Rattle.m3_types.specs.Definitions.{head_of, Missing}
use Rattle.m3_types.specs.Marks.{mark_of, mark_at}
use Rattle.m3_types.specs.Noting.{newest_of, IsNoted}
use Rattle.m3_types.specs.Reveals.{full_reveal, first_known, entry_at, AreNoted, AreHidden, AreFull}
use Rattle.m3_types.proofs.Noting.{some_is, number_eq, get_last, get_cases}

-- ---- what was noted stays

module _ {S T : Type 0} (m : HashMap (ℕ × ℕ) ℕ S) (links : List Link) (n : HashMap (ℕ × ℕ) ℕ T) (more : List Link) (k : (v i p : ℕ) → IsNoted links (newest_of m v i) p → IsNoted more (newest_of n v i) p) where
  pub noted_kept : (reveals : List Reveal) → AreNoted reveals m links → AreNoted reveals n more
  noted_kept reveals h place r g = ∥∥₁_elim (h place r g) ∥∥₁_prop (λ q. ∣ k r.view r.opaque.0 place q ∣₁)

  pub hidden_kept : (nodes : List TypeNode) (reveals : List Reveal) → AreHidden nodes reveals m links → AreHidden nodes reveals n more
  hidden_kept nodes reveals h place r g f =
      ∥∥₁_elim (h place r g f) ∥∥₁_prop (λ q. ∣ ⊎_elim (λ a. inl (k r.view 0 place a)) (λ a. inr (k r.view (mark_at nodes r.bound.0) place a)) q ∣₁)

-- ---- one reveal more

module _ {S : Type 0} (m : HashMap (ℕ × ℕ) ℕ S) (links : List Link) (reveals : List Reveal) (r : Reveal) where
  pub noted_added : AreNoted reveals m links → IsNoted links (newest_of m r.view r.opaque.0) (length reveals) → AreNoted (reveals ++ r ∷ []) m links
  noted_added h new place q g =
      ⊎_elim (λ old. h place q old)
      (λ e. ∣ subst (λ (s : Reveal). IsNoted links (newest_of m s.view s.opaque.0) place) e.1 (subst (IsNoted links (newest_of m r.view r.opaque.0)) (sym e.0) new) ∣₁)
      (get_cases reveals r place q g)

  pub hidden_added : (nodes : List TypeNode) → AreHidden nodes reveals m links → (r.full ≡ true → IsNoted links (newest_of m r.view (mark_at nodes r.bound.0)) (length reveals)) → AreHidden nodes (reveals ++ r ∷ []) m links
  hidden_added nodes h new place q g f =
      ⊎_elim (λ old. h place q old f)
      (λ e.
      let was : r.full ≡ true = ap (λ (s : Reveal). s.full) e.1 ∙ f in
      ∣ inr (subst (λ (s : Reveal). IsNoted links (newest_of m s.view (mark_at nodes s.bound.0)) place) e.1 (subst (IsNoted links (newest_of m r.view (mark_at nodes r.bound.0))) (sym e.0) (new was))) ∣₁)
      (get_cases reveals r place q g)

first_if : (b : Bool) (x : ℕ) (o p : Option ℕ) → first_known (if b then Some x else o) p ≡ (if b then Some x else first_known o p)
first_if true x o p = refl
first_if false x o p = refl

full_more : (reveals : List Reveal) (r : Reveal) (i : ℕ) → full_reveal (reveals ++ r ∷ []) i ≡ first_known (full_reveal reveals i) (full_reveal (r ∷ []) i)
full_more [] r i = refl
full_more (q ∷ qs) r i =
    ap (λ o. if q.full && (q.opaque.0 == i) then Some q.bound.0 else o) (full_more qs r i) ∙ sym (first_if (q.full && (q.opaque.0 == i)) q.bound.0 (full_reveal qs i) (full_reveal (r ∷ []) i))

pub full_added : (nodes : List TypeNode) (reveals : List Reveal) (r : Reveal) (old new : List (Option ℕ)) → AreFull nodes reveals old → r.opaque.0 < length nodes → length new ≡ length old → ((i : ℕ) → i < length old → entry_at new i ≡ first_known (entry_at old i) (full_reveal (r ∷ []) i)) → AreFull nodes (reveals ++ r ∷ []) new
full_added nodes reveals r old new h there alike e = record {
  size = alike ∙ h.size;
  entries = λ i l. let k : i < length old = omega (arith, h.size) in e i k ∙ ap (λ o. first_known o (full_reveal (r ∷ []) i)) (h.entries i l) ∙ sym (full_more reveals r i);
  there = All-push (λ (q : Reveal). q.opaque.0 < length nodes) reveals r h.there there;
}

-- ---- one definition more, or one set

past : {A : Type 0} (xs : List A) (k : ℕ) → length xs ≤ k → slice_get xs k ≡ None
past [] k l = refl
past (x ∷ xs) zero l = absurd (omega arith)
past (x ∷ xs) (suc k) l = past xs k (omega arith)

inside : {A : Type 0} (xs : List A) (y : A) (k : ℕ) → k < length xs → slice_get (xs ++ y ∷ []) k ≡ slice_get xs k
inside [] y k l = absurd (omega arith)
inside (x ∷ xs) y zero l = refl
inside (x ∷ xs) y (suc k) l = inside xs y k (omega arith)

set_other : {A : Type 0} (xs : List A) (t : ℕ) (y : A) (k : ℕ) → k ≢ t → slice_get (slice_set xs t y) k ≡ slice_get xs k
set_other [] t y k ne = refl
set_other (x ∷ xs) zero y zero ne = absurd (ne refl)
set_other (x ∷ xs) zero y (suc k) ne = refl
set_other (x ∷ xs) (suc t) y zero ne = refl
set_other (x ∷ xs) (suc t) y (suc k) ne = set_other xs t y k (λ e. ne (ap suc e))

mark_in : ℕ → Option TypeNode → ℕ
mark_in place o = mark_of (option_map_or (head_of place) o Missing)

module _ {S : Type 0} (m : HashMap (ℕ × ℕ) ℕ S) (links : List Link) (reveals : List Reveal) (old new : List TypeNode) (stays : (b : ℕ) → (mark_at old b ≡ 0) ⊎ (mark_at old b ≡ mark_at new b)) where
  hidden_along : AreHidden old reveals m links → AreHidden new reveals m links
  hidden_along h place r g f =
      ∥∥₁_elim (h place r g f) ∥∥₁_prop (λ q.
      ∣ ⊎_elim (λ a. inl a)
      (λ a.
      ⊎_elim (λ zero. inl (subst (λ k. IsNoted links (newest_of m r.view k) place) zero a))
      (λ e. inr (subst (λ k. IsNoted links (newest_of m r.view k) place) e a)) (stays r.bound.0))
      q ∣₁)

module _ {S : Type 0} (m : HashMap (ℕ × ℕ) ℕ S) (links : List Link) (reveals : List Reveal) (nodes : List TypeNode) (node : TypeNode) where
  pub hidden_pushed : AreHidden nodes reveals m links → AreHidden (nodes ++ node ∷ []) reveals m links
  hidden_pushed h = hidden_along m links reveals nodes (nodes ++ node ∷ []) stays h
    where
      stays : (b : ℕ) → (mark_at nodes b ≡ 0) ⊎ (mark_at nodes b ≡ mark_at (nodes ++ node ∷ []) b)
      stays b =
          ⊎_elim (λ l. inr (ap (λ (o : Option TypeNode). mark_of (option_map_or (head_of b) o Missing)) (sym (inside nodes node b l))))
          (λ l. inl (ap (λ (o : Option TypeNode). mark_of (option_map_or (head_of b) o Missing)) (past nodes b l)))
          (cases_lt b (length nodes))

  pub hidden_set : (t : ℕ) → slice_get nodes t ≡ Some Reserved → AreHidden nodes reveals m links → AreHidden (slice_set nodes t node) reveals m links
  hidden_set t e h = hidden_along m links reveals nodes (slice_set nodes t node) stays h
    where
      stays : (b : ℕ) → (mark_at nodes b ≡ 0) ⊎ (mark_at nodes b ≡ mark_at (slice_set nodes t node) b)
      stays b =
          ⊎_elim (λ q. inl (ap (λ k. mark_at nodes k) q ∙ ap (λ (o : Option TypeNode). mark_of (option_map_or (head_of t) o Missing)) e))
          (λ ne. inr (ap (λ (o : Option TypeNode). mark_of (option_map_or (head_of b) o Missing)) (sym (set_other nodes t node b ne))))
          (cases_eq b t)

length-set : {A : Type 0} (xs : List A) (t : ℕ) (y : A) → length (slice_set xs t y) ≡ length xs
length-set [] t y = refl
length-set (x ∷ xs) zero y = refl
length-set (x ∷ xs) (suc t) y = let l : length (slice_set xs t y) ≡ length xs = length-set xs t y in omega arith

pub full_set : (nodes : List TypeNode) (reveals : List Reveal) (fully : List (Option ℕ)) (t : ℕ) (node : TypeNode) → AreFull nodes reveals fully → AreFull (slice_set nodes t node) reveals fully
full_set nodes reveals fully t node h =
    let e : length (slice_set nodes t node) ≡ length nodes = length-set nodes t node in
    record {
      size = h.size ∙ sym e;
      entries = λ i l. h.entries i (subst (λ n. i < n) e l);
      there = All-weaker (λ (r : Reveal). r.opaque.0 < length nodes) (λ (r : Reveal). r.opaque.0 < length (slice_set nodes t node)) (λ r l. subst (λ n. r.opaque.0 < n) (sym e) l) reveals h.there;
    }

not_equal : (x n : ℕ) → x < n → (x == n) ≡ false
not_equal x n l = by (x == n) refl
  where
    by : (b : Bool) → (x == n) ≡ b → b ≡ false
    by false e = refl
    by true e = let q : x ≡ n = number_eq x n e in absurd (omega arith)

and_false : (b : Bool) → (b && false) ≡ false
and_false true = refl
and_false false = refl

none_full : (reveals : List Reveal) (n : ℕ) → All (λ (r : Reveal). r.opaque.0 < n) reveals → full_reveal reveals n ≡ None
none_full [] n h = refl
none_full (r ∷ rs) n h =
    let e : (r.full && (r.opaque.0 == n)) ≡ false = ap (λ b. r.full && b) (not_equal r.opaque.0 n (h 0 r (omega arith))) ∙ and_false r.full in
    ap (λ b. if b then Some r.bound.0 else full_reveal rs n) e ∙ none_full rs n (λ k d l. h (suc k) d (omega arith))

pub full_pushed : (nodes : List TypeNode) (node : TypeNode) (reveals : List Reveal) (fully : List (Option ℕ)) → AreFull nodes reveals fully → AreFull (nodes ++ node ∷ []) reveals (fully ++ None ∷ [])
full_pushed nodes node reveals fully h =
    let P : Reveal → Type 0 = λ (r : Reveal). r.opaque.0 < length nodes in
    let more : length (nodes ++ node ∷ []) ≡ length nodes + 1 = length-append nodes (node ∷ []) in
    let longer : length (fully ++ None ∷ []) ≡ length fully + 1 = length-append fully (None ∷ []) in
    record {
      size = omega (arith, h.size);
      entries = λ i l.
          ⊎_elim
          (λ k. ap (option_and_then (λ entry. entry)) (inside fully None i (omega (arith, h.size))) ∙ h.entries i k)
          (λ k. let at : i ≡ length nodes = omega arith in let here : i ≡ length fully = omega (arith, h.size) in
          ap (λ j. entry_at (fully ++ None ∷ []) j) here ∙ ap (option_and_then (λ entry. entry)) (get_last fully None) ∙ sym (ap (full_reveal reveals) at ∙ none_full reveals (length nodes) h.there))
          (cases_lt i (length nodes));
      there = All-weaker P (λ (r : Reveal). r.opaque.0 < length (nodes ++ node ∷ [])) (λ r l. let k : r.opaque.0 < length nodes = l in omega arith) reveals h.there;
    }

-- ---- reveals at places

get_contains : {A : Type 0} (xs : List A) (k : ℕ) (x : A) → slice_get xs k ≡ Some x → Contains xs x
get_contains [] k x h = absurd (let z : ⊥ = cc in z)
get_contains (y ∷ xs) zero x h = (0, omega arith, some_is h)
get_contains (y ∷ xs) (suc k) x h = let q = get_contains xs k x h in (suc q.0, omega (arith, q.1), q.2)

contains_get : {A : Type 0} (xs : List A) (x : A) → (c : Contains xs x) → slice_get xs c.0 ≡ Some x
contains_get xs x c = slice_get-get_or xs c.0 x c.1 ∙ ap Some c.2

pub found_here : (reveals : List Reveal) (place : ℕ) (r : Reveal) → slice_get reveals place ≡ Some r → (found : List Reveal) → All (Contains reveals) found → All (Contains reveals) (found ++ r ∷ [])
found_here reveals place r g found all = All-push (Contains reveals) found r all (get_contains reveals place r g)

pub places_more : (places : List ℕ) (i : ℕ) → i < length places → (reveals old new : List Reveal) → ((r : Reveal) → Contains old r → Contains new r) → ((r : Reveal) → slice_get reveals (get_or places i 0) ≡ Some r → Contains new r) → ((p : ℕ) (r : Reveal) → Contains (take i places) p → slice_get reveals p ≡ Some r → Contains old r) → (p : ℕ) (r : Reveal) → Contains (take (i + 1) places) p → slice_get reveals p ≡ Some r → Contains new r
places_more places i l reveals old new keeps has was p r c g =
    ⊎_elim (λ o. keeps r (was p r o g)) (λ e. has r (ap (slice_get reveals) e ∙ g)) (Contains-push_cases (take i places) (get_or places i 0) p (subst (λ xs. Contains xs p) (take_more places i 0 l) c))

pub places_all : (places : List ℕ) (i : ℕ) → length places ≤ i → (reveals found : List Reveal) → ((p : ℕ) (r : Reveal) → Contains (take i places) p → slice_get reveals p ≡ Some r → Contains found r) → (p : ℕ) (r : Reveal) → Contains places p → slice_get reveals p ≡ Some r → Contains found r
places_all places i l reveals found all p r c = all p r (subst (λ xs. Contains xs p) (sym (take_all i places l)) c)

-- a reveal whose place was noted is found
pub found_noted : (reveals found : List Reveal) (places : List ℕ) → ((p : ℕ) (r : Reveal) → Contains places p → slice_get reveals p ≡ Some r → Contains found r) → (r : Reveal) → Contains reveals r → ((p : ℕ) → slice_get reveals p ≡ Some r → ∥ Contains places p ∥₁) → ∥ Contains found r ∥₁
found_noted reveals found places all r c noted = let g = contains_get reveals r c in ∥∥₁_elim (noted c.0 g) ∥∥₁_prop (λ h. ∣ all c.0 r h g ∣₁)
