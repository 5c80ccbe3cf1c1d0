-- What copying a part of a list gives.
use Rattle.std.proofs.Common.{◌≡◌, ℕ, zero, suc, ◌+◌, ◌*◌, ◌-◌, ◌<◌, ◌≤◌, ◌^◌, List, [], ◌∷◌, ◌++◌, length, get_or, take, drop, map, refl, sym, ◌∙◌, ap, subst, arith, All, append_assoc, add-one}
use Rattle.std.proofs.Math.Nat.{mul-le-mul_right}
use Rattle.std.proofs.lemmas.List.{append-nil, get_or_append_left, get_or-drop, get_or-take, map_more, length-take, length-drop}
use Rattle.std.proofs.lemmas.List.Elements.{All-get_or, All-weaker}
use Rattle.m3_layout.specs.Pointers.{element_pointers}

-- what is read within what was there first
pub read_first : (items init xs : List ℕ) (start i p : ℕ) → items ≡ init ++ xs → start + i < length init → p ≡ get_or items (start + i) p → p ≡ get_or (drop start init) i p
read_first items init xs start i p e l r = r ∙ ap (λ ys. get_or ys (start + i) p) e ∙ get_or_append_left init xs p (start + i) l ∙ sym (get_or-drop start init i p)

pub read_fits : (P : ℕ → Type 0) (init : List ℕ) (start end i p : ℕ) → end ≤ length init → i < end - start → p ≡ get_or (drop start init) i p → All P (take (end - start) (drop start init)) → P p
read_fits P init start end i p l h r all =
    let k : i < length (take (end - start) (drop start init)) = omega (arith, length-take (end - start) (drop start init), length-drop start init) in
    subst P (get_or-take (end - start) (drop start init) i p h ∙ sym r) (All-get_or P (take (end - start) (drop start init)) i p k all)

pub copied_more : (f : ℕ → ℕ) (items init xs : List ℕ) (i p : ℕ) → items ≡ init ++ map f (take i xs) → i < length xs → p ≡ get_or xs i p → items ++ f p ∷ [] ≡ init ++ map f (take (i + 1) xs)
copied_more f items init xs i p e l r =
    ap (λ ys. ys ++ f p ∷ []) e ∙ append_assoc init (map f (take i xs)) (f p ∷ []) ∙ ap (λ q. init ++ (map f (take i xs) ++ f q ∷ [])) r ∙ ap (λ ys. init ++ ys) (sym (map_more f xs i p l))

pub none_copied : (words : ℕ) (p : ℕ → List ℕ) → ((k : ℕ) → p k ≡ []) → (count at : ℕ) → element_pointers words p at count ≡ []
none_copied words p h zero at = refl
none_copied words p h (suc count) at = ap (λ xs. xs ++ element_pointers words p (at + words) count) (h at) ∙ none_copied words p h count (at + words)

one_after : (words : ℕ) (p : ℕ → List ℕ) (count at : ℕ) → element_pointers words p at (suc count) ≡ element_pointers words p at count ++ p (at + count * words)
one_after words p zero at =
    let e : at + 0 * words ≡ at = omega arith in
    append-nil (p at) ∙ ap p (sym e)
one_after words p (suc count) at =
    let e : at + words + count * words ≡ at + suc count * words = omega arith in
    ap (λ xs. p at ++ xs) (one_after words p count (at + words))
    ∙ sym (append_assoc (p at) (element_pointers words p (at + words) count) (p (at + words + count * words)))
    ∙ ap (λ n. (p at ++ element_pointers words p (at + words) count) ++ p n) e

pub one_more : (words : ℕ) (p : ℕ → List ℕ) (count at : ℕ) → element_pointers words p at (count + 1) ≡ element_pointers words p at count ++ p (at + count * words)
one_more words p count at = ap (element_pointers words p at) (add-one count) ∙ one_after words p count at

pub fits_each : (a words count k at next : ℕ) (xs : List ℕ) → k < count → at + count * words < 2 ^ 64 → next ≡ at + k * words → All (λ p. (a ≤ p) × (p - a < words)) xs → All (λ p. (a ≤ p) × (p - a + next < 2 ^ 64)) xs
fits_each a words count k at next xs l f e all =
    All-weaker (λ p. (a ≤ p) × (p - a < words)) (λ p. (a ≤ p) × (p - a + next < 2 ^ 64)) (λ p h. (h.0, one p h.1)) xs all
  where
    one : (p : ℕ) → p - a < words → p - a + next < 2 ^ 64
    one p h =
        let m : suc k * words ≤ count * words = mul-le-mul_right words (omega arith) in
        let s : suc k * words ≡ words + k * words = omega arith in
        omega arith

pub copied_run : (init now new : List ℕ) (a words at k next : ℕ) (xs ys : List ℕ) → now ≡ init ++ element_pointers words (λ m. map (λ p. p - a + m) xs) at k → ys ≡ xs → next ≡ at + k * words → new ≡ now ++ map (λ p. p - a + next) ys → new ≡ init ++ element_pointers words (λ m. map (λ p. p - a + m) xs) at (k + 1)
copied_run init now new a words at k next xs ys e ey en h =
    h
    ∙ ap (λ zs. zs ++ map (λ p. p - a + next) ys) e
    ∙ append_assoc init (element_pointers words (λ m. map (λ p. p - a + m) xs) at k) (map (λ p. p - a + next) ys)
    ∙ ap (λ zs. init ++ (element_pointers words (λ m. map (λ p. p - a + m) xs) at k ++ map (λ p. p - a + next) zs)) ey
    ∙ ap (λ n. init ++ (element_pointers words (λ m. map (λ p. p - a + m) xs) at k ++ map (λ p. p - a + n) xs)) en
    ∙ ap (λ zs. init ++ zs) (sym (one_more words (λ m. map (λ p. p - a + m) xs) k at))
