-- One more of a list is put.
use Rattle.std.proofs.Common.{◌≡◌, ℕ, ◌+◌, ◌<◌, List, ◌++◌, map, flat_map, length, get_or, drop, sym, ap, ◌∙◌, append_assoc}
use Rattle.std.proofs.lemmas.List.{at_drop_more}

pub put_more : {A B : Type 0} (f : B → List ℕ) (g : A → B) (xs : List A) (i : ℕ) (x : A) (text new total : List ℕ) → i < length xs → x ≡ get_or xs i x → text ++ flat_map f (map g (drop i xs)) ≡ total → new ≡ text ++ f (g x)
    → new ++ flat_map f (map g (drop (i + 1) xs)) ≡ total
put_more f g xs i x text new total lt is so_far one =
    let rest = flat_map f (map g (drop (i + 1) xs)) in
    let split : flat_map f (map g (drop i xs)) ≡ f (g (get_or xs i x)) ++ rest = at_drop_more (λ ys. flat_map f (map g ys)) xs i x lt in
    let first : f (g (get_or xs i x)) ++ rest ≡ f (g x) ++ rest = sym (ap (λ y. f (g y) ++ rest) is) in
    ap (λ (t : List ℕ). t ++ rest) one ∙ append_assoc text (f (g x)) rest ∙ sym (ap (λ (t : List ℕ). text ++ t) (split ∙ first)) ∙ so_far
