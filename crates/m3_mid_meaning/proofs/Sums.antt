-- Words in normal form, and their sums.
use Rattle.std.proofs.Common.{◌≡◌, ℕ, suc, ◌+◌, ◌*◌, ◌%◌, ◌^◌, ◌<◌, ◌≤◌, Bool, true, false, List, [], ◌∷◌, refl, sym, ap, ◌∙◌, subst, arith}
use Rattle.std.specs.Prelude.{◌==◌, if◌then◌else◌, nat_lt}
use Rattle.std.proofs.lemmas.Bool.Decides.{nat_tests}
use Rattle.m3_mid_meaning.specs.Words.{Multiple, AreFrom, put, with_cell, with_cells}

-- ---- how many times a cell is in a list

abbrev here : ℕ → ℕ → ℕ → ℕ
here d c n = if d == c then n else 0

abbrev pub amount : ℕ → List Multiple → ℕ
amount d [] = 0
amount d (x ∷ xs) = here d x.cell x.times + amount d xs

here_is : (d c n : ℕ) → d ≡ c → here d c n ≡ n
here_is d c n e = let t : (d == c) ≡ true = grind (arith, nat_tests) in ap (λ b. if b then n else 0) t

here_not : (d c n : ℕ) → (d == c) ≡ false → here d c n ≡ 0
here_not d c n t = ap (λ b. if b then n else 0) t

here_times_at : (m n : ℕ) (b : Bool) → (if b then m * n else 0) ≡ m * (if b then n else 0)
here_times_at m n true = refl
here_times_at m n false = omega arith

here_times : (d c m n : ℕ) → here d c (m * n) ≡ m * here d c n
here_times d c m n = here_times_at m n (d == c)

here_plus_at : (m n : ℕ) (b : Bool) → (if b then m + n else 0) ≡ (if b then m else 0) + (if b then n else 0)
here_plus_at m n true = refl
here_plus_at m n false = refl

here_plus : (d c m n : ℕ) → here d c (m + n) ≡ here d c m + here d c n
here_plus d c m n = here_plus_at m n (d == c)

here_mod_at : (n : ℕ) (b : Bool) → (if b then n % 2 ^ 64 else 0) % 2 ^ 64 ≡ (if b then n else 0) % 2 ^ 64
here_mod_at n true = omega arith
here_mod_at n false = refl

here_mod : (d c n : ℕ) → here d c (n % 2 ^ 64) % 2 ^ 64 ≡ here d c n % 2 ^ 64
here_mod d c n = here_mod_at n (d == c)

here_same : (d c e n : ℕ) → c ≡ e → here d c n ≡ here d e n
here_same d c e n h = ap (λ x. here d x n) h

here_none : (b : Bool) (n : ℕ) → n ≡ 0 → (if b then n else 0) ≡ 0
here_none true n e = e
here_none false n e = refl

put_at : (d c n : ℕ) (xs : List Multiple) (b : Bool) → (n % 2 ^ 64 == 0) ≡ b → amount d (if b then xs else record { cell = c; times = n % 2 ^ 64 } ∷ xs) % 2 ^ 64 ≡ (here d c n + amount d xs) % 2 ^ 64
put_at d c n xs true e =
    let z : n % 2 ^ 64 ≡ 0 = grind (arith, nat_tests) in
    let m : here d c (n % 2 ^ 64) % 2 ^ 64 ≡ here d c n % 2 ^ 64 = here_mod d c n in
    let w : here d c (n % 2 ^ 64) ≡ here d c 0 = ap (here d c) z in
    let v : here d c 0 ≡ 0 = here_none (d == c) 0 refl in
    omega arith
put_at d c n xs false e =
    let m : here d c (n % 2 ^ 64) % 2 ^ 64 ≡ here d c n % 2 ^ 64 = here_mod d c n in
    omega arith

put_amount : (d c n : ℕ) (xs : List Multiple) → amount d (put c n xs) % 2 ^ 64 ≡ (here d c n + amount d xs) % 2 ^ 64
put_amount d c n xs = put_at d c n xs (n % 2 ^ 64 == 0) refl

with_at : (d c n : ℕ) (x : Multiple) (xs : List Multiple) (b b' : Bool) → (c == x.cell) ≡ b → amount d (with_cell c n xs) % 2 ^ 64 ≡ (here d c n + amount d xs) % 2 ^ 64 →
    amount d (if b then put c (n + x.times) xs else if b' then put c n (x ∷ xs) else x ∷ with_cell c n xs) % 2 ^ 64 ≡ (here d c n + amount d (x ∷ xs)) % 2 ^ 64
with_at d c n x xs true b' e h =
    let same : c ≡ x.cell = grind (arith, nat_tests) in
    let p : amount d (put c (n + x.times) xs) % 2 ^ 64 ≡ (here d c (n + x.times) + amount d xs) % 2 ^ 64 = put_amount d c (n + x.times) xs in
    let q : here d c (n + x.times) ≡ here d c n + here d c x.times = here_plus d c n x.times in
    let r : here d c x.times ≡ here d x.cell x.times = here_same d c x.cell x.times same in
    omega arith
with_at d c n x xs false true e h = put_amount d c n (x ∷ xs)
with_at d c n x xs false false e h = omega arith

with_cell_amount : (d c n : ℕ) (xs : List Multiple) → amount d (with_cell c n xs) % 2 ^ 64 ≡ (here d c n + amount d xs) % 2 ^ 64
with_cell_amount d c n [] = put_amount d c n []
with_cell_amount d c n (x ∷ xs) = with_at d c n x xs (c == x.cell) (nat_lt c x.cell) refl (with_cell_amount d c n xs)

distributes : (n a b : ℕ) → n * (a + b) ≡ n * a + n * b
distributes n a b = grind arith

pub with_cells_amount : (d n : ℕ) (xs ys : List Multiple) → amount d (with_cells n xs ys) % 2 ^ 64 ≡ (n * amount d xs + amount d ys) % 2 ^ 64
with_cells_amount d n [] ys = let z : n * 0 ≡ 0 = grind arith in omega arith
with_cells_amount d n (x ∷ xs) ys =
    let h : amount d (with_cells n xs ys) % 2 ^ 64 ≡ (n * amount d xs + amount d ys) % 2 ^ 64 = with_cells_amount d n xs ys in
    let p : amount d (with_cell x.cell (n * x.times) (with_cells n xs ys)) % 2 ^ 64 ≡ (here d x.cell (n * x.times) + amount d (with_cells n xs ys)) % 2 ^ 64 = with_cell_amount d x.cell (n * x.times) (with_cells n xs ys) in
    let q : here d x.cell (n * x.times) ≡ n * here d x.cell x.times = here_times d x.cell n x.times in
    let r : n * (here d x.cell x.times + amount d xs) ≡ n * here d x.cell x.times + n * amount d xs = distributes n (here d x.cell x.times) (amount d xs) in
    omega arith

-- ---- the normal form

weaker : (m n : ℕ) (xs : List Multiple) → m ≤ n → AreFrom n xs → AreFrom m xs
weaker m n [] le h = tt
weaker m n (x ∷ xs) le h = (let first : n ≤ x.cell = h.0 in omega arith, h.1, h.2, h.3)

put_from_at : (low c n : ℕ) (xs : List Multiple) (b : Bool) → (n % 2 ^ 64 == 0) ≡ b → low ≤ c → AreFrom (suc c) xs → AreFrom low (if b then xs else record { cell = c; times = n % 2 ^ 64 } ∷ xs)
put_from_at low c n xs true e le h = weaker low (suc c) xs (omega arith) h
put_from_at low c n xs false e le h = (le, grind (arith, nat_tests), omega arith, h)

put_from : (low c n : ℕ) (xs : List Multiple) → low ≤ c → AreFrom (suc c) xs → AreFrom low (put c n xs)
put_from low c n xs le h = put_from_at low c n xs (n % 2 ^ 64 == 0) refl le h

with_from_at : (low c n : ℕ) (x : Multiple) (xs : List Multiple) (b b' : Bool) → (c == x.cell) ≡ b → nat_lt c x.cell ≡ b' → low ≤ c → AreFrom low (x ∷ xs) → (suc x.cell ≤ c → AreFrom (suc x.cell) (with_cell c n xs)) →
    AreFrom low (if b then put c (n + x.times) xs else if b' then put c n (x ∷ xs) else x ∷ with_cell c n xs)
with_from_at low c n x xs true b' e e' le h next =
    let same : c ≡ x.cell = grind (arith, nat_tests) in
    put_from low c (n + x.times) xs le (subst (λ z. AreFrom (suc z) xs) (sym same) h.3)
with_from_at low c n x xs false true e e' le h next =
    let less : suc c ≤ x.cell = grind (arith, nat_tests) in
    put_from low c n (x ∷ xs) le (less, h.1, h.2, h.3)
with_from_at low c n x xs false false e e' le h next =
    let more : suc x.cell ≤ c = grind (arith, nat_tests) in
    (h.0, h.1, h.2, next more)

with_cell_from : (low c n : ℕ) (xs : List Multiple) → low ≤ c → AreFrom low xs → AreFrom low (with_cell c n xs)
with_cell_from low c n [] le h = put_from low c n [] le tt
with_cell_from low c n (x ∷ xs) le h =
    with_from_at low c n x xs (c == x.cell) (nat_lt c x.cell) refl refl le h (λ more. with_cell_from (suc x.cell) c n xs more h.3)

pub with_cells_from : (n : ℕ) (xs ys : List Multiple) → AreFrom 0 ys → AreFrom 0 (with_cells n xs ys)
with_cells_from n [] ys h = h
with_cells_from n (x ∷ xs) ys h = with_cell_from 0 x.cell (n * x.times) (with_cells n xs ys) (omega arith) (with_cells_from n xs ys h)

none_below : (d low : ℕ) (xs : List Multiple) → d < low → AreFrom low xs → amount d xs ≡ 0
none_below d low [] lt h = refl
none_below d low (x ∷ xs) lt h =
    let le : low ≤ x.cell = h.0 in
    let t : (d == x.cell) ≡ false = grind (arith, nat_tests) in
    let a : here d x.cell x.times ≡ 0 = here_not d x.cell x.times t in
    let b : amount d xs ≡ 0 = none_below d (suc x.cell) xs (omega arith) h.3 in
    omega arith

-- the first one's
first_is : (low : ℕ) (x : Multiple) (xs : List Multiple) → AreFrom low (x ∷ xs) → amount x.cell (x ∷ xs) ≡ x.times
first_is low x xs h =
    let a : here x.cell x.cell x.times ≡ x.times = here_is x.cell x.cell x.times refl in
    let b : amount x.cell xs ≡ 0 = none_below x.cell (suc x.cell) xs (omega arith) h.3 in
    omega arith

abbrev pub AreAs : List Multiple → List Multiple → Type 0
AreAs xs ys = (d : ℕ) → amount d xs % 2 ^ 64 ≡ amount d ys % 2 ^ 64

-- what stands in front isn't below the other one's first
not_below : (low : ℕ) (x : Multiple) (xs ys : List Multiple) → AreFrom low (x ∷ xs) → AreFrom (suc x.cell) ys → AreAs (x ∷ xs) ys → ⊥
not_below low x xs ys h k same =
    let a : amount x.cell (x ∷ xs) ≡ x.times = first_is low x xs h in
    let b : amount x.cell ys ≡ 0 = none_below x.cell (suc x.cell) ys (omega arith) k in
    let c : amount x.cell (x ∷ xs) % 2 ^ 64 ≡ amount x.cell ys % 2 ^ 64 = same x.cell in
    let p : 0 < x.times = h.1 in
    let q : x.times < 2 ^ 64 = h.2 in
    omega arith

same_front : (x y : Multiple) → x.cell ≡ y.cell → x.times ≡ y.times → x ≡ y
same_front x y e f = ap (λ c. record { cell = c; times = x.times }) e ∙ ap (λ t. record { cell = y.cell; times = t }) f

rest_as_at : (x y : Multiple) (xs ys : List Multiple) (d : ℕ) (b : Bool) → (d == x.cell) ≡ b → x ≡ y → AreFrom (suc x.cell) xs → AreFrom (suc x.cell) ys → AreAs (x ∷ xs) (y ∷ ys) → amount d xs % 2 ^ 64 ≡ amount d ys % 2 ^ 64
rest_as_at x y xs ys d true e f h k same =
    let at : d ≡ x.cell = grind (arith, nat_tests) in
    let a : amount d xs ≡ 0 = none_below d (suc x.cell) xs (omega arith) h in
    let b : amount d ys ≡ 0 = none_below d (suc x.cell) ys (omega arith) k in
    omega arith
rest_as_at x y xs ys d false e f h k same =
    let a : here d x.cell x.times ≡ 0 = here_not d x.cell x.times e in
    let b : here d y.cell y.times ≡ here d x.cell x.times = ap (λ z. here d z.cell z.times) (sym f) in
    let c : (here d x.cell x.times + amount d xs) % 2 ^ 64 ≡ (here d y.cell y.times + amount d ys) % 2 ^ 64 = same d in
    omega arith

ahead : (low : ℕ) (x : Multiple) (xs : List Multiple) → AreFrom low (x ∷ xs) → (n : ℕ) → n ≤ x.cell → AreFrom n (x ∷ xs)
ahead low x xs h n le = (le, h.1, h.2, h.3)

both_at : (low : ℕ) (x y : Multiple) (xs ys : List Multiple) (b b' : Bool) → (x.cell == y.cell) ≡ b → nat_lt x.cell y.cell ≡ b' → AreFrom low (x ∷ xs) → AreFrom low (y ∷ ys) → AreAs (x ∷ xs) (y ∷ ys) → (AreFrom (suc x.cell) xs → AreFrom (suc x.cell) ys → AreAs xs ys → xs ≡ ys) → (x ∷ xs) ≡ (y ∷ ys)
both_at low x y xs ys true b' e e' h k same next =
    let at : x.cell ≡ y.cell = grind (arith, nat_tests) in
    let a : amount x.cell (x ∷ xs) ≡ x.times = first_is low x xs h in
    let b : amount y.cell (y ∷ ys) ≡ y.times = first_is low y ys k in
    let b2 : amount x.cell (y ∷ ys) ≡ amount y.cell (y ∷ ys) = ap (λ z. amount z (y ∷ ys)) at in
    let c : amount x.cell (x ∷ xs) % 2 ^ 64 ≡ amount x.cell (y ∷ ys) % 2 ^ 64 = same x.cell in
    let p : x.times < 2 ^ 64 = h.2 in
    let q : y.times < 2 ^ 64 = k.2 in
    let f : x ≡ y = same_front x y at (omega arith) in
    let there : AreFrom (suc x.cell) ys = subst (λ z. AreFrom (suc z) ys) (sym at) k.3 in
    let rest : xs ≡ ys = next h.3 there (λ d. rest_as_at x y xs ys d (d == x.cell) refl f h.3 there same) in
    ap (λ z. z ∷ xs) f ∙ ap (λ zs. y ∷ zs) rest
both_at low x y xs ys false true e e' h k same next =
    absurd (not_below low x xs (y ∷ ys) h (ahead low y ys k (suc x.cell) (grind (arith, nat_tests))) same)
both_at low x y xs ys false false e e' h k same next =
    absurd (not_below low y ys (x ∷ xs) k (ahead low x xs h (suc y.cell) (grind (arith, nat_tests))) (λ d. sym (same d)))

-- two lists in normal form with as many of each cell are one
pub one_list : (low : ℕ) (xs ys : List Multiple) → AreFrom low xs → AreFrom low ys → AreAs xs ys → xs ≡ ys
one_list low [] [] h k same = refl
one_list low [] (y ∷ ys) h k same = absurd (not_below low y ys [] k tt (λ d. sym (same d)))
one_list low (x ∷ xs) [] h k same = absurd (not_below low x xs [] h tt same)
one_list low (x ∷ xs) (y ∷ ys) h k same = both_at low x y xs ys (x.cell == y.cell) (nat_lt x.cell y.cell) refl refl h k same (λ h' k' same'. one_list (suc x.cell) xs ys h' k' same')
