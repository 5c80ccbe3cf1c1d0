-- Where cells lie doesn't matter for sums and differences.
use Rattle.std.proofs.Common.{◌≡◌, ℕ, ◌+◌, ◌-◌, ◌*◌, ◌%◌, ◌^◌, ◌<◌, Bool, true, false, List, [], ◌∷◌, Some, None, refl, sym, ap, ◌∙◌, arith}
use Rattle.std.specs.Prelude.{◌==◌, if◌then◌else◌, nat_lt}
use Rattle.std.proofs.lemmas.Bool.Decides.{nat_tests}
use Rattle.std.proofs.lemmas.List.Sums.{sum_by-cons}
use Rattle.std.proofs.lemmas.Nat.{mul-mod_second, mul-mod_first}
use Rattle.m3_base.specs.Words.{add_words, sub_words, mul_words}
use Rattle.m3_mid_meaning.specs.Words.{Multiple, Word, put, with_cell, with_cells, times_of, normal, sum_of, difference_of, further, number, place_in, Place, InCell, Outside}
use Rattle.m3_mid_meaning.specs.Layouts.{addresses_of, machine_word, machine_address}
use Rattle.m3_mid_meaning.specs.WordLaws.{AgreesWithMachine}

over_sum : (m a b : ℕ) → m * (a + b) ≡ m * a + m * b
over_sum m a b = grind arith

of_sum : (m n a : ℕ) → (m + n) * a ≡ m * a + n * a
of_sum m n a = grind arith

assoc_product : (m n a : ℕ) → m * n * a ≡ m * (n * a)
assoc_product m n a = grind arith

module _ (lies : ℕ → ℕ) where
  abbrev lie : List Multiple → ℕ
  lie xs = addresses_of lies xs

  lie_cons : (x : Multiple) (xs : List Multiple) → lie (x ∷ xs) ≡ x.times * lies x.cell + lie xs
  lie_cons x xs = sum_by-cons (λ y. y.times * lies y.cell) x xs

  put_at : (c n : ℕ) (xs : List Multiple) (b : Bool) → (n % 2 ^ 64 == 0) ≡ b → lie (if b then xs else record { cell = c; times = n % 2 ^ 64 } ∷ xs) % 2 ^ 64 ≡ (n * lies c + lie xs) % 2 ^ 64
  put_at c n xs true e =
      let z : n % 2 ^ 64 ≡ 0 = grind (arith, nat_tests) in
      let p : (n % 2 ^ 64 * lies c) % 2 ^ 64 ≡ (n * lies c) % 2 ^ 64 = mul-mod_first n (lies c) (2 ^ 64) in
      let q : n % 2 ^ 64 * lies c ≡ 0 * lies c = ap (λ z. z * lies c) z in
      let r : 0 * lies c ≡ 0 = grind arith in
      omega arith
  put_at c n xs false e =
      let p : (n % 2 ^ 64 * lies c) % 2 ^ 64 ≡ (n * lies c) % 2 ^ 64 = mul-mod_first n (lies c) (2 ^ 64) in
      let q = lie_cons (record { cell = c; times = n % 2 ^ 64 }) xs in
      omega arith

  put_lies : (c n : ℕ) (xs : List Multiple) → lie (put c n xs) % 2 ^ 64 ≡ (n * lies c + lie xs) % 2 ^ 64
  put_lies c n xs = put_at c n xs (n % 2 ^ 64 == 0) refl

  with_at : (c n : ℕ) (x : Multiple) (xs : List Multiple) (b b' : Bool) → (c == x.cell) ≡ b → lie (with_cell c n xs) % 2 ^ 64 ≡ (n * lies c + lie xs) % 2 ^ 64 →
      lie (if b then put c (n + x.times) xs else if b' then put c n (x ∷ xs) else x ∷ with_cell c n xs) % 2 ^ 64 ≡ (n * lies c + lie (x ∷ xs)) % 2 ^ 64
  with_at c n x xs true b' e h =
      let same : c ≡ x.cell = grind (arith, nat_tests) in
      let p : lie (put c (n + x.times) xs) % 2 ^ 64 ≡ ((n + x.times) * lies c + lie xs) % 2 ^ 64 = put_lies c (n + x.times) xs in
      let q : (n + x.times) * lies c ≡ n * lies c + x.times * lies c = of_sum n x.times (lies c) in
      let r : x.times * lies c ≡ x.times * lies x.cell = ap (λ z. x.times * lies z) same in
      let s = lie_cons x xs in
      omega arith
  with_at c n x xs false true e h = put_lies c n (x ∷ xs)
  with_at c n x xs false false e h = let s = lie_cons x xs in let t = lie_cons x (with_cell c n xs) in omega arith

  with_cell_lies : (c n : ℕ) (xs : List Multiple) → lie (with_cell c n xs) % 2 ^ 64 ≡ (n * lies c + lie xs) % 2 ^ 64
  with_cell_lies c n [] = put_lies c n []
  with_cell_lies c n (x ∷ xs) = with_at c n x xs (c == x.cell) (nat_lt c x.cell) refl (with_cell_lies c n xs)

  with_cells_lie : (n : ℕ) (xs ys : List Multiple) → lie (with_cells n xs ys) % 2 ^ 64 ≡ (n * lie xs + lie ys) % 2 ^ 64
  with_cells_lie n [] ys = let z : n * lie [] ≡ 0 = let q : n * 0 ≡ 0 = grind arith in q in omega arith
  with_cells_lie n (x ∷ xs) ys =
      let h = with_cells_lie n xs ys in
      let p = with_cell_lies x.cell (n * x.times) (with_cells n xs ys) in
      let q : n * x.times * lies x.cell ≡ n * (x.times * lies x.cell) = assoc_product n x.times (lies x.cell) in
      let s : n * lie (x ∷ xs) ≡ n * (x.times * lies x.cell + lie xs) = ap (λ z. n * z) (lie_cons x xs) in
      let r = over_sum n (x.times * lies x.cell) (lie xs) in
      omega arith

  sum_agrees : (v w : Word) → machine_word lies (sum_of v w) ≡ add_words (machine_word lies v) (machine_word lies w)
  sum_agrees v w =
      let a : lie (with_cells 1 w.cells []) % 2 ^ 64 ≡ (1 * lie w.cells + lie []) % 2 ^ 64 = with_cells_lie 1 w.cells [] in
      let z : lie [] ≡ 0 = refl in
      let b : lie (with_cells 1 v.cells (with_cells 1 w.cells [])) % 2 ^ 64 ≡ (1 * lie v.cells + lie (with_cells 1 w.cells [])) % 2 ^ 64 = with_cells_lie 1 v.cells (with_cells 1 w.cells []) in
      omega arith

  times_agree : (n : ℕ) (w : Word) → machine_word lies (times_of n w) ≡ mul_words n (machine_word lies w)
  times_agree n w =
      let a : lie (with_cells n w.cells []) % 2 ^ 64 ≡ (n * lie w.cells + lie []) % 2 ^ 64 = with_cells_lie n w.cells [] in
      let z : lie [] ≡ 0 = refl in
      let p = mul-mod_second n (lie w.cells + w.offset) (2 ^ 64) in
      let r = over_sum n (lie w.cells) w.offset in
      omega arith

  difference_agrees : (v w : Word) → machine_word lies (difference_of v w) ≡ sub_words (machine_word lies v) (machine_word lies w)
  difference_agrees v w =
      let a = sum_agrees v (times_of (2 ^ 64 - 1) w) in
      let b = times_agree (2 ^ 64 - 1) w in
      let c : machine_word lies w < 2 ^ 64 = omega arith in
      omega arith

  distance_agrees : (w : Word) (n : ℕ) → machine_word lies (further w n) ≡ add_words (machine_word lies w) n
  distance_agrees w n =
      let a = sum_agrees w (number n) in
      let z : machine_word lies (number n) ≡ n % 2 ^ 64 = omega arith in
      omega arith

  normal_agrees : (w : Word) → machine_word lies (normal w) ≡ machine_word lies w
  normal_agrees w = let a = times_agree 1 w in omega arith

  in_cell : (x : Multiple) (n : ℕ) (place : Place) (b : Bool) → (x.times == 1) ≡ b → (if b then Some (InCell x.cell n) else None) ≡ Some place → add_words (lie (x ∷ [])) n ≡ machine_address lies place
  in_cell x n place true e k =
      let one : x.times ≡ 1 = grind (arith, nat_tests) in
      let there : InCell x.cell n ≡ place = cc in
      let s = lie_cons x [] in
      let p : x.times * lies x.cell ≡ 1 * lies x.cell = ap (λ z. z * lies x.cell) one in
      let z : lie [] ≡ 0 = refl in
      let q : add_words (lie (x ∷ [])) n ≡ add_words (lies x.cell) n = omega arith in
      q ∙ ap (machine_address lies) there
  in_cell x n place false e k = absurd (let bad : None ≡ Some place = k in cc)

  placed : (xs : List Multiple) (n : ℕ) (place : Place) → n < 2 ^ 64 → place_in xs n ≡ Some place → add_words (lie xs) n ≡ machine_address lies place
  placed [] n place lt k =
      let both : Some (Outside n) ≡ Some place = k in
      let there : Outside n ≡ place = cc in
      let z : lie [] ≡ 0 = refl in
      let q : add_words (lie []) n ≡ n = omega arith in
      q ∙ ap (machine_address lies) there
  placed (x ∷ []) n place lt k = in_cell x n place (x.times == 1) refl k
  placed (x ∷ y ∷ xs) n place lt k = absurd (let bad : None ≡ Some place = k in cc)

  pub agrees : (v w : Word) → AgreesWithMachine lies v w
  agrees v w = record {
    sum = sum_agrees v w;
    difference = difference_agrees v w;
    distance = distance_agrees w;
    normal_form = normal_agrees w;
    address = λ place e. sym (normal_agrees w) ∙ placed (normal w).cells (normal w).offset place (omega arith) e;
  }
