-- Laws of sums of words.
use Rattle.std.proofs.Common.{◌≡◌, ℕ, ◌+◌, ◌-◌, ◌*◌, ◌%◌, ◌^◌, ◌<◌, [], refl, sym, ap, ◌∙◌, arith}
use Rattle.std.proofs.lemmas.Nat.{mul-mod_second, mul-mod_first}
use Rattle.m3_mid_meaning.specs.Words.{Word, IsNormal, with_cells, times_of, normal, sum_of, difference_of, number}
use Rattle.m3_mid_meaning.specs.WordLaws.{KeepsSums, KeepsTimes, KeepsNumbers, KeepsElements}
use Rattle.m3_mid_meaning.proofs.Sums.{amount, one_list, with_cells_amount, with_cells_from}

abbrev M : ℕ
M = 2 ^ 64

abbrev of_word : ℕ → Word → ℕ
of_word d w = amount d w.cells

sum_amount : (d : ℕ) (v w : Word) → of_word d (sum_of v w) % 2 ^ 64 ≡ (of_word d v + of_word d w) % 2 ^ 64
sum_amount d v w =
    let a : amount d (with_cells 1 w.cells []) % 2 ^ 64 ≡ (1 * of_word d w + 0) % 2 ^ 64 = with_cells_amount d 1 w.cells [] in
    let b : of_word d (sum_of v w) % 2 ^ 64 ≡ (1 * of_word d v + amount d (with_cells 1 w.cells [])) % 2 ^ 64 = with_cells_amount d 1 v.cells (with_cells 1 w.cells []) in
    omega arith

times_amount : (d n : ℕ) (w : Word) → of_word d (times_of n w) % 2 ^ 64 ≡ (n * of_word d w) % 2 ^ 64
times_amount d n w =
    let a : of_word d (times_of n w) % 2 ^ 64 ≡ (n * of_word d w + 0) % 2 ^ 64 = with_cells_amount d n w.cells [] in
    omega arith

pub sum_normal : (v w : Word) → IsNormal (sum_of v w)
sum_normal v w = record { cells = with_cells_from 1 v.cells (with_cells 1 w.cells []) (with_cells_from 1 w.cells [] tt); offset = omega arith }

pub times_normal : (n : ℕ) (w : Word) → IsNormal (times_of n w)
times_normal n w = record { cells = with_cells_from n w.cells [] tt; offset = omega arith }

pub number_normal : (n : ℕ) → IsNormal (number n)
number_normal n = record { cells = tt; offset = omega arith }

-- two words in normal form that stand for the same sum are one
pub one_word : (v w : Word) → IsNormal v → IsNormal w → ((d : ℕ) → of_word d v % 2 ^ 64 ≡ of_word d w % 2 ^ 64) → v.offset ≡ w.offset → v ≡ w
one_word v w h k same e =
    ap (λ cs. record { cells = cs; offset = v.offset }) (one_list 0 v.cells w.cells h.cells k.cells same)
    ∙ ap (λ n. record { cells = w.cells; offset = n }) e

times_second : (m a b : ℕ) → a % 2 ^ 64 ≡ b % 2 ^ 64 → (m * a) % 2 ^ 64 ≡ (m * b) % 2 ^ 64
times_second m a b e = sym (mul-mod_second m a (2 ^ 64)) ∙ ap (λ z. (m * z) % 2 ^ 64) e ∙ mul-mod_second m b (2 ^ 64)

assoc_product : (m n a : ℕ) → m * n * a ≡ m * (n * a)
assoc_product m n a = grind arith

over_sum : (m a b : ℕ) → m * (a + b) ≡ m * a + m * b
over_sum m a b = grind arith

of_sum : (m n a : ℕ) → (m + n) * a ≡ m * a + n * a
of_sum m n a = grind arith

-- ---- sums

pub normal_is : (w : Word) → IsNormal w → normal w ≡ w
normal_is w h = one_word (normal w) w (times_normal 1 w) h (λ d. let a = times_amount d 1 w in omega arith) (let lt : w.offset < 2 ^ 64 = h.offset in omega arith)

commutes : (v w : Word) → sum_of v w ≡ sum_of w v
commutes v w =
    one_word (sum_of v w) (sum_of w v) (sum_normal v w) (sum_normal w v)
    (λ d. let a = sum_amount d v w in let b = sum_amount d w v in omega arith) (omega arith)

associates : (u v w : Word) → sum_of (sum_of u v) w ≡ sum_of u (sum_of v w)
associates u v w =
    one_word (sum_of (sum_of u v) w) (sum_of u (sum_of v w)) (sum_normal (sum_of u v) w) (sum_normal u (sum_of v w))
    (λ d. let a = sum_amount d u v in let b = sum_amount d v w in let c = sum_amount d (sum_of u v) w in let e = sum_amount d u (sum_of v w) in omega arith)
    (omega arith)

nothing : (v : Word) → sum_of v (number 0) ≡ normal v
nothing v =
    one_word (sum_of v (number 0)) (normal v) (sum_normal v (number 0)) (times_normal 1 v)
    (λ d. let a = sum_amount d v (number 0) in let b = times_amount d 1 v in let c : of_word d (number 0) ≡ 0 = refl in omega arith) (omega arith)

taken_away : (v w : Word) → difference_of (sum_of w v) w ≡ normal v
taken_away v w =
    let less = times_of (2 ^ 64 - 1) w in
    one_word (difference_of (sum_of w v) w) (normal v) (sum_normal (sum_of w v) less) (times_normal 1 v)
    (λ d. let a = sum_amount d (sum_of w v) less in let b = sum_amount d w v in let c = times_amount d (2 ^ 64 - 1) w in let e = times_amount d 1 v in omega arith)
    (omega arith)

given_back : (v w : Word) → sum_of (difference_of v w) w ≡ normal v
given_back v w =
    let less = times_of (2 ^ 64 - 1) w in
    one_word (sum_of (difference_of v w) w) (normal v) (sum_normal (difference_of v w) w) (times_normal 1 v)
    (λ d. let a = sum_amount d (difference_of v w) w in let b = sum_amount d v less in let c = times_amount d (2 ^ 64 - 1) w in let e = times_amount d 1 v in omega arith)
    (omega arith)

pub keeps_sums : (u v w : Word) → KeepsSums u v w
keeps_sums u v w = record {
  is_normal = sum_normal v w;
  commutes = commutes v w;
  associates = associates u v w;
  nothing = nothing v;
  taken_away = taken_away v w;
  given_back = given_back v w;
}

-- ---- times

never : (w : Word) → times_of 0 w ≡ number 0
never w =
    one_word (times_of 0 w) (number 0) (times_normal 0 w) (number_normal 0)
    (λ d. let a = times_amount d 0 w in let c : of_word d (number 0) ≡ 0 = refl in omega arith) (omega arith)

again : (m n : ℕ) (w : Word) → times_of (m * n) w ≡ times_of m (times_of n w)
again m n w =
    one_word (times_of (m * n) w) (times_of m (times_of n w)) (times_normal (m * n) w) (times_normal m (times_of n w))
    (λ d.
    times_amount d (m * n) w ∙ ap (λ z. z % 2 ^ 64) (assoc_product m n (of_word d w))
    ∙ sym (times_amount d m (times_of n w) ∙ times_second m (of_word d (times_of n w)) (n * of_word d w) (times_amount d n w)))
    (ap (λ z. z % 2 ^ 64) (assoc_product m n w.offset) ∙ sym (mul-mod_second m (n * w.offset) (2 ^ 64)))

together : (m n : ℕ) (w : Word) → times_of (m + n) w ≡ sum_of (times_of m w) (times_of n w)
together m n w =
    one_word (times_of (m + n) w) (sum_of (times_of m w) (times_of n w)) (times_normal (m + n) w) (sum_normal (times_of m w) (times_of n w))
    (λ d.
    let a = times_amount d (m + n) w in
    let p = of_sum m n (of_word d w) in
    let b = sum_amount d (times_of m w) (times_of n w) in
    let c = times_amount d m w in
    let e = times_amount d n w in
    omega arith)
    (let p = of_sum m n w.offset in omega arith)

of_sums : (n : ℕ) (v w : Word) → times_of n (sum_of v w) ≡ sum_of (times_of n v) (times_of n w)
of_sums n v w =
    one_word (times_of n (sum_of v w)) (sum_of (times_of n v) (times_of n w)) (times_normal n (sum_of v w)) (sum_normal (times_of n v) (times_of n w))
    (λ d.
    let a = times_amount d n (sum_of v w) in
    let s = times_second n (of_word d (sum_of v w)) (of_word d v + of_word d w) (sum_amount d v w) in
    let p = over_sum n (of_word d v) (of_word d w) in
    let b = sum_amount d (times_of n v) (times_of n w) in
    let c = times_amount d n v in
    let e = times_amount d n w in
    omega arith)
    (let s = mul-mod_second n (v.offset + w.offset) (2 ^ 64) in let p = over_sum n v.offset w.offset in omega arith)

wraps : (n : ℕ) (w : Word) → times_of (n % 2 ^ 64) w ≡ times_of n w
wraps n w =
    one_word (times_of (n % 2 ^ 64) w) (times_of n w) (times_normal (n % 2 ^ 64) w) (times_normal n w)
    (λ d. times_amount d (n % 2 ^ 64) w ∙ mul-mod_first n (of_word d w) (2 ^ 64) ∙ sym (times_amount d n w))
    (mul-mod_first n w.offset (2 ^ 64))

pub keeps_times : (m n : ℕ) (v w : Word) → KeepsTimes m n v w
keeps_times m n v w = record {
  is_normal = times_normal n w;
  once = normal_is w;
  never = never w;
  again = again m n w;
  together = together m n w;
  of_sums = of_sums n v w;
  wraps = wraps n w;
}

pub keeps_numbers : (m n : ℕ) → KeepsNumbers m n
keeps_numbers m n = record {
  is_normal = number_normal n;
  sum = one_word (sum_of (number m) (number n)) (number (m + n)) (sum_normal (number m) (number n)) (number_normal (m + n)) (λ d. refl) (omega arith);
  times = one_word (times_of m (number n)) (number (m * n)) (times_normal m (number n)) (number_normal (m * n)) (λ d. refl) (mul-mod_second m n (2 ^ 64));
}

-- ---- elements

pub keeps_elements : (array v w : Word) (words offset : ℕ) → KeepsElements array v w words offset
keeps_elements array v w words offset = record {
  first =
      let zero_more : times_of words (number 0) ≡ number 0 = (keeps_numbers words 0).times ∙ ap number (let z : words * 0 ≡ 0 = grind arith in z) in
      ap (λ z. sum_of (sum_of array z) (number 0)) zero_more ∙ ap (λ z. sum_of z (number 0)) (nothing array) ∙ nothing (normal array) ∙ normal_is (normal array) (times_normal 1 array);
  further_on =
      let a = times_of words v in
      let b = times_of words w in
      let o = number offset in
      ap (λ z. sum_of (sum_of array z) o) (of_sums words v w) ∙ ap (λ z. sum_of z o) (sym (associates array a b))
      ∙ associates (sum_of array a) b o ∙ ap (sum_of (sum_of array a)) (commutes b o) ∙ sym (associates (sum_of array a) o b);
}
