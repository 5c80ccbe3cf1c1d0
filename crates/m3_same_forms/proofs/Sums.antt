-- What sums of forms stand for.
use Rattle.std.proofs.Common.{◌≡◌, ℕ, suc, ◌+◌, ◌-◌, ◌*◌, ◌%◌, ◌^◌, ◌<◌, Bool, true, false, [], ◌∷◌, refl, sym, ap, ◌∙◌, subst, arith}
use Rattle.std.specs.Prelude.{◌==◌, if◌then◌else◌}
use Rattle.std.proofs.lemmas.Bool.Decides.{nat_tests}
use Rattle.m3_mid_meaning.specs.Words.{Word, IsNormal, number, normal, sum_of, times_of}
use Rattle.m3_mid_meaning.proofs.WordSums.{normal_is, sum_normal, times_normal, number_normal, keeps_sums, keeps_times, keeps_numbers}
use Rattle.m3_same_forms.specs.declared.forms.Symbol.{Symbol}
use Rattle.m3_same_forms.specs.declared.forms.Symbol.TheVariants as symbols
use Rattle.m3_same_forms.specs.declared.forms.Term.{Term}
use Rattle.m3_same_forms.specs.Forms.{Form, same_symbol, put, insert, merge, scaled, opposite, is_none, same_form, of_symbol, of_number, behind}
use Rattle.m3_same_forms.specs.Meaning.{OldSymbol, Old, eval, Means, with_new}
use Rattle.m3_same_forms.proofs.Codes.{same_number}

pub is_symbol : (s t : Symbol) → same_symbol s t ≡ true → s ≡ t
is_symbol symbols.One symbols.One e = refl
is_symbol symbols.One symbols.Frame e = absurd (let bad : false ≡ true = e in cc)
is_symbol symbols.One symbols.Globals e = absurd (let bad : false ≡ true = e in cc)
is_symbol symbols.One (symbols.Text u) e = absurd (let bad : false ≡ true = e in cc)
is_symbol symbols.One (symbols.Constant u) e = absurd (let bad : false ≡ true = e in cc)
is_symbol symbols.One (symbols.Left u) e = absurd (let bad : false ≡ true = e in cc)
is_symbol symbols.One (symbols.Right u) e = absurd (let bad : false ≡ true = e in cc)
is_symbol symbols.One (symbols.New u) e = absurd (let bad : false ≡ true = e in cc)
is_symbol symbols.Frame symbols.One e = absurd (let bad : false ≡ true = e in cc)
is_symbol symbols.Frame symbols.Frame e = refl
is_symbol symbols.Frame symbols.Globals e = absurd (let bad : false ≡ true = e in cc)
is_symbol symbols.Frame (symbols.Text u) e = absurd (let bad : false ≡ true = e in cc)
is_symbol symbols.Frame (symbols.Constant u) e = absurd (let bad : false ≡ true = e in cc)
is_symbol symbols.Frame (symbols.Left u) e = absurd (let bad : false ≡ true = e in cc)
is_symbol symbols.Frame (symbols.Right u) e = absurd (let bad : false ≡ true = e in cc)
is_symbol symbols.Frame (symbols.New u) e = absurd (let bad : false ≡ true = e in cc)
is_symbol symbols.Globals symbols.One e = absurd (let bad : false ≡ true = e in cc)
is_symbol symbols.Globals symbols.Frame e = absurd (let bad : false ≡ true = e in cc)
is_symbol symbols.Globals symbols.Globals e = refl
is_symbol symbols.Globals (symbols.Text u) e = absurd (let bad : false ≡ true = e in cc)
is_symbol symbols.Globals (symbols.Constant u) e = absurd (let bad : false ≡ true = e in cc)
is_symbol symbols.Globals (symbols.Left u) e = absurd (let bad : false ≡ true = e in cc)
is_symbol symbols.Globals (symbols.Right u) e = absurd (let bad : false ≡ true = e in cc)
is_symbol symbols.Globals (symbols.New u) e = absurd (let bad : false ≡ true = e in cc)
is_symbol (symbols.Text t) symbols.One e = absurd (let bad : false ≡ true = e in cc)
is_symbol (symbols.Text t) symbols.Frame e = absurd (let bad : false ≡ true = e in cc)
is_symbol (symbols.Text t) symbols.Globals e = absurd (let bad : false ≡ true = e in cc)
is_symbol (symbols.Text t) (symbols.Text u) e = ap symbols.Text (same_number t u e)
is_symbol (symbols.Text t) (symbols.Constant u) e = absurd (let bad : false ≡ true = e in cc)
is_symbol (symbols.Text t) (symbols.Left u) e = absurd (let bad : false ≡ true = e in cc)
is_symbol (symbols.Text t) (symbols.Right u) e = absurd (let bad : false ≡ true = e in cc)
is_symbol (symbols.Text t) (symbols.New u) e = absurd (let bad : false ≡ true = e in cc)
is_symbol (symbols.Constant t) symbols.One e = absurd (let bad : false ≡ true = e in cc)
is_symbol (symbols.Constant t) symbols.Frame e = absurd (let bad : false ≡ true = e in cc)
is_symbol (symbols.Constant t) symbols.Globals e = absurd (let bad : false ≡ true = e in cc)
is_symbol (symbols.Constant t) (symbols.Text u) e = absurd (let bad : false ≡ true = e in cc)
is_symbol (symbols.Constant t) (symbols.Constant u) e = ap symbols.Constant (same_number t u e)
is_symbol (symbols.Constant t) (symbols.Left u) e = absurd (let bad : false ≡ true = e in cc)
is_symbol (symbols.Constant t) (symbols.Right u) e = absurd (let bad : false ≡ true = e in cc)
is_symbol (symbols.Constant t) (symbols.New u) e = absurd (let bad : false ≡ true = e in cc)
is_symbol (symbols.Left t) symbols.One e = absurd (let bad : false ≡ true = e in cc)
is_symbol (symbols.Left t) symbols.Frame e = absurd (let bad : false ≡ true = e in cc)
is_symbol (symbols.Left t) symbols.Globals e = absurd (let bad : false ≡ true = e in cc)
is_symbol (symbols.Left t) (symbols.Text u) e = absurd (let bad : false ≡ true = e in cc)
is_symbol (symbols.Left t) (symbols.Constant u) e = absurd (let bad : false ≡ true = e in cc)
is_symbol (symbols.Left t) (symbols.Left u) e = ap symbols.Left (same_number t u e)
is_symbol (symbols.Left t) (symbols.Right u) e = absurd (let bad : false ≡ true = e in cc)
is_symbol (symbols.Left t) (symbols.New u) e = absurd (let bad : false ≡ true = e in cc)
is_symbol (symbols.Right t) symbols.One e = absurd (let bad : false ≡ true = e in cc)
is_symbol (symbols.Right t) symbols.Frame e = absurd (let bad : false ≡ true = e in cc)
is_symbol (symbols.Right t) symbols.Globals e = absurd (let bad : false ≡ true = e in cc)
is_symbol (symbols.Right t) (symbols.Text u) e = absurd (let bad : false ≡ true = e in cc)
is_symbol (symbols.Right t) (symbols.Constant u) e = absurd (let bad : false ≡ true = e in cc)
is_symbol (symbols.Right t) (symbols.Left u) e = absurd (let bad : false ≡ true = e in cc)
is_symbol (symbols.Right t) (symbols.Right u) e = ap symbols.Right (same_number t u e)
is_symbol (symbols.Right t) (symbols.New u) e = absurd (let bad : false ≡ true = e in cc)
is_symbol (symbols.New t) symbols.One e = absurd (let bad : false ≡ true = e in cc)
is_symbol (symbols.New t) symbols.Frame e = absurd (let bad : false ≡ true = e in cc)
is_symbol (symbols.New t) symbols.Globals e = absurd (let bad : false ≡ true = e in cc)
is_symbol (symbols.New t) (symbols.Text u) e = absurd (let bad : false ≡ true = e in cc)
is_symbol (symbols.New t) (symbols.Constant u) e = absurd (let bad : false ≡ true = e in cc)
is_symbol (symbols.New t) (symbols.Left u) e = absurd (let bad : false ≡ true = e in cc)
is_symbol (symbols.New t) (symbols.Right u) e = absurd (let bad : false ≡ true = e in cc)
is_symbol (symbols.New t) (symbols.New u) e = ap symbols.New (same_number t u e)

-- ---- old symbols

put_old_at : (n : ℕ) (s : Symbol) (m : ℕ) (ys : Form) (b : Bool) → OldSymbol n s → Old n ys → Old n (if b then ys else record { symbol = s; times = m } ∷ ys)
put_old_at n s m ys true h hs = hs
put_old_at n s m ys false h hs = (h, hs)

pub put_old : (n : ℕ) (s : Symbol) (m : ℕ) (ys : Form) → OldSymbol n s → Old n ys → Old n (put s m ys)
put_old n s m ys h hs = put_old_at n s m ys (m == 0) h hs

insert_old_at : (n : ℕ) (s : Symbol) (m : ℕ) (y : Term) (ys : Form) (b : Bool) → OldSymbol n s → Old n (y ∷ ys) → Old n (insert s m ys) → Old n (if b then put s ((m + y.times) % 2 ^ 64) ys else y ∷ insert s m ys)
insert_old_at n s m y ys true h hs r = put_old n s _ ys h hs.1
insert_old_at n s m y ys false h hs r = (hs.0, r)

pub insert_old : (n : ℕ) (s : Symbol) (m : ℕ) (ys : Form) → OldSymbol n s → Old n ys → Old n (insert s m ys)
insert_old n s m [] h hs = put_old n s m [] h tt
insert_old n s m (y ∷ ys) h hs = insert_old_at n s m y ys (same_symbol s y.symbol) h hs (insert_old n s m ys h hs.1)

pub merge_old : (n : ℕ) (xs ys : Form) → Old n xs → Old n ys → Old n (merge xs ys)
merge_old n [] ys h hs = hs
merge_old n (x ∷ xs) ys h hs = merge_old n xs (insert x.symbol x.times ys) h.1 (insert_old n x.symbol x.times ys h.0 hs)

pub scaled_old : (n m : ℕ) (xs : Form) → Old n xs → Old n (scaled m xs)
scaled_old n m [] h = tt
scaled_old n m (x ∷ xs) h = put_old n x.symbol _ (scaled m xs) h.0 (scaled_old n m xs h.1)

older_symbol : (n : ℕ) (s : Symbol) → OldSymbol n s → OldSymbol (suc n) s
older_symbol n symbols.One h = tt
older_symbol n symbols.Frame h = tt
older_symbol n symbols.Globals h = tt
older_symbol n (symbols.Text t) h = tt
older_symbol n (symbols.Constant t) h = tt
older_symbol n (symbols.Left t) h = tt
older_symbol n (symbols.Right t) h = tt
older_symbol n (symbols.New i) h = omega (arith, h)

pub older : (n : ℕ) (xs : Form) → Old n xs → Old (suc n) xs
older n [] h = tt
older n (x ∷ xs) h = (older_symbol n x.symbol h.0, older n xs h.1)

pub commutes : (v w : Word) → sum_of v w ≡ sum_of w v
commutes v w = (keeps_sums v v w).commutes

pub associates : (u v w : Word) → sum_of (sum_of u v) w ≡ sum_of u (sum_of v w)
associates u v w = (keeps_sums u v w).associates

pub nothing : (v : Word) → sum_of v (number 0) ≡ normal v
nothing v = (keeps_sums v v v).nothing

never : (w : Word) → times_of 0 w ≡ number 0
never w = (keeps_times 0 0 w w).never

again : (m n : ℕ) (w : Word) → times_of (m * n) w ≡ times_of m (times_of n w)
again m n w = (keeps_times m n w w).again

together : (m n : ℕ) (w : Word) → times_of (m + n) w ≡ sum_of (times_of m w) (times_of n w)
together m n w = (keeps_times m n w w).together

of_sums : (n : ℕ) (v w : Word) → times_of n (sum_of v w) ≡ sum_of (times_of n v) (times_of n w)
of_sums n v w = (keeps_times n n v w).of_sums

wraps : (n : ℕ) (w : Word) → times_of (n % 2 ^ 64) w ≡ times_of n w
wraps n w = (keeps_times n n w w).wraps

times_number : (m n : ℕ) → times_of m (number n) ≡ number (m * n)
times_number m n = (keeps_numbers m n).times

pub zero_add : (a : Word) → IsNormal a → sum_of (number 0) a ≡ a
zero_add a h = commutes (number 0) a ∙ nothing a ∙ normal_is a h

swap : (a b c : Word) → sum_of a (sum_of b c) ≡ sum_of b (sum_of a c)
swap a b c = sym (associates a b c) ∙ ap (λ x. sum_of x c) (commutes a b) ∙ associates b a c

scale_zero : (m : ℕ) → times_of m (number 0) ≡ number 0
scale_zero m = times_number m 0 ∙ ap number (let z : m * 0 ≡ 0 = grind arith in z)

opposites : (a : Word) → IsNormal a → sum_of a (times_of (2 ^ 64 - 1) a) ≡ number 0
opposites a h =
    let one : times_of 1 a ≡ a = normal_is a h in
    let z : (1 + (2 ^ 64 - 1)) % 2 ^ 64 ≡ 0 = refl in
    ap (λ x. sum_of x (times_of (2 ^ 64 - 1) a)) (sym one) ∙ sym (together 1 (2 ^ 64 - 1) a) ∙ sym (wraps (1 + (2 ^ 64 - 1)) a)
    ∙ ap (λ n. times_of n a) z ∙ never a

cancel : (a b : Word) → IsNormal a → IsNormal b → sum_of (times_of (2 ^ 64 - 1) b) a ≡ number 0 → a ≡ b
cancel a b h k e =
    sym (zero_add a h) ∙ ap (λ x. sum_of x a) (sym (opposites b k)) ∙ associates b (times_of (2 ^ 64 - 1) b) a ∙ ap (sum_of b) e ∙ nothing b ∙ normal_is b k

pub eval_normal : (v : Symbol → Word) (xs : Form) → IsNormal (eval v xs)
eval_normal v [] = number_normal 0
eval_normal v (x ∷ xs) = sum_normal (times_of x.times (v x.symbol)) (eval v xs)

module _ (v : Symbol → Word) where
  put_at : (s : Symbol) (m : ℕ) (ys : Form) (b : Bool) → (m == 0) ≡ b → eval v (if b then ys else record { symbol = s; times = m } ∷ ys) ≡ sum_of (times_of m (v s)) (eval v ys)
  put_at s m ys true e =
      let z : m ≡ 0 = same_number m 0 e in
      sym (ap (λ i. sum_of (times_of i (v s)) (eval v ys)) z ∙ ap (λ x. sum_of x (eval v ys)) (never (v s)) ∙ zero_add (eval v ys) (eval_normal v ys))
  put_at s m ys false e = refl

  pub put_eval : (s : Symbol) (m : ℕ) (ys : Form) → eval v (put s m ys) ≡ sum_of (times_of m (v s)) (eval v ys)
  put_eval s m ys = put_at s m ys (m == 0) refl

  insert_at : (s : Symbol) (m : ℕ) (y : Term) (ys : Form) (b : Bool) → same_symbol s y.symbol ≡ b → eval v (insert s m ys) ≡ sum_of (times_of m (v s)) (eval v ys) →
      eval v (if b then put s ((m + y.times) % 2 ^ 64) ys else y ∷ insert s m ys) ≡ sum_of (times_of m (v s)) (eval v (y ∷ ys))
  insert_at s m y ys true e h =
      put_eval s ((m + y.times) % 2 ^ 64) ys ∙ ap (λ x. sum_of x (eval v ys)) (wraps (m + y.times) (v s) ∙ together m y.times (v s) ∙ ap (λ z. sum_of (times_of m (v s)) (times_of y.times (v z))) (is_symbol s y.symbol e))
      ∙ associates (times_of m (v s)) (times_of y.times (v y.symbol)) (eval v ys)
  insert_at s m y ys false e h =
      ap (sum_of (times_of y.times (v y.symbol))) h ∙ swap (times_of y.times (v y.symbol)) (times_of m (v s)) (eval v ys)

  pub insert_eval : (s : Symbol) (m : ℕ) (ys : Form) → eval v (insert s m ys) ≡ sum_of (times_of m (v s)) (eval v ys)
  insert_eval s m [] = put_eval s m []
  insert_eval s m (y ∷ ys) = insert_at s m y ys (same_symbol s y.symbol) refl (insert_eval s m ys)

  pub merge_eval : (xs ys : Form) → eval v (merge xs ys) ≡ sum_of (eval v xs) (eval v ys)
  merge_eval [] ys = sym (zero_add (eval v ys) (eval_normal v ys))
  merge_eval (x ∷ xs) ys =
      merge_eval xs (insert x.symbol x.times ys) ∙ ap (sum_of (eval v xs)) (insert_eval x.symbol x.times ys)
      ∙ swap (eval v xs) (times_of x.times (v x.symbol)) (eval v ys) ∙ sym (associates (times_of x.times (v x.symbol)) (eval v xs) (eval v ys))

  pub scaled_eval : (m : ℕ) (xs : Form) → eval v (scaled m xs) ≡ times_of m (eval v xs)
  scaled_eval m [] = sym (scale_zero m)
  scaled_eval m (x ∷ xs) =
      put_eval x.symbol ((m * x.times) % 2 ^ 64) (scaled m xs) ∙ ap (λ z. sum_of z (eval v (scaled m xs))) (wraps (m * x.times) (v x.symbol) ∙ again m x.times (v x.symbol))
      ∙ ap (sum_of (times_of m (times_of x.times (v x.symbol)))) (scaled_eval m xs) ∙ sym (of_sums m (times_of x.times (v x.symbol)) (eval v xs))

  none_so : (xs : Form) → is_none xs ≡ true → eval v xs ≡ (number 0)
  none_so [] e = refl
  none_so (x ∷ xs) e = absurd (let bad : false ≡ true = e in cc)

  pub same_eval : (a b : Form) → same_form a b ≡ true → eval v a ≡ eval v b
  same_eval a b e =
      cancel (eval v a) (eval v b) (eval_normal v a) (eval_normal v b) (ap (λ x. sum_of x (eval v a)) (sym (scaled_eval (2 ^ 64 - 1) b)) ∙ sym (merge_eval (opposite b) a) ∙ none_so (merge (opposite b) a) e)

  pub symbol_eval : (s : Symbol) → IsNormal (v s) → v s ≡ eval v (of_symbol s)
  symbol_eval s h = sym (nothing (times_of 1 (v s)) ∙ normal_is (times_of 1 (v s)) (times_normal 1 (v s)) ∙ normal_is (v s) h)

  pub number_eval : v symbols.One ≡ number 1 → (n : ℕ) → number n ≡ eval v (of_number n)
  number_eval e n =
      let one : n * 1 ≡ n = grind arith in
      sym (put_eval symbols.One n [] ∙ nothing (times_of n (v symbols.One)) ∙ normal_is (times_of n (v symbols.One)) (times_normal n (v symbols.One)) ∙ ap (times_of n) e ∙ times_number n 1 ∙ ap number one)

  pub behind_eval : v symbols.One ≡ number 1 → (s : Symbol) (m n : ℕ) → v s ≡ number m → number ((m + n) % 2 ^ 64) ≡ eval v (behind s n)
  behind_eval e s m n h =
      let normal_s : IsNormal (v s) = subst IsNormal (sym h) (number_normal m) in
      let turned : (n + m) % 2 ^ 64 ≡ ((m + n) % 2 ^ 64) % 2 ^ 64 = omega arith in
      sym (merge_eval (of_number n) (of_symbol s) ∙ ap (λ z. sum_of z (eval v (of_symbol s))) (sym (number_eval e n)) ∙ ap (sum_of (number n)) (sym (symbol_eval s normal_s) ∙ h)
      ∙ (keeps_numbers n m).sum ∙ ap (λ z. record { cells = []; offset = z }) turned)

-- ---- a new word

module _ (v : Symbol → Word) (n : ℕ) (w : Word) where
  apart : (i : ℕ) → i < n → (i == n) ≡ false
  apart i h = grind (arith, nat_tests)

  symbol_stays : (s : Symbol) → OldSymbol n s → v s ≡ with_new v n w s
  symbol_stays symbols.One h = refl
  symbol_stays symbols.Frame h = refl
  symbol_stays symbols.Globals h = refl
  symbol_stays (symbols.Text t) h = refl
  symbol_stays (symbols.Constant t) h = refl
  symbol_stays (symbols.Left t) h = refl
  symbol_stays (symbols.Right t) h = refl
  symbol_stays (symbols.New i) h = sym (ap (λ b. if b then w else v (symbols.New i)) (apart i h))

  pub stays : (xs : Form) → Old n xs → eval v xs ≡ eval (with_new v n w) xs
  stays [] h = refl
  stays (x ∷ xs) h =
      ap (λ z. sum_of (times_of x.times z) (eval v xs)) (symbol_stays x.symbol h.0) ∙ ap (sum_of (times_of x.times (with_new v n w x.symbol))) (stays xs h.1)

  itself : (n == n) ≡ true
  itself = grind (arith, nat_tests)

  there : with_new v n w (symbols.New n) ≡ w
  there = ap (λ b. if b then w else v (symbols.New n)) itself

  pub new_is : IsNormal w → w ≡ eval (with_new v n w) (of_symbol (symbols.New n))
  new_is h = sym there ∙ symbol_eval (with_new v n w) (symbols.New n) (subst IsNormal (sym there) h)

  pub means_still : (a : Form) (x : Word) → Means v n a x → Means (with_new v n w) (suc n) a x
  means_still a x h = (older n a h.0, h.1 ∙ stays a h.0)
