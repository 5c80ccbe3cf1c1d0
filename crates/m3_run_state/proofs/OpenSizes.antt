-- The sizes of an open cell and their product.
use Rattle.std.specs.Prelude.{ℕ, zero, suc, ◌≡◌, ◌+◌, ◌-◌, ◌*◌, ◌^◌, ◌<◌, ◌≤◌, ◌==◌, min, nat_le, if◌then◌else◌, Bool, true, false, List, [], ◌∷◌, ◌++◌, Option, None, Some, Result, Ok, Err}
use Rattle.std.proofs.Common.{sym, ap, ◌∙◌, arith, ⊎_elim, mul_assoc, mul-zero, mul-suc, mul_comm}
use Rattle.std.proofs.lemmas.Bool.{cases_lt}
use Rattle.std.proofs.lemmas.Bool.Decides.{nat_tests}
use Rattle.m3_base.specs.declared.outcomes.Outcome.{Outcome}
use Rattle.m3_base.specs.declared.outcomes.Outcome.TheVariants.{Trap}
use Rattle.m3_image_sections.specs.Parts.{CellType}
use Rattle.m3_run_meaning.specs.NewTexts.{product, open_words, open_type}

pub product_more : (sizes : List ℕ) (size : ℕ) → product (sizes ++ size ∷ []) ≡ product sizes * size
product_more [] size = omega arith
product_more (x ∷ sizes) size = ap (λ m. x * m) (product_more sizes size) ∙ sym (mul_assoc x (product sizes) size)

-- a product that stops at a bound
pub stopped : (a b m : ℕ) → min (min a m * b) m ≡ min (a * b) m
stopped a zero m = let left = mul-zero (min a m) in let right = mul-zero a in omega (arith, left, right)
stopped a (suc b) m = ⊎_elim
    (λ (high : m < a).
    let bound : min a m ≡ m = omega arith in
    let left = mul-suc m b in
    let right = mul-suc a b in
    ap (λ k. min (k * suc b) m) bound ∙ omega (arith, left, right))
    (λ (low : a ≤ m). let all : min a m ≡ a = omega arith in ap (λ k. min (k * suc b) m) all)
    (cases_lt m a)

-- the words of a cell, as far as a word can say them
pub words_asked : (product_said e d p m : ℕ) → product_said ≡ min p m → min (min (product_said * e) m + (1 + d)) m ≡ min (1 + d + e * p) m
words_asked q e d p m is =
    let a : min (q * e) m ≡ min (p * e) m = ap (λ k. min (k * e) m) is ∙ stopped p e m in
    let c = mul_comm p e in
    omega (arith, a, c)

-- a bound that was tested
pub lt_of_nat_le : (n m : ℕ) → nat_le m n ≡ false → n < m
lt_of_nat_le n m e = grind (arith, nat_tests)

pub le_of_nat_le : (n m : ℕ) → nat_le m n ≡ true → m ≤ n
le_of_nat_le n m e = grind (arith, nat_tests)

-- the words that are asked for, by the product that was said
pub words_said : (told : CellType) (sizes : List ℕ) (said element dims words : ℕ) → said ≡ min (product sizes) (2 ^ 64 - 1) → element ≡ told.words → dims ≡ told.dims
    → words ≡ min (min (said * element) (2 ^ 64 - 1) + (1 + dims)) (2 ^ 64 - 1) → words ≡ open_words told sizes
words_said told sizes said element dims words is same-element same-dims asked =
    asked ∙ words_asked said element dims (product sizes) (2 ^ 64 - 1) is
    ∙ ap (λ (d : ℕ). min (1 + d + element * product sizes) (2 ^ 64 - 1)) same-dims ∙ ap (λ (e : ℕ). min (1 + told.dims + e * product sizes) (2 ^ 64 - 1)) same-element

there-if : (b : Bool) (t form : CellType) → ◌≡◌ {A = Result CellType Outcome} (if b then Ok t else Err (Trap 4)) (Ok form) → Some t ≡ Some form
there-if true t form e = cc
there-if false t form e = absurd cc

-- an open type is there
pub there_is : (o : Option CellType) (form : CellType) → open_type o ≡ Ok form → o ≡ Some form
there_is None form e = absurd cc
there_is (Some t) form e = there-if (t.kind == 1) t form e
