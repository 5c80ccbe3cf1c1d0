-- An address and its place among the words of a half, found by one difference modulo 2 ^ 64.
use Rattle.std.proofs.Common.{◌≡◌, ℕ, ◌+◌, ◌-◌, ◌%◌, ◌<◌, ◌≤◌, ◌^◌, Bool, true, false, ◌&&◌, get_or, set, take, Some, None, is_some, sym, ap, ◌∙◌, arith, inl, inr, ◌⊎◌, refl, ⊎_elim}
use Rattle.std.specs.Prelude.{not}
use Rattle.std.proofs.lemmas.Bool.{cases_lt}
use Rattle.m3_heap.specs.Cells.{is_start, is_writable, cell_word_at, with_word, total_words}
use Rattle.m3_heap.specs.CollectorSpace.{Space, cells_in}
use Rattle.m3_heap.specs.declared.half.Half.TheInside.{Inside}
use Rattle.m3_heap.specs.CollectorHalf.{IsHalf, space_of}
use Rattle.m3_heap.proofs.SpaceLemmas.{total-used, laid-used, word_at-outside, word_at-used, is_start-outside, is_start-used, with_word-outside, put-used}

abbrev pub place_of : Inside → ℕ → ℕ
place_of half at = (at + (18446744073709551616 - half.base)) % 18446744073709551616

and-false : (b : Bool) → (b && false) ≡ false
and-false true = refl
and-false false = refl

pub record IsInside (half : Inside) (at : ℕ) : Type 0 where
  pub low : half.base ≤ at
  pub high : at < half.base + half.used
  pub place : at - half.base ≡ place_of half at

pub inside : (half : Inside) → IsHalf half → (at : ℕ) → at < 2 ^ 64 → place_of half at < half.used → IsInside half at
inside half h at fits within = ⊎_elim
    (λ (below : at < half.base). absurd (omega (arith, h.ends, h.used, h.within)))
    (λ (above : half.base ≤ at). record { low = above; high = omega (arith, h.ends, h.used, h.within); place = omega (arith, h.ends, h.used, h.within) })
    (cases_lt at half.base)

outside : (half : Inside) → IsHalf half → (at : ℕ) → at < 2 ^ 64 → half.used ≤ place_of half at → (at < half.base) ⊎ (half.base + total_words (space_of half).cells ≤ at)
outside half h at fits past =
    let total = total-used half h in
    ⊎_elim
    (λ (below : at < half.base). inl below)
    (λ (above : half.base ≤ at). inr (omega (arith, h.ends, h.used, h.within)))
    (cases_lt at half.base)

pub word-inside : (half : Inside) → IsHalf half → (space : Space) → space_of half ≡ space → (at w : ℕ) → at < 2 ^ 64 → place_of half at < half.used → w ≡ get_or half.words.items (place_of half at) w → cell_word_at space.cells at ≡ Some w
word-inside half h space is at w fits within read =
    let here = inside half h at fits within in
    ap (λ (s : Space). cell_word_at s.cells at) (sym is) ∙ word_at-used half h at w here.low here.high (read ∙ ap (λ k. get_or half.words.items k w) (sym here.place))

pub word-outside : (half : Inside) → IsHalf half → (space : Space) → space_of half ≡ space → (at : ℕ) → at < 2 ^ 64 → half.used ≤ place_of half at → cell_word_at space.cells at ≡ None
word-outside half h space is at fits past =
    ap (λ (s : Space). cell_word_at s.cells at) (sym is) ∙ word_at-outside half.base at (space_of half).cells (laid-used half h) (outside half h at fits past)

pub start-inside : (half : Inside) → IsHalf half → (space : Space) → space_of half ≡ space → (at : ℕ) → at < 2 ^ 64 → place_of half at < half.used → is_start space.cells at ≡ get_or half.starts (place_of half at) false
start-inside half h space is at fits within =
    let here = inside half h at fits within in
    ap (λ (s : Space). is_start s.cells at) (sym is) ∙ is_start-used half h at here.low here.high ∙ ap (λ k. get_or half.starts k false) here.place

pub start-outside : (half : Inside) → IsHalf half → (space : Space) → space_of half ≡ space → (at : ℕ) → at < 2 ^ 64 → half.used ≤ place_of half at → is_start space.cells at ≡ false
start-outside half h space is at fits past =
    ap (λ (s : Space). is_start s.cells at) (sym is) ∙ is_start-outside half.base at (space_of half).cells (laid-used half h) (outside half h at fits past)

pub put-inside : (half : Inside) → IsHalf half → (space : Space) → space_of half ≡ space → (at v : ℕ) → at < 2 ^ 64 → place_of half at < half.used → cells_in half.base (take half.used half.starts) (take half.used (set half.words.items (place_of half at) v)) ≡ with_word space.cells at v
put-inside half h space is at v fits within =
    let here = inside half h at fits within in
    ap (λ k. cells_in half.base (take half.used half.starts) (take half.used (set half.words.items k v))) (sym here.place)
    ∙ put-used half at v here.low ∙ ap (λ (s : Space). with_word s.cells at v) is

pub put-outside : (half : Inside) → IsHalf half → (space : Space) → space_of half ≡ space → (at v : ℕ) → at < 2 ^ 64 → half.used ≤ place_of half at → (space_of half).cells ≡ with_word space.cells at v
put-outside half h space is at v fits past =
    sym (with_word-outside half.base at v (space_of half).cells (laid-used half h) (outside half h at fits past)) ∙ ap (λ (s : Space). with_word s.cells at v) is

-- a header can't be set, nor can a word outside
pub writable : (half : Inside) → IsHalf half → (space : Space) → space_of half ≡ space → (at w : ℕ) → at < 2 ^ 64 → place_of half at < half.used → w ≡ get_or half.words.items (place_of half at) w → (b : Bool) → get_or half.starts (place_of half at) false ≡ b → is_writable space.cells at ≡ not b
writable half h space is at w fits within read b marked =
    ap (λ o. is_some o && not (is_start space.cells at)) (word-inside half h space is at w fits within read)
    ∙ ap not (start-inside half h space is at fits within ∙ marked)

pub unwritable : (half : Inside) → IsHalf half → (space : Space) → space_of half ≡ space → (at : ℕ) → at < 2 ^ 64 → half.used ≤ place_of half at → is_writable space.cells at ≡ false
unwritable half h space is at fits past = ap (λ o. is_some o && not (is_start space.cells at)) (word-outside half h space is at fits past)

pub header-unwritable : (half : Inside) → IsHalf half → (space : Space) → space_of half ≡ space → (at : ℕ) → at < 2 ^ 64 → place_of half at < half.used → get_or half.starts (place_of half at) false ≡ true → is_writable space.cells at ≡ false
header-unwritable half h space is at fits within marked =
    ap (λ b. is_some (cell_word_at space.cells at) && not b) (start-inside half h space is at fits within ∙ marked) ∙ and-false (is_some (cell_word_at space.cells at))
