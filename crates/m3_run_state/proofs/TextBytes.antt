-- The bytes of a text, word by word.
use Rattle.std.specs.Prelude.{ℕ, zero, suc, ◌≡◌, ◌+◌, ◌*◌, ◌/◌, ◌%◌, ◌<◌, ◌≤◌, List, [], ◌∷◌, ◌++◌, map, take, Option, Some, None, unwrap_or, IfSome, Bool, true, ◌&&◌}
use Rattle.std.specs.List.{range_with_len}
use Rattle.std.specs.Int.{w64, to_le_bytes, byte_at, bytes_low_first}
use Rattle.std.proofs.Common.{refl, sym, ap, subst, ◌∙◌, arith, add-one, append_assoc, append-nil, get_or}
use Rattle.std.proofs.lemmas.List.FromFn.{length-map-range_with_len, get_or-map-range_with_len, take-map-range_with_len, map-range_with_len_more, fill_by_all}
use Rattle.m3_base.specs.Words.{add_words}
use Rattle.m3_isa.specs.Memory.{Memory}
use Rattle.m3_isa.specs.Arithmetic.{byte_in}
use Rattle.m3_isa.specs.Effects.{every}
use Rattle.m3_run_meaning.specs.Texts.{text_byte}

-- a byte of a word, of the eight that it has
eight : (j word : ℕ) → j < 8 → byte_at j word ≡ byte_in word j
eight zero word h = let whole : word / 1 ≡ word = omega arith in ap (λ x. x % 256) (sym whole)
eight (suc zero) word h = refl
eight (suc (suc zero)) word h = refl
eight (suc (suc (suc zero))) word h = refl
eight (suc (suc (suc (suc zero)))) word h = refl
eight (suc (suc (suc (suc (suc zero))))) word h = refl
eight (suc (suc (suc (suc (suc (suc zero)))))) word h = refl
eight (suc (suc (suc (suc (suc (suc (suc zero))))))) word h = refl
eight (suc (suc (suc (suc (suc (suc (suc (suc j)))))))) word h = absurd (omega arith)

low-first : (k i word : ℕ) → bytes_low_first i k word ≡ map (λ j. byte_at j word) (range_with_len i k)
low-first zero i word = refl
low-first (suc k) i word = ap (λ xs. byte_at i word ∷ xs) (low-first k (suc i) word ∙ ap (λ n. map (λ j. byte_at j word) (range_with_len n k)) (sym (add-one i)))

pub moved : (g : ℕ → ℕ) (a b n : ℕ) → map (λ j. g (a + j)) (range_with_len b n) ≡ map g (range_with_len (a + b) n)
moved g a b zero = refl
moved g a b (suc n) =
    let next : a + (b + 1) ≡ a + b + 1 = omega arith in
    ap (λ xs. g (a + b) ∷ xs) (moved g a (b + 1) n ∙ ap (λ m. map g (range_with_len m n)) next)

pub joined : (g : ℕ → ℕ) (n k : ℕ) → map g (range_with_len 0 (n + k)) ≡ map g (range_with_len 0 n) ++ map g (range_with_len n k)
joined g n zero =
    let none : n + 0 ≡ n = omega arith in
    ap (λ m. map g (range_with_len 0 m)) none ∙ sym (append-nil (map g (range_with_len 0 n)))
joined g n (suc k) =
    let one-more : n + suc k ≡ n + k + 1 = omega arith in
    let last : suc k ≡ k + 1 = omega arith in
    ap (λ m. map g (range_with_len 0 m)) one-more
    ∙ map-range_with_len_more g 0 (n + k) (n + k) (omega arith)
    ∙ ap (λ xs. xs ++ g (n + k) ∷ []) (joined g n k)
    ∙ append_assoc (map g (range_with_len 0 n)) (map g (range_with_len n k)) (g (n + k) ∷ [])
    ∙ ap (λ xs. map g (range_with_len 0 n) ++ xs) (sym (map-range_with_len_more g n k (n + k) refl) ∙ ap (λ m. map g (range_with_len n m)) (sym last))

-- the first bytes of a word of a text are those of the text
pub word_bytes : (memory : Memory) (text k left word : ℕ) → left ≤ 8 → unwrap_or (memory (add_words text (2 + k))) 0 ≡ word
    → take left (to_le_bytes w64 word) ≡ map (text_byte memory text) (range_with_len (8 * k) left)
word_bytes memory text k left word few is =
    let bytes = λ (j : ℕ). byte_at j word in
    let there = λ (j : ℕ). text_byte memory text (8 * k + j) in
    let taken : take left (to_le_bytes w64 word) ≡ map bytes (range_with_len 0 left) = ap (take left) (low-first 8 0 word) ∙ take-map-range_with_len bytes 0 8 left few in
    let each : (j : ℕ) → j < left → get_or (map bytes (range_with_len 0 left)) j 0 ≡ there j = λ j low.
    let in-word : (8 * k + j) / 8 ≡ k = omega arith in
    let in-byte : (8 * k + j) % 8 ≡ j = omega arith in
    get_or-map-range_with_len bytes 0 left j j 0 low (omega arith) ∙ eight j word (omega arith) ∙ ap (λ w. byte_in w j) (sym is)
    ∙ ap (λ n. byte_in (unwrap_or (memory (add_words text (2 + n))) 0) j) (sym in-word)
    ∙ ap (λ n. byte_in (unwrap_or (memory (add_words text (2 + (8 * k + j) / 8))) 0) n) (sym in-byte) in
    let none : 8 * k + 0 ≡ 8 * k = omega arith in
    taken ∙ fill_by_all there (map bytes (range_with_len 0 left)) left 0 (length-map-range_with_len bytes 0 left) each
    ∙ moved (text_byte memory text) (8 * k) 0 left ∙ ap (λ n. map (text_byte memory text) (range_with_len n left)) none

-- so many bytes were put, and then more
pub put_more : (before now after : Option (List ℕ)) (g : ℕ → ℕ) (n k : ℕ) (piece : List ℕ) → IfSome before (λ bytes. now ≡ Some (bytes ++ map g (range_with_len 0 n)))
    → IfSome now (λ bytes. after ≡ Some (bytes ++ piece)) → piece ≡ map g (range_with_len n k) → IfSome before (λ bytes. after ≡ Some (bytes ++ map g (range_with_len 0 (n + k))))
put_more None now after g n k piece so-far took is = so-far
put_more (Some bytes) now after g n k piece so-far took is =
    let then-took : after ≡ Some ((bytes ++ map g (range_with_len 0 n)) ++ piece) = subst (λ (o : Option (List ℕ)). IfSome o (λ b. after ≡ Some (b ++ piece))) so-far took in
    then-took ∙ ap (λ (p : List ℕ). Some ((bytes ++ map g (range_with_len 0 n)) ++ p)) is
    ∙ ap (λ (xs : List ℕ). Some xs) (append_assoc bytes (map g (range_with_len 0 n)) (map g (range_with_len n k)))
    ∙ ap (λ (xs : List ℕ). Some (bytes ++ xs)) (sym (joined g n k))

-- nothing was put
pub put_none : (before : Option (List ℕ)) → IfSome before (λ bytes. before ≡ Some (bytes ++ []))
put_none None = tt
put_none (Some bytes) = ap (λ (xs : List ℕ). Some xs) (sym (append-nil bytes))

-- one word more is there
pub every_more : (test : ℕ → Bool) (n : ℕ) → every test n ≡ true → test n ≡ true → every test (n + 1) ≡ true
every_more test n so-far one = ap (λ k. every test k) (add-one n) ∙ ap (λ b. b && test n) so-far ∙ one
