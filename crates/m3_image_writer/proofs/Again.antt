-- What is written of a field is read again, whatever follows it.
use Rattle.std.proofs.Common.{◌≡◌, ℕ, zero, suc, ◌+◌, ◌*◌, ◌^◌, ◌<◌, ◌≤◌, false, ltb, List, [], ◌∷◌, ◌++◌, length, get_or, drop, Option, Some, None, refl, ap, ◌∙◌, append_assoc, arith, length-append}
use Rattle.std.specs.Prelude.{map}
use Rattle.std.specs.List.{flat_map, AllByRecursion}
use Rattle.std.proofs.lemmas.Bool.{le-ltb}
use Rattle.std.proofs.lemmas.List.{take_at, drop_at}
use Rattle.byteorder.specs.Numbers.{little_number-reads_back}
use Rattle.m3_tables.specs.Numbers.{word_in, numbers}
use Rattle.m3_tables.specs.Fields.{word_at, list_at}
use Rattle.m3_tables_writer.specs.Writing.{word_bytes, list_bytes}
use Rattle.m3_image_sections.specs.Fields.{long_in, text_at, each, counted_at, many_in, past_many, many_at, left_by, all_at}
use Rattle.m3_image_writer.specs.Fields.{long_bytes, text_bytes}
use Rattle.m3_image_writer.specs.Again.{Reads, ReadsFixed}
use Rattle.m3_image_writer.proofs.Lengths.{length-word_bytes}

-- ---- numbers

pub word_again : (n : ℕ) (rest : List ℕ) → n < 2 ^ 32 → word_in (word_bytes n ++ rest) ≡ n
unfolding word_in word_bytes
word_again n rest lt = little_number-reads_back 4 n rest lt

pub after_word : (n : ℕ) (rest : List ℕ) → drop 4 (word_bytes n ++ rest) ≡ rest
after_word n rest = drop_at (word_bytes n) rest 4 (length-word_bytes n)

pub word_at_again : (n : ℕ) (rest : List ℕ) → n < 2 ^ 32 → word_at (word_bytes n ++ rest) ≡ Some (n, rest)
unfolding word_at
word_at_again n rest lt =
    let long : ltb (length (word_bytes n ++ rest)) 4 ≡ false = le-ltb _ _ (omega (arith, length-append (word_bytes n) rest, length-word_bytes n)) in
    rw (long, word_again n rest lt, after_word n rest) refl

pub long_again : (n : ℕ) → n < 2 ^ 64 → ReadsFixed 8 long_in (long_bytes n) n
unfolding long_in long_bytes
long_again n lt = record { size_is = refl; again = λ rest. little_number-reads_back 8 n rest lt }

-- ---- lists of numbers, and texts

abbrev pub AreSmall : List ℕ → Type 0
AreSmall ns = AllByRecursion (λ n. n < 2 ^ 32) ns

-- what is known of each by its place
pub all_small : (ns : List ℕ) → ((i : ℕ) → get_or ns i 0 < 2 ^ 32) → AreSmall ns
all_small [] h = tt
all_small (n ∷ ns) h = (h 0, all_small ns (λ i. h (suc i)))

length-words : (ns : List ℕ) → length (flat_map word_bytes ns) ≡ 4 * length ns
length-words [] = refl
length-words (n ∷ ns) = omega (arith, length-append (word_bytes n) (flat_map word_bytes ns), length-word_bytes n, length-words ns)

numbers_again : (ns : List ℕ) (rest : List ℕ) → AreSmall ns → numbers (length ns) (flat_map word_bytes ns ++ rest) ≡ ns
numbers_again [] rest small = refl
numbers_again (n ∷ ns) rest small =
    let apart : (word_bytes n ++ flat_map word_bytes ns) ++ rest ≡ word_bytes n ++ (flat_map word_bytes ns ++ rest) = append_assoc (word_bytes n) (flat_map word_bytes ns) rest in
    let one : word_in ((word_bytes n ++ flat_map word_bytes ns) ++ rest) ≡ n = ap word_in apart ∙ word_again n (flat_map word_bytes ns ++ rest) small.0 in
    let more : drop 4 ((word_bytes n ++ flat_map word_bytes ns) ++ rest) ≡ flat_map word_bytes ns ++ rest = ap (λ (x : List ℕ). drop 4 x) apart ∙ after_word n (flat_map word_bytes ns ++ rest) in
    rw (one, more, numbers_again ns rest small.1) refl

pub list_again : (ns : List ℕ) → AreSmall ns → length ns < 2 ^ 32 → Reads list_at (list_bytes ns) ns
unfolding list_at list_bytes
list_again ns small lt rest =
    let words = flat_map word_bytes ns in
    let apart : (word_bytes (length ns) ++ words) ++ rest ≡ word_bytes (length ns) ++ (words ++ rest) = append_assoc (word_bytes (length ns)) words rest in
    let counted = ap word_at apart ∙ word_at_again (length ns) (words ++ rest) lt in
    let long : ltb (length (words ++ rest)) (4 * length ns) ≡ false = le-ltb _ _ (omega (arith, length-append words rest, length-words ns)) in
    rw (counted, long, numbers_again ns rest small, drop_at words rest (4 * length ns) (length-words ns)) refl

pub text_again : (text : List ℕ) → length text < 2 ^ 32 → Reads text_at (text_bytes text) text
unfolding text_at text_bytes
text_again text lt rest =
    let apart : (word_bytes (length text) ++ text) ++ rest ≡ word_bytes (length text) ++ (text ++ rest) = append_assoc (word_bytes (length text)) text rest in
    let counted = ap word_at apart ∙ word_at_again (length text) (text ++ rest) lt in
    let long : ltb (length (text ++ rest)) (length text) ≡ false = le-ltb _ _ (omega (arith, length-append text rest)) in
    rw (counted, long, take_at text rest (length text) refl, drop_at text rest (length text) refl) refl

-- ---- things of one size

pub length-fixed : {A B : Type 0} (size : ℕ) (read : List ℕ → B) (bytes : A → List ℕ) (view : A → B) (xs : List A) → AllByRecursion (λ x. ReadsFixed size read (bytes x) (view x)) xs → length (flat_map bytes xs) ≡ size * length xs
length-fixed size read bytes view [] h = omega arith
length-fixed size read bytes view (x ∷ xs) h =
    let l = length-append (bytes x) (flat_map bytes xs) in
    let one = h.0.size_is in
    let more = length-fixed size read bytes view xs h.1 in
    l ∙ ap (λ (n : ℕ). n + length (flat_map bytes xs)) one ∙ ap (λ (n : ℕ). size + n) more ∙ omega arith

pub each_again : {A B : Type 0} (size : ℕ) (read : List ℕ → B) (bytes : A → List ℕ) (view : A → B) (xs : List A) (rest : List ℕ) → AllByRecursion (λ x. ReadsFixed size read (bytes x) (view x)) xs → each size read (length xs) (flat_map bytes xs ++ rest) ≡ map view xs
each_again size read bytes view [] rest h = refl
each_again size read bytes view (x ∷ xs) rest h =
    let tail = flat_map bytes xs ++ rest in
    let apart : (bytes x ++ flat_map bytes xs) ++ rest ≡ bytes x ++ tail = append_assoc (bytes x) (flat_map bytes xs) rest in
    let one : read ((bytes x ++ flat_map bytes xs) ++ rest) ≡ view x = ap read apart ∙ h.0.again tail in
    let more : drop size ((bytes x ++ flat_map bytes xs) ++ rest) ≡ tail = ap (λ (b : List ℕ). drop size b) apart ∙ drop_at (bytes x) tail size h.0.size_is in
    rw (one, more, each_again size read bytes view xs rest h.1) refl

pub counted_again : {A B : Type 0} (size : ℕ) (read : List ℕ → B) (bytes : A → List ℕ) (view : A → B) (xs : List A) → AllByRecursion (λ x. ReadsFixed size read (bytes x) (view x)) xs → length xs < 2 ^ 32 → Reads (counted_at size read) (word_bytes (length xs) ++ flat_map bytes xs) (map view xs)
unfolding counted_at
counted_again size read bytes view xs h lt rest =
    let body = flat_map bytes xs in
    let apart : (word_bytes (length xs) ++ body) ++ rest ≡ word_bytes (length xs) ++ (body ++ rest) = append_assoc (word_bytes (length xs)) body rest in
    let counted = ap word_at apart ∙ word_at_again (length xs) (body ++ rest) lt in
    let len = length-fixed size read bytes view xs h in
    let long : ltb (length (body ++ rest)) (size * length xs) ≡ false = le-ltb _ _ (omega (arith, length-append body rest)) in
    rw (counted, long, each_again size read bytes view xs rest h, drop_at body rest (size * length xs) len) refl

-- ---- things of different sizes

pub many_in_again : {A B : Type 0} (read : List ℕ → Option (B × List ℕ)) (bytes : A → List ℕ) (view : A → B) (xs : List A) (rest : List ℕ) → AllByRecursion (λ x. Reads read (bytes x) (view x)) xs → many_in read (length xs) (flat_map bytes xs ++ rest) ≡ map view xs
many_in_again read bytes view [] rest h = refl
many_in_again read bytes view (x ∷ xs) rest h =
    let tail = flat_map bytes xs ++ rest in
    let apart : (bytes x ++ flat_map bytes xs) ++ rest ≡ bytes x ++ tail = append_assoc (bytes x) (flat_map bytes xs) rest in
    let one : read ((bytes x ++ flat_map bytes xs) ++ rest) ≡ Some (view x, tail) = ap read apart ∙ h.0 tail in
    rw (one, many_in_again read bytes view xs rest h.1) refl

pub past_many_again : {A B : Type 0} (read : List ℕ → Option (B × List ℕ)) (bytes : A → List ℕ) (view : A → B) (xs : List A) (rest : List ℕ) → AllByRecursion (λ x. Reads read (bytes x) (view x)) xs → past_many read (length xs) (flat_map bytes xs ++ rest) ≡ Some rest
past_many_again read bytes view [] rest h = refl
past_many_again read bytes view (x ∷ xs) rest h =
    let tail = flat_map bytes xs ++ rest in
    let apart : (bytes x ++ flat_map bytes xs) ++ rest ≡ bytes x ++ tail = append_assoc (bytes x) (flat_map bytes xs) rest in
    let one : read ((bytes x ++ flat_map bytes xs) ++ rest) ≡ Some (view x, tail) = ap read apart ∙ h.0 tail in
    rw (one, past_many_again read bytes view xs rest h.1) refl

pub many_again : {A B : Type 0} (read : List ℕ → Option (B × List ℕ)) (bytes : A → List ℕ) (view : A → B) (xs : List A) → AllByRecursion (λ x. Reads read (bytes x) (view x)) xs → length xs < 2 ^ 32 → Reads (many_at read) (word_bytes (length xs) ++ flat_map bytes xs) (map view xs)
unfolding many_at
many_again read bytes view xs h lt rest =
    let body = flat_map bytes xs in
    let apart : (word_bytes (length xs) ++ body) ++ rest ≡ word_bytes (length xs) ++ (body ++ rest) = append_assoc (word_bytes (length xs)) body rest in
    let counted = ap word_at apart ∙ word_at_again (length xs) (body ++ rest) lt in
    rw (counted, past_many_again read bytes view xs rest h, many_in_again read bytes view xs rest h) refl

-- ---- all that can be read

-- more turns than there are things read them all
many_in_all : {A B : Type 0} (read : List ℕ → Option (B × List ℕ)) (bytes : A → List ℕ) (view : A → B) (xs : List A) (n : ℕ) → read [] ≡ None → AllByRecursion (λ x. Reads read (bytes x) (view x)) xs → length xs ≤ n → many_in read n (flat_map bytes xs) ≡ map view xs
many_in_all read bytes view [] zero none h le = refl
many_in_all read bytes view [] (suc n) none h le = rw none refl
many_in_all read bytes view (x ∷ xs) zero none h le = absurd (omega arith)
many_in_all read bytes view (x ∷ xs) (suc n) none h le = rw (h.0 (flat_map bytes xs), many_in_all read bytes view xs n none h.1 (omega arith)) refl

left_by_all : {A B : Type 0} (read : List ℕ → Option (B × List ℕ)) (bytes : A → List ℕ) (view : A → B) (xs : List A) (n : ℕ) → read [] ≡ None → AllByRecursion (λ x. Reads read (bytes x) (view x)) xs → length xs ≤ n → left_by read n (flat_map bytes xs) ≡ []
left_by_all read bytes view [] zero none h le = refl
left_by_all read bytes view [] (suc n) none h le = rw none refl
left_by_all read bytes view (x ∷ xs) zero none h le = absurd (omega arith)
left_by_all read bytes view (x ∷ xs) (suc n) none h le = rw (h.0 (flat_map bytes xs), left_by_all read bytes view xs n none h.1 (omega arith)) refl

pub all_again : {A B : Type 0} (read : List ℕ → Option (B × List ℕ)) (bytes : A → List ℕ) (view : A → B) (xs : List A) → read [] ≡ None → AllByRecursion (λ x. Reads read (bytes x) (view x)) xs → length xs ≤ length (flat_map bytes xs) → all_at read (flat_map bytes xs) ≡ (map view xs, [])
unfolding all_at
all_again read bytes view xs none h le =
    rw (many_in_all read bytes view xs (length (flat_map bytes xs)) none h le, left_by_all read bytes view xs (length (flat_map bytes xs)) none h le) refl
