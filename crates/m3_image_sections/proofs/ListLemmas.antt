-- Things one after the other in bytes, by their places.
use Rattle.std.proofs.Common.{◌≡◌, ℕ, zero, suc, ◌+◌, ◌*◌, ◌-◌, ◌<◌, ◌≤◌, List, [], ◌∷◌, length, drop, Option, Some, None, ◌⊎◌, refl, sym, ap, ◌∙◌, inl, inr, arith, length-drop}
use Rattle.std.specs.List.{slice_get}
use Rattle.std.specs.Option.{option_map_or}
use Rattle.std.proofs.lemmas.Bool.{cases_lt, lt-ltb, le-ltb}
use Rattle.std.proofs.lemmas.List.{drop-drop}
use Rattle.std.proofs.lemmas.Option.{slice_get_past}
use Rattle.m3_tables.specs.Fields.{◌>>=◌, word_at, list_at}
use Rattle.m3_image_sections.specs.Fields.{each, many_in, past_many, left_by}
use Rattle.m3_image_sections.specs.Parts.{CellType, type_at}

-- ---- things of one size

pub length_each : {A : Type 0} (size : ℕ) (read : List ℕ → A) (n : ℕ) (bytes : List ℕ) → length (each size read n bytes) ≡ n
length_each size read zero bytes = refl
length_each size read (suc n) bytes = ap suc (length_each size read n (drop size bytes))

pub each_at : {A : Type 0} (size : ℕ) (read : List ℕ → A) (n : ℕ) (bytes : List ℕ) (k : ℕ) → k < n → slice_get (each size read n bytes) k ≡ Some (read (drop (size * k) bytes))
each_at size read zero bytes k h = absurd (omega arith)
each_at size read (suc n) bytes zero h = let e : size * 0 ≡ 0 = omega arith in rw e refl
each_at size read (suc n) bytes (suc k) h =
    let e : size + size * k ≡ size * suc k = omega arith in
    each_at size read n (drop size bytes) k (omega arith) ∙ ap (λ b. Some (read b)) (drop-drop (size * k) size bytes ∙ ap (λ (i : ℕ). drop i bytes) e)

pub each_past : {A : Type 0} (size : ℕ) (read : List ℕ → A) (n : ℕ) (bytes : List ℕ) (k : ℕ) → n ≤ k → slice_get (each size read n bytes) k ≡ None
each_past size read n bytes k h = let l = length_each size read n bytes in slice_get_past (each size read n bytes) k (omega arith)

-- ---- things of different sizes

-- nothing is left, so there is none at a later place
pub none_left : {A : Type 0} (xs : List A) (n i : ℕ) (total : Option A) → xs ≡ [] → slice_get xs (n - i) ≡ total → None ≡ total
none_left xs n i total e so_far = let gone : slice_get xs (n - i) ≡ None = rw e refl in sym gone ∙ so_far

pub past_step : {A : Type 0} (read : List ℕ → Option (A × List ℕ)) (count i : ℕ) (bytes after : List ℕ) (x : A) (total : Option (List ℕ)) → i < count → Some (x, after) ≡ read bytes → past_many read (count - i) bytes ≡ total → past_many read (count - (i + 1)) after ≡ total
past_step read count i bytes after x total lt h so_far =
    let k : count - i ≡ suc (count - (i + 1)) = omega arith in
    let one : past_many read (count - i) bytes ≡ past_many read (count - (i + 1)) after = rw (k, ← h) refl in
    sym one ∙ so_far

pub past_stop : {A : Type 0} (read : List ℕ → Option (A × List ℕ)) (count i : ℕ) (bytes : List ℕ) (total : Option (List ℕ)) → i < count → None ≡ read bytes → past_many read (count - i) bytes ≡ total → None ≡ total
past_stop read count i bytes total lt h so_far =
    let k : count - i ≡ suc (count - (i + 1)) = omega arith in
    let one : past_many read (count - i) bytes ≡ None = rw (k, ← h) refl in
    sym one ∙ so_far

pub past_end : {A : Type 0} (read : List ℕ → Option (A × List ℕ)) (count i : ℕ) (bytes : List ℕ) (total : Option (List ℕ)) → count ≤ i → past_many read (count - i) bytes ≡ total → Some bytes ≡ total
past_end read count i bytes total le so_far =
    let k : count - i ≡ 0 = omega arith in
    let one : past_many read (count - i) bytes ≡ Some bytes = rw k refl in
    sym one ∙ so_far

bind_some : {A B : Type 0} (o : Option A) (f : A → Option B) (y : B) → (o >>= f) ≡ Some y → (x : A) × (o ≡ Some x) × (f x ≡ Some y)
bind_some (Some x) f y e = (x, refl, e)
bind_some None f y e = absurd cc

-- where the bytes after them are there, so are all
pub length_all : {A : Type 0} (read : List ℕ → Option (A × List ℕ)) (n : ℕ) (bytes rest : List ℕ) → past_many read n bytes ≡ Some rest → length (many_in read n bytes) ≡ n
length_all read zero bytes rest e = refl
length_all read (suc n) bytes rest e =
    let x = bind_some (read bytes) (λ x. past_many read n x.1) rest e in
    rw x.1 (ap suc (length_all read n x.0.1 rest x.2))

-- ---- all that can be read, where each takes a byte at least

Shrinks : {A : Type 0} → (List ℕ → Option (A × List ℕ)) → Type 0
Shrinks {A = A} read = (bytes : List ℕ) (x : A × List ℕ) → read bytes ≡ Some x → length x.1 < length bytes

-- what is read, with the equation
pub known : {A : Type 0} (o : Option A) → (o ≡ None) ⊎ ((x : A) × (o ≡ Some x))
known None = inl refl
known (Some x) = inr (x, refl)

many_none : {A : Type 0} (read : List ℕ → Option (A × List ℕ)) (n : ℕ) (bytes : List ℕ) → read bytes ≡ None → many_in read n bytes ≡ []
many_none read zero bytes e = refl
many_none read (suc n) bytes e = rw e refl

many_some : {A : Type 0} (read : List ℕ → Option (A × List ℕ)) (n : ℕ) (bytes : List ℕ) (x : A × List ℕ) → read bytes ≡ Some x → many_in read (suc n) bytes ≡ x.0 ∷ many_in read n x.1
many_some read n bytes x e = rw e refl

-- how many may be read doesn't matter where it is enough
many_fuel : {A : Type 0} (read : List ℕ → Option (A × List ℕ)) → Shrinks read → (n m : ℕ) (bytes : List ℕ) → length bytes ≤ n → length bytes ≤ m → many_in read n bytes ≡ many_in read m bytes
unfolding Shrinks
many_fuel read s zero m bytes ln lm =
    elim (known (read bytes)) [ inl none ↦ sym (many_none read m bytes none) | inr some ↦ (let less = s bytes some.0 some.1 in absurd (omega arith)) ]
many_fuel read s (suc n) zero bytes ln lm =
    elim (known (read bytes)) [ inl none ↦ many_none read (suc n) bytes none | inr some ↦ (let less = s bytes some.0 some.1 in absurd (omega arith)) ]
many_fuel read s (suc n) (suc m) bytes ln lm =
    elim (known (read bytes)) [
      | inl none ↦ many_none read (suc n) bytes none ∙ sym (many_none read (suc m) bytes none)
      | inr some ↦
          let less = s bytes some.0 some.1 in
          many_some read n bytes some.0 some.1
          ∙ ap (λ xs. some.0.0 ∷ xs) (many_fuel read s n m some.0.1 (omega arith) (omega arith)) ∙ sym (many_some read m bytes some.0 some.1)
    ]

left_none : {A : Type 0} (read : List ℕ → Option (A × List ℕ)) (n : ℕ) (bytes : List ℕ) → read bytes ≡ None → left_by read n bytes ≡ bytes
left_none read zero bytes e = refl
left_none read (suc n) bytes e = rw e refl

left_some : {A : Type 0} (read : List ℕ → Option (A × List ℕ)) (n : ℕ) (bytes : List ℕ) (x : A × List ℕ) → read bytes ≡ Some x → left_by read (suc n) bytes ≡ left_by read n x.1
left_some read n bytes x e = rw e refl

left_fuel : {A : Type 0} (read : List ℕ → Option (A × List ℕ)) → Shrinks read → (n m : ℕ) (bytes : List ℕ) → length bytes ≤ n → length bytes ≤ m → left_by read n bytes ≡ left_by read m bytes
unfolding Shrinks
left_fuel read s zero m bytes ln lm =
    elim (known (read bytes)) [ inl none ↦ sym (left_none read m bytes none) | inr some ↦ (let less = s bytes some.0 some.1 in absurd (omega arith)) ]
left_fuel read s (suc n) zero bytes ln lm =
    elim (known (read bytes)) [ inl none ↦ left_none read (suc n) bytes none | inr some ↦ (let less = s bytes some.0 some.1 in absurd (omega arith)) ]
left_fuel read s (suc n) (suc m) bytes ln lm =
    elim (known (read bytes)) [
      | inl none ↦ left_none read (suc n) bytes none ∙ sym (left_none read (suc m) bytes none)
      | inr some ↦
          let less = s bytes some.0 some.1 in
          left_some read n bytes some.0 some.1 ∙ left_fuel read s n m some.0.1 (omega arith) (omega arith) ∙ sym (left_some read m bytes some.0 some.1)
    ]

pub length_many : {A : Type 0} (read : List ℕ → Option (A × List ℕ)) (n : ℕ) (bytes : List ℕ) → length (many_in read n bytes) ≤ n
length_many read zero bytes = omega arith
length_many read (suc n) bytes =
    elim (known (read bytes)) [
      | inl none ↦ (let e = many_none read (suc n) bytes none in rw e (omega arith))
      | inr some ↦ (let e = many_some read n bytes some.0 some.1 in let l = length_many read n some.0.1 in rw e (omega arith))
    ]

-- ---- types

word_shrinks : (bytes : List ℕ) (x : ℕ × List ℕ) → word_at bytes ≡ Some x → length x.1 < length bytes
unfolding word_at
word_shrinks bytes x e =
    elim (cases_lt (length bytes) 4) [
      | inl few ↦ (let t = lt-ltb (length bytes) 4 few in let gone = rw t at e in absurd cc)
      | inr enough ↦
          let t = le-ltb (length bytes) 4 enough in
          let found = rw t at e in
          let rest : x.1 ≡ drop 4 bytes = cc in
          let l = length-drop 4 bytes in
          rw rest (omega arith)
    ]

list_shrinks : (bytes : List ℕ) (x : List ℕ × List ℕ) → list_at bytes ≡ Some x → length x.1 < length bytes
unfolding list_at
list_shrinks bytes x e =
    let n = bind_some (word_at bytes) _ x e in
    let less = word_shrinks bytes n.0 n.1 in
    let count : ℕ = n.0.0 in
    let rest : List ℕ = n.0.1 in
    elim (cases_lt (length rest) (4 * count)) [
      | inl few ↦ (let t = lt-ltb (length rest) (4 * count) few in let gone = rw t at n.2 in absurd cc)
      | inr enough ↦
          let t = le-ltb (length rest) (4 * count) enough in
          let found = rw t at n.2 in
          let after : x.1 ≡ drop (4 * count) rest = cc in
          let l = length-drop (4 * count) rest in
          rw after (omega arith)
    ]

type_shrinks : Shrinks type_at
unfolding type_at Shrinks
type_shrinks bytes x e =
    let kind = bind_some (word_at bytes) _ x e in
    let parent = bind_some (word_at kind.0.1) _ x kind.2 in
    let words = bind_some (word_at parent.0.1) _ x parent.2 in
    let dims = bind_some (word_at words.0.1) _ x words.2 in
    let methods = bind_some (list_at dims.0.1) _ x dims.2 in
    let pointers = bind_some (list_at methods.0.1) _ x methods.2 in
    let a = word_shrinks bytes kind.0 kind.1 in
    let b = word_shrinks kind.0.1 parent.0 parent.1 in
    let c = word_shrinks parent.0.1 words.0 words.1 in
    let d = word_shrinks words.0.1 dims.0 dims.1 in
    let f = list_shrinks dims.0.1 methods.0 methods.1 in
    let g = list_shrinks methods.0.1 pointers.0 pointers.1 in
    let rest : pointers.0.1 ≡ x.1 = ap (λ (o : Option (CellType × List ℕ)). option_map_or (λ y. y.1) o []) pointers.2 in
    rw (← rest) (omega arith)

-- the types that bytes hold, by the first of them
pub types_none : (bytes : List ℕ) → None ≡ type_at bytes → many_in type_at (length bytes) bytes ≡ []
types_none bytes e = many_none type_at (length bytes) bytes (sym e)

pub types_some : (bytes after : List ℕ) (t : CellType) → Some (t, after) ≡ type_at bytes → many_in type_at (length bytes) bytes ≡ t ∷ many_in type_at (length after) after
unfolding Shrinks
types_some bytes after t e =
    let less = type_shrinks bytes (t, after) (sym e) in
    let l : suc (length bytes - 1) ≡ length bytes = omega arith in
    ap (λ n. many_in type_at n bytes) (sym l) ∙ many_some type_at (length bytes - 1) bytes (t, after) (sym e)
    ∙ ap (λ ts. t ∷ ts) (many_fuel type_at type_shrinks (length bytes - 1) (length after) after (omega arith) (omega arith))

pub rest_none : (bytes : List ℕ) → None ≡ type_at bytes → left_by type_at (length bytes) bytes ≡ bytes
rest_none bytes e = left_none type_at (length bytes) bytes (sym e)

pub rest_some : (bytes after : List ℕ) (t : CellType) → Some (t, after) ≡ type_at bytes → left_by type_at (length bytes) bytes ≡ left_by type_at (length after) after
unfolding Shrinks
rest_some bytes after t e =
    let less = type_shrinks bytes (t, after) (sym e) in
    let l : suc (length bytes - 1) ≡ length bytes = omega arith in
    ap (λ n. left_by type_at n bytes) (sym l) ∙ left_some type_at (length bytes - 1) bytes (t, after) (sym e)
    ∙ left_fuel type_at type_shrinks (length bytes - 1) (length after) after (omega arith) (omega arith)

pub type_less : (bytes after : List ℕ) (t : CellType) → Some (t, after) ≡ type_at bytes → length after < length bytes
unfolding Shrinks
type_less bytes after t e = type_shrinks bytes (t, after) (sym e)
