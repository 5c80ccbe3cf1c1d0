-- The stack at hand among the others.
use Rattle.std.proofs.Common.{◌≡◌, ℕ, zero, suc, ◌+◌, ◌-◌, ◌*◌, ◌/◌, ◌%◌, ◌^◌, ◌<◌, ◌≤◌, true, false, ◌&&◌, nat_le, nat_lt, cond, List, [], ◌∷◌, length, Some, None, refl, sym, ap, subst, ◌∙◌, inl, inr, arith, Vec, Global, length-set}
use Rattle.std.specs.Prelude.{slice_get, slice_set, slice_index, slice_index_or, vec_capacity}
use Rattle.std.proofs.lemmas.Option.{slice_get-get_or}
use Rattle.std.proofs.lemmas.Bool.{cases_lt, le-ltb}
use Rattle.std.proofs.lemmas.Bool.Decides.{nat_tests}
use Rattle.m3_threads.specs.PlacesInside.{HaveRoom, contents}
use Rattle.m3_threads.specs.Spaces.{slot_at, place_at}
use Rattle.m3_threads.specs.Stacked.{Stacked, AreStacks, is_in, word_in, put_in}
use Rattle.m3_threads.proofs.StackWords.{set_stack, count-contents, room-set, Fits, none-either, word-within}

abbrev pub stacked : ℕ → List (List ℕ) → Stacked
stacked depth words = record { depth = depth; words = words }

-- ---- one stack of a list

pub set-again : {A : Type 0} (xs : List A) (k : ℕ) (a b : A) → slice_set (slice_set xs k a) k b ≡ slice_set xs k b
set-again [] k a b = refl
set-again (x ∷ xs) zero a b = refl
set-again (x ∷ xs) (suc k) a b = ap (λ ys. x ∷ ys) (set-again xs k a b)

pub set-own : {A : Type 0} (xs : List A) (k : ℕ) (a : A) → a ≡ slice_index_or xs k a → slice_set xs k a ≡ xs
set-own [] k a e = refl
set-own (x ∷ xs) zero a e = ap (λ y. y ∷ xs) e
set-own (x ∷ xs) (suc k) a e = ap (λ ys. x ∷ ys) (set-own xs k a e)

pub set-apart : {A : Type 0} (xs : List A) (j k : ℕ) (a b : A) → (j ≡ k → ⊥) → slice_set (slice_set xs k b) j a ≡ slice_set (slice_set xs j a) k b
set-apart [] j k a b ne = refl
set-apart (x ∷ xs) zero zero a b ne = absurd (ne refl)
set-apart (x ∷ xs) zero (suc k) a b ne = refl
set-apart (x ∷ xs) (suc j) zero a b ne = refl
set-apart (x ∷ xs) (suc j) (suc k) a b ne = ap (λ ys. x ∷ ys) (set-apart xs j k a b (λ e. ne (ap suc e)))

get-own : {A : Type 0} (xs : List A) (k : ℕ) (a : A) → k < length xs → slice_get (slice_set xs k a) k ≡ Some a
get-own [] k a l = absurd (omega arith)
get-own (x ∷ xs) zero a l = refl
get-own (x ∷ xs) (suc k) a l = get-own xs k a (omega arith)

get-other : {A : Type 0} (xs : List A) (k j : ℕ) (a : A) → (j ≡ k → ⊥) → slice_get (slice_set xs k a) j ≡ slice_get xs j
get-other [] k j a ne = refl
get-other (x ∷ xs) zero zero a ne = absurd (ne refl)
get-other (x ∷ xs) zero (suc j) a ne = refl
get-other (x ∷ xs) (suc k) zero a ne = refl
get-other (x ∷ xs) (suc k) (suc j) a ne = get-other xs k j a (λ e. ne (ap suc e))

pub at-own : (xs : List (List ℕ)) (k : ℕ) (ws : List ℕ) → k < length xs → slice_index_or (slice_set xs k ws) k [] ≡ ws
at-own [] k ws l = absurd (omega arith)
at-own (x ∷ xs) zero ws l = refl
at-own (x ∷ xs) (suc k) ws l = at-own xs k ws (omega arith)

pub at-other : (xs : List (List ℕ)) (k j : ℕ) (ws : List ℕ) → (j ≡ k → ⊥) → slice_index_or (slice_set xs k ws) j [] ≡ slice_index_or xs j []
at-other [] k j ws ne = refl
at-other (x ∷ xs) zero zero ws ne = absurd (ne refl)
at-other (x ∷ xs) zero (suc j) ws ne = refl
at-other (x ∷ xs) (suc k) zero ws ne = refl
at-other (x ∷ xs) (suc k) (suc j) ws ne = at-other xs k j ws (λ e. ne (ap suc e))

-- a word that is there, by whatever stands for one past the end
pub there-is : (ws : List ℕ) (p : ℕ) (d : ℕ) → p < length ws → slice_index_or ws p d ≡ slice_index ws p
there-is [] p d l = absurd (omega arith)
there-is (x ∷ xs) zero d l = refl
there-is (x ∷ xs) (suc p) d l = there-is xs p d (omega arith)

-- ---- another stack is taken in hand

-- one is put back and another taken: together they are as before
pub handed : (xs : List (Vec ℕ Global)) (from to : ℕ) (near away next : Vec ℕ Global) → next ≡ slice_index_or (slice_set xs from near) to next
    → slice_set (slice_set (slice_set xs from near) to away) to next ≡ slice_set xs from near
handed xs from to near away next e = set-again (slice_set xs from near) to away next ∙ set-own (slice_set xs from near) to next e

-- the stack that is at hand then, and what it may become
pub near-is : (o o' : List (Vec ℕ Global)) (n n' : Vec ℕ Global) (s to : ℕ) → slice_set o' to n' ≡ slice_set o s n → to < length o'
    → n'.items ≡ slice_index_or (contents (slice_set o s n)) to []
near-is o o' n n' s to whole l =
    let count = count-contents o' in
    sym (at-own (contents o') to n'.items (omega arith)) ∙ ap (λ st. slice_index_or st to []) (sym (set_stack o' to n') ∙ ap contents whole)

pub near-fits : (d : ℕ) (o o' : List (Vec ℕ Global)) (n n' : Vec ℕ Global) (s to : ℕ) → HaveRoom d (slice_set o s n) → slice_set o' to n' ≡ slice_set o s n → to < length o'
    → Fits d n'
near-fits d o o' n n' s to room whole l = room to n' (ap (λ xs. slice_get xs to) (sym whole) ∙ get-own o' to n' l)

pub changed : (d : ℕ) (o o' : List (Vec ℕ Global)) (n n' m : Vec ℕ Global) (s b to b' : ℕ) → AreStacks d o n s b → slice_set o' to n' ≡ slice_set o s n
    → slice_index_or (contents o') to [] ≡ [] → length o' ≡ length o → to < length o → b' ≡ 2 ^ 40 * (to + 1) → Fits d m → AreStacks d o' m to b'
changed d o o' n n' m s b to b' are whole blank same l begins fits = record {
  few = let few = are.few in omega (arith, same);
  within = omega (arith, same);
  begins = begins;
  small = are.small;
  blank = blank;
  room = subst (HaveRoom d) (sym (sym (set-again o' to n' m) ∙ ap (λ xs. slice_set xs to m) whole)) (room-set d (slice_set o s n) to m are.room fits);
}

pub replaced : (o o' : List (Vec ℕ Global)) (n n' m : Vec ℕ Global) (s to : ℕ) → slice_set o' to n' ≡ slice_set o s n
    → contents (slice_set o' to m) ≡ slice_set (contents (slice_set o s n)) to m.items
replaced o o' n n' m s to whole =
    ap contents (sym (set-again o' to n' m) ∙ ap (λ xs. slice_set xs to m) whole) ∙ set_stack (slice_set o s n) to m

-- what holds where the stack of a slot was brought
pub record Brought (d : ℕ) (o o' : List (Vec ℕ Global)) (n' : Vec ℕ Global) (to : ℕ) (words : List (List ℕ)) : Type 0 where
  pub within : to < length o
  pub same : length o' ≡ length o
  pub fits : Fits d n'
  pub near : n'.items ≡ slice_index_or words to []

pub brought : (d : ℕ) (o o' : List (Vec ℕ Global)) (n n' : Vec ℕ Global) (s b to : ℕ) (words : List (List ℕ)) → AreStacks d o n s b → contents (slice_set o s n) ≡ words
    → slice_set o' to n' ≡ slice_set o s n → length o' ≡ length o → to < length words → Brought d o o' n' to words
brought d o o' n n' s b to words are view whole same l =
    let count = count-contents (slice_set o s n) in
    let long = length-set o s n in
    let all = ap (λ st. length st) view in
    let low : to < length o = omega (arith, count, long, all, l) in
    let low' : to < length o' = omega (arith, low, same) in
    record {
      within = low;
      same = same;
      fits = near-fits d o o' n n' s to are.room whole low';
      near = near-is o o' n n' s to whole low' ∙ ap (λ st. slice_index_or st to []) view;
    }

-- ---- an address in the stack at hand

abbrev pub distance : ℕ → ℕ → ℕ
distance at base = (at + (18446744073709551616 - base)) % 18446744073709551616

-- what the stack at hand has by its invariant
pub record Grown (st : List (List ℕ)) (ws : List ℕ) (s : ℕ) : Type 0 where
  pub few : length st ≤ 64
  pub within : s < length st
  pub small : length ws ≤ 2 ^ 20

pub grown : (d : ℕ) (o : List (Vec ℕ Global)) (n : Vec ℕ Global) (s b : ℕ) → AreStacks d o n s b → Grown (contents o) n.items s
grown d o n s b are =
    let count = count-contents o in
    let few = are.few in
    let within = are.within in
    let small = are.small in
    let room = (are.room s n (get-own o s n within)).1 in
    record { few = omega (arith, count, few); within = omega (arith, count, within); small = omega (arith, small, room) }

pub near-room : (d : ℕ) (o : List (Vec ℕ Global)) (n : Vec ℕ Global) (s b : ℕ) → AreStacks d o n s b → Fits d n
near-room d o n s b are = are.room s n (get-own o s n are.within)

-- where a slot's stack is near
pub record IsNear (st : List (List ℕ)) (s at p : ℕ) : Type 0 where
  pub here : is_in st at ≡ true
  pub slot : slot_at at ≡ s
  pub place : place_at at ≡ p

pub near-word : (o : List (List ℕ)) (ws : List ℕ) (s b at : ℕ) → length o ≤ 64 → s < length o → b ≡ 2 ^ 40 * (s + 1) → length ws ≤ 2 ^ 20 → at < 2 ^ 64
    → distance at b < length ws → IsNear (slice_set o s ws) s at (distance at b)
near-word o ws s b at few within begins small fits hit =
    let st = slice_set o s ws in
    let far : b + distance at b ≡ at = elim (cases_lt at b) [
      | inl below ↦ absurd (omega arith)
      | inr above ↦ omega arith
    ] in
    let slot : at / 2 ^ 40 - 1 ≡ s = omega (arith, far) in
    let place : at % 2 ^ 40 ≡ distance at b = omega (arith, far) in
    let long = ap (λ us. length us) (at-own o s ws within) in
    let own : at % 2 ^ 40 < length (slice_index_or st s []) = omega (arith, long, place) in
    let inside : at % 2 ^ 40 < length (slice_index_or st (at / 2 ^ 40 - 1) []) = subst (λ k. at % 2 ^ 40 < length (slice_index_or st k [])) (sym slot) own in
    let low : at / 2 ^ 40 - 1 < 64 = omega (arith, slot) in
    let high : 2 ^ 40 ≤ at = omega (arith, far) in
    record { here = grind (arith, nat_tests); slot = slot; place = place }

pub near-loads : (o : List (List ℕ)) (ws : List ℕ) (s at p : ℕ) → s < length o → IsNear (slice_set o s ws) s at p
    → word_in (slice_set o s ws) at ≡ Some (slice_index ws p)
near-loads o ws s at p within near =
    let st = slice_set o s ws in
    ap (λ b. cond b (Some (slice_index (slice_index_or st (slot_at at) []) (place_at at))) None) near.here
    ∙ ap (λ k. Some (slice_index (slice_index_or st k []) (place_at at))) near.slot
    ∙ ap (λ q. Some (slice_index (slice_index_or st s []) q)) near.place
    ∙ ap (λ us. Some (slice_index us p)) (at-own o s ws within)

pub near-puts : (o : List (List ℕ)) (ws : List ℕ) (s at p word : ℕ) → s < length o → IsNear (slice_set o s ws) s at p
    → put_in (slice_set o s ws) at word ≡ slice_set (slice_set o s ws) s (slice_set ws p word)
near-puts o ws s at p word within near =
    let st = slice_set o s ws in
    ap (λ b. cond b (slice_set st (slot_at at) (slice_set (slice_index_or st (slot_at at) []) (place_at at) word)) st) near.here
    ∙ ap (λ k. slice_set st k (slice_set (slice_index_or st k []) (place_at at) word)) near.slot
    ∙ ap (λ q. slice_set st s (slice_set (slice_index_or st s []) q word)) near.place
    ∙ ap (λ us. slice_set st s (slice_set us p word)) (at-own o s ws within)

-- ---- an address elsewhere

-- an address in one of the others isn't in the slot of the stack at hand
pub apart : (o : List (List ℕ)) (s at : ℕ) → slice_index_or o s [] ≡ [] → is_in o at ≡ true → slot_at at ≡ s → ⊥
apart o s at blank there e =
    let within = (word-within o at there).1 in
    let none = ap (λ k. length (slice_index_or o k [])) e ∙ ap (λ us. length us) blank in
    absurd (omega (arith, within, none))

pub same-elsewhere : (o : List (List ℕ)) (ws : List ℕ) (s at : ℕ) → (slot_at at ≡ s → ⊥) → is_in (slice_set o s ws) at ≡ is_in o at
same-elsewhere o ws s at ne =
    ap (λ us. nat_le (2 ^ 40) at && (nat_lt (slot_at at) 64 && nat_lt (place_at at) (length us))) (at-other o s (slot_at at) ws ne)

pub word-elsewhere : (o : List (List ℕ)) (ws : List ℕ) (s at : ℕ) → (slot_at at ≡ s → ⊥) → is_in o at ≡ true
    → word_in (slice_set o s ws) at ≡ Some (slice_index (slice_index_or o (slot_at at) []) (place_at at))
word-elsewhere o ws s at ne there =
    ap (λ b. cond b (Some (slice_index (slice_index_or (slice_set o s ws) (slot_at at) []) (place_at at))) None) (same-elsewhere o ws s at ne ∙ there)
    ∙ ap (λ us. Some (slice_index us (place_at at))) (at-other o s (slot_at at) ws ne)

pub put-elsewhere : (o : List (List ℕ)) (ws : List ℕ) (s at word : ℕ) → (slot_at at ≡ s → ⊥) → is_in o at ≡ true
    → put_in (slice_set o s ws) at word ≡ slice_set (slice_set o (slot_at at) (slice_set (slice_index_or o (slot_at at) []) (place_at at) word)) s ws
put-elsewhere o ws s at word ne there =
    let st = slice_set o s ws in
    ap (λ b. cond b (slice_set st (slot_at at) (slice_set (slice_index_or st (slot_at at) []) (place_at at) word)) st) (same-elsewhere o ws s at ne ∙ there)
    ∙ ap (λ us. slice_set st (slot_at at) (slice_set us (place_at at) word)) (at-other o s (slot_at at) ws ne)
    ∙ set-apart o (slot_at at) s (slice_set (slice_index_or o (slot_at at) []) (place_at at) word) ws ne

-- an address that is neither near nor in one of the others
near-past : (o : List (List ℕ)) (ws : List ℕ) (s b at : ℕ) → length o ≤ 64 → s < length o → b ≡ 2 ^ 40 * (s + 1) → at < 2 ^ 64
    → length ws ≤ distance at b → slot_at at ≡ s → is_in (slice_set o s ws) at ≡ false
near-past o ws s b at few within begins fits past slot =
    let st = slice_set o s ws in
    elim (cases_lt at (2 ^ 40)) [
      | inl below ↦ grind (arith, nat_tests)
      | inr above ↦
          let long = ap (λ k. length (slice_index_or st k [])) slot ∙ ap (λ us. length us) (at-own o s ws within) in
          let behind : length (slice_index_or st (at / 2 ^ 40 - 1) []) ≤ at % 2 ^ 40 = omega (arith, long, slot, begins, past, few, within) in
          none-either (nat_le (2 ^ 40) at) (nat_lt (at / 2 ^ 40 - 1) 64) (nat_lt (at % 2 ^ 40) (length (slice_index_or st (at / 2 ^ 40 - 1) []))) (le-ltb (at % 2 ^ 40) (length (slice_index_or st (at / 2 ^ 40 - 1) [])) behind)
    ]

pub nowhere : (o : List (List ℕ)) (ws : List ℕ) (s b at : ℕ) → length o ≤ 64 → s < length o → b ≡ 2 ^ 40 * (s + 1) → at < 2 ^ 64
    → length ws ≤ distance at b → is_in o at ≡ false → is_in (slice_set o s ws) at ≡ false
nowhere o ws s b at few within begins fits past none = elim (cases_lt (slot_at at) s) [
  | inl below ↦ same-elsewhere o ws s at (λ e. absurd (omega (arith, e, below))) ∙ none
  | inr up ↦ elim (cases_lt s (slot_at at)) [
    | inl above ↦ same-elsewhere o ws s at (λ e. absurd (omega (arith, e, above))) ∙ none
    | inr down ↦ near-past o ws s b at few within begins fits past (omega (arith, up, down))
  ]
]

pub none-loads : (st : List (List ℕ)) (at : ℕ) → is_in st at ≡ false → word_in st at ≡ None
none-loads st at none = ap (λ b. cond b (Some (slice_index (slice_index_or st (slot_at at) []) (place_at at))) None) none

pub none-puts : (st : List (List ℕ)) (at word : ℕ) → is_in st at ≡ false → put_in st at word ≡ st
none-puts st at word none = ap (λ b. cond b (slice_set st (slot_at at) (slice_set (slice_index_or st (slot_at at) []) (place_at at) word)) st) none

-- ---- a word of another stack is replaced

pub far-set : (d : ℕ) (o : List (Vec ℕ Global)) (n v w : Vec ℕ Global) (s b k : ℕ) → AreStacks d o n s b → (k ≡ s → ⊥) → k < length o → v ≡ slice_index_or o k v
    → vec_capacity w ≡ vec_capacity v → length w.items ≡ length v.items → AreStacks d (slice_set o k w) n s b
far-set d o n v w s b k are ne l is same-room same-length =
    let room = are.room k v (get-other o s k n ne ∙ slice_get-get_or o k v l ∙ ap Some (sym is)) in
    let long = length-set o k w in
    record {
      few = let few = are.few in omega (arith, long);
      within = let within = are.within in omega (arith, long);
      begins = are.begins;
      small = are.small;
      blank = ap (λ st. slice_index_or st s []) (set_stack o k w) ∙ at-other (contents o) k s w.items (λ e. ne (sym e)) ∙ are.blank;
      room = subst (HaveRoom d) (set-apart o k s w n ne) (room-set d (slice_set o s n) k w are.room (let a = room.0 in let c = room.1 in (omega (arith, same-room), omega (arith, same-length))));
    }
