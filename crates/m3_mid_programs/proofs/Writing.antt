-- What everybody writes into cells is the same in the source and in middle code.
use Rattle.std.proofs.Common.{◌≡◌, ℕ, zero, suc, ◌+◌, Bool, true, false, List, [], ◌∷◌, ◌++◌, Option, Some, None, refl, sym, ap, ◌∙◌, arith}
use Rattle.std.specs.Prelude.{◌==◌, ◌&&◌, ◌%◌, ◌/◌, if◌then◌else◌}
use Rattle.std.specs.Option.{option_map, option_or}
use Rattle.std.proofs.lemmas.Bool.Decides.{nat_tests}
use Rattle.m3_isa.specs.Arithmetic.{byte_in}
use Rattle.m3_mid_meaning.specs.Words.{Word, number, pointer, further, number_of, place_of, is_same_place, ◌>>=◌, Place, InCell}
use Rattle.m3_mid_meaning.specs.Memory as words
use Rattle.m3_mid_meaning.specs.Memory.{Around, constant_at, load, memory_with, byte_at, bytes_below, text_at}
use Rattle.m3_mid_programs.specs.Linked.{Linked}
use Rattle.m3_mid_programs.specs.Activations.{Memory, with_words}
use Rattle.m3_mid_programs.specs.Cells.{word_at, number_at, bytes_of, with_word}

-- ---- places

pub same_number : (c : ℕ) → (c == c) ≡ true
same_number c = grind (arith, nat_tests)

pub one_number : (c d : ℕ) → (c == d) ≡ true → c ≡ d
one_number c d e = grind (arith, nat_tests)

pub and_false : (b : Bool) → (b && false) ≡ false
and_false true = refl
and_false false = refl

-- a word is the address of no place in a cell, however far one goes from it
abbrev pub Elsewhere : ℕ → Word → Type 0
Elsewhere c at = (k q : ℕ) (place : Place) → place_of (further at k) ≡ Some place → is_same_place place (InCell c q) ≡ false

-- nor so far
abbrev pub NotAt : Word → Place → Type 0
NotAt at q = (place : Place) → place_of at ≡ Some place → is_same_place place q ≡ false

false_and : (b x : Bool) → b ≡ false → (b && x) ≡ false
false_and false x e = refl
false_and true x e = absurd (let bad : true ≡ false = e in cc)

-- whether a place, where there is one, is this one
abbrev pub is_there_at : Place → Option Place → Bool
is_there_at q None = false
is_there_at q (Some place) = is_same_place place q

pub in_another_cell : (c d : ℕ) → (d == c) ≡ false → Elsewhere c (pointer d)
in_another_cell c d differ k q place e = sym (ap (is_there_at (InCell c q)) e) ∙ false_and (d == c) _ differ

pub outside : (c address : ℕ) → Elsewhere c (number address)
outside c address k q place e = sym (ap (is_there_at (InCell c q)) e)

module _ (around : Around) (m : words.Memory) (q : Place) (w : Word) where
  abbrev After : words.Memory
  After = memory_with m q w

  loaded_at : (o : Option Place) → ((place : Place) → o ≡ Some place → is_same_place place q ≡ false) → (o >>= λ place. option_or (After.words place) (constant_at around place)) ≡ (o >>= λ place. option_or (m.words place) (constant_at around place))
  loaded_at None h = refl
  loaded_at (Some place) h = ap (λ (b : Bool). option_or (if b then Some w else m.words place) (constant_at around place)) (h place refl)

  -- what is loaded elsewhere is what it was
  load_elsewhere : (at : Word) → NotAt at q → load around After at ≡ load around m at
  load_elsewhere at h = loaded_at (place_of at) h

-- ---- what is read elsewhere stays

module _ (around : Around) (m : words.Memory) (c k : ℕ) (w : Word) (text : Word) (there : Elsewhere c text) where
  abbrev Stored : words.Memory
  Stored = memory_with m (InCell c k) w

  byte_stays : (n : ℕ) → byte_at around Stored text n ≡ byte_at around m text n
  byte_stays n = ap (λ o. o >>= number_of >>= λ bytes. Some (byte_in bytes (n % 8))) (load_elsewhere around m (InCell c k) w (further text (2 + n / 8)) (there (2 + n / 8) k))

  abbrev one_more : Option (List ℕ) → Option ℕ → Option (List ℕ)
  one_more front byte = front >>= λ front. option_map (λ byte. front ++ byte ∷ []) byte

  bytes_stay : (n : ℕ) → bytes_below around Stored text n ≡ bytes_below around m text n
  bytes_stay zero = refl
  bytes_stay (suc n) = ap (λ front. one_more front (byte_at around Stored text n)) (bytes_stay n) ∙ ap (one_more (bytes_below around m text n)) (byte_stays n)

  counted : (o : Option ℕ) → (o >>= bytes_below around Stored text) ≡ (o >>= bytes_below around m text)
  counted None = refl
  counted (Some n) = bytes_stay n

  text_stays : text_at around Stored text ≡ text_at around m text
  text_stays = ap (λ o. o >>= number_of >>= bytes_below around Stored text) (load_elsewhere around m (InCell c k) w (further text 1) (there 1 k)) ∙ counted (load around m (further text 1) >>= number_of)

-- ---- a word of a cell

-- so far behind the pointer to a cell is that word of the cell
abbrev pub Behind : ℕ → ℕ → Type 0
Behind c k = place_of (further (pointer c) k) ≡ Some (InCell c k)

here : (c k : ℕ) → (k == k) ≡ true → is_same_place (InCell c k) (InCell c k) ≡ true
here c k e = ap (λ b. b && (k == k)) (same_number c) ∙ e

or_none : {A : Type 0} (o : Option A) (x : A) → option_or o None ≡ Some x → o ≡ Some x
or_none None x e = absurd (let bad : None ≡ Some x = e in cc)
or_none (Some y) x e = e

module _ (linked : Linked) (m : Memory) (c k : ℕ) (w : Word) (behind : Behind c k) where
  abbrev pub With : Memory
  With = with_words m (memory_with m.words (InCell c k) w)

  -- where there is a word, there can be another
  pub written : (old : Word) → word_at linked m (pointer c) k ≡ Some old → with_word m (pointer c) k w ≡ Some With
  written old e =
      let found : m.words.words (InCell c k) ≡ Some old = or_none (m.words.words (InCell c k)) old (sym (ap (λ o. o >>= λ place. option_or (m.words.words place) (constant_at linked.around place)) behind) ∙ e) in
      ap (λ o. option_map (with_words m) (o >>= λ place. option_map (λ old. memory_with m.words place w) (m.words.words place))) behind
      ∙ ap (λ o. option_map (with_words m) (option_map (λ old. memory_with m.words (InCell c k) w) o)) found

  pub read_back : word_at linked With (pointer c) k ≡ Some w
  read_back =
      ap (λ o. o >>= λ place. option_or (With.words.words place) (constant_at linked.around place)) behind
      ∙ ap (λ (b : Bool). option_or (if b then Some w else m.words.words (InCell c k)) None) (here c k (same_number k))

  pub word_stays : (at : Word) (j : ℕ) → NotAt (further at j) (InCell c k) → word_at linked With at j ≡ word_at linked m at j
  word_stays at j h = load_elsewhere linked.around m.words (InCell c k) w (further at j) h

  pub number_stays : (at : Word) (j : ℕ) → NotAt (further at j) (InCell c k) → number_at linked With at j ≡ number_at linked m at j
  number_stays at j h = ap (λ o. o >>= number_of) (word_stays at j h)

  pub spelling_stays : (at : Word) → Elsewhere c at → bytes_of linked With at ≡ bytes_of linked m at
  spelling_stays at h = text_stays linked.around m.words c k w at h
