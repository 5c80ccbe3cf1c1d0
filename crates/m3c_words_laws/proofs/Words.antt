-- The forms that a word has.
use Rattle.std.proofs.Common.{◌≡◌, ◌∙◌, ◌==◌, ◌||◌, ℕ, Bool, zero, suc, List, [], ◌∷◌, ◌++◌, None, true, false, refl, sym, subst, codes, inl, inr, ◌⊎◌, eqb-true, arith}
use Rattle.std.specs.List.{list_any}
use Rattle.std.specs.Str.{bytes_eq}
use Rattle.std.proofs.lemmas.Bool.Decides.{nat_tests}
use Rattle.clap.proofs.CutLemmas.{Lacks}
use Rattle.std.proofs.lemmas.Slice.Eq.{bytes_eq-Decides}
use Rattle.clap.specs.Lexer.{long_of, short_of}
use Rattle.clap.specs.Walk.{Text, is_empty}
use Rattle.m3c_words_laws.specs.Reads.{IsOneOf, is_free}

pub data View : Text → Type 0 where
  free : (word : Text) → is_free word ≡ true → long_of word ≡ None → short_of word ≡ None → bytes_eq word (codes "--") ≡ false → View word
  dashes : View (codes "--")
  long : (x : ℕ) (text : Text) → View (45 ∷ 45 ∷ x ∷ text)
  flags : (b : ℕ) (bytes : Text) → (b == 45) ≡ false → View (45 ∷ b ∷ bytes)

no_minus : (b : ℕ) (bytes : Text) → (b == 45) ≡ false → View (b ∷ bytes)
no_minus b bytes e = free (b ∷ bytes) (rw e refl) (rw e refl) (rw e refl) (rw e refl)

behind_minus : (bytes : Text) → View (45 ∷ bytes)
behind_minus [] = free (45 ∷ []) refl refl refl refl
behind_minus (b ∷ bytes) = go (b == 45) refl bytes
  where
    two : (bytes : Text) → View (45 ∷ 45 ∷ bytes)
    two [] = dashes
    two (x ∷ text) = long x text

    go : (t : Bool) → (b == 45) ≡ t → (bytes : Text) → View (45 ∷ b ∷ bytes)
    go true e bytes = subst (λ (x : ℕ). View (45 ∷ x ∷ bytes)) (sym (eqb-true b 45 e)) (two bytes)
    go false e bytes = flags b bytes e

pub view : (word : Text) → View word
view [] = free [] refl refl refl refl
view (b ∷ bytes) = go (b == 45) refl
  where
    go : (t : Bool) → (b == 45) ≡ t → View (b ∷ bytes)
    go true e = subst (λ (x : ℕ). View (x ∷ bytes)) (sym (eqb-true b 45 e)) (behind_minus bytes)
    go false e = no_minus b bytes e

pub false_true : false ≡ true → ⊥
false_true e = cc

pub some_bytes : (b : ℕ) (bytes : Text) → is_empty (b ∷ bytes) ≡ true → ⊥
some_bytes b bytes e = grind (arith, nat_tests)

long_free : (x : ℕ) (text : Text) → is_free (45 ∷ 45 ∷ x ∷ text) ≡ true → ⊥
long_free x text e = some_bytes 45 (x ∷ text) e

pub flags_free : (b : ℕ) (bytes : Text) → is_free (45 ∷ b ∷ bytes) ≡ true → ⊥
flags_free b bytes e = some_bytes b bytes e

-- what a free word is to clap
pub record IsFree (word : Text) : Type 0 where
  pub long : long_of word ≡ None
  pub short : short_of word ≡ None
  pub ends : bytes_eq word (codes "--") ≡ false

pub free_word : (word : Text) → is_free word ≡ true → IsFree word
free_word word e = go word (view word) e
  where
    go : (word : Text) → View word → is_free word ≡ true → IsFree word
    go word (free w f l s d) e = record { long = l; short = s; ends = d }
    go word dashes e = absurd (false_true e)
    go word (long x text) e = absurd (long_free x text e)
    go word (flags b bytes n) e = absurd (flags_free b bytes e)

-- ---- names and values

-- a text has no `=`, or is cut at its first one
pub data Cut : Text → Type 0 where
  whole : (text : Text) → Lacks 61 text → Cut text
  at_equals : (name value : Text) → Lacks 61 name → Cut (name ++ 61 ∷ value)

lacks_none : Lacks 61 []
lacks_none i within is = omega (arith, within)

lacks_more : (x : ℕ) (text : Text) → (x == 61) ≡ false → Lacks 61 text → Lacks 61 (x ∷ text)
lacks_more x text e lacks zero within is = let same : x ≡ 61 = is in grind (arith, nat_tests)
lacks_more x text e lacks (suc i) within is = lacks i (omega (arith, within)) is

-- a test of it
pub lacks_equals : (text : Text) → list_any (λ x. x == 61) text ≡ false → Lacks 61 text
lacks_equals [] e = lacks_none
lacks_equals (x ∷ text) e = go (x == 61) refl e (lacks_equals text)
  where
    go : (t : Bool) → (x == 61) ≡ t → (t || list_any (λ y. y == 61) text) ≡ false → (list_any (λ y. y == 61) text ≡ false → Lacks 61 text) → Lacks 61 (x ∷ text)
    go true is e further = absurd (false_true (sym e))
    go false is e further = lacks_more x text is (further e)

cut_more : (x : ℕ) (text : Text) → (x == 61) ≡ false → Cut text → Cut (x ∷ text)
cut_more x text e (whole t lacks) = whole (x ∷ t) (lacks_more x t e lacks)
cut_more x text e (at_equals name value lacks) = at_equals (x ∷ name) value (lacks_more x name e lacks)

pub cut : (text : Text) → Cut text
cut [] = whole [] lacks_none
cut (x ∷ text) = go (x == 61) refl (cut text)
  where
    go : (t : Bool) → (x == 61) ≡ t → Cut text → Cut (x ∷ text)
    go true e rest = subst (λ (b : ℕ). Cut (b ∷ text)) (sym (eqb-true x 61 e)) (at_equals [] text lacks_none)
    go false e rest = cut_more x text e rest

-- ---- options

pub differs : (a b : Text) → (b ≡ a → ⊥) → bytes_eq a b ≡ false
differs a b h = go (bytes_eq a b) refl
  where
    go : (t : Bool) → bytes_eq a b ≡ t → t ≡ false
    go true e = absurd (h (sym ((bytes_eq-Decides a b).0 e)))
    go false e = refl

pub same_text : (a : Text) → bytes_eq a a ≡ true
same_text a = (bytes_eq-Decides a a).1 refl

pub one_of : (name : Text) (names : List Text) → IsOneOf name names ⊎ (IsOneOf name names → ⊥)
one_of name [] = inr (λ h. h)
one_of name (other ∷ names) = go (bytes_eq name other) refl (one_of name names)
  where
    go : (t : Bool) → bytes_eq name other ≡ t → IsOneOf name names ⊎ (IsOneOf name names → ⊥) → IsOneOf name (other ∷ names) ⊎ (IsOneOf name (other ∷ names) → ⊥)
    go true e rest = inl (inl ((bytes_eq-Decides name other).0 e))
    go false e (inl h) = inl (inr h)
    go false e (inr none) = inr (λ h. elim h [ inl is ↦ false_true (sym e ∙ (bytes_eq-Decides name other).1 is) | inr k ↦ none k ])
