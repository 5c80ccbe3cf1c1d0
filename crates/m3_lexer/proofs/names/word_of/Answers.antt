use Rattle.std.proofs.Common.{◌≡◌, ℕ, true, false, List, Some, inl, inr, get_or, sym, ap, subst, ◌∙◌, arith}
use Rattle.std.specs.Prelude.{slice_get}
use Rattle.std.specs.Str.{bytes_eq}
use Rattle.std.proofs.lemmas.Bool.{cases_lt}
use Rattle.std.proofs.lemmas.Option.{get_or_from_slice_get}
use Rattle.std.proofs.lemmas.Slice.Eq.{bytes_eq-Decides}
use Rattle.m3_syntax.specs.declared.tokens.Word.{Word}
use Rattle.m3_syntax.specs.declared.tokens.Word.TheVariants.{And}
use Rattle.m3_syntax.specs.Spellings.{text_of_word}
use Rattle.m3_lexer.specs.declared.names.TheConstants.{WORDS}
use Rattle.m3_lexer.proofs.Listed.{listed}
use Rattle.m3_lexer.proofs.names.word_of.Goals as goal

pub returns-clause-none : goal.returns-clause-none
returns-clause-none c = λ w. let place = listed w in c.loop-word.invariant place.0 w (omega arith) place.2

-- a name that isn't written as a word is not that word
other : (name written : List ℕ) (w : Word) → written ≡ text_of_word w → bytes_eq name written ≡ false → name ≡ text_of_word w → ⊥
other name written w is differs same =
    let equal : bytes_eq name written ≡ true = (bytes_eq-Decides name written).1 (same ∙ sym is) in
    cc

pub loop-word-preserved : goal.loop-word-preserved
loop-word-preserved c = λ k w lt e eq.
    elim (cases_lt k c.loop-word.word-index) [
      | inl below ↦ c.loop-word.invariant k w below e eq
      | inr above ↦
          let here : k ≡ c.loop-word.word-index = omega arith in
          let item : get_or WORDS c.loop-word.word-index And ≡ w = get_or_from_slice_get WORDS c.loop-word.word-index w And (subst (λ (i : ℕ). slice_get WORDS i ≡ Some w) here e) in
          let is : c.text.result.now ≡ text_of_word (get_or WORDS c.loop-word.word-index And) = c.text.ensures in
          other c.args.name.now c.text.result.now w (is ∙ ap text_of_word item) (sym c.eq.ensures ∙ c.if-eq.false) eq
    ]
