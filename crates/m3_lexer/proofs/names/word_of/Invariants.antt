use Rattle.std.proofs.Common.{◌≢◌, ℕ, ◌<◌, ◌≡◌, Some}
use Rattle.std.specs.Prelude.{slice_get}
use Rattle.m3_syntax.specs.declared.tokens.Word.{Word}
use Rattle.m3_syntax.specs.Spellings.{text_of_word}
use Rattle.m3_lexer.specs.declared.names.TheConstants.{WORDS}
use Rattle.m3_lexer.proofs.names.word_of.Given as goal

-- none of the words so far is written so
abbrev pub invariant-loop-word : goal.invariant-loop-word
invariant-loop-word l = (k : ℕ) (w : Word) → k < l.word-index → slice_get WORDS k ≡ Some w → l.name ≢ text_of_word w
