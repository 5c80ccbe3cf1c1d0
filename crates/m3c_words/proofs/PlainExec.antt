-- The words `exec FILE`, where FILE doesn't begin with `-`, ask for a run within the usual limits.
use Rattle.std.proofs.Common.{◌≡◌, ◌∙◌, ◌==◌, ◌&&◌, ℕ, Bool, cond, not, length, arith, List, [], ◌∷◌, None, Some, true, false, refl, ap, ap₂, codes}
use Rattle.std.proofs.lemmas.Bool.Decides.{nat_tests}
use Rattle.std.specs.Prelude.{option_and_then}
use Rattle.std.specs.Str.{bytes_eq}
use Rattle.clap.specs.Lexer.{long_of, short_of}
use Rattle.clap.specs.Kinds.{Kinds, or_else}
use Rattle.clap.specs.Faults.{check_fault, defaults_fault, fault_of, level_fault, settle_fault, turn_fault, walk_fault}
use Rattle.clap.specs.Walk.{Row, Text, Walk, finished, is_empty, nothing_held, positional, settled, walk_from, walked}
use Rattle.clap.specs.Simple.{Shape, built, filled_from, names_of, rows_at, subcommand_of}
use Rattle.clap.specs.declared.parser.matches.ValueSource.TheVariants.{CommandLine}
use Rattle.clap.specs.declared.builder.value_parser.Reading.TheVariants.{AsWritten}
use Rattle.m3c_words.specs.Orders.{exec}
use Rattle.m3c_words.specs.Grammar.{exec_command, grammar}
use Rattle.m3c_words.specs.Asked.{asked, order_in, parsed, usual_options}

-- the command `exec` as clap builds it
abbrev leaf : Shape
leaf = record exec_command {
  rules = filled_from 1 exec_command.rules;
  no_binary_name = true;
  disable_help_subcommand = true;
  is_built = true;
}

-- the word is plain: no option, and not `--`
record IsPlainWord (word : Text) : Type 0 where
  long : long_of word ≡ None
  short : short_of word ≡ None
  ends : bytes_eq word (45 ∷ 45 ∷ []) ≡ false

plain_word : (b : ℕ) (bytes : List ℕ) → (b == 45) ≡ false → IsPlainWord (b ∷ bytes)
plain_word b bytes e = record { long = rw e refl; short = rw e refl; ends = rw e refl }

-- where the walk over the words of `exec` stands behind such a word
abbrev behind : Text → Walk
behind word = record {
  held = record { rows = []; pending = Some (codes "FILE", word ∷ []); skip = 0 };
  waiting = positional;
  position = 1;
  is_trailing = false;
  stopped = None;
}

word_walked : (word : Text) → IsPlainWord word → walked leaf.rules [] (walk_from nothing_held) word ≡ behind word
unfolding walked
word_walked word plain = rw (plain.ends, plain.long, plain.short) refl

word_taken : (word : Text) → IsPlainWord word → turn_fault leaf [] (walk_from nothing_held) word ≡ []
word_taken word plain = rw (plain.ends, plain.long, plain.short) refl

-- the faults of the words of `exec`, by those of the one word and where the walk then stands
abbrev faults_behind : Kinds → Walk → Kinds
faults_behind first w = or_else (or_else first (walk_fault leaf [] w []))
    (or_else [] (or_else (settle_fault leaf.rules leaf.args_override_self w.held)
    (or_else (defaults_fault (settled leaf.rules w.held).rows leaf.rules) (check_fault leaf (finished leaf.rules w.held) false))))

leaf_fault : (word : Text) → IsPlainWord word → level_fault leaf [] nothing_held (word ∷ []) false [] ≡ []
unfolding walk_fault defaults_fault
leaf_fault word plain = ap₂ faults_behind (word_taken word plain) (word_walked word plain)

abbrev row : Text → Row
row word = record { id = codes "FILE"; values = word ∷ []; count = None; source = Some CommandLine; reading = AsWritten }

leaf_rows : (word : Text) → IsPlainWord word → rows_at leaf (word ∷ []) ≡ (codes "exec", row word ∷ [])
leaf_rows word plain = ap (λ (w : Walk). (leaf.name, finished leaf.rules w.held)) (word_walked word plain)

abbrev faults_above : Text → Kinds → Kinds
faults_above word below = level_fault (built grammar).top (names_of (built grammar)) nothing_held (codes "exec" ∷ word ∷ []) true below

no_fault : (word : Text) → IsPlainWord word → fault_of grammar (codes "exec" ∷ word ∷ []) ≡ []
unfolding grammar walked walk_fault defaults_fault
no_fault word plain = ap (faults_above word) (leaf_fault word plain)

entered_exec : (word : Text) → subcommand_of grammar (codes "exec" ∷ word ∷ []) ≡ Some (rows_at leaf (word ∷ []))
unfolding grammar walked
entered_exec word = refl

exec_parsed : (word : Text) → IsPlainWord word → parsed (codes "exec" ∷ word ∷ []) ≡ Some (codes "exec", row word ∷ [])
unfolding parsed
exec_parsed word plain =
    ap (λ (kinds : Kinds). cond (is_empty kinds) (subcommand_of grammar (codes "exec" ∷ word ∷ [])) None) (no_fault word plain)
    ∙ entered_exec word ∙ ap (λ (found : Text × List Row). Some found) (leaf_rows word plain)

some_bytes : (b : ℕ) (bytes : List ℕ) → (length (b ∷ bytes) == 0) ≡ false
some_bytes b bytes = grind (arith, nat_tests)

ordered : (b : ℕ) (bytes : List ℕ) → order_in (codes "exec") (row (b ∷ bytes) ∷ []) ≡ Some (exec ((b ∷ bytes) ∷ []) usual_options)
unfolding order_in
ordered b bytes = ap (λ (empty : Bool). option_and_then (λ (files : List Text). Some (exec files usual_options)) (cond (not empty && true) (Some ((b ∷ bytes) ∷ [])) None)) (some_bytes b bytes)

pub exec_asked : (b : ℕ) (bytes : List ℕ) → (b == 45) ≡ false → asked (codes "exec" ∷ (b ∷ bytes) ∷ []) ≡ Some (exec ((b ∷ bytes) ∷ []) usual_options)
exec_asked b bytes e =
    ap (option_and_then (λ (found : Text × List Row). order_in found.0 found.1)) (exec_parsed (b ∷ bytes) (plain_word b bytes e)) ∙ ordered b bytes
