-- The first word is the command.
use Rattle.std.proofs.Common.{◌≡◌, ◌∙◌, ◌⊎◌, ℕ, Bool, cond, zero, suc, length, List, [], ◌∷◌, None, Some, Option, true, false, refl, sym, ap, subst, codes, inl, inr}
use Rattle.std.specs.Prelude.{IfSome, fold, option_and_then, if◌then◌else◌, slice_get}
use Rattle.std.specs.Option.{option_map, option_map_or}
use Rattle.std.specs.Str.{bytes_eq, chars}
use Rattle.std.proofs.lemmas.Slice.Eq.{bytes_eq-Decides}
use Rattle.clap.specs.Lexer.{long_of, short_of}
use Rattle.clap.specs.Kinds.{or_else}
use Rattle.clap.specs.Faults.{bundle_fault, bundle_step_fault, fault_of, flag_word_fault, flags_fault, other_fault, step_fault, turn_fault, walk_fault}
use Rattle.clap.specs.Walk.{Held, Names, Row, Text, Waiting, Walk, after_flag, bundle_met, bundle_step, first_of, idle, is_empty, long_or_other, nothing_held, plain, short_or_plain, subcommand_met, subcommand_or_other, trailing, walk_from, walked}
use Rattle.clap.specs.Simple.{Shape, built, entered, names_of, rows_at, subcommand_of}
use Rattle.m3c_words.specs.Orders.{Order, build, run, exec, dump, bench, inspect}
use Rattle.m3c_words.specs.Grammar.{bench_command, build_command, dump_command, exec_command, grammar, inspect_command, run_command}
use Rattle.m3c_words.specs.Asked.{asked, files_in, number_of, options_at, options_in, order_in, parsed, word_in}
use Rattle.m3c_words.specs.Sentences.{BeginsWithCommand, command_asked}
use Rattle.m3c_words.proofs.Behind.{behind, exec_entered, inspect_entered, run_entered, leaf, parsed_order, rows_by, stops_with}
use Rattle.m3c_words.proofs.Named.{asked_none, first_none}
use Rattle.m3c_words.proofs.InRange.{then_any}

-- ---- a word that is no command

abbrev top : Shape
top = (built grammar).top

abbrev commands : Names
commands = names_of (built grammar)

bundle_refused : (k : ℕ) (flags word : Text) → or_else (flags_fault [] false k flags 0 nothing_held)
    (step_fault top 1 (after_flag [] idle word (bundle_met [] k flags 0 plain nothing_held).0 (bundle_met [] k flags 0 plain nothing_held).1).0
    (after_flag [] idle word (bundle_met [] k flags 0 plain nothing_held).0 (bundle_met [] k flags 0 plain nothing_held).1).1) ≡ [] → ⊥
unfolding flags_fault bundle_met grammar
bundle_refused zero flags word e = cc
bundle_refused (suc k) flags word e = go (slice_get (chars flags) 0) e
  where
    go : (x : Option ℕ) → or_else (bundle_step_fault [] false x flags 0 nothing_held (flags_fault [] false k))
        (step_fault top 1 (after_flag [] idle word (bundle_step [] x flags 0 plain nothing_held (bundle_met [] k)).0 (bundle_step [] x flags 0 plain nothing_held (bundle_met [] k)).1).0
        (after_flag [] idle word (bundle_step [] x flags 0 plain nothing_held (bundle_met [] k)).0 (bundle_step [] x flags 0 plain nothing_held (bundle_met [] k)).1).1) ≡ [] → ⊥
    go None e = cc
    go (Some x) e = cc

short_refused : (flags : Option Text) (word : Text) → or_else (option_map_or (λ f. bundle_fault [] false f nothing_held) flags [])
    (step_fault top 1 (short_or_plain [] idle word flags nothing_held).0 (short_or_plain [] idle word flags nothing_held).1) ≡ [] → ⊥
unfolding grammar
short_refused None word e = cc
short_refused (Some flags) word e = bundle_refused (length flags) flags word e

long_refused : (long : Option (Text × Option Text)) (word : Text) → or_else (flag_word_fault [] false long word nothing_held)
    (step_fault top 1 (long_or_other [] idle word long nothing_held).0 (long_or_other [] idle word long nothing_held).1) ≡ [] → ⊥
unfolding grammar
long_refused (Some p) word e = cc
long_refused None word e = short_refused (short_of word) word e

word_refused : (b : Bool) (word : Text) → or_else (if b then [] else flag_word_fault [] false (long_of word) word nothing_held)
    (step_fault top 1 (if b then (nothing_held, trailing 1) else long_or_other [] idle word (long_of word) nothing_held).0
    (if b then (nothing_held, trailing 1) else long_or_other [] idle word (long_of word) nothing_held).1) ≡ [] → b ≡ true
unfolding grammar
word_refused true word e = refl
word_refused false word e = absurd (long_refused (long_of word) word e)

turn_refused : (o : Option Text) (word : Text) → o ≡ None → or_else (other_fault top o word nothing_held)
    (step_fault top 1 (subcommand_or_other [] o idle 1 word nothing_held).0 (subcommand_or_other [] o idle 1 word nothing_held).1) ≡ [] → bytes_eq word (codes "--") ≡ true
unfolding grammar
turn_refused (Some name) word none e = cc
turn_refused None word none e = word_refused (bytes_eq word (codes "--")) word e

trailing_stays : (words : List Text) (h : Held) (waiting : Waiting) (p : ℕ) → fold (walked [] commands) (behind h waiting p) words ≡ behind h waiting p
unfolding walked
trailing_stays [] h waiting p = refl
trailing_stays (word ∷ words) h waiting p = trailing_stays words h waiting p

parsed_nothing : (b : Bool) (found : Option (Text × List Row)) (f : Text × List Row → Option Order) (order : Order) → found ≡ None → option_and_then f (cond b found None) ≡ Some order → ⊥
parsed_nothing true found f order e asks = let none : None ≡ Some order = sym (ap (option_and_then f) e) ∙ asks in cc
parsed_nothing false found f order e asks = cc

dashes_entered : (words : List Text) → subcommand_of grammar (codes "--" ∷ words) ≡ None
unfolding grammar walked
dashes_entered words = ap (λ (w : Walk). entered (built grammar) w.stopped) (trailing_stays words nothing_held idle 1)

dashes_ask : (words : List Text) (order : Order) → asked (codes "--" ∷ words) ≡ Some order → ⊥
unfolding parsed
dashes_ask words order e = parsed_nothing (is_empty (fault_of grammar (codes "--" ∷ words))) (subcommand_of grammar (codes "--" ∷ words)) _ order (dashes_entered words) e

turn_none : (word : Text) (words : List Text) (order : Order) → asked (word ∷ words) ≡ Some order → turn_fault top commands (walk_from nothing_held) word ≡ []
unfolding walk_fault grammar
turn_none word words order e = first_none (turn_fault top commands (walk_from nothing_held) word) _
    (first_none (walk_fault top commands (walk_from nothing_held) (word ∷ words)) _ (asked_none (word ∷ words) order e))

no_command : (word : Text) (words : List Text) (order : Order) → subcommand_met commands idle word ≡ None → asked (word ∷ words) ≡ Some order → ⊥
unfolding grammar
no_command word words order none e =
    let is : word ≡ codes "--" = (bytes_eq-Decides word (codes "--")).0 (turn_refused (subcommand_met commands idle word) word none (turn_none word words order e)) in
    dashes_ask words order (subst (λ (first : Text). asked (first ∷ words) ≡ Some order) is e)

-- ---- a word that is one

build_entered : (words : List Text) → subcommand_of grammar (codes "build" ∷ words) ≡ Some (rows_at (leaf build_command) words)
unfolding grammar walked
build_entered words = ap (entered (built grammar)) (stops_with nothing_held idle 1 false (codes "build") [] words)

dump_entered : (words : List Text) → subcommand_of grammar (codes "dump" ∷ words) ≡ Some (rows_at (leaf dump_command) words)
unfolding grammar walked
dump_entered words = ap (entered (built grammar)) (stops_with nothing_held idle 1 false (codes "dump") [] words)

bench_entered : (words : List Text) → subcommand_of grammar (codes "bench" ∷ words) ≡ Some (rows_at (leaf bench_command) words)
unfolding grammar walked
bench_entered words = ap (entered (built grammar)) (stops_with nothing_held idle 1 false (codes "bench") [] words)

order_of_rows : (name : Text) (words : List Text) (rows : List Row) (order : Order) → subcommand_of grammar (name ∷ words) ≡ Some (name, rows) → asked (name ∷ words) ≡ Some order → order_in name rows ≡ Some order
unfolding parsed
order_of_rows name words rows order e asks = parsed_order (is_empty (fault_of grammar (name ∷ words))) (subcommand_of grammar (name ∷ words)) name rows order e asks

-- the command of an order
abbrev IsOf : Text → Order → Type 0
IsOf name order = command_asked order ≡ name

module _ {X : Type 0} where
  named : {name : Text} (f : X → Order) (o : Option X) → ((x : X) → IsOf name (f x)) → IfSome (option_map f o) (IsOf name)
  named f None k = tt
  named f (Some x) k = k x

build_is : (rows : List Row) → IfSome (order_in (codes "build") rows) (IsOf (codes "build"))
unfolding order_in
build_is rows = then_any (word_in (codes "IMAGE") rows) _ (IsOf (codes "build")) (λ image. named (build image) (files_in rows) (λ files. refl))

run_is : (rows : List Row) → IfSome (order_in (codes "run") rows) (IsOf (codes "run"))
unfolding order_in
run_is rows = then_any (word_in (codes "IMAGE") rows) _ (IsOf (codes "run")) (λ image. named (run image) (options_in rows) (λ options. refl))

exec_is : (rows : List Row) → IfSome (order_in (codes "exec") rows) (IsOf (codes "exec"))
unfolding order_in
exec_is rows = then_any (files_in rows) _ (IsOf (codes "exec")) (λ files. named (exec files) (options_in rows) (λ options. refl))

dump_is : (rows : List Row) → IfSome (order_in (codes "dump") rows) (IsOf (codes "dump"))
unfolding order_in
dump_is rows = named dump (word_in (codes "IMAGE") rows) (λ image. refl)

bench_is : (rows : List Row) → IfSome (order_in (codes "bench") rows) (IsOf (codes "bench"))
unfolding order_in
bench_is rows = named bench (option_and_then number_of (first_of (codes "N") rows)) (λ number. refl)

inspect_is : (rows : List Row) → IfSome (order_in (codes "inspect") rows) (IsOf (codes "inspect"))
unfolding order_in
inspect_is rows = then_any (word_in (codes "IMAGE") rows) _ (IsOf (codes "inspect")) (λ image. named (inspect image) (options_at rows) (λ options. refl))

some_is : (o : Option Order) (name : Text) (order : Order) → IfSome o (IsOf name) → o ≡ Some order → name ≡ command_asked order
some_is o name order p e = sym (subst (λ (x : Option Order). IfSome x (IsOf name)) e p)

test_of : (name word : Text) → (name ≡ word) ⊎ (bytes_eq name word ≡ false)
test_of name word = go (bytes_eq name word) refl
  where
    go : (b : Bool) → bytes_eq name word ≡ b → (name ≡ word) ⊎ (bytes_eq name word ≡ false)
    go true e = inl ((bytes_eq-Decides name word).0 e)
    go false e = inr e

begins : (name word : Text) (words : List Text) (order : Order) → name ≡ word → (asked (name ∷ words) ≡ Some order → name ≡ command_asked order) → asked (word ∷ words) ≡ Some order → BeginsWithCommand (word ∷ words) order
begins name word words order is k e = (words, ap (λ (first : Text). first ∷ words) (sym is ∙ k (subst (λ (first : Text). asked (first ∷ words) ≡ Some order) (sym is) e)))

none_met : (word : Text) → bytes_eq (codes "build") word ≡ false → bytes_eq (codes "run") word ≡ false → bytes_eq (codes "exec") word ≡ false → bytes_eq (codes "dump") word ≡ false
    → bytes_eq (codes "bench") word ≡ false → bytes_eq (codes "inspect") word ≡ false → subcommand_met commands idle word ≡ None
unfolding grammar
none_met word a b c d e f = rw (a, b, c, d, e, f) refl

first_asked : (word : Text) (words : List Text) (order : Order) → asked (word ∷ words) ≡ Some order → BeginsWithCommand (word ∷ words) order
first_asked word words order asks =
    elim (test_of (codes "build") word) [
      | inl is ↦ begins _ word words order is (λ e. some_is _ _ order (build_is (rows_by build_command words)) (order_of_rows (codes "build") words _ order (build_entered words) e)) asks
      | inr a ↦ elim (test_of (codes "run") word) [
        | inl is ↦ begins _ word words order is (λ e. some_is _ _ order (run_is (rows_by run_command words)) (order_of_rows (codes "run") words _ order (run_entered words) e)) asks
        | inr b ↦ elim (test_of (codes "exec") word) [
          | inl is ↦ begins _ word words order is (λ e. some_is _ _ order (exec_is (rows_by exec_command words)) (order_of_rows (codes "exec") words _ order (exec_entered words) e)) asks
          | inr c ↦ elim (test_of (codes "dump") word) [
            | inl is ↦ begins _ word words order is (λ e. some_is _ _ order (dump_is (rows_by dump_command words)) (order_of_rows (codes "dump") words _ order (dump_entered words) e)) asks
            | inr d ↦ elim (test_of (codes "bench") word) [
              | inl is ↦ begins _ word words order is (λ e. some_is _ _ order (bench_is (rows_by bench_command words)) (order_of_rows (codes "bench") words _ order (bench_entered words) e)) asks
              | inr e ↦ elim (test_of (codes "inspect") word) [
                | inl is ↦ begins _ word words order is (λ e. some_is _ _ order (inspect_is (rows_by inspect_command words)) (order_of_rows (codes "inspect") words _ order (inspect_entered words) e)) asks
                | inr f ↦ absurd (no_command word words order (none_met word a b c d e f) asks)
              ]
            ]
          ]
        ]
      ]
    ]

nothing_asked : (order : Order) → asked [] ≡ Some order → ⊥
unfolding parsed grammar walked
nothing_asked order e = parsed_nothing (is_empty (fault_of grammar [])) None (λ (found : Text × List Row). order_in found.0 found.1) order refl e

pub begins_with_command : (words : List Text) (order : Order) → asked words ≡ Some order → BeginsWithCommand words order
begins_with_command [] order e = absurd (nothing_asked order e)
begins_with_command (word ∷ words) order e = first_asked word words order e
