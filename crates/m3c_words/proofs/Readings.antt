-- The words and the numbers of a command line.
use Rattle.std.proofs.Common.{◌≡◌, ◌∙◌, ◌<◌, ◌^◌, ◌==◌, ◌&&◌, ℕ, Bool, cond, true, false, List, [], ◌∷◌, length, drop, Option, None, Some, Result, Ok, Err, refl, sym, ap, subst, inl, inr, codes, arith, nat_lt, lt-ltb, ltb-true, eqb-true, ap₂, map, nat_le}
use Rattle.std.proofs.lemmas.List.{length-map}
use Rattle.std.proofs.lemmas.Str.Parse.{digit_from_value}
use Rattle.std.proofs.lemmas.Bool.Decides.{nat_tests}
use Rattle.std.specs.List.{list_all}
use Rattle.std.specs.Option.{option_map}
use Rattle.std.specs.Prelude.{Box, option_and_then, slice_index}
use Rattle.std.specs.Result.{OkIff, result_ok}
use Rattle.std.proofs.lemmas.List.Folds.{list_all-map}
use Rattle.std.proofs.lemmas.Slice.Eq.{bytes_eq-Decides}
use Rattle.std.specs.Borrow.{Bor}
use Rattle.std.specs.Box.{box_value}
use Rattle.std.specs.Char.{digit_value}
use Rattle.std.specs.Str.{bytes_eq}
use Rattle.std.specs.Str.Parse.{AllDigits, IsNumeral, ParsesUnsigned, digits_value, without_leading_plus}
use Rattle.clap.specs.Values.{kind_of}
use Rattle.clap.specs.ValueTests.{is_numeral}
use Rattle.clap.specs.Walk.{Row, Text, all_of, is_empty}
use Rattle.clap.specs.Simple.{App, HasMatchesOf, app_of, subcommand_of, subcommand_rows, subcommand_rows_of}
use Rattle.clap.specs.Faults.{fault_of, is_simple_and_free}
use Rattle.clap.specs.Kinds.{HasKind, IsAmong, Kinds}
use Rattle.clap.specs.declared.builder.command.Command.{Command}
use Rattle.clap.specs.declared.error.Error.{Error}
use Rattle.clap.specs.declared.error.kind.ErrorKind.{ErrorKind}
use Rattle.clap.specs.declared.error.kind.ErrorKind.TheVariants.{OutOfMemory}
use Rattle.clap.specs.declared.parser.matches.ArgMatches.{ArgMatches}
use Rattle.clap.specs.declared.parser.matches.ArgMatches.TheViews.{out-SubCommand}
use Rattle.clap.specs.declared.parser.matches.SubCommand.{SubCommand}
use Rattle.clap.proofs.WalkLemmas.{both}
use Rattle.m3c_words.specs.Grammar.{grammar}
use Rattle.m3c_words.specs.Built.{ReadsBy}
use Rattle.m3c_words.specs.Asked.{as_files, bench_in, build_in, dump_in, exec_in, files_in, inspect_in, is_named, most_files, number_of, order_in, parsed, run_in}
use Rattle.m3c_words.proofs.Grammars.{is_simple_grammar}

-- ---- numbers

digits_are : (ds : List ℕ) → list_all (λ d. nat_lt (digit_value d) 10) ds ≡ true → AllDigits 10 ds
digits_are [] e = tt
digits_are (d ∷ ds) e =
    let parts = both _ _ e in
    (ltb-true _ _ parts.0, digits_are ds parts.1)

are_digits : (ds : List ℕ) → AllDigits 10 ds → list_all (λ d. nat_lt (digit_value d) 10) ds ≡ true
are_digits [] h = refl
are_digits (d ∷ ds) h = rw (lt-ltb (digit_value d) 10 h.0) (are_digits ds h.1)

numeral_is : (ds : List ℕ) → is_numeral ds ≡ true → IsNumeral 10 ds
numeral_is ds e =
    let parts = both _ _ e in
    (ltb-true _ _ parts.0, digits_are ds parts.1)

pub said_number : (ds : List ℕ) → IsNumeral 10 ds → digits_value 10 ds < 2 ^ 64 → number_of ds ≡ Some (digits_value 10 ds)
said_number ds h low = rw (lt-ltb _ _ h.0, are_digits ds h.1, lt-ltb _ _ low) refl

pub no_number : (ds : List ℕ) → (IsNumeral 10 ds × (digits_value 10 ds < 2 ^ 64) → ⊥) → number_of ds ≡ None
no_number ds h = go (is_numeral ds && nat_lt (digits_value 10 ds) (2 ^ 64)) refl
  where
    go : (b : Bool) → (is_numeral ds && nat_lt (digits_value 10 ds) (2 ^ 64)) ≡ b → cond b (Some (digits_value 10 ds)) None ≡ None
    go false e = refl
    go true e =
        let parts = both _ _ e in
        absurd (h (numeral_is ds parts.0, ltb-true _ _ parts.1))

without_plus : (ds : List ℕ) → (slice_index ds 0 == 43) ≡ false → without_leading_plus ds ≡ ds
without_plus [] e = refl
without_plus (d ∷ ds) e = ap (λ (b : Bool). drop (cond b 1 0) (d ∷ ds)) e

-- `parse` reads a number where no plus stands before it
pub number_read : {E : Type 0} (ds : List ℕ) (r : Result ℕ E) → (slice_index ds 0 == 43) ≡ false → ParsesUnsigned 64 10 ds r → result_ok r ≡ number_of ds
number_read ds r e h = go r (subst (λ (t : List ℕ). OkIff r (IsNumeral 10 t × (digits_value 10 t < 2 ^ 64)) (digits_value 10 t)) (without_plus ds e) h)
  where
    go : {E : Type 0} (r : Result ℕ E) → OkIff r (IsNumeral 10 ds × (digits_value 10 ds < 2 ^ 64)) (digits_value 10 ds) → result_ok r ≡ number_of ds
    go (Ok x) h = ap (λ (n : ℕ). Some n) h.1 ∙ sym (said_number ds h.0.0 h.0.1)
    go (Err x) h = sym (no_number ds h)

pub plus_is_none : (ds : List ℕ) → (slice_index ds 0 == 43) ≡ true → number_of ds ≡ None
plus_is_none [] e = refl
plus_is_none (d ∷ ds) e = no_number (d ∷ ds) (λ h.
    let plus : d ≡ 43 = eqb-true d 43 e in
    absurd (omega (arith, digit_from_value d h.0.1.0)))

-- ---- the FILEs

pub files_are : (rows : List Row) (words : List (Bor Text)) → Some (map (λ w. w.now) words) ≡ all_of (codes "FILE") rows
    → files_in rows ≡ cond (nat_le (length words) most_files && list_all (λ (w : Bor Text). is_named w.now) words) (Some (map (λ w. w.now) words)) None
files_are rows words e = ap (option_and_then as_files) (sym e)
    ∙ ap₂ (λ (n : ℕ) (b : Bool). cond (nat_le n most_files && b) (Some (map (λ w. w.now) words)) None) (length-map words (λ w. w.now)) (list_all-map is_named (λ (w : Bor Text). w.now) words)

-- ---- names of commands

other : (a b : List ℕ) → (a ≡ b → ⊥) → bytes_eq a b ≡ false
other a b h = go (bytes_eq a b) refl
  where
    go : (t : Bool) → bytes_eq a b ≡ t → t ≡ false
    go true e = absurd (h ((bytes_eq-Decides a b).0 e))
    go false e = refl

pub order_of_build : (rows : List Row) → order_in (codes "build") rows ≡ build_in rows
unfolding order_in
order_of_build rows = refl

pub order_of_run : (rows : List Row) → order_in (codes "run") rows ≡ run_in rows
unfolding order_in
order_of_run rows = refl

pub order_of_exec : (rows : List Row) → order_in (codes "exec") rows ≡ exec_in rows
unfolding order_in
order_of_exec rows = refl

pub order_of_dump : (rows : List Row) → order_in (codes "dump") rows ≡ dump_in rows
unfolding order_in
order_of_dump rows = refl

pub order_of_bench : (rows : List Row) → order_in (codes "bench") rows ≡ bench_in rows
unfolding order_in
order_of_bench rows = refl

pub order_of_inspect : (rows : List Row) → order_in (codes "inspect") rows ≡ inspect_in rows
unfolding order_in
order_of_inspect rows = refl

pub order_of_none : (name : List ℕ) (rows : List Row) → (name ≡ codes "build" → ⊥) → (name ≡ codes "run" → ⊥) → (name ≡ codes "exec" → ⊥) → (name ≡ codes "dump" → ⊥) → (name ≡ codes "bench" → ⊥)
    → (name ≡ codes "inspect" → ⊥) → order_in name rows ≡ None
unfolding order_in
order_of_none name rows build run exec dump bench inspect =
    rw (other name (codes "build") build, other name (codes "run") run, other name (codes "exec") exec, other name (codes "dump") dump, other name (codes "bench") bench, other name (codes "inspect") inspect) refl

-- ---- what clap makes of words

module _ {Z : Type 0} where
  pub met : (o : Option (Box SubCommand Z)) (name : List ℕ) (rows : List Row) → Some name ≡ option_map (λ b. (out-SubCommand (box_value b)).name.now) o
      → Some rows ≡ option_map (λ p. p.1) (subcommand_rows o) → subcommand_rows o ≡ Some (name, rows)
  met None name rows named found = cc
  met (Some b) name rows named found = cc

pub not_met : {Z : Type 0} (o : Option (Box SubCommand Z)) → None ≡ option_map (λ b. (out-SubCommand (box_value b)).name.now) o → subcommand_rows o ≡ None
not_met None e = refl
not_met (Some b) e = cc

pub read : (words : List Text) (command : Command) (m : ArgMatches) → ReadsBy grammar command → HasMatchesOf (app_of command) words m
    → (is_simple_and_free (app_of command) ≡ true → fault_of (app_of command) words ≡ []) → parsed words ≡ subcommand_rows_of m
unfolding parsed
read words command m reads has free =
    let fits : is_simple_and_free (app_of command) ≡ true = ap is_simple_and_free reads.same ∙ is_simple_grammar in
    let none : fault_of grammar words ≡ [] = ap (λ (a : App). fault_of a words) (sym reads.same) ∙ free fits in
    let rows = (has (both _ _ fits).0).1 in
    ap (λ (kinds : Kinds). cond (is_empty kinds) (subcommand_of grammar words) None) none ∙ ap (λ (a : App). subcommand_of a words) (sym reads.same) ∙ sym rows

among_some : (k : ErrorKind) (kinds : Kinds) → IsAmong k kinds → is_empty kinds ≡ false
among_some k [] h = absurd h
among_some k (x ∷ xs) h = grind (arith, nat_tests)

pub unread : (words : List Text) (command : Command) (e : Error) → ReadsBy grammar command
    → (is_simple_and_free (app_of command) ≡ true → HasKind (fault_of (app_of command) words) e) → (kind_of e ≡ OutOfMemory → ⊥) → parsed words ≡ None
unfolding parsed
unread words command e reads fails memory =
    let fits : is_simple_and_free (app_of command) ≡ true = ap is_simple_and_free reads.same ∙ is_simple_grammar in
    elim (subst (λ (a : App). HasKind (fault_of a words) e) reads.same (fails fits)) [
      | inl lack ↦ absurd (memory lack)
      | inr among ↦ rw (among_some (kind_of e) (fault_of grammar words) among) refl
    ]
