-- What words ask for is in range.
use Rattle.std.proofs.Common.{◌≡◌, ◌≤◌, ◌<◌, ◌^◌, ◌&&◌, ℕ, Bool, cond, length, arith, List, [], ◌∷◌, None, Some, Option, true, false, refl, codes, nat_le, nat_lt, leb-true, ltb-true}
use Rattle.std.specs.Prelude.{IfSome, option_and_then}
use Rattle.std.specs.List.{AllByRecursion, list_all}
use Rattle.std.specs.Option.{option_map}
use Rattle.std.specs.Str.{bytes_eq}
use Rattle.std.specs.Str.Parse.{digits_value}
use Rattle.clap.specs.ValueTests.{is_numeral}
use Rattle.clap.specs.Walk.{Row, Text, all_of, first_of, nonempty}
use Rattle.clap.proofs.WalkLemmas.{both}
use Rattle.m3c_words.specs.Orders.{Order, build, run, exec, dump, bench, inspect}
use Rattle.m3c_words.specs.Asked.{as_files, asked, at_in, bench_in, bounds_by, build_in, dump_in, exec_in, files_in, given_name, heap_in, inspect_in, is_named, limit_of, most_files, number_of, options_at, options_by, options_in, order_in, parsed, points_in, run_in, stack_in, threads_in, within, word_in}
use Rattle.m3c_words.specs.Sentences.{AreFiles, AreInRange, AreOptions, IsInRange, IsName}

module _ {X Y : Type 0} where
  pub then_any : (o : Option X) (f : X → Option Y) (P : Y → Type 0) → ((x : X) → IfSome (f x) P) → IfSome (option_and_then f o) P
  then_any None f P k = tt
  then_any (Some x) f P k = k x

  pub then_with : (o : Option X) (f : X → Option Y) (Q : X → Type 0) (P : Y → Type 0) → IfSome o Q → ((x : X) → Q x → IfSome (f x) P) → IfSome (option_and_then f o) P
  then_with None f Q P q k = tt
  then_with (Some x) f Q P q k = k x q

  pub map_with : (o : Option X) (f : X → Y) (Q : X → Type 0) (P : Y → Type 0) → IfSome o Q → ((x : X) → Q x → P (f x)) → IfSome (option_map f o) P
  map_with None f Q P q k = tt
  map_with (Some x) f Q P q k = k x q

module _ {X : Type 0} where
  weaker : (o : Option X) (P Q : X → Type 0) → IfSome o P → ((x : X) → P x → Q x) → IfSome o Q
  weaker None P Q p k = tt
  weaker (Some x) P Q p k = k x p

either_order : (b : Bool) (one other : Option Order) → IfSome one IsInRange → IfSome other IsInRange → IfSome (cond b one other) IsInRange
either_order true one other p q = p
either_order false one other p q = q

IsBetween : ℕ → ℕ → ℕ → Type 0
IsBetween least most n = (least ≤ n) × (n ≤ most)

within_range : (least most n : ℕ) → IfSome (within least most n) (IsBetween least most)
unfolding IsBetween
within_range least most n = go (nat_le least n && nat_le n most) refl
  where
    go : (b : Bool) → (nat_le least n && nat_le n most) ≡ b → IfSome (cond b (Some n) None) (λ k. (least ≤ k) × (k ≤ most))
    go true e = (leb-true _ _ (both _ _ e).0, leb-true _ _ (both _ _ e).1)
    go false e = tt

limit_in_range : (least most usual : ℕ) (given : Option Text) → least ≤ usual → usual ≤ most → IfSome (limit_of least most usual given) (IsBetween least most)
unfolding IsBetween
limit_in_range least most usual None p q = (p, q)
limit_in_range least most usual (Some digits) p q = then_any (number_of digits) (within least most) (IsBetween least most) (λ n. within_range least most n)

number_in_range : (digits : Text) → IfSome (number_of digits) (λ n. n < 2 ^ 64)
number_in_range digits = go (is_numeral digits && nat_lt (digits_value 10 digits) (2 ^ 64)) refl
  where
    go : (b : Bool) → (is_numeral digits && nat_lt (digits_value 10 digits) (2 ^ 64)) ≡ b → IfSome (cond b (Some (digits_value 10 digits)) None) (λ n. n < 2 ^ 64)
    go true e = ltb-true _ _ (both _ _ e).1
    go false e = tt

IsBudget : ℕ → Type 0
IsBudget points = points ≤ 9223372036854775807

budget_given : (rows : List Row) → IfSome (points_in rows) IsBudget
unfolding IsBetween IsBudget
budget_given rows =
    weaker (points_in rows) (IsBetween 0 9223372036854775807) IsBudget
    (limit_in_range 0 9223372036854775807 1000000000 (first_of (codes "points") rows) (omega arith) (omega arith)) (λ n p. p.1)

bounds_in_range : (points : ℕ) (rows : List Row) → IsBudget points → IfSome (bounds_by points rows) AreInRange
unfolding IsBetween IsBudget
bounds_in_range points rows p =
    then_with (heap_in rows) _ (IsBetween 64 67108864) AreInRange (limit_in_range 64 67108864 1048576 (first_of (codes "heap") rows) (omega arith) (omega arith)) (λ heap h.
    then_with (stack_in rows) _ (IsBetween 1024 1048576) AreInRange (limit_in_range 1024 1048576 65536 (first_of (codes "stack") rows) (omega arith) (omega arith)) (λ stack s.
    map_with (threads_in rows) _ (IsBetween 1 64) AreInRange (limit_in_range 1 64 8 (first_of (codes "threads") rows) (omega arith) (omega arith)) (λ threads t.
    record { points = p; heap = h; stack = s; threads = t })))

nonempty_named : (text : Text) → IfSome (nonempty text) IsName
nonempty_named [] = tt
nonempty_named (x ∷ xs) = λ e. cc

word_named : (id : Text) (rows : List Row) → IfSome (word_in id rows) IsName
word_named id rows = then_any (first_of id rows) nonempty IsName nonempty_named

given_named : (given : Option Text) → IfSome (given_name given) (λ name. IfSome name IsName)
given_named None = tt
given_named (Some name) = map_with (nonempty name) (λ n. Some n) IsName (λ name. IfSome name IsName) (nonempty_named name) (λ n p. p)

options_by_range : (points : ℕ) (rows : List Row) → IsBudget points → IfSome (options_by points rows) AreOptions
options_by_range points rows p =
    then_with (given_name (first_of (codes "switches") rows)) _ (λ name. IfSome name IsName) AreOptions (given_named (first_of (codes "switches") rows)) (λ switches s.
    then_with (given_name (first_of (codes "input") rows)) _ (λ name. IfSome name IsName) AreOptions (given_named (first_of (codes "input") rows)) (λ input i.
    map_with (bounds_by points rows) _ AreInRange AreOptions (bounds_in_range points rows p) (λ bounds b. (s, i, b))))

options_in_range : (rows : List Row) → IfSome (options_in rows) AreOptions
options_in_range rows = then_with (points_in rows) _ IsBudget AreOptions (budget_given rows) (λ points p. options_by_range points rows p)

at_in_range : (rows : List Row) → IfSome (at_in rows) IsBudget
unfolding IsBetween IsBudget
at_in_range rows =
    then_any (first_of (codes "at") rows) _ IsBudget (λ digits.
    then_any (number_of digits) (within 0 9223372036854775807) IsBudget (λ n.
    weaker (within 0 9223372036854775807 n) (IsBetween 0 9223372036854775807) IsBudget (within_range 0 9223372036854775807 n) (λ k p. p.1)))

options_at_range : (rows : List Row) → IfSome (options_at rows) AreOptions
options_at_range rows = then_with (at_in rows) _ IsBudget AreOptions (at_in_range rows) (λ points p. options_by_range points rows p)

are_named : (names : List Text) → list_all is_named names ≡ true → AllByRecursion IsName names
are_named [] e = tt
are_named ([] ∷ names) e = cc
are_named ((b ∷ bytes) ∷ names) e = ((λ none. cc), are_named names (both _ _ e).1)

files_in_range : (rows : List Row) → IfSome (files_in rows) AreFiles
files_in_range rows = then_any (all_of (codes "FILE") rows) as_files AreFiles each
  where
    each : (names : List Text) → IfSome (as_files names) AreFiles
    each names = go (nat_le (length names) most_files && list_all is_named names) refl
      where
        go : (b : Bool) → (nat_le (length names) most_files && list_all is_named names) ≡ b → IfSome (cond b (Some names) None) AreFiles
        go true e = (leb-true _ _ (both _ _ e).0, are_named names (both _ _ e).1)
        go false e = tt

build_in_range : (rows : List Row) → IfSome (build_in rows) IsInRange
build_in_range rows =
    then_with (word_in (codes "IMAGE") rows) _ IsName IsInRange (word_named (codes "IMAGE") rows) (λ image i.
    map_with (files_in rows) (build image) AreFiles IsInRange (files_in_range rows) (λ files f. (i, f)))

run_in_range : (rows : List Row) → IfSome (run_in rows) IsInRange
run_in_range rows =
    then_with (word_in (codes "IMAGE") rows) _ IsName IsInRange (word_named (codes "IMAGE") rows) (λ image i.
    map_with (options_in rows) (run image) AreOptions IsInRange (options_in_range rows) (λ options o. (i, o)))

exec_in_range : (rows : List Row) → IfSome (exec_in rows) IsInRange
exec_in_range rows =
    then_with (files_in rows) _ AreFiles IsInRange (files_in_range rows) (λ files f.
    map_with (options_in rows) (exec files) AreOptions IsInRange (options_in_range rows) (λ options o. (f, o)))

dump_in_range : (rows : List Row) → IfSome (dump_in rows) IsInRange
dump_in_range rows = map_with (word_in (codes "IMAGE") rows) dump IsName IsInRange (word_named (codes "IMAGE") rows) (λ image i. i)

bench_in_range : (rows : List Row) → IfSome (bench_in rows) IsInRange
bench_in_range rows =
    map_with (option_and_then number_of (first_of (codes "N") rows)) bench (λ n. n < 2 ^ 64) IsInRange
    (then_any (first_of (codes "N") rows) number_of (λ n. n < 2 ^ 64) number_in_range) (λ n p. p)

inspect_in_range : (rows : List Row) → IfSome (inspect_in rows) IsInRange
inspect_in_range rows =
    then_with (word_in (codes "IMAGE") rows) _ IsName IsInRange (word_named (codes "IMAGE") rows) (λ image i.
    map_with (options_at rows) (inspect image) AreOptions IsInRange (options_at_range rows) (λ options o. (i, o)))

order_in_range : (name : Text) (rows : List Row) → IfSome (order_in name rows) IsInRange
unfolding order_in
order_in_range name rows =
    either_order (bytes_eq name (codes "build")) (build_in rows) _ (build_in_range rows)
    (either_order (bytes_eq name (codes "run")) (run_in rows) _ (run_in_range rows)
    (either_order (bytes_eq name (codes "exec")) (exec_in rows) _ (exec_in_range rows)
    (either_order (bytes_eq name (codes "dump")) (dump_in rows) _ (dump_in_range rows)
    (either_order (bytes_eq name (codes "bench")) (bench_in rows) _ (bench_in_range rows)
    (either_order (bytes_eq name (codes "inspect")) (inspect_in rows) None (inspect_in_range rows) tt)))))

pub asked_in_range : (words : List Text) → IfSome (asked words) IsInRange
asked_in_range words = then_any (parsed words) (λ found. order_in found.0 found.1) IsInRange (λ found. order_in_range found.0 found.1)
