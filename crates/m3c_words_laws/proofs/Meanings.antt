-- What options, numbers and FILEs ask for, both ways.
use Rattle.std.proofs.Common.{◌≡◌, ◌∙◌, ◌&&◌, ◌≤◌, ◌<◌, ◌^◌, ℕ, Bool, cond, length, List, [], ◌∷◌, None, Some, Option, true, false, refl, sym, ap, subst, inl, inr, codes, arith, nat_le, nat_lt, leb-true, ltb-true}
use Rattle.std.specs.Prelude.{find, is_some, option_and_then, slice_get}
use Rattle.std.specs.List.{AllByRecursion, list_all}
use Rattle.std.specs.Option.{option_map}
use Rattle.std.specs.Char.{digit_value}
use Rattle.std.specs.Str.{bytes_eq}
use Rattle.std.specs.Str.Parse.{AllDigits, IsNumeral, digits_value}
use Rattle.std.proofs.lemmas.Bool.Decides.{nat_tests}
use Rattle.clap.specs.ValueTests.{is_numeral}
use Rattle.clap.specs.Walk.{Row, Text, all_of, first_of, is_empty, nonempty}
use Rattle.clap.proofs.WalkLemmas.{both}
use Rattle.m3c_words.specs.Orders.{Bounds, Options}
use Rattle.m3c_words.specs.Asked.{as_files, bounds_by, given_name, is_named, limit_of, most_files, number_of, options_at, options_by, options_in, within}
use Rattle.m3c_words.specs.Sentences.{AreFiles, IsName}
use Rattle.m3c_words.proofs.Readings.{said_number}
use Rattle.m3c_words_laws.specs.Reads.{AreApart, AreOptionsAt, AreOptionsBy, AreOptionsOf, Given, IsGivenName, IsLimit, IsNumber, IsOneOf, IsSaid, options_with, value_of}
use Rattle.m3c_words_laws.proofs.Walking.{as_values}

module _ {X Y : Type 0} where
  pub then_some : (f : X → Option Y) (o : Option X) (y : Y) → option_and_then f o ≡ Some y → (x : X) × (o ≡ Some x) × (f x ≡ Some y)
  then_some f None y e = absurd (no_some y e)
    where
      no_some : (y : Y) → None ≡ Some y → ⊥
      no_some y e = cc
  then_some f (Some x) y e = (x, refl, e)

  pub map_some : (f : X → Y) (o : Option X) (y : Y) → option_map f o ≡ Some y → (x : X) × (o ≡ Some x) × (f x ≡ y)
  map_some f None y e = absurd (no_some y e)
    where
      no_some : (y : Y) → None ≡ Some y → ⊥
      no_some y e = cc
  map_some f (Some x) y e = (x, refl, same (f x) y e)
    where
      same : (a b : Y) → Some a ≡ Some b → a ≡ b
      same a b e = cc

some_same : {X : Type 0} (x y : X) → Some x ≡ Some y → x ≡ y
some_same x y e = cc

none_some : {X : Type 0} (x : X) → None ≡ Some x → ⊥
none_some x e = cc

-- ---- numbers

digits_are : (ds : Text) → list_all (λ d. nat_lt (digit_value d) 10) ds ≡ true → AllDigits 10 ds
digits_are [] e = tt
digits_are (d ∷ ds) e = let parts = both _ _ e in (ltb-true _ _ parts.0, digits_are ds parts.1)

numeral_is : (ds : Text) → is_numeral ds ≡ true → IsNumeral 10 ds
numeral_is ds e = let parts = both _ _ e in (ltb-true _ _ parts.0, digits_are ds parts.1)

pub number_is : (ds : Text) (n : ℕ) → number_of ds ≡ Some n → IsNumber ds n × (n < 2 ^ 64)
number_is ds n e = go (is_numeral ds && nat_lt (digits_value 10 ds) (2 ^ 64)) refl e
  where
    go : (b : Bool) → (is_numeral ds && nat_lt (digits_value 10 ds) (2 ^ 64)) ≡ b → cond b (Some (digits_value 10 ds)) None ≡ Some n → IsNumber ds n × (n < 2 ^ 64)
    go true is e =
        let parts = both _ _ is in
        let same : digits_value 10 ds ≡ n = some_same _ _ e in
        ((numeral_is ds parts.0, sym same), subst (λ (k : ℕ). k < 2 ^ 64) same (ltb-true _ _ parts.1))
    go false is e = absurd (none_some n e)

pub is_number : (ds : Text) (n : ℕ) → IsNumber ds n → n < 2 ^ 64 → number_of ds ≡ Some n
is_number ds n h low = said_number ds h.0 (subst (λ (k : ℕ). k < 2 ^ 64) h.1 low) ∙ ap (λ (k : ℕ). Some k) (sym h.1)

within_is : (least most k n : ℕ) → within least most k ≡ Some n → (k ≡ n) × (least ≤ n) × (n ≤ most)
within_is least most k n e = go (nat_le least k && nat_le k most) refl e
  where
    go : (b : Bool) → (nat_le least k && nat_le k most) ≡ b → cond b (Some k) None ≡ Some n → (k ≡ n) × (least ≤ n) × (n ≤ most)
    go true is e =
        let parts = both _ _ is in
        let same : k ≡ n = some_same k n e in
        (same, subst (λ (m : ℕ). least ≤ m) same (leb-true _ _ parts.0), subst (λ (m : ℕ). m ≤ most) same (leb-true _ _ parts.1))
    go false is e = absurd (none_some n e)

is_within : (least most n : ℕ) → least ≤ n → n ≤ most → within least most n ≡ Some n
is_within least most n low high =
    let a : nat_le least n ≡ true = grind (arith, nat_tests) in
    let b : nat_le n most ≡ true = grind (arith, nat_tests) in
    rw (a, b) refl

pub limit_is : (least most usual : ℕ) (given : Option Text) (n : ℕ) → limit_of least most usual given ≡ Some n → IsLimit least most usual given n
limit_is least most usual None n e = sym (some_same usual n e)
limit_is least most usual (Some digits) n e =
    let k = then_some (within least most) (number_of digits) n e in
    let w = within_is least most k.0 n k.2 in
    let d = number_is digits k.0 k.1 in
    (subst (λ (m : ℕ). IsNumber digits m) w.0 d.0, w.1, w.2)

-- an option that must be given
said_is : (least most : ℕ) (given : Option Text) (n : ℕ) → option_and_then (λ digits. option_and_then (within least most) (number_of digits)) given ≡ Some n → IsSaid least most given n
said_is least most None n e = absurd (none_some n e)
said_is least most (Some digits) n e = limit_is least most 0 (Some digits) n e

pub is_limit : (least most usual : ℕ) (given : Option Text) (n : ℕ) → most < 2 ^ 64 → IsLimit least most usual given n → limit_of least most usual given ≡ Some n
is_limit least most usual None n low h = ap (λ (k : ℕ). Some k) (sym h)
is_limit least most usual (Some digits) n low h =
    let small = h.2 in
    ap (option_and_then (within least most)) (is_number digits n h.0 (omega (arith, low, small))) ∙ is_within least most n h.1 h.2

is_said : (least most : ℕ) (given : Option Text) (n : ℕ) → most < 2 ^ 64 → IsSaid least most given n → option_and_then (λ digits. option_and_then (within least most) (number_of digits)) given ≡ Some n
is_said least most None n low h = absurd h
is_said least most (Some digits) n low h = is_limit least most 0 (Some digits) n low h

-- ---- names

pub name_is : (given result : Option Text) → given_name given ≡ Some result → IsGivenName given result
name_is None result e = (sym (some_same None result e), tt)
name_is (Some []) result e = absurd (none_some result e)
name_is (Some (b ∷ bytes)) result e = (sym (some_same (Some (b ∷ bytes)) result e), λ none. cc)

pub is_name : (given result : Option Text) → IsGivenName given result → given_name given ≡ Some result
is_name None result h = ap (λ (o : Option Text). Some o) (sym h.0)
is_name (Some []) result h = absurd (h.1 refl)
is_name (Some (b ∷ bytes)) result h = ap (λ (o : Option Text). Some o) (sym h.0)

pub word_is : (word : Option Text) (name : Text) → option_and_then nonempty word ≡ Some name → (word ≡ Some name) × IsName name
word_is None name e = absurd (none_some name e)
word_is (Some []) name e = absurd (none_some name e)
word_is (Some (b ∷ bytes)) name e = (e, subst IsName (some_same (b ∷ bytes) name e) (λ none. cc))

pub is_word : (name : Text) → IsName name → nonempty name ≡ Some name
is_word [] h = absurd (h refl)
is_word (b ∷ bytes) h = refl

all_named : (names : List Text) → list_all is_named names ≡ true → AllByRecursion IsName names
all_named [] e = tt
all_named ([] ∷ names) e = cc
all_named ((b ∷ bytes) ∷ names) e = ((λ none. cc), all_named names (both _ _ e).1)

some_bytes : (b : ℕ) (bytes : Text) → is_empty (b ∷ bytes) ≡ false
some_bytes b bytes = grind (arith, nat_tests)

are_named : (names : List Text) → AllByRecursion IsName names → list_all is_named names ≡ true
are_named [] h = refl
are_named ([] ∷ names) h = absurd (h.0 refl)
are_named ((b ∷ bytes) ∷ names) h = rw (some_bytes b bytes) (are_named names h.1)

pub files_are : (names files : List Text) → as_files names ≡ Some files → (names ≡ files) × AreFiles files
files_are names files e = go (nat_le (length names) most_files && list_all is_named names) refl e
  where
    go : (b : Bool) → (nat_le (length names) most_files && list_all is_named names) ≡ b → cond b (Some names) None ≡ Some files → (names ≡ files) × AreFiles files
    go true is e =
        let parts = both _ _ is in
        let same : names ≡ files = some_same names files e in
        (same, subst AreFiles same (leb-true _ _ parts.0, all_named names parts.1))
    go false is e = absurd (none_some files e)

pub are_files : (files : List Text) → AreFiles files → as_files files ≡ Some files
are_files files h =
    let few = h.0 in
    let a : nat_le (length files) 256 ≡ true = grind (arith, nat_tests) in
    rw (a, are_named files h.1) refl

-- ---- the options of a run

pub first_from : (id : Text) (rows : List Row) → first_of id rows ≡ option_and_then (λ (vs : List Text). slice_get vs 0) (all_of id rows)
first_from id rows = go (find (λ r. bytes_eq r.id id) rows)
  where
    go : (o : Option Row) → option_and_then (λ r. slice_get r.values 0) o ≡ option_and_then (λ (vs : List Text). slice_get vs 0) (option_map (λ r. r.values) o)
    go None = refl
    go (Some r) = refl

first_value : (given : Option Text) → option_and_then (λ (vs : List Text). slice_get vs 0) (as_values given) ≡ given
first_value None = refl
first_value (Some v) = refl

pub first_is : (id : Text) (rows : List Row) (given : Option Text) → all_of id rows ≡ as_values given → first_of id rows ≡ given
first_is id rows given e = first_from id rows ∙ ap (option_and_then (λ (vs : List Text). slice_get vs 0)) e ∙ first_value given

-- what an option says, of rows and of what was given, where one of this name says the points
abbrev pub Says : Text → List Row → Given → Type 0
Says points rows given = (o : Text) → IsOneOf o (options_with points) → all_of o rows ≡ as_values (value_of o given)

module _ (points : Text) (rows : List Row) (given : Given) (says : Says points rows given) where
  switches_are : first_of (codes "switches") rows ≡ value_of (codes "switches") given
  switches_are = first_is _ rows _ (says (codes "switches") (inl refl))

  points_are : first_of points rows ≡ value_of points given
  points_are = first_is _ rows _ (says points (inr (inl refl)))

  heap_is : first_of (codes "heap") rows ≡ value_of (codes "heap") given
  heap_is = first_is _ rows _ (says (codes "heap") (inr (inr (inl refl))))

  stack_is : first_of (codes "stack") rows ≡ value_of (codes "stack") given
  stack_is = first_is _ rows _ (says (codes "stack") (inr (inr (inr (inl refl)))))

  threads_are : first_of (codes "threads") rows ≡ value_of (codes "threads") given
  threads_are = first_is _ rows _ (says (codes "threads") (inr (inr (inr (inr (inl refl))))))

  input_is : first_of (codes "input") rows ≡ value_of (codes "input") given
  input_is = first_is _ rows _ (says (codes "input") (inr (inr (inr (inr (inr (inl refl)))))))

  young_is : is_some (first_of (codes "young") rows) ≡ is_some (value_of (codes "young") given)
  young_is = ap (λ (o : Option Text). is_some o) (first_is _ rows _ (says (codes "young") (inr (inr (inr (inr (inr (inr (inl refl)))))))))

  -- with so many points
  by_are : (IsPoints : ℕ → Type 0) (n : ℕ) (options : Options) → AreApart given → IsPoints n → options_by n rows ≡ Some options → AreOptionsBy IsPoints given options
  by_are IsPoints n options once is e =
      let a = then_some _ (given_name (first_of (codes "switches") rows)) options e in
      let b = then_some _ (given_name (first_of (codes "input") rows)) options a.2 in
      let d = map_some _ (bounds_by n rows) options b.2 in
      let h = then_some _ (limit_of 64 67108864 1048576 (first_of (codes "heap") rows)) d.0 d.1 in
      let s = then_some _ (limit_of 1024 1048576 65536 (first_of (codes "stack") rows)) d.0 h.2 in
      let t = map_some _ (limit_of 1 64 8 (first_of (codes "threads") rows)) d.0 s.2 in
      subst (λ (o : Options). AreOptionsBy IsPoints given o) d.2 (record {
        apart = once;
        switches = subst (λ (v : Option Text). IsGivenName v a.0) switches_are (name_is _ a.0 a.1);
        input = subst (λ (v : Option Text). IsGivenName v b.0) input_is (name_is _ b.0 b.1);
        points = subst (λ (m : Bounds). IsPoints m.points) t.2 is;
        heap = subst (λ (m : Bounds). IsLimit 64 67108864 1048576 (value_of (codes "heap") given) m.heap) t.2 (subst (λ (v : Option Text). IsLimit 64 67108864 1048576 v h.0) heap_is (limit_is _ _ _ _ h.0 h.1));
        stack = subst (λ (m : Bounds). IsLimit 1024 1048576 65536 (value_of (codes "stack") given) m.stack) t.2 (subst (λ (v : Option Text). IsLimit 1024 1048576 65536 v s.0) stack_is (limit_is _ _ _ _ s.0 s.1));
        threads = subst (λ (m : Bounds). IsLimit 1 64 8 (value_of (codes "threads") given) m.threads) t.2 (subst (λ (v : Option Text). IsLimit 1 64 8 v t.0) threads_are (limit_is _ _ _ _ t.0 t.1));
        young = subst (λ (m : Bounds). m.young ≡ is_some (value_of (codes "young") given)) t.2 young_is;
      })

  are_by : (IsPoints : ℕ → Type 0) (options : Options) → AreOptionsBy IsPoints given options → options_by options.bounds.points rows ≡ Some options
  are_by IsPoints options h =
      let a : given_name (first_of (codes "switches") rows) ≡ Some options.switches = ap given_name switches_are ∙ is_name _ _ h.switches in
      let b : given_name (first_of (codes "input") rows) ≡ Some options.input = ap given_name input_is ∙ is_name _ _ h.input in
      let k : limit_of 64 67108864 1048576 (first_of (codes "heap") rows) ≡ Some options.bounds.heap = ap (limit_of 64 67108864 1048576) heap_is ∙ is_limit _ _ _ _ _ (omega arith) h.heap in
      let s : limit_of 1024 1048576 65536 (first_of (codes "stack") rows) ≡ Some options.bounds.stack = ap (limit_of 1024 1048576 65536) stack_is ∙ is_limit _ _ _ _ _ (omega arith) h.stack in
      let t : limit_of 1 64 8 (first_of (codes "threads") rows) ≡ Some options.bounds.threads = ap (limit_of 1 64 8) threads_are ∙ is_limit _ _ _ _ _ (omega arith) h.threads in
      let y : is_some (first_of (codes "young") rows) ≡ options.bounds.young = young_is ∙ sym h.young in
      rw (a, b, k, s, t, y) refl

-- those of `run` and `exec`
module _ (rows : List Row) (given : Given) (says : Says (codes "points") rows given) where
  pub options_are : (options : Options) → AreApart given → options_in rows ≡ Some options → AreOptionsOf given options
  options_are options once e =
      let p = then_some _ (limit_of 0 9223372036854775807 1000000000 (first_of (codes "points") rows)) options e in
      by_are (codes "points") rows given says _ p.0 options once
      (subst (λ (v : Option Text). IsLimit 0 9223372036854775807 1000000000 v p.0) (points_are (codes "points") rows given says) (limit_is _ _ _ _ p.0 p.1)) p.2

  pub are_options : (options : Options) → AreOptionsOf given options → options_in rows ≡ Some options
  are_options options h =
      let p : limit_of 0 9223372036854775807 1000000000 (first_of (codes "points") rows) ≡ Some options.bounds.points
      = ap (limit_of 0 9223372036854775807 1000000000) (points_are (codes "points") rows given says) ∙ is_limit _ _ _ _ _ (omega arith) h.points in
      ap (option_and_then (λ points. options_by points rows)) p ∙ are_by (codes "points") rows given says _ options h

-- those of `inspect`
module _ (rows : List Row) (given : Given) (says : Says (codes "at") rows given) where
  abbrev said : Option Text → Option ℕ
  said = option_and_then (λ digits. option_and_then (within 0 9223372036854775807) (number_of digits))

  pub at_are : (options : Options) → AreApart given → options_at rows ≡ Some options → AreOptionsAt given options
  at_are options once e =
      let p = then_some (λ points. options_by points rows) (said (first_of (codes "at") rows)) options e in
      by_are (codes "at") rows given says _ p.0 options once
      (subst (λ (v : Option Text). IsSaid 0 9223372036854775807 v p.0) (points_are (codes "at") rows given says) (said_is 0 9223372036854775807 (first_of (codes "at") rows) p.0 p.1)) p.2

  pub are_at : (options : Options) → AreOptionsAt given options → options_at rows ≡ Some options
  are_at options h =
      let p : said (first_of (codes "at") rows) ≡ Some options.bounds.points
      = ap said (points_are (codes "at") rows given says) ∙ is_said _ _ _ _ (omega arith) h.points in
      ap (option_and_then (λ points. options_by points rows)) p ∙ are_by (codes "at") rows given says _ options h
