-- What is found in rows, and among options that were given.
use Rattle.std.proofs.Common.{◌≡◌, ◌∙◌, Bool, cond, List, [], ◌∷◌, ◌++◌, None, Some, Option, true, false, refl, sym, ap, subst}
use Rattle.std.specs.Prelude.{is_some}
use Rattle.std.specs.List.{AllByRecursion}
use Rattle.std.specs.Option.{option_map}
use Rattle.std.specs.Str.{bytes_eq}
use Rattle.std.proofs.lemmas.Slice.Eq.{bytes_eq-Decides}
use Rattle.clap.specs.Takes.{is_given}
use Rattle.clap.specs.Walk.{Row, Text, all_of, has_row, with_values, without}
use Rattle.clap.specs.declared.parser.matches.ValueSource.TheVariants.{CommandLine}
use Rattle.clap.specs.declared.builder.value_parser.Reading.{Reading}
use Rattle.m3c_words_laws.specs.Reads.{AreApart, Given, value_of}
use Rattle.m3c_words_laws.proofs.Words.{same_text}

-- ---- rows

pub has_row_of : (id : Text) (rows : List Row) → has_row id rows ≡ is_some (all_of id rows)
has_row_of id [] = refl
has_row_of id (r ∷ rows) = go (bytes_eq r.id id) refl (has_row_of id rows)
  where
    go : (b : Bool) → bytes_eq r.id id ≡ b → has_row id rows ≡ is_some (all_of id rows) → has_row id (r ∷ rows) ≡ is_some (all_of id (r ∷ rows))
    go true e rest = rw e refl
    go false e rest = rw e rest

abbrev pub AreExplicit : List Row → Type 0
AreExplicit rows = AllByRecursion (λ (r : Row). r.source ≡ Some CommandLine) rows

pub given_of : (id : Text) (rows : List Row) → AreExplicit rows → is_given id rows ≡ is_some (all_of id rows)
given_of id [] h = refl
given_of id (r ∷ rows) h = go (bytes_eq r.id id) refl (given_of id rows h.1)
  where
    go : (b : Bool) → bytes_eq r.id id ≡ b → is_given id rows ≡ is_some (all_of id rows) → is_given id (r ∷ rows) ≡ is_some (all_of id (r ∷ rows))
    go true e rest = rw (e, h.0) refl
    go false e rest = rw e rest

found_then : (one other : Option Row) (b : Bool) (r : Row) → option_map (λ (x : Row). x.values) one ≡ option_map (λ (x : Row). x.values) other → option_map (λ (x : Row). x.values) (cond b (Some r) one) ≡ option_map (λ (x : Row). x.values) (cond b (Some r) other)
found_then one other true r e = refl
found_then one other false r e = e

-- the values that a row has
abbrev pub values_there : Option (List Text) → List Text
values_there None = []
values_there (Some values) = values

-- a change of the rows of one id
module _ (id : Text) (how : Reading) where
  -- more values go behind those that are there
  pub values_added : (values : List Text) (rows : List Row) → all_of id (with_values id how CommandLine values rows) ≡ Some (values_there (all_of id rows) ++ values)
  values_added values [] = rw (same_text id) refl
  values_added values (r ∷ rows) = go (bytes_eq r.id id) refl (values_added values rows)
    where
      go : (b : Bool) → bytes_eq r.id id ≡ b → all_of id (with_values id how CommandLine values rows) ≡ Some (values_there (all_of id rows) ++ values)
          → all_of id (with_values id how CommandLine values (r ∷ rows)) ≡ Some (values_there (all_of id (r ∷ rows)) ++ values)
      go true e rest = rw (e, e) refl
      go false e rest = rw (e, e) rest

  pub other_values : (opt : Text) (values : List Text) (rows : List Row) → bytes_eq id opt ≡ false → all_of opt (with_values id how CommandLine values rows) ≡ all_of opt rows
  other_values opt values [] differs = rw differs refl
  other_values opt values (r ∷ rows) differs = go (bytes_eq r.id id) refl (other_values opt values rows differs)
    where
      go : (b : Bool) → bytes_eq r.id id ≡ b → all_of opt (with_values id how CommandLine values rows) ≡ all_of opt rows → all_of opt (with_values id how CommandLine values (r ∷ rows)) ≡ all_of opt (r ∷ rows)
      go true e rest = let apart : bytes_eq r.id opt ≡ false = subst (λ (x : Text). bytes_eq x opt ≡ false) (sym ((bytes_eq-Decides r.id id).0 e)) differs in rw (e, apart) refl
      go false e rest = rw e (found_then _ _ (bytes_eq r.id opt) r rest)

  pub still_explicit : (values : List Text) (rows : List Row) → AreExplicit rows → AreExplicit (with_values id how CommandLine values rows)
  still_explicit values [] h = (refl, tt)
  still_explicit values (r ∷ rows) h = go (bytes_eq r.id id) refl (still_explicit values rows h.1)
    where
      go : (b : Bool) → bytes_eq r.id id ≡ b → AreExplicit (with_values id how CommandLine values rows) → AreExplicit (with_values id how CommandLine values (r ∷ rows))
      go true e rest = rw e (rw h.0 refl, h.1)
      go false e rest = rw e (h.0, rest)

pub none_without : (id : Text) (rows : List Row) → all_of id rows ≡ None → without id rows ≡ rows
none_without id [] e = refl
none_without id (r ∷ rows) e = go (bytes_eq r.id id) refl e (none_without id rows)
  where
    go : (b : Bool) → bytes_eq r.id id ≡ b → all_of id (r ∷ rows) ≡ None → (all_of id rows ≡ None → without id rows ≡ rows) → without id (r ∷ rows) ≡ r ∷ rows
    go true is none further = let e : Some r.values ≡ None = rw is at none in absurd cc
    go false is none further = let rest : all_of id rows ≡ None = rw is at none in rw is (ap (λ (rs : List Row). r ∷ rs) (further rest))

-- ---- options that were given

pub value_last : (option value : Text) (given : Given) → value_of option given ≡ None → value_of option (given ++ (option, value) ∷ []) ≡ Some value
value_last option value [] e = rw (same_text option) refl
value_last option value (g ∷ given) e = go (bytes_eq g.0 option) refl e (value_last option value given)
  where
    go : (b : Bool) → bytes_eq g.0 option ≡ b → value_of option (g ∷ given) ≡ None → (value_of option given ≡ None → value_of option (given ++ (option, value) ∷ []) ≡ Some value) → value_of option ((g ∷ given) ++ (option, value) ∷ []) ≡ Some value
    go true is none further = let e : Some g.1 ≡ None = rw is at none in absurd cc
    go false is none further = let rest : value_of option given ≡ None = rw is at none in rw is (further rest)

pub value_other : (option value other : Text) (given : Given) → bytes_eq option other ≡ false → value_of other (given ++ (option, value) ∷ []) ≡ value_of other given
value_other option value other [] differs = rw differs refl
value_other option value other (g ∷ given) differs = ap (λ (o : Option Text). cond (bytes_eq g.0 other) (Some g.1) o) (value_other option value other given differs)

pub turned : (a b : Text) → bytes_eq a b ≡ false → bytes_eq b a ≡ false
turned a b e = go (bytes_eq b a) refl
  where
    go : (t : Bool) → bytes_eq b a ≡ t → t ≡ false
    go true is = sym ((bytes_eq-Decides a b).1 (sym ((bytes_eq-Decides b a).0 is))) ∙ e
    go false is = refl

-- a further option is none of those before it
pub apart_then : (option value : Text) (given : Given) → AreApart given → value_of option given ≡ None → AreApart (given ++ (option, value) ∷ [])
apart_then option value [] h e = (refl, tt)
apart_then option value (g ∷ given) h e = go (bytes_eq g.0 option) refl e (apart_then option value given h.1)
  where
    go : (b : Bool) → bytes_eq g.0 option ≡ b → value_of option (g ∷ given) ≡ None → (value_of option given ≡ None → AreApart (given ++ (option, value) ∷ [])) → AreApart ((g ∷ given) ++ (option, value) ∷ [])
    go true is none further = let e : Some g.1 ≡ None = rw is at none in absurd cc
    go false is none further =
        let rest : value_of option given ≡ None = rw is at none in
        (value_other option value g.0 given (turned g.0 option is) ∙ h.0, further rest)

none_more : (option : Text) (given more : Given) → value_of option (given ++ more) ≡ None → value_of option given ≡ None
none_more option [] more e = refl
none_more option (g ∷ given) more e = go (bytes_eq g.0 option) refl e (none_more option given more)
  where
    go : (b : Bool) → bytes_eq g.0 option ≡ b → value_of option ((g ∷ given) ++ more) ≡ None → (value_of option (given ++ more) ≡ None → value_of option given ≡ None) → value_of option (g ∷ given) ≡ None
    go true is none further = let e : Some g.1 ≡ None = rw is at none in absurd cc
    go false is none further = let rest : value_of option (given ++ more) ≡ None = rw is at none in rw is (further rest)

pub apart_before : (given more : Given) → AreApart (given ++ more) → AreApart given
apart_before [] more h = tt
apart_before (g ∷ given) more h = (none_more g.0 given more h.0, apart_before given more h.1)

pub none_again : (option value : Text) (given : Given) → AreApart (given ++ (option, value) ∷ []) → value_of option given ≡ None
none_again option value [] h = refl
none_again option value (g ∷ given) h = go (bytes_eq g.0 option) refl (none_again option value given h.1)
  where
    go : (b : Bool) → bytes_eq g.0 option ≡ b → value_of option given ≡ None → value_of option (g ∷ given) ≡ None
    go true is rest =
        let same : g.0 ≡ option = (bytes_eq-Decides g.0 option).0 is in
        let none : value_of option (given ++ (option, value) ∷ []) ≡ None = subst (λ (x : Text). value_of x (given ++ (option, value) ∷ []) ≡ None) same h.0 in
        let some : Some value ≡ None = sym (value_last option value given rest) ∙ none in
        absurd cc
    go false is rest = rw is rest
