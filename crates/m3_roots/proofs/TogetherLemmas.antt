-- Derived words of a row, by their numbers.
use Rattle.std.proofs.Common.{◌≡◌, ℕ, zero, suc, ◌+◌, ◌-◌, ◌≤◌, Bool, List, [], ◌∷◌, ◌++◌, length, take, drop, Option, Some, None, MatchOption, MatchBool, refl, sym, subst, ap, ◌∙◌, arith}
use Rattle.std.proofs.lemmas.List.{map-append, take_all}
use Rattle.std.specs.Option.{option_and_then, option_map_or}
use Rattle.m3_tables.specs.Rows.{Entry}
use Rattle.m3_tables.specs.Fields.{entry_at, entries_in}
use Rattle.m3_roots.specs.ThreadWords.{Derived, derived_at, derived_from}
use Rattle.m3_roots.specs.TakingApart.{apart_at, apart, together_at, together}

then_entries : (o : Option (Entry × List ℕ)) (n : ℕ) → ((bytes : List ℕ) → length (entries_in n bytes) ≤ n) → length (option_map_or (λ entry. entry.0 ∷ entries_in n entry.1) o []) ≤ suc n
then_entries None n h = omega arith
then_entries (Some entry) n h = let rest = h entry.1 in omega arith

-- so many entries are no more
pub length-entries : (n : ℕ) (bytes : List ℕ) → length (entries_in n bytes) ≤ n
unfolding entries_in
length-entries zero bytes = omega arith
length-entries (suc n) bytes = then_entries (entry_at bytes) n (length-entries n)

-- ---- one list after another

then_then : (xs ys : List Derived) (o : Option (List ℕ)) → ((words : List ℕ) → apart (xs ++ ys) words ≡ option_and_then (apart ys) (apart xs words)) → option_and_then (apart (xs ++ ys)) o ≡ option_and_then (apart ys) (option_and_then (apart xs) o)
then_then xs ys None h = refl
then_then xs ys (Some words) h = h words

pub apart_append : (xs ys : List Derived) (words : List ℕ) → apart (xs ++ ys) words ≡ option_and_then (apart ys) (apart xs words)
apart_append [] ys words = refl
apart_append (x ∷ xs) ys words = then_then xs ys (apart_at x words) (apart_append xs ys)

together_then : (d : Derived) (ds : List Derived) (o : Option (List ℕ)) → option_and_then (together_at d) (option_and_then (together ds) o) ≡ option_and_then (together (d ∷ ds)) o
together_then d ds None = refl
together_then d ds (Some words) = refl

then_some : (o : Option (List ℕ)) → option_and_then (together []) o ≡ o
then_some None = refl
then_some (Some words) = refl

pub together_append : (xs ys : List Derived) (words : List ℕ) → together (xs ++ ys) words ≡ option_and_then (together xs) (together ys words)
together_append [] ys words = sym (then_some (together ys words))
together_append (x ∷ xs) ys words = ap (λ (o : Option (List ℕ)). option_and_then (together_at x) o) (together_append xs ys words) ∙ together_then x xs (together ys words)

-- ---- by halves

past_end : (k : ℕ) (es : List Entry) → drop k es ≡ [] → drop (suc k) es ≡ []
past_end zero [] h = refl
past_end zero (e ∷ es) h = absurd cc
past_end (suc k) [] h = refl
past_end (suc k) (e ∷ es) h = past_end k es h

past_one : (k : ℕ) (es : List Entry) (e : Entry) (t : List Entry) → drop k es ≡ e ∷ t → drop (suc k) es ≡ t
past_one zero [] e t h = absurd cc
past_one zero (x ∷ es) e t h = cc
past_one (suc k) [] e t h = absurd cc
past_one (suc k) (x ∷ es) e t h = past_one k es e t h

one_past : (k : ℕ) (es : List Entry) → drop (suc k) es ≡ drop (k + 1) es
one_past k es = let more : suc k ≡ k + 1 = omega arith in ap (λ (n : ℕ). drop n es) more

-- what is behind one more
pub one_less : {X : Type 0} (view : X → Entry) (k : ℕ) (es s t : List Entry) (r : Option X) → s ≡ drop k es → MatchOption r ((s ≡ []) × (t ≡ [])) (λ x. s ≡ view x ∷ t) → t ≡ drop (k + 1) es
one_less view k es s t None at steps = steps.1 ∙ (sym (past_end k es (sym at ∙ steps.0)) ∙ one_past k es)
one_less view k es s t (Some x) at steps = sym (past_one k es (view x) t (sym at ∙ steps)) ∙ one_past k es

take_none : (n : ℕ) → take {A = Entry} n [] ≡ []
take_none zero = refl
take_none (suc n) = refl

pub take_parts : (half count : ℕ) (es : List Entry) → half ≤ count → take count es ≡ take half es ++ take (count - half) (drop half es)
take_parts zero count es h = let same : count ≡ count - 0 = omega arith in ap (λ (n : ℕ). take n es) same
take_parts (suc half) zero es h = absurd (omega arith)
take_parts (suc half) (suc count) [] h = sym (take_none (suc count - suc half))
take_parts (suc half) (suc count) (e ∷ es) h =
    let same : count - half ≡ suc count - suc half = omega arith in
    ap (λ (rest : List Entry). e ∷ rest) (take_parts half count es (omega arith)) ∙ ap (λ (n : ℕ). e ∷ (take half es ++ take n (drop half es))) same

parts_together : (first half count : ℕ) (es : List Entry) (words : List ℕ) → half ≤ count → together (derived_from first (take count es)) words ≡ option_and_then (together (derived_from first (take half es))) (together (derived_from first (take (count - half) (drop half es))) words)
parts_together first half count es words h =
    let front = take half es in
    let back = take (count - half) (drop half es) in
    ap (λ (xs : List Entry). together (derived_from first xs) words) (take_parts half count es h) ∙ (ap (λ (ds : List Derived). together ds words) (map-append (derived_at first) front back) ∙ together_append (derived_from first front) (derived_from first back) words)

-- where the second half isn't put together, the whole isn't
pub half_stops : (first half count : ℕ) (es back : List Entry) (words : List ℕ) → half ≤ count → back ≡ drop half es → together (derived_from first (take (count - half) back)) words ≡ None → together (derived_from first (take count es)) words ≡ None
half_stops first half count es back words h is none =
    parts_together first half count es words h
    ∙ (ap (λ (xs : List Entry). option_and_then (together (derived_from first (take half es))) (together (derived_from first (take (count - half) xs)) words)) (sym is)
    ∙ ap (λ (o : Option (List ℕ)). option_and_then (together (derived_from first (take half es))) o) none)

-- and where it is, the first half decides
pub both_halves : (b : Bool) (first half count : ℕ) (es back : List Entry) (words middle last : List ℕ) → half ≤ count → back ≡ drop half es → together (derived_from first (take (count - half) back)) words ≡ Some middle → MatchBool b (together (derived_from first (take half es)) middle ≡ Some last) (together (derived_from first (take half es)) middle ≡ None) → MatchBool b (together (derived_from first (take count es)) words ≡ Some last) (together (derived_from first (take count es)) words ≡ None)
both_halves b first half count es back words middle last h is some rest =
    let whole : together (derived_from first (take count es)) words ≡ together (derived_from first (take half es)) middle =
    parts_together first half count es words h
    ∙ (ap (λ (xs : List Entry). option_and_then (together (derived_from first (take half es))) (together (derived_from first (take (count - half) xs)) words)) (sym is)
    ∙ ap (λ (o : Option (List ℕ)). option_and_then (together (derived_from first (take half es))) o) some) in
    subst (λ (o : Option (List ℕ)). MatchBool b (o ≡ Some last) (o ≡ None)) (sym whole) rest

pub all_of_them : (b : Bool) (first count : ℕ) (es all : List Entry) (words last : List ℕ) → es ≡ all → count ≡ length all → MatchBool b (together (derived_from first (take count es)) words ≡ Some last) (together (derived_from first (take count es)) words ≡ None) → MatchBool b (together (derived_from first all) words ≡ Some last) (together (derived_from first all) words ≡ None)
all_of_them b first count es all words last same size h =
    let those : take count es ≡ all = ap (take count) same ∙ (ap (λ (n : ℕ). take n all) size ∙ take_all (length all) all (omega arith)) in
    subst (λ (xs : List Entry). MatchBool b (together (derived_from first xs) words ≡ Some last) (together (derived_from first xs) words ≡ None)) those h
