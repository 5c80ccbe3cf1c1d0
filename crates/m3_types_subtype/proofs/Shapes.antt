-- What a head says of the definition, and how same types have alike shapes.
use Rattle.std.proofs.Common.{◌≡◌, ℕ, ◌+◌, length, length-append, arith, ◌⊎◌, inl, inr, List, [], ◌∷◌, ◌++◌, map, Option, Some, None, Bool, true, false, refl, sym, ◌∙◌, ap, subst, ⊎_elim}
use Rattle.std.specs.Prelude.{IsTrue, is_some}
use Rattle.std.specs.Option.{option_map_or}
use Rattle.m3_types.specs.declared.nodes.TypeNode.{TypeNode}
use Rattle.m3_types.specs.declared.nodes.TypeNode.TheVariants.{Reserved, Integer, Boolean, Character, Enumeration, Subrange, FixedArray, OpenArray, Fields, SetOf, RefTo, Object, Procedure, Opaque, Null, RefAny, Text, Mutex, Root, Constant}
use Rattle.m3_types.specs.declared.nodes.Field.{Field}
use Rattle.m3_types.specs.declared.nodes.Formal.{Formal}
use Rattle.m3_types.specs.declared.nodes.Method.{Method}
use Rattle.m3_types.specs.declared.nodes.TypeId.{TypeId}
use Rattle.m3_types.specs.Definitions.{node_at, head_of, types_of, types_at, constants_of, parts_of, parts_at, result_part, head_of_field, head_of_formal, head_of_method, Head, head_at, Missing, ASubrange, AFixedArray, AnOpenArray, ARecord, ASet, ARef, AnObject, AProcedure, AnOpaque}
use Rattle.m3_types_subtype.specs.Sameness.{Matched, Same}
use Rattle.m3_types.specs.Kinds.{size_of, named_above}
use Rattle.m3_types_subtype.specs.Subtypes.{dimension_of, dimension_at}
use Rattle.m3_types_subtype.proofs.Agreement.{same_agrees, same_itself}

-- the head and the parts of what stands at a place
abbrev pub head_in : ℕ → Option TypeNode → Head
head_in place o = option_map_or (head_of place) o Missing

abbrev pub types_in : Option TypeNode → List ℕ
types_in o = option_map_or types_of o []

some_is : {A : Type 0} {x y : A} → Some x ≡ Some y → x ≡ y
some_is h = cc

abbrev dimension : Option ℕ → ℕ → Option (Option ℕ × ℕ)
dimension s e = Some (s, e)

pub size_is : (s t : Option ℕ) (x y : ℕ) → dimension s x ≡ dimension t y → s ≡ t
size_is s t x y h = let p : Option ℕ × ℕ = (s, x) in let q : Option ℕ × ℕ = (t, y) in let e : p ≡ q = cc in ap (λ (r : Option ℕ × ℕ). r.0) e

pub element_is : (s t : Option ℕ) (x y : ℕ) → dimension s x ≡ dimension t y → x ≡ y
element_is s t x y h = let p : Option ℕ × ℕ = (s, x) in let q : Option ℕ × ℕ = (t, y) in let e : p ≡ q = cc in ap (λ (r : Option ℕ × ℕ). r.1) e

first_is : {x y : ℕ} {xs ys : List ℕ} → x ∷ xs ≡ y ∷ ys → x ≡ y
first_is h = cc

rest_is : {x y : ℕ} {xs ys : List ℕ} → x ∷ xs ≡ y ∷ ys → xs ≡ ys
rest_is h = cc

opaque_place_of : (i j : ℕ) (n : TypeNode) → head_of i n ≡ AnOpaque j → i ≡ j
opaque_place_of i j Integer h = cc
opaque_place_of i j Boolean h = cc
opaque_place_of i j Character h = cc
opaque_place_of i j (Enumeration va) h = cc
opaque_place_of i j (Subrange va vb vc) h = cc
opaque_place_of i j (FixedArray va vb) h = cc
opaque_place_of i j (OpenArray va) h = cc
opaque_place_of i j (Fields va) h = cc
opaque_place_of i j (SetOf va) h = cc
opaque_place_of i j (RefTo va vb) h = cc
opaque_place_of i j (Object va vb vc vd ve) h = cc
opaque_place_of i j (Procedure va vb vc) h = cc
opaque_place_of i j (Opaque va vb) h = cc
opaque_place_of i j Null h = cc
opaque_place_of i j RefAny h = cc
opaque_place_of i j Text h = cc
opaque_place_of i j Mutex h = cc
opaque_place_of i j Root h = cc
opaque_place_of i j Reserved h = cc
opaque_place_of i j (Constant va) h = cc

-- an opaque type is told by its place
pub opaque_place : (i j : ℕ) (o : Option TypeNode) → head_in i o ≡ AnOpaque j → i ≡ j
opaque_place i j None h = cc
opaque_place i j (Some n) h = opaque_place_of i j n h

-- what has a type above it is a subrange or an object type, whose first part that is, or an opaque type
abbrev pub is_upward : Head → Bool
is_upward (ASubrange first last) = true
is_upward (AnObject brand fields methods overrides) = true
is_upward _ = false

up_shape_of : (i p : ℕ) (n : TypeNode) → named_above (Some n) ≡ Some p → (head_of i n ≡ AnOpaque i) ⊎ (IsTrue (is_upward (head_of i n)) × ((rest : List ℕ) × (types_of n ≡ p ∷ rest)))
up_shape_of i p Integer h = absurd (let z : ⊥ = cc in z)
up_shape_of i p Boolean h = absurd (let z : ⊥ = cc in z)
up_shape_of i p Character h = absurd (let z : ⊥ = cc in z)
up_shape_of i p (Enumeration va) h = absurd (let z : ⊥ = cc in z)
up_shape_of i p (Subrange va vb vc) h = inr (refl, ([], ap (λ x. x ∷ []) (some_is h)))
up_shape_of i p (FixedArray va vb) h = absurd (let z : ⊥ = cc in z)
up_shape_of i p (OpenArray va) h = absurd (let z : ⊥ = cc in z)
up_shape_of i p (Fields va) h = absurd (let z : ⊥ = cc in z)
up_shape_of i p (SetOf va) h = absurd (let z : ⊥ = cc in z)
up_shape_of i p (RefTo va vb) h = absurd (let z : ⊥ = cc in z)
up_shape_of i p (Object va vb vc vd ve) h = inr (refl, (map (λ f. f.kind.0) vc.now ++ map (λ m. m.signature.0) vd.now, ap (λ x. x ∷ (map (λ f. f.kind.0) vc.now ++ map (λ m. m.signature.0) vd.now)) (some_is h)))
up_shape_of i p (Procedure va vb vc) h = absurd (let z : ⊥ = cc in z)
up_shape_of i p (Opaque va vb) h = inl refl
up_shape_of i p Null h = absurd (let z : ⊥ = cc in z)
up_shape_of i p RefAny h = absurd (let z : ⊥ = cc in z)
up_shape_of i p Text h = absurd (let z : ⊥ = cc in z)
up_shape_of i p Mutex h = absurd (let z : ⊥ = cc in z)
up_shape_of i p Root h = absurd (let z : ⊥ = cc in z)
up_shape_of i p Reserved h = absurd (let z : ⊥ = cc in z)
up_shape_of i p (Constant va) h = absurd (let z : ⊥ = cc in z)

pub up_shape : (i p : ℕ) (o : Option TypeNode) → named_above o ≡ Some p → (head_in i o ≡ AnOpaque i) ⊎ (IsTrue (is_upward (head_in i o)) × ((rest : List ℕ) × (types_in o ≡ p ∷ rest)))
up_shape i p None h = absurd (let z : ⊥ = cc in z)
up_shape i p (Some n) h = up_shape_of i p n h

shape_up_of : (i p : ℕ) (rest : List ℕ) (n : TypeNode) → IsTrue (is_upward (head_of i n)) → types_of n ≡ p ∷ rest → named_above (Some n) ≡ Some p
shape_up_of i p rest Integer u h = absurd (let z : ⊥ = cc in z)
shape_up_of i p rest Boolean u h = absurd (let z : ⊥ = cc in z)
shape_up_of i p rest Character u h = absurd (let z : ⊥ = cc in z)
shape_up_of i p rest (Enumeration va) u h = absurd (let z : ⊥ = cc in z)
shape_up_of i p rest (Subrange va vb vc) u h = ap Some (first_is h)
shape_up_of i p rest (FixedArray va vb) u h = absurd (let z : ⊥ = cc in z)
shape_up_of i p rest (OpenArray va) u h = absurd (let z : ⊥ = cc in z)
shape_up_of i p rest (Fields va) u h = absurd (let z : ⊥ = cc in z)
shape_up_of i p rest (SetOf va) u h = absurd (let z : ⊥ = cc in z)
shape_up_of i p rest (RefTo va vb) u h = absurd (let z : ⊥ = cc in z)
shape_up_of i p rest (Object va vb vc vd ve) u h = ap Some (first_is h)
shape_up_of i p rest (Procedure va vb vc) u h = absurd (let z : ⊥ = cc in z)
shape_up_of i p rest (Opaque va vb) u h = absurd (let z : ⊥ = cc in z)
shape_up_of i p rest Null u h = absurd (let z : ⊥ = cc in z)
shape_up_of i p rest RefAny u h = absurd (let z : ⊥ = cc in z)
shape_up_of i p rest Text u h = absurd (let z : ⊥ = cc in z)
shape_up_of i p rest Mutex u h = absurd (let z : ⊥ = cc in z)
shape_up_of i p rest Root u h = absurd (let z : ⊥ = cc in z)
shape_up_of i p rest Reserved u h = absurd (let z : ⊥ = cc in z)
shape_up_of i p rest (Constant va) u h = absurd (let z : ⊥ = cc in z)

pub shape_up : (i p : ℕ) (rest : List ℕ) (o : Option TypeNode) → IsTrue (is_upward (head_in i o)) → types_in o ≡ p ∷ rest → named_above o ≡ Some p
shape_up i p rest None u h = absurd (let z : ⊥ = cc in z)
shape_up i p rest (Some n) u h = shape_up_of i p rest n u h

-- an array is open or fixed, and its dimension is told by its parts
dimension_shape_of : (nodes : List TypeNode) (i : ℕ) (s : Option ℕ) (e : ℕ) (n : TypeNode) → dimension_of nodes (Some n) ≡ Some (s, e) → ((head_of i n ≡ AnOpenArray) × (s ≡ None) × (types_of n ≡ e ∷ [])) ⊎ ((head_of i n ≡ AFixedArray) × ((k : ℕ) × (s ≡ Some (size_of (head_at nodes k))) × (types_of n ≡ k ∷ e ∷ [])))
dimension_shape_of nodes i s e Integer h = absurd (let z : ⊥ = cc in z)
dimension_shape_of nodes i s e Boolean h = absurd (let z : ⊥ = cc in z)
dimension_shape_of nodes i s e Character h = absurd (let z : ⊥ = cc in z)
dimension_shape_of nodes i s e (Enumeration va) h = absurd (let z : ⊥ = cc in z)
dimension_shape_of nodes i s e (Subrange va vb vc) h = absurd (let z : ⊥ = cc in z)
dimension_shape_of nodes i s e (FixedArray va vb) h = inr (refl, (va.0, sym (size_is _ _ _ _ h), ap (λ x. va.0 ∷ x ∷ []) (element_is _ _ _ _ h)))
dimension_shape_of nodes i s e (OpenArray va) h = inl (refl, sym (size_is _ _ _ _ h), ap (λ x. x ∷ []) (element_is _ _ _ _ h))
dimension_shape_of nodes i s e (Fields va) h = absurd (let z : ⊥ = cc in z)
dimension_shape_of nodes i s e (SetOf va) h = absurd (let z : ⊥ = cc in z)
dimension_shape_of nodes i s e (RefTo va vb) h = absurd (let z : ⊥ = cc in z)
dimension_shape_of nodes i s e (Object va vb vc vd ve) h = absurd (let z : ⊥ = cc in z)
dimension_shape_of nodes i s e (Procedure va vb vc) h = absurd (let z : ⊥ = cc in z)
dimension_shape_of nodes i s e (Opaque va vb) h = absurd (let z : ⊥ = cc in z)
dimension_shape_of nodes i s e Null h = absurd (let z : ⊥ = cc in z)
dimension_shape_of nodes i s e RefAny h = absurd (let z : ⊥ = cc in z)
dimension_shape_of nodes i s e Text h = absurd (let z : ⊥ = cc in z)
dimension_shape_of nodes i s e Mutex h = absurd (let z : ⊥ = cc in z)
dimension_shape_of nodes i s e Root h = absurd (let z : ⊥ = cc in z)
dimension_shape_of nodes i s e Reserved h = absurd (let z : ⊥ = cc in z)
dimension_shape_of nodes i s e (Constant va) h = absurd (let z : ⊥ = cc in z)

pub dimension_shape : (nodes : List TypeNode) (i : ℕ) (s : Option ℕ) (e : ℕ) (o : Option TypeNode) → dimension_of nodes o ≡ Some (s, e) → ((head_in i o ≡ AnOpenArray) × (s ≡ None) × (types_in o ≡ e ∷ [])) ⊎ ((head_in i o ≡ AFixedArray) × ((k : ℕ) × (s ≡ Some (size_of (head_at nodes k))) × (types_in o ≡ k ∷ e ∷ [])))
dimension_shape nodes i s e None h = absurd (let z : ⊥ = cc in z)
dimension_shape nodes i s e (Some n) h = dimension_shape_of nodes i s e n h

open_dimension_of : (nodes : List TypeNode) (i e : ℕ) (n : TypeNode) → head_of i n ≡ AnOpenArray → types_of n ≡ e ∷ [] → dimension_of nodes (Some n) ≡ Some (None, e)
open_dimension_of nodes i e Integer u h = absurd (let z : ⊥ = cc in z)
open_dimension_of nodes i e Boolean u h = absurd (let z : ⊥ = cc in z)
open_dimension_of nodes i e Character u h = absurd (let z : ⊥ = cc in z)
open_dimension_of nodes i e (Enumeration va) u h = absurd (let z : ⊥ = cc in z)
open_dimension_of nodes i e (Subrange va vb vc) u h = absurd (let z : ⊥ = cc in z)
open_dimension_of nodes i e (FixedArray va vb) u h = absurd (let z : ⊥ = cc in z)
open_dimension_of nodes i e (OpenArray va) u h = ap (λ x. Some (None, x)) (first_is h)
open_dimension_of nodes i e (Fields va) u h = absurd (let z : ⊥ = cc in z)
open_dimension_of nodes i e (SetOf va) u h = absurd (let z : ⊥ = cc in z)
open_dimension_of nodes i e (RefTo va vb) u h = absurd (let z : ⊥ = cc in z)
open_dimension_of nodes i e (Object va vb vc vd ve) u h = absurd (let z : ⊥ = cc in z)
open_dimension_of nodes i e (Procedure va vb vc) u h = absurd (let z : ⊥ = cc in z)
open_dimension_of nodes i e (Opaque va vb) u h = absurd (let z : ⊥ = cc in z)
open_dimension_of nodes i e Null u h = absurd (let z : ⊥ = cc in z)
open_dimension_of nodes i e RefAny u h = absurd (let z : ⊥ = cc in z)
open_dimension_of nodes i e Text u h = absurd (let z : ⊥ = cc in z)
open_dimension_of nodes i e Mutex u h = absurd (let z : ⊥ = cc in z)
open_dimension_of nodes i e Root u h = absurd (let z : ⊥ = cc in z)
open_dimension_of nodes i e Reserved u h = absurd (let z : ⊥ = cc in z)
open_dimension_of nodes i e (Constant va) u h = absurd (let z : ⊥ = cc in z)

pub open_dimension : (nodes : List TypeNode) (i e : ℕ) (o : Option TypeNode) → head_in i o ≡ AnOpenArray → types_in o ≡ e ∷ [] → dimension_of nodes o ≡ Some (None, e)
open_dimension nodes i e None u h = absurd (let z : ⊥ = cc in z)
open_dimension nodes i e (Some n) u h = open_dimension_of nodes i e n u h

fixed_dimension_of : (nodes : List TypeNode) (i k e : ℕ) (n : TypeNode) → head_of i n ≡ AFixedArray → types_of n ≡ k ∷ e ∷ [] → dimension_of nodes (Some n) ≡ Some (Some (size_of (head_at nodes k)), e)
fixed_dimension_of nodes i k e Integer u h = absurd (let z : ⊥ = cc in z)
fixed_dimension_of nodes i k e Boolean u h = absurd (let z : ⊥ = cc in z)
fixed_dimension_of nodes i k e Character u h = absurd (let z : ⊥ = cc in z)
fixed_dimension_of nodes i k e (Enumeration va) u h = absurd (let z : ⊥ = cc in z)
fixed_dimension_of nodes i k e (Subrange va vb vc) u h = absurd (let z : ⊥ = cc in z)
fixed_dimension_of nodes i k e (FixedArray va vb) u h = let x : va.0 ≡ k = first_is h in let y : vb.0 ≡ e = first_is (rest_is h) in ap (λ j. Some (Some (size_of (head_at nodes j)), vb.0)) x ∙ ap (λ j. Some (Some (size_of (head_at nodes k)), j)) y
fixed_dimension_of nodes i k e (OpenArray va) u h = absurd (let z : ⊥ = cc in z)
fixed_dimension_of nodes i k e (Fields va) u h = absurd (let z : ⊥ = cc in z)
fixed_dimension_of nodes i k e (SetOf va) u h = absurd (let z : ⊥ = cc in z)
fixed_dimension_of nodes i k e (RefTo va vb) u h = absurd (let z : ⊥ = cc in z)
fixed_dimension_of nodes i k e (Object va vb vc vd ve) u h = absurd (let z : ⊥ = cc in z)
fixed_dimension_of nodes i k e (Procedure va vb vc) u h = absurd (let z : ⊥ = cc in z)
fixed_dimension_of nodes i k e (Opaque va vb) u h = absurd (let z : ⊥ = cc in z)
fixed_dimension_of nodes i k e Null u h = absurd (let z : ⊥ = cc in z)
fixed_dimension_of nodes i k e RefAny u h = absurd (let z : ⊥ = cc in z)
fixed_dimension_of nodes i k e Text u h = absurd (let z : ⊥ = cc in z)
fixed_dimension_of nodes i k e Mutex u h = absurd (let z : ⊥ = cc in z)
fixed_dimension_of nodes i k e Root u h = absurd (let z : ⊥ = cc in z)
fixed_dimension_of nodes i k e Reserved u h = absurd (let z : ⊥ = cc in z)
fixed_dimension_of nodes i k e (Constant va) u h = absurd (let z : ⊥ = cc in z)

pub fixed_dimension : (nodes : List TypeNode) (i k e : ℕ) (o : Option TypeNode) → head_in i o ≡ AFixedArray → types_in o ≡ k ∷ e ∷ [] → dimension_of nodes o ≡ Some (Some (size_of (head_at nodes k)), e)
fixed_dimension nodes i k e None u h = absurd (let z : ⊥ = cc in z)
fixed_dimension nodes i k e (Some n) u h = fixed_dimension_of nodes i k e n u h

length-map : {A B : Type 0} (f : A → B) (xs : List A) → length (map f xs) ≡ length xs
length-map f [] = refl
length-map f (x ∷ xs) = let l : length (map f xs) ≡ length xs = length-map f xs in omega arith

-- how many types a definition names, told by its head
abbrev result_count : Bool → ℕ
result_count true = 1
result_count false = 0

abbrev types_count : Head → ℕ
types_count (ASubrange first last) = 1
types_count AFixedArray = 2
types_count AnOpenArray = 1
types_count (ARecord fields) = length fields
types_count ASet = 1
types_count (ARef brand) = 1
types_count (AnObject brand fields methods overrides) = 1 + (length fields + length methods)
types_count (AProcedure formals result raises) = length formals + result_count result
types_count _ = 0

both_counted : {A B C D : Type 0} (f : A → ℕ) (g : B → ℕ) (h : A → C) (k : B → D) (xs : List A) (ys : List B) → length (map f xs ++ map g ys) ≡ length (map h xs) + length (map k ys)
both_counted f g h k xs ys = let a : length (map f xs) ≡ length xs = length-map f xs in let b : length (map g ys) ≡ length ys = length-map g ys in let c : length (map h xs) ≡ length xs = length-map h xs in let d : length (map k ys) ≡ length ys = length-map k ys in omega (arith, length-append (map f xs) (map g ys))

result_counted : (r : Option TypeId) → length (result_part r) ≡ result_count (is_some r)
result_counted None = refl
result_counted (Some t) = refl

formals_counted : (fs : List Formal) (r : Option TypeId) → length (map (λ (f : Formal). f.kind.0) fs ++ result_part r) ≡ length (map head_of_formal fs) + result_count (is_some r)
formals_counted fs r = let a : length (map (λ (f : Formal). f.kind.0) fs) ≡ length fs = length-map (λ (f : Formal). f.kind.0) fs in let b : length (map head_of_formal fs) ≡ length fs = length-map head_of_formal fs in let c : length (result_part r) ≡ result_count (is_some r) = result_counted r in omega (arith, length-append (map (λ (f : Formal). f.kind.0) fs) (result_part r))

count_of : (i : ℕ) (n : TypeNode) → length (types_of n) ≡ types_count (head_of i n)
count_of i Reserved = refl
count_of i Integer = refl
count_of i Boolean = refl
count_of i Character = refl
count_of i (Enumeration va) = refl
count_of i (Subrange va vb vc) = refl
count_of i (FixedArray va vb) = refl
count_of i (OpenArray va) = refl
count_of i (Fields va) = length-map (λ (f : Field). f.kind.0) va.now ∙ sym (length-map head_of_field va.now)
count_of i (SetOf va) = refl
count_of i (RefTo va vb) = refl
count_of i (Object va vb vc vd ve) = let a : length (map (λ (f : Field). f.kind.0) vc.now ++ map (λ (m : Method). m.signature.0) vd.now) ≡ length (map head_of_field vc.now) + length (map head_of_method vd.now) = both_counted (λ (f : Field). f.kind.0) (λ (m : Method). m.signature.0) head_of_field head_of_method vc.now vd.now in omega arith
count_of i (Procedure va vb vc) = formals_counted va.now vb
count_of i (Opaque va vb) = refl
count_of i Null = refl
count_of i RefAny = refl
count_of i Text = refl
count_of i Mutex = refl
count_of i Root = refl
count_of i (Constant va) = refl

count_in : (i : ℕ) (o : Option TypeNode) → length (types_in o) ≡ types_count (head_in i o)
count_in i None = refl
count_in i (Some n) = count_of i n

constants_in : Option TypeNode → List ℕ
constants_in o = option_map_or constants_of o []

-- the parts are the types and then the constants
parts_split : (o : Option TypeNode) → option_map_or parts_of o [] ≡ types_in o ++ constants_in o
unfolding constants_in
parts_split None = refl
parts_split (Some n) = refl

front_matched : (R : ℕ → ℕ → Type 0) (xs us ys vs : List ℕ) → length xs ≡ length ys → Matched R (xs ++ us) (ys ++ vs) → Matched R xs ys
front_matched R [] us [] vs l m = tt
front_matched R (x ∷ xs) us (y ∷ ys) vs l m = (m.0, front_matched R xs us ys vs (omega arith) m.1)
front_matched R [] us (y ∷ ys) vs l m = absurd (omega arith)
front_matched R (x ∷ xs) us [] vs l m = absurd (omega arith)

-- ---- alike shapes of same types

pub one_part : (nodes : List TypeNode) (x : ℕ) (rest xs : List ℕ) → Matched (Same nodes) xs (x ∷ rest) → (y : ℕ) × ((more : List ℕ) × (xs ≡ y ∷ more) × Same nodes y x × Matched (Same nodes) more rest)
one_part nodes x rest [] p = absurd p
one_part nodes x rest (y ∷ more) p = (y, (more, refl, p.0, p.1))

no_part : (nodes : List TypeNode) (xs : List ℕ) → Matched (Same nodes) xs [] → xs ≡ []
no_part nodes [] p = refl
no_part nodes (x ∷ xs) p = absurd p

module _ (nodes : List TypeNode) where
  pub same_head : (a b : ℕ) → Same nodes a b → head_at nodes a ≡ head_at nodes b
  same_head a b p = (p 1).0

  -- the types that same types name are the same
  pub same_named : (a b : ℕ) → Same nodes a b → Matched (Same nodes) (types_at nodes a) (types_at nodes b)
  same_named a b p =
      let q = same_agrees nodes a b p in
      let mine : length (types_at nodes a) ≡ types_count (head_at nodes a) = count_in a (node_at nodes a) in
      let other : length (types_at nodes b) ≡ types_count (head_at nodes b) = count_in b (node_at nodes b) in
      let alike : length (types_at nodes a) ≡ length (types_at nodes b) = mine ∙ ap types_count q.0 ∙ sym other in
      let xs = parts_split (node_at nodes a) in
      let ys = parts_split (node_at nodes b) in
      front_matched (Same nodes) (types_at nodes a) (constants_in (node_at nodes a)) (types_at nodes b) (constants_in (node_at nodes b)) alike (subst (Matched (Same nodes) (types_at nodes a ++ constants_in (node_at nodes a))) ys (subst (λ zs. Matched (Same nodes) zs (parts_at nodes b)) xs q.1))

  -- a type that is the same as an opaque type is that type
  pub same_opaque : (a b : ℕ) → Same nodes a b → head_at nodes b ≡ AnOpaque b → a ≡ b
  same_opaque a b p h = opaque_place a b (node_at nodes a) (same_head a b p ∙ h)

  pub same_above : (z y p : ℕ) → Same nodes z y → named_above (node_at nodes y) ≡ Some p → (q : ℕ) × (named_above (node_at nodes z) ≡ Some q) × Same nodes q p
  same_above z y p s h =
      ⊎_elim
      (λ o. (p, subst (λ k. named_above (node_at nodes k) ≡ Some p) (sym (same_opaque z y s o)) h, same_itself nodes p))
      (λ u.
      let parts = same_named z y s in
      let q = one_part nodes p u.1.0 (types_at nodes z) (subst (Matched (Same nodes) (types_at nodes z)) u.1.1 parts) in
      (q.0, shape_up z q.0 q.1.0 (node_at nodes z) (subst (λ k. IsTrue (is_upward k)) (sym (same_head z y s)) u.0) q.1.1, q.1.2))
      (up_shape y p (node_at nodes y) h)

  pub same_dimension : (z y : ℕ) (s : Option ℕ) (e : ℕ) → Same nodes z y → dimension_at nodes y ≡ Some (s, e) → (f : ℕ) × (dimension_at nodes z ≡ Some (s, f)) × Same nodes f e
  same_dimension z y s e p h =
      ⊎_elim
      (λ o.
      let q = one_part nodes e [] (types_at nodes z) (subst (Matched (Same nodes) (types_at nodes z)) o.2 (same_named z y p)) in
      let none : q.1.0 ≡ [] = no_part nodes q.1.0 q.1.3 in
      (q.0, open_dimension nodes z q.0 (node_at nodes z) (same_head z y p ∙ o.0) (q.1.1 ∙ ap (λ r. q.0 ∷ r) none) ∙ ap (λ t. Some (t, q.0)) (sym o.1), q.1.2))
      (λ o.
      let k = o.1.0 in
      let q = one_part nodes k (e ∷ []) (types_at nodes z) (subst (Matched (Same nodes) (types_at nodes z)) o.1.2 (same_named z y p)) in
      let r = one_part nodes e [] q.1.0 q.1.3 in
      let none : r.1.0 ≡ [] = no_part nodes r.1.0 r.1.3 in
      let size : size_of (head_at nodes q.0) ≡ size_of (head_at nodes k) = ap size_of (same_head q.0 k q.1.2) in
      (r.0, fixed_dimension nodes z q.0 r.0 (node_at nodes z) (same_head z y p ∙ o.0) (q.1.1 ∙ ap (λ m. q.0 ∷ m) (r.1.1 ∙ ap (λ m. r.0 ∷ m) none)) ∙ ap (λ n. Some (Some n, r.0)) size ∙ ap (λ t. Some (t, r.0)) (sym o.1.1), r.1.2))
      (dimension_shape nodes y s e (node_at nodes y) h)
