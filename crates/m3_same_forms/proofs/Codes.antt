-- What has the same place in a list of variants is the same.
use Rattle.std.proofs.Common.{◌≡◌, ℕ, Bool, true, false, List, [], ◌∷◌, Option, Some, None, refl, sym, ap, ◌∙◌, arith}
use Rattle.std.specs.Prelude.{◌==◌, ◌&&◌, if◌then◌else◌}
use Rattle.std.proofs.lemmas.Bool.Decides.{nat_tests}
use Rattle.m3_base.specs.Faults.{number_of_fault}
use Rattle.m3_base.specs.declared.places.Pos.{Pos}
use Rattle.m3_mid.specs.declared.procs.Slot.{Slot}
use Rattle.m3_mid.specs.declared.ops.WordOperator.{WordOperator}
use Rattle.m3_mid.specs.declared.ops.WordOperator.TheVariants as words
use Rattle.m3_mid.specs.declared.ops.CheckedOperator.{CheckedOperator}
use Rattle.m3_mid.specs.declared.ops.CheckedOperator.TheVariants as checks
use Rattle.m3_mid.specs.declared.ops.Relation.{Relation}
use Rattle.m3_mid.specs.declared.ops.Relation.TheVariants as relations
use Rattle.m3_mid.specs.declared.calls.Service.{Service}
use Rattle.m3_mid.specs.declared.calls.Service.TheVariants as services
use Rattle.m3_same_forms.specs.declared.seen.Deed.{Deed}
use Rattle.m3_same_forms.specs.declared.seen.Deed.TheVariants as deeds
use Rattle.m3_mid.specs.declared.procs.Kind.{Kind}
use Rattle.m3_mid.specs.declared.procs.Kind.TheVariants as kinds
use Rattle.m3_base.specs.declared.outcomes.FaultKind.{FaultKind}
use Rattle.m3_base.specs.declared.outcomes.FaultKind.TheVariants as faults
use Rattle.m3_same_forms.specs.declared.forms.Tag.{Tag}
use Rattle.m3_same_forms.specs.declared.forms.Tag.TheVariants as tags
use Rattle.m3_same_forms.specs.Same.{place_of_operator, place_of_checked, place_of_relation, place_of_service, place_of_deed, place_of_kind, place_of_tag, detail_of_tag, same_checked, same_relation, same_service, same_deed, same_tag, same_fault, same_place, same_flag, same_slot, same_slots, same_choice}

pub both : (a b : Bool) → (a && b) ≡ true → (a ≡ true) × (b ≡ true)
both true b e = (refl, e)
both false b e = absurd (let bad : false ≡ true = e in cc)

pub same_number : (t u : ℕ) → (t == u) ≡ true → t ≡ u
same_number t u e = grind (arith, nat_tests)

abbrev operator_at : ℕ → WordOperator
operator_at n =
    if n == 0 then words.Add else
    if n == 1 then words.Subtract else
    if n == 2 then words.Multiply else
    if n == 3 then words.And else
    if n == 4 then words.Or else
    if n == 5 then words.Xor else
    if n == 6 then words.Shift else
    words.Rotate

operator_back : (x : WordOperator) → operator_at (place_of_operator x) ≡ x
operator_back words.Add = refl
operator_back words.Subtract = refl
operator_back words.Multiply = refl
operator_back words.And = refl
operator_back words.Or = refl
operator_back words.Xor = refl
operator_back words.Shift = refl
operator_back words.Rotate = refl

one_operator : (x y : WordOperator) → place_of_operator x ≡ place_of_operator y → x ≡ y
one_operator x y e = sym (operator_back x) ∙ ap operator_at e ∙ operator_back y

abbrev checked_at : ℕ → CheckedOperator
checked_at n =
    if n == 0 then checks.Add else
    if n == 1 then checks.Subtract else
    if n == 2 then checks.Multiply else
    if n == 3 then checks.Div else
    if n == 4 then checks.Mod else
    if n == 5 then checks.DivUnsigned else
    checks.ModUnsigned

checked_back : (x : CheckedOperator) → checked_at (place_of_checked x) ≡ x
checked_back checks.Add = refl
checked_back checks.Subtract = refl
checked_back checks.Multiply = refl
checked_back checks.Div = refl
checked_back checks.Mod = refl
checked_back checks.DivUnsigned = refl
checked_back checks.ModUnsigned = refl

one_checked : (x y : CheckedOperator) → place_of_checked x ≡ place_of_checked y → x ≡ y
one_checked x y e = sym (checked_back x) ∙ ap checked_at e ∙ checked_back y

pub is_checked : (x y : CheckedOperator) → same_checked x y ≡ true → x ≡ y
is_checked x y e = one_checked x y (same_number (place_of_checked x) (place_of_checked y) e)

abbrev relation_at : ℕ → Relation
relation_at n =
    if n == 0 then relations.Equal else
    if n == 1 then relations.NotEqual else
    if n == 2 then relations.Less else
    if n == 3 then relations.LessEqual else
    if n == 4 then relations.LessUnsigned else
    relations.LessEqualUnsigned

relation_back : (x : Relation) → relation_at (place_of_relation x) ≡ x
relation_back relations.Equal = refl
relation_back relations.NotEqual = refl
relation_back relations.Less = refl
relation_back relations.LessEqual = refl
relation_back relations.LessUnsigned = refl
relation_back relations.LessEqualUnsigned = refl

one_relation : (x y : Relation) → place_of_relation x ≡ place_of_relation y → x ≡ y
one_relation x y e = sym (relation_back x) ∙ ap relation_at e ∙ relation_back y

pub is_relation : (x y : Relation) → same_relation x y ≡ true → x ≡ y
is_relation x y e = one_relation x y (same_number (place_of_relation x) (place_of_relation y) e)

abbrev service_at : ℕ → Service
service_at n =
    if n == 0 then services.Put else
    if n == 1 then services.PutNumber else
    if n == 2 then services.PutByte else
    if n == 3 then services.GetByte else
    if n == 4 then services.EndOfInput else
    if n == 5 then services.Concatenate else
    if n == 6 then services.ByteText else
    if n == 7 then services.Subtext else
    if n == 8 then services.Fork else
    if n == 9 then services.Join else
    if n == 10 then services.Acquire else
    if n == 11 then services.Release else
    if n == 12 then services.Wait else
    if n == 13 then services.Signal else
    if n == 14 then services.Broadcast else
    if n == 15 then services.MySelf else
    if n == 16 then services.Alert else
    if n == 17 then services.TestAlert else
    if n == 18 then services.AlertWait else
    services.AlertJoin

service_back : (x : Service) → service_at (place_of_service x) ≡ x
service_back services.Put = refl
service_back services.PutNumber = refl
service_back services.PutByte = refl
service_back services.GetByte = refl
service_back services.EndOfInput = refl
service_back services.Concatenate = refl
service_back services.ByteText = refl
service_back services.Subtext = refl
service_back services.Fork = refl
service_back services.Join = refl
service_back services.Acquire = refl
service_back services.Release = refl
service_back services.Wait = refl
service_back services.Signal = refl
service_back services.Broadcast = refl
service_back services.MySelf = refl
service_back services.Alert = refl
service_back services.TestAlert = refl
service_back services.AlertWait = refl
service_back services.AlertJoin = refl

one_service : (x y : Service) → place_of_service x ≡ place_of_service y → x ≡ y
one_service x y e = sym (service_back x) ∙ ap service_at e ∙ service_back y

pub is_service : (x y : Service) → same_service x y ≡ true → x ≡ y
is_service x y e = one_service x y (same_number (place_of_service x) (place_of_service y) e)

abbrev deed_at : ℕ → Deed
deed_at n =
    if n == 0 then deeds.Store else
    if n == 1 then deeds.Copy else
    deeds.Fill

deed_back : (x : Deed) → deed_at (place_of_deed x) ≡ x
deed_back deeds.Store = refl
deed_back deeds.Copy = refl
deed_back deeds.Fill = refl

one_deed : (x y : Deed) → place_of_deed x ≡ place_of_deed y → x ≡ y
one_deed x y e = sym (deed_back x) ∙ ap deed_at e ∙ deed_back y

pub is_deed : (x y : Deed) → same_deed x y ≡ true → x ≡ y
is_deed x y e = one_deed x y (same_number (place_of_deed x) (place_of_deed y) e)

abbrev kind_at : ℕ → Kind
kind_at n =
    if n == 0 then kinds.Number else
    if n == 1 then kinds.Tidy else
    kinds.Address

kind_back : (x : Kind) → kind_at (place_of_kind x) ≡ x
kind_back kinds.Number = refl
kind_back kinds.Tidy = refl
kind_back kinds.Address = refl

one_kind : (x y : Kind) → place_of_kind x ≡ place_of_kind y → x ≡ y
one_kind x y e = sym (kind_back x) ∙ ap kind_at e ∙ kind_back y

abbrev fault_at : ℕ → FaultKind
fault_at n =
    if n == 0 then faults.Overflow else
    if n == 1 then faults.DivZero else
    if n == 2 then faults.Range else
    if n == 3 then faults.Index else
    if n == 4 then faults.Nil else
    if n == 5 then faults.Narrow else
    if n == 6 then faults.Shape else
    if n == 7 then faults.Subarray else
    if n == 8 then faults.Size else
    if n == 9 then faults.NoReturn else
    if n == 10 then faults.NoCase else
    if n == 11 then faults.NoTypecase else
    if n == 12 then faults.Raises else
    if n == 13 then faults.NestedProc else
    if n == 14 then faults.NotHeld else
    faults.JoinTwice

fault_back : (x : FaultKind) → fault_at (number_of_fault x) ≡ x
fault_back faults.Overflow = refl
fault_back faults.DivZero = refl
fault_back faults.Range = refl
fault_back faults.Index = refl
fault_back faults.Nil = refl
fault_back faults.Narrow = refl
fault_back faults.Shape = refl
fault_back faults.Subarray = refl
fault_back faults.Size = refl
fault_back faults.NoReturn = refl
fault_back faults.NoCase = refl
fault_back faults.NoTypecase = refl
fault_back faults.Raises = refl
fault_back faults.NestedProc = refl
fault_back faults.NotHeld = refl
fault_back faults.JoinTwice = refl

one_fault : (x y : FaultKind) → number_of_fault x ≡ number_of_fault y → x ≡ y
one_fault x y e = sym (fault_back x) ∙ ap fault_at e ∙ fault_back y

pub is_fault : (x y : FaultKind) → same_fault x y ≡ true → x ≡ y
is_fault x y e = one_fault x y (same_number (number_of_fault x) (number_of_fault y) e)

abbrev tag_at : ℕ → ℕ → Tag
tag_at n d =
    if n == 0 then tags.Operator (operator_at d) else
    if n == 1 then tags.Checked (checked_at d) else
    if n == 2 then tags.Compared (relation_at d) else
    if n == 3 then tags.Environment else
    if n == 4 then tags.OwnSlot d else
    if n == 5 then tags.TypeTest d else
    if n == 6 then tags.MethodOf d else
    if n == 7 then tags.Loaded else
    if n == 8 then tags.EqualWords else
    if n == 9 then tags.TextByte else
    tags.EqualTexts

tag_back : (x : Tag) → tag_at (place_of_tag x) (detail_of_tag x) ≡ x
tag_back (tags.Operator o) = ap tags.Operator (operator_back o)
tag_back (tags.Checked o) = ap tags.Checked (checked_back o)
tag_back (tags.Compared r) = ap tags.Compared (relation_back r)
tag_back tags.Environment = refl
tag_back (tags.OwnSlot n) = refl
tag_back (tags.TypeTest n) = refl
tag_back (tags.MethodOf n) = refl
tag_back tags.Loaded = refl
tag_back tags.EqualWords = refl
tag_back tags.TextByte = refl
tag_back tags.EqualTexts = refl

pub is_tag : (x y : Tag) → same_tag x y ≡ true → x ≡ y
is_tag x y e =
    let h = both _ _ e in
    sym (tag_back x) ∙ ap (λ n. tag_at n (detail_of_tag x)) (same_number (place_of_tag x) (place_of_tag y) h.0)
    ∙ ap (tag_at (place_of_tag y)) (same_number (detail_of_tag x) (detail_of_tag y) h.1) ∙ tag_back y

pub is_place : (x y : Pos) → same_place x y ≡ true → x ≡ y
is_place x y e =
    let h = both _ _ e in
    let h2 = both _ _ h.0 in
    ap (λ n. record { file = n; line = x.line; col = x.col }) (same_number x.file y.file h2.0)
    ∙ ap (λ n. record { file = y.file; line = n; col = x.col }) (same_number x.line y.line h2.1)
    ∙ ap (λ n. record { file = y.file; line = y.line; col = n }) (same_number x.col y.col h.1)

is_flag : (x y : Bool) → same_flag x y ≡ true → x ≡ y
is_flag true true e = refl
is_flag false false e = refl
is_flag true false e = absurd (let bad : false ≡ true = e in cc)
is_flag false true e = absurd (let bad : false ≡ true = e in cc)

is_slot : (x y : Slot) → same_slot x y ≡ true → x ≡ y
is_slot x y e =
    let h = both _ _ e in
    ap (λ k. record { kind = k; is_shared = x.is_shared }) (one_kind x.kind y.kind (same_number (place_of_kind x.kind) (place_of_kind y.kind) h.0))
    ∙ ap (λ b. record { kind = y.kind; is_shared = b }) (is_flag x.is_shared y.is_shared h.1)

pub are_slots : (xs ys : List Slot) → same_slots xs ys ≡ true → xs ≡ ys
are_slots [] [] e = refl
are_slots (x ∷ xs) (y ∷ ys) e =
    let h = both _ _ e in ap (λ z. z ∷ xs) (is_slot x y h.0) ∙ ap (λ zs. y ∷ zs) (are_slots xs ys h.1)
are_slots [] (y ∷ ys) e = absurd (let bad : false ≡ true = e in cc)
are_slots (x ∷ xs) [] e = absurd (let bad : false ≡ true = e in cc)

pub is_choice : (x y : Option ℕ) → same_choice x y ≡ true → x ≡ y
is_choice None None e = refl
is_choice (Some x) (Some y) e = ap (λ z. Some z) (same_number x y e)
is_choice None (Some y) e = absurd (let bad : false ≡ true = e in cc)
is_choice (Some x) None e = absurd (let bad : false ≡ true = e in cc)
