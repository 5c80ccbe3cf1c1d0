-- What is known is true, and stays so.
use Rattle.std.proofs.Common.{◌≡◌, ℕ, suc, Bool, true, false, List, [], ◌∷◌, refl, sym, ap, ◌∙◌, subst, arith}
use Rattle.std.specs.Prelude.{◌==◌, not, if◌then◌else◌, Option, Some, None}
use Rattle.std.specs.Option.{option_map}
use Rattle.m3_mid.specs.declared.ops.Relation.{Relation}
use Rattle.m3_mid_meaning.specs.Words.{Word, number, normal}
use Rattle.m3_mid_meaning.specs.Memory.{Memory, Around}
use Rattle.m3_mid_meaning.specs.Operations.{is_true, flag_word}
use Rattle.m3_same_forms.specs.declared.forms.Symbol.{Symbol}
use Rattle.m3_same_forms.specs.declared.forms.Symbol.TheVariants as symbols
use Rattle.m3_same_forms.specs.declared.forms.Tag.{Tag}
use Rattle.m3_same_forms.specs.declared.forms.Tag.TheVariants as tags
use Rattle.m3_same_forms.specs.Forms.{Form, Query, Known, of_symbol}
use Rattle.m3_same_forms.specs.Seen.{asks}
use Rattle.m3_same_forms.specs.Facts.{same_query, known, is_form, holds, lasts, is_other_slot, kept}
use Rattle.m3_same_forms.specs.Meaning.{Old, OldQuery, eval, with_new, IsWords, given, answer_to, Says, AllTrue}
use Rattle.m3_same_forms.proofs.Codes.{both, is_tag}
use Rattle.m3_same_forms.proofs.Sums.{older, same_eval, symbol_eval, stays}

module _ (around : Around) where
  module _ (v : Symbol → Word) (n : ℕ) (own : ℕ → Option Word) (environment : Option Word) (memory : Memory) where
    abbrev answer : Query → Option Word
    answer x = answer_to around v own environment memory x

    pub same_answer : (x y : Query) → same_query x y ≡ true → answer x ≡ answer y
    same_answer x y e =
        let h = both _ _ e in
        let h2 = both _ _ h.0 in
        let h3 = both _ _ h2.0 in
        ap (λ z. given around own environment memory z (eval v x.first) (eval v x.second) (eval v x.third)) (is_tag x.tag y.tag h3.0)
        ∙ ap (λ z. given around own environment memory y.tag z (eval v x.second) (eval v x.third)) (same_eval v x.first y.first h3.1)
        ∙ ap (λ z. given around own environment memory y.tag (eval v y.first) z (eval v x.third)) (same_eval v x.second y.second h2.1)
        ∙ ap (λ z. given around own environment memory y.tag (eval v y.first) (eval v y.second) z) (same_eval v x.third y.third h.1)

    abbrev pub KnownSo : Query → Form → Type 0
    KnownSo query a = Old n a × (option_map normal (answer query) ≡ Some (eval v a))

    known_if : (query : Query) (a : Form) (x : Known) (xs : List Known) (t : Bool) → same_query x.query query ≡ t → Old n x.value → Says around v own environment memory x.query x.value → (known query xs ≡ Some a → KnownSo query a) →
        (if t then Some x.value else known query xs) ≡ Some a → KnownSo query a
    known_if query a x xs true e old h rest g =
        let same : x.value ≡ a = cc in
        subst (λ z. KnownSo query z) same (old, ap (option_map normal) (sym (same_answer x.query query e)) ∙ h)
    known_if query a x xs false e old h rest g = rest g

    pub known_so : (query : Query) (a : Form) (xs : List Known) → AllTrue around v n own environment memory xs → known query xs ≡ Some a → KnownSo query a
    known_so query a [] h e = absurd (let bad : None ≡ Some a = e in cc)
    known_so query a (x ∷ xs) h e = known_if query a x xs (same_query x.query query) refl h.1 h.2 (known_so query a xs h.3) e

    is_form_so : (a : Form) (r : Option Form) → is_form a r ≡ true → (b : Form) × (r ≡ Some b) × (eval v a ≡ eval v b)
    is_form_so a None e = absurd (let bad : false ≡ true = e in cc)
    is_form_so a (Some b) e = (b, refl, same_eval v a b e)

    -- an answer that is the form
    pub is_answer : (query : Query) (a : Form) (xs : List Known) → AllTrue around v n own environment memory xs → is_form a (known query xs) ≡ true → option_map normal (answer query) ≡ Some (eval v a)
    is_answer query a xs h e =
        let f = is_form_so a (known query xs) e in
        (known_so query f.0 xs h f.1).1 ∙ ap (λ z. Some z) (sym f.2)

    true_flag : (t : Option Bool) → option_map normal (flag_word t) ≡ Some (number 1) → t ≡ Some true
    true_flag None e = absurd (let bad : None ≡ Some (number 1) = e in cc)
    true_flag (Some true) e = refl
    true_flag (Some false) e =
        let words : normal (number 0) ≡ number 1 = cc in
        let bad : 0 ≡ 1 = ap (λ w. w.offset) words in
        absurd (omega (arith, bad))

    pub holds_so : IsWords around v → (r : Relation) (a b : Form) (xs : List Known) → AllTrue around v n own environment memory xs → holds r a b xs ≡ true → is_true r (eval v a) (eval v b) ≡ Some true
    holds_so ws r a b xs h e =
        let one : eval v (of_symbol symbols.One) ≡ number 1 = sym (symbol_eval v symbols.One (ws.normals symbols.One)) ∙ ws.one in
        true_flag (is_true r (eval v a) (eval v b)) (is_answer (asks (tags.Compared r) a b []) (of_symbol symbols.One) xs h e ∙ ap (λ z. Some z) one)

  -- ---- a new word

  module _ (v : Symbol → Word) (n : ℕ) (w : Word) (own : ℕ → Option Word) (environment : Option Word) (memory : Memory) where
    says_still : (x : Query) (a : Form) → OldQuery n x → Old n a → Says around v own environment memory x a → Says around (with_new v n w) own environment memory x a
    says_still x a o p h =
        ap (λ z. option_map normal (given around own environment memory x.tag z (eval (with_new v n w) x.second) (eval (with_new v n w) x.third))) (sym (stays v n w x.first o.0))
        ∙ ap (λ z. option_map normal (given around own environment memory x.tag (eval v x.first) z (eval (with_new v n w) x.third))) (sym (stays v n w x.second o.1))
        ∙ ap (λ z. option_map normal (given around own environment memory x.tag (eval v x.first) (eval v x.second) z)) (sym (stays v n w x.third o.2))
        ∙ h ∙ ap (λ z. Some z) (stays v n w a p)

    pub older_query : (x : Query) → OldQuery n x → OldQuery (suc n) x
    older_query x o = (older n x.first o.0, older n x.second o.1, older n x.third o.2)

    pub true_still : (xs : List Known) → AllTrue around v n own environment memory xs → AllTrue around (with_new v n w) (suc n) own environment memory xs
    true_still [] h = tt
    true_still (x ∷ xs) h = (older_query x.query h.0, older n x.value h.1, says_still x.query x.value h.0 h.1 h.2, true_still xs h.3)

  -- ---- what lasts

  -- these tags ask the same there as here
  abbrev pub AsksSame : (Tag → Bool) → (own own' : ℕ → Option Word) (environment environment' : Option Word) (memory memory' : Memory) → Type 0
  AsksSame stays own own' environment environment' memory memory' =
      (tag : Tag) → stays tag ≡ true → (a b c : Word) → given around own environment memory tag a b c ≡ given around own' environment' memory' tag a b c

  module _ (v : Symbol → Word) (n : ℕ) (stays : Tag → Bool) (own own' : ℕ → Option Word) (environment environment' : Option Word) (memory memory' : Memory) (same : AsksSame stays own own' environment environment' memory memory') where
    kept_if : (x : Known) (xs : List Known) (t : Bool) → stays x.query.tag ≡ t → AllTrue around v n own environment memory (x ∷ xs) → AllTrue around v n own' environment' memory' (kept stays xs) →
        AllTrue around v n own' environment' memory' (if t then x ∷ kept stays xs else kept stays xs)
    kept_if x xs true e h rest =
        (h.0, h.1, ap (option_map normal) (sym (same x.query.tag e (eval v x.query.first) (eval v x.query.second) (eval v x.query.third))) ∙ h.2, rest)
    kept_if x xs false e h rest = rest

    pub kept_true : (xs : List Known) → AllTrue around v n own environment memory xs → AllTrue around v n own' environment' memory' (kept stays xs)
    kept_true [] h = tt
    kept_true (x ∷ xs) h = kept_if x xs (stays x.query.tag) refl h (kept_true xs h.3)

  no : {P : Type 0} → false ≡ true → P
  no e = absurd (let bad : false ≡ true = e in cc)

  pub lasting : (own : ℕ → Option Word) (environment : Option Word) (memory memory' : Memory) → AsksSame lasts own own environment environment memory memory'
  lasting own environment memory memory' (tags.Operator o) e a b c = refl
  lasting own environment memory memory' (tags.Checked o) e a b c = refl
  lasting own environment memory memory' (tags.Compared r) e a b c = refl
  lasting own environment memory memory' tags.Environment e a b c = refl
  lasting own environment memory memory' (tags.OwnSlot n) e a b c = refl
  lasting own environment memory memory' (tags.TypeTest n) e a b c = no e
  lasting own environment memory memory' (tags.MethodOf n) e a b c = no e
  lasting own environment memory memory' tags.Loaded e a b c = no e
  lasting own environment memory memory' tags.EqualWords e a b c = no e
  lasting own environment memory memory' tags.TextByte e a b c = no e
  lasting own environment memory memory' tags.EqualTexts e a b c = no e

  other_at : (w old : Option Word) (b : Bool) → not b ≡ true → old ≡ (if b then w else old)
  other_at w old true e = no e
  other_at w old false e = refl

  pub other_slots : (n : ℕ) (w : Option Word) (own : ℕ → Option Word) (environment : Option Word) (memory : Memory) → AsksSame (is_other_slot n) own (λ m. if m == n then w else own m) environment environment memory memory
  other_slots n w own environment memory (tags.Operator o) e a b c = refl
  other_slots n w own environment memory (tags.Checked o) e a b c = refl
  other_slots n w own environment memory (tags.Compared r) e a b c = refl
  other_slots n w own environment memory tags.Environment e a b c = refl
  other_slots n w own environment memory (tags.OwnSlot m) e a b c = other_at w (own m) (m == n) e
  other_slots n w own environment memory (tags.TypeTest m) e a b c = refl
  other_slots n w own environment memory (tags.MethodOf m) e a b c = refl
  other_slots n w own environment memory tags.Loaded e a b c = refl
  other_slots n w own environment memory tags.EqualWords e a b c = refl
  other_slots n w own environment memory tags.TextByte e a b c = refl
  other_slots n w own environment memory tags.EqualTexts e a b c = refl
