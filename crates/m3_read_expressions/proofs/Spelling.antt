-- Rows that spell expressions, put together as the readers take them. Nothing is said of what has a type in it.
use Rattle.std.proofs.Common.{ℤ, ◌≡◌, ◌≢◌, ◌⊎◌, Bool, true, false, List, [], ◌∷◌, ◌++◌, Option, None, Some, Bor, refl, sym, subst, inl, inr, ap, ◌∙◌, length, length-append, is_some, arith}
use Rattle.std.specs.Prelude.{◌==◌}
use Rattle.std.proofs.lemmas.Bool.{false≢true, eqb-true}
use Rattle.m3_base.specs.declared.places.Pos.{Pos}
use Rattle.m3_syntax.specs.declared.expressions.Actual.{Actual}
use Rattle.m3_syntax.specs.declared.expressions.Actual.TheVariants as act
use Rattle.m3_syntax.specs.declared.expressions.Expr.{Expr}
use Rattle.m3_syntax.specs.declared.expressions.Expr.TheVariants as e
use Rattle.m3_syntax.specs.declared.expressions.Operation.{Operation}
use Rattle.m3_syntax.specs.declared.expressions.PrefixSign.{PrefixSign}
use Rattle.m3_syntax.specs.declared.expressions.Selector.{Selector}
use Rattle.m3_syntax.specs.declared.expressions.Selector.TheVariants as sel
use Rattle.m3_syntax.specs.declared.names.Name.{Name}
use Rattle.m3_syntax.specs.declared.tokens.Sign.{Sign}
use Rattle.m3_syntax.specs.declared.tokens.Sign.TheVariants as s
use Rattle.m3_syntax.specs.declared.tokens.TokenKind.TheVariants.{Number}
use Rattle.m3_syntax.specs.declared.tokens.Word.TheVariants as w
use Rattle.m3_read_grammar.specs.declared.operators.Level.{Level}
use Rattle.m3_read_grammar.specs.Ranks.{Rank, whole, e2, e3, e6, e7, e8, next, rank_of}
use Rattle.m3_read_grammar.specs.Tokens.{Row, IsAt, IsToken, IsWord, IsSign, IsName}
use Rattle.m3_read_grammar.specs.Expressions as g
use Rattle.m3_read_grammar.specs.Plain as plain
use Rattle.m3_read_cursor.specs.declared.reader.Reader.{Reader}
use Rattle.m3_read_expressions.specs.declared.settings.Found.{Found}
use Rattle.m3_read_expressions.specs.declared.settings.Found.TheVariants as f
use Rattle.m3_read_cursor.specs.Steps.{IsInfix, is_infix, IsPrefixSign, plus, minus, BindingSpells, NameSpells}
use Rattle.m3_read_expressions.specs.Spelled.{FoundSpells, SelectorSpells, IndexesSpell, indexed, by_type, ActualsSpell, passed, with_type}
use Rattle.m3_read_expressions.proofs.Begun.{IndexesBegun, no_index, index_comma, index_type, ActualsBegun, no_actual, actual_comma, actual_type}

-- ---- faults

-- a fault that is kept is there
pub stopped : {A P : Type 0} {kept : Option A} → is_some kept ≡ true → kept ≡ None → P
stopped some none = absurd (false≢true (sym (ap is_some none) ∙ some))

-- a reader that is the same stands at the same token
pub same_rest : {old new : Reader} → new ≡ old → new.rest.now ≡ old.rest.now
same_rest q = ap (λ reader. reader.rest.now) q

-- the same of an equal row and an equal item
pub moved : {A : Type 0} (P : Row → A → Type 0) {a b : Row} {x y : A} → b ≡ a → y ≡ x → P a x → P b y
moved P {a} {b} {x} {y} rows items h = subst (λ z. P b z) (sym items) (subst (λ z. P z x) (sym rows) h)

-- ---- lists

not_empty : {A : Type 0} (before : List A) (item : A) → before ++ item ∷ [] ≡ [] → ⊥
not_empty before item none = let sum : length (before ++ item ∷ []) ≡ 0 = ap length none in absurd (omega (arith, length-append before (item ∷ []), sum))

-- a row is empty where a test tells so
pub empty_row : {A : Type 0} (items : List A) (test : Bool) → test ≡ (length items == 0) → test ≡ true → items ≡ []
empty_row [] test q h = refl
empty_row (item ∷ items) test q h = let none : length (item ∷ items) ≡ 0 = eqb-true _ _ (sym q ∙ h) in absurd (omega (arith, none))

pub some_row : {A : Type 0} (items : List A) (test : Bool) → test ≡ (length items == 0) → test ≡ false → items ≢ []
some_row [] test q h none = absurd (false≢true (sym h ∙ q))
some_row (item ∷ items) test q h none = absurd (cc)

-- ---- ranks

-- what was found and kept
pub kept_spells : {rank : Rank} {a b c : Row} {thing : Found} {expr : Bor Expr} → FoundSpells rank a b thing → thing ≡ f.Value expr → c ≡ b → plain.Spells rank a c expr.now
kept_spells {rank} {a} {b} {c} {thing} {expr} h q ends = subst (λ y. plain.Spells rank a y expr.now) (sym ends) (subst (λ y. FoundSpells rank a b y) q h)

-- what is spelled by a node that was kept
pub node_spells : {rank : Rank} {a b c : Row} {node expr : Expr} → node ≡ expr → c ≡ b → plain.Spells rank a b expr → plain.Spells rank a c node
node_spells {rank} {a} q ends h = moved (λ y x. plain.Spells rank a y x) ends q h

pub node_typed : {node expr : Expr} → node ≡ expr → plain.HasType expr → plain.HasType node
node_typed q h = subst (λ x. plain.HasType x) (sym q) h

loosen : {rank : Rank} {a b : Row} {expr : Expr} → plain.Spells (next rank) a b expr → plain.Spells rank a b expr
loosen (inl h) = inl (g.tighter h)
loosen (inr h) = inr h

-- what is tighter is found where nothing stands before it
pub loosened : (rank : Rank) (a b c : Row) (thing : Found) → b ≡ a → FoundSpells (next rank) b c thing → FoundSpells rank a c thing
loosened rank a b c (f.Value expr) q h = loosen {rank = rank} (subst (λ x. plain.Spells (next rank) x c expr.now) q h)
loosened rank a b c (f.TypeExp kind) q h = tt

-- an operand alone is an expression
alone : {a b : Row} {expr : Expr} → g.IsExpr e8 a b expr → g.IsExpr whole a b expr
alone h = g.tighter (g.tighter (g.tighter (g.tighter (g.tighter (g.tighter (g.tighter (g.tighter h)))))))

-- ---- negations and signs

-- no NOT
pub not_negated : (a : Row) {words : List Pos} → words ≡ [] → g.IsNots a a words
not_negated a q = subst (λ x. g.IsNots a a x) (sym q) g.no_nots

-- one more NOT
pub one_not : {a b c : Row} {words : List Pos} (pos : Pos) → g.IsNots a b words → IsAt pos b → IsWord w.Not b c → g.IsNots a c (words ++ pos ∷ [])
one_not pos h at here = g.nots pos h at here

pub nothing_negated : {a b : Row} {words : List Pos} → g.IsNots a b words → words ≡ [] → b ≡ a
nothing_negated g.no_nots q = refl
nothing_negated (g.nots {words = words} pos h at here) q = absurd (not_empty words pos q)

pub negated : {a b c : Row} (pos : Pos) (words : Bor (List Pos)) (operand : Bor Expr) → IsAt pos a → g.IsNots a b words.now → words.now ≢ [] → plain.Spells e3 b c operand.now
    → plain.Spells e2 a c (e.Not pos words operand)
negated pos words operand at h some (inl x) = inl (g.negation pos words operand at h some x)
negated pos words operand at h some (inr x) = inr (plain.in_negation pos words operand x)

pub unsigned : (a : Row) {signs : List PrefixSign} → signs ≡ [] → g.IsSigns a a signs
unsigned a q = subst (λ x. g.IsSigns a a x) (sym q) g.no_signs

pub no_sign : {a b : Row} {signs : List PrefixSign} → g.IsSigns a b signs → signs ≡ [] → b ≡ a
no_sign g.no_signs q = refl
no_sign (g.plus {signs = signs} sign h at here is) q = absurd (not_empty signs sign q)
no_sign (g.minus {signs = signs} sign h at here is) q = absurd (not_empty signs sign q)

pub one_sign : {a b c : Row} {signs : List PrefixSign} {sign : PrefixSign} → g.IsSigns a b signs → IsPrefixSign b c sign → g.IsSigns a c (signs ++ sign ∷ [])
one_sign {sign = sign} h (plus at here is) = g.plus sign h at here is
one_sign {sign = sign} h (minus at here is) = g.minus sign h at here is

pub signed : {a b c : Row} (pos : Pos) (signs : Bor (List PrefixSign)) (operand : Bor Expr) → IsAt pos a → g.IsSigns a b signs.now → signs.now ≢ [] → plain.Spells e7 b c operand.now
    → plain.Spells e6 a c (e.Signed pos signs operand)
signed pos signs operand at h some (inl x) = inl (g.signed pos signs operand at h some x)
signed pos signs operand at h some (inr x) = inr (plain.in_signed pos signs operand x)

-- ---- operations

abbrev pub Operated : Level → Row → Row → List Operation → Type 0
Operated level a b operations = g.IsOperations level a b operations ⊎ plain.HaveType operations

nothing_operated : {level : Level} {a b : Row} {operations : List Operation} → g.IsOperations level a b operations → operations ≡ [] → b ≡ a
nothing_operated g.no_operations q = refl
nothing_operated (g.operation {operations = before} operation h at here is level right) q = absurd (not_empty before operation q)

nothing_typed : {operations : List Operation} → plain.HaveType operations → operations ≡ [] → ⊥
nothing_typed (plain.operation_before {before} operation h) q = not_empty before operation q
nothing_typed (plain.operation_last before operation h) q = not_empty before operation q

-- no operator yet
pub unoperated : (level : Level) (a : Row) {operations : List Operation} → operations ≡ [] → Operated level a a operations
unoperated level a q = subst (λ x. Operated level a a x) (sym q) (inl g.no_operations)

-- an operand that no operator follows
pub one_operand : (level : Level) {a b c : Row} {expr : Expr} {operations : List Operation} → plain.Spells (next (rank_of level)) a b expr → Operated level b c operations → operations ≡ []
    → plain.Spells (rank_of level) a c expr
one_operand level {a} {b} {c} {expr} h (inl none) q = subst (λ x. plain.Spells (rank_of level) a x expr) (sym (nothing_operated none q)) (loosen h)
one_operand level h (inr typed) q = absurd (nothing_typed typed q)

-- an operand with the operators that follow it
pub operated : (level : Level) {a b c : Row} (pos : Pos) (first : Bor Expr) (rest : Bor (List Operation)) → IsAt pos a → plain.Spells (next (rank_of level)) a b first.now
    → Operated level b c rest.now → rest.now ≢ [] → plain.Spells (rank_of level) a c (e.Operations pos first rest)
operated level pos first rest at (inl x) (inl y) some = inl (g.operations pos first rest at x y some)
operated level pos first rest at (inl x) (inr y) some = inr (plain.in_rest pos first rest y)
operated level pos first rest at (inr x) y some = inr (plain.in_first pos first rest x)

-- one more operator with its operand
pub one_operation : (level : Level) {a b c d : Row} {operations : List Operation} (operation : Operation) → Operated level a b operations → IsAt operation.pos b
    → IsInfix level b c operation.operator → plain.Spells (next (rank_of level)) c d operation.right.now → Operated level a d (operations ++ operation ∷ [])
one_operation level operation (inr typed) at here right = inr (plain.operation_before operation typed)
one_operation level {operations = operations} operation (inl h) at here (inr typed) = inr (plain.operation_last operations operation typed)
one_operation level operation (inl h) at (is_infix kind here is of_level) (inl right) = inl (g.operation operation h at here is of_level right)

-- ---- selectors

abbrev pub Selecting : Row → Row → List Selector → Type 0
Selecting a b selectors = g.IsSelectors a b selectors ⊎ plain.SelectByType selectors

nothing_selected : {a b : Row} {selectors : List Selector} → g.IsSelectors a b selectors → selectors ≡ [] → b ≡ a
nothing_selected g.no_selectors q = refl
nothing_selected (g.selector {selectors = before} {selector = last} h here) q = absurd (not_empty before last q)

no_typed_selector : {selectors : List Selector} → plain.SelectByType selectors → selectors ≡ [] → ⊥
no_typed_selector (plain.selector_before {before} selector h) q = not_empty before selector q
no_typed_selector (plain.selector_last before {selector} h) q = not_empty before selector q

-- no selector yet
pub unselecting : (a : Row) {selectors : List Selector} → selectors ≡ [] → Selecting a a selectors
unselecting a q = subst (λ x. Selecting a a x) (sym q) (inl g.no_selectors)

-- one more selector
pub one_selector : {a b c : Row} {selectors : List Selector} {selector : Selector} → Selecting a b selectors → g.IsSelector b c selector ⊎ plain.SelectsByType selector
    → Selecting a c (selectors ++ selector ∷ [])
one_selector {selector = selector} (inr typed) here = inr (plain.selector_before selector typed)
one_selector {selectors = selectors} (inl h) (inr typed) = inr (plain.selector_last selectors typed)
one_selector (inl h) (inl here) = inl (g.selector h here)

-- an operand that no selector follows
pub unselected : {a b c : Row} {expr : Expr} {selectors : List Selector} → plain.Spells e8 a b expr → Selecting b c selectors → selectors ≡ [] → plain.Spells e7 a c expr
unselected {a} {b} {c} {expr} h (inl none) q = subst (λ x. plain.Spells e7 a x expr) (sym (nothing_selected none q)) (loosen {rank = e7} h)
unselected h (inr typed) q = absurd (no_typed_selector typed q)

-- an operand with the selectors that follow it
pub selected : {a b c : Row} (pos : Pos) (operand : Bor Expr) (selectors : Bor (List Selector)) → IsAt pos a → plain.Spells e8 a b operand.now → Selecting b c selectors.now → selectors.now ≢ []
    → plain.Spells e7 a c (e.Selected pos operand selectors)
selected pos operand selectors at (inl x) (inl y) some = inl (g.selected pos operand selectors at x y some)
selected pos operand selectors at (inl x) (inr y) some = inr (plain.in_selectors pos operand selectors y)
selected pos operand selectors at (inr x) y some = inr (plain.in_operand pos operand selectors x)

pub indexed_by : {a b c : Row} (pos : Pos) (indexes : Bor (List Expr)) → IsAt pos a → IsSign s.OpenBracket a b → IndexesSpell b c indexes.now
    → g.IsSelector a c (sel.Index pos indexes) ⊎ plain.SelectsByType (sel.Index pos indexes)
indexed_by pos indexes at opened (indexed close h closed) = inl (g.index pos indexes at opened h closed)
indexed_by pos indexes at opened (by_type h) = inr (plain.in_indexes pos indexes h)

pub called_with : {a b c : Row} (pos : Pos) (actuals : Bor (List Actual)) → IsAt pos a → IsSign s.OpenParen a b → ActualsSpell b c actuals.now
    → g.IsSelector a c (sel.Call pos actuals) ⊎ plain.SelectsByType (sel.Call pos actuals)
called_with pos actuals at opened (passed close h closed) = inl (g.call pos actuals at opened h closed)
called_with pos actuals at opened (with_type h) = inr (plain.in_actuals pos actuals h)

-- ---- indexes and actuals

abbrev pub Indexing : Row → Row → List Expr → Type 0
Indexing a b indexes = g.IsExprs a b indexes ⊎ plain.IndexByType indexes

abbrev pub Passing : Row → Row → List Actual → Type 0
Passing a b actuals = g.IsActuals a b actuals ⊎ plain.PassType actuals

-- one more index
pub one_index : {a b c : Row} {indexes : List Expr} {index : Expr} → IndexesBegun a b indexes → plain.Spells whole b c index → g.IsExprs a c (indexes ++ index ∷ []) ⊎ plain.IndexByType (indexes ++ index ∷ [])
one_index {a} {b} {c} {indexes} {index} (no_index q none) (inl h) =
    inl (subst (λ x. g.IsExprs a c (x ++ index ∷ [])) (sym none) (g.one_expr (subst (λ x. g.IsExpr whole x c index) q h)))
one_index {index = index} (index_comma comma before sign) (inl h) = inl (g.exprs before sign h)
one_index {index = index} (index_type typed) h = inr (plain.index_before index typed)
one_index {indexes = indexes} begun (inr typed) = inr (plain.index_last indexes typed)

-- one more actual
pub one_actual : {a b c : Row} {actuals : List Actual} {actual : Actual} → ActualsBegun a b actuals → g.IsActual b c actual ⊎ plain.PassesType actual
    → g.IsActuals a c (actuals ++ actual ∷ []) ⊎ plain.PassType (actuals ++ actual ∷ [])
one_actual {a} {b} {c} {actuals} {actual} (no_actual q none) (inl h) =
    inl (subst (λ x. g.IsActuals a c (x ++ actual ∷ [])) (sym none) (g.one_actual (subst (λ x. g.IsActual x c actual) q h)))
one_actual (actual_comma comma before some sign) (inl h) = inl (g.actuals before some sign h)
one_actual {actual = actual} (actual_type typed) h = inr (plain.actual_before actual typed)
one_actual {actuals = actuals} begun (inr typed) = inr (plain.actual_last actuals typed)

-- a comma follows
pub indexes_go_on : {a b c : Row} {indexes : List Expr} → g.IsExprs a b indexes ⊎ plain.IndexByType indexes → IsSign s.Comma b c → IndexesBegun a c indexes
indexes_go_on (inl h) sign = index_comma _ h sign
indexes_go_on (inr typed) sign = index_type typed

pub actuals_go_on : {a b c : Row} {actuals : List Actual} → g.IsActuals a b actuals ⊎ plain.PassType actuals → actuals ≢ [] → IsSign s.Comma b c → ActualsBegun a c actuals
actuals_go_on (inl h) some sign = actual_comma _ h some sign
actuals_go_on (inr typed) some sign = actual_type typed

-- a bracket or a parenthesis closes them
pub indexes_end : {a b c : Row} {indexes : List Expr} → g.IsExprs a b indexes ⊎ plain.IndexByType indexes → IsSign s.CloseBracket b c → IndexesSpell a c indexes
indexes_end (inl h) sign = indexed _ h sign
indexes_end (inr typed) sign = by_type typed

pub actuals_end : {a b c : Row} {actuals : List Actual} → g.IsActuals a b actuals ⊎ plain.PassType actuals → IsSign s.CloseParen b c → ActualsSpell a c actuals
actuals_end (inl h) sign = passed _ h sign
actuals_end (inr typed) sign = with_type typed

-- a row with one more item is not empty
pub put_more : {A : Type 0} (before : List A) (item : A) {items : List A} → items ≡ before ++ item ∷ [] → items ≢ []
put_more before item q none = not_empty before item (sym q ∙ none)

pub passed_value : {a b : Row} (value : Bor Expr) → plain.Spells whole a b value.now → g.IsActual a b (act.Value value) ⊎ plain.PassesType (act.Value value)
passed_value value (inl h) = inl (g.value value h)
passed_value value (inr typed) = inr (plain.in_value value typed)

pub passed_bound : {a b c d : Row} (name : Name) (value : Bor Expr) → IsName a b name → IsSign s.Assign b c → plain.Spells whole c d value.now
    → g.IsActual a d (act.Named name value) ⊎ plain.PassesType (act.Named name value)
passed_bound name value here sign (inl h) = inl (g.bound value here sign h)
passed_bound name value here sign (inr typed) = inr (plain.in_bound name value typed)

-- an actual that is kept
pub passed_kept : {a b c d : Row} {expr : Expr} (value : Bor Expr) → b ≡ a → plain.Spells whole b c expr → value.now ≡ expr → d ≡ c
    → g.IsActual a d (act.Value value) ⊎ plain.PassesType (act.Value value)
passed_kept {a} {b} {c} {d} {expr} value start h q ends =
    passed_value value (moved (λ y x. plain.Spells whole a y x) ends q (subst (λ x. plain.Spells whole x c expr) start h))

-- a name alone
pub name_alone : {a b : Row} {name : Name} → IsName a b name → plain.Spells whole a b (e.Name name)
name_alone h = inl (alone (g.name h))

-- ---- operands

pub in_parentheses : {a b c d : Row} (pos : Pos) (inner : Bor Expr) → IsAt pos a → IsSign s.OpenParen a b → plain.Spells whole b c inner.now → IsSign s.CloseParen c d
    → plain.Spells e8 a d (e.Parenthesis pos inner)
in_parentheses pos inner at opened (inl h) closed = inl (g.parenthesis pos inner at opened h closed)
in_parentheses pos inner at opened (inr h) closed = inr (plain.in_parenthesis pos inner h)

-- ---- what stands at the beginning, or does not

-- the same sign from the same row on
pub sign_from : {sign : Sign} {a b c : Row} → b ≡ a → IsSign sign b c → IsSign sign a c
sign_from {sign} {a} {b} {c} q h = subst (λ x. IsSign sign x c) q h

pub actuals_from : {a b c : Row} {actuals : List Actual} → b ≡ a → ActualsSpell b c actuals → ActualsSpell a c actuals
actuals_from {a} {b} {c} {actuals} q h = subst (λ x. ActualsSpell x c actuals) q h

-- no actuals in the parentheses
pub unpassed : {a b : Row} {actuals : List Actual} → actuals ≡ [] → IsSign s.CloseParen a b → ActualsSpell a b actuals
unpassed {a} {b} q sign = subst (λ x. ActualsSpell a b x) (sym q) (passed a g.no_actuals sign)

pub unselected_here : {a b : Row} {found : Option Selector} → SelectorSpells a b found → found ≡ None → b ≡ a
unselected_here {a} {b} h q = subst (λ x. SelectorSpells a b x) q h

pub bound_by : {a b : Row} {found : Option Name} {name : Name} → BindingSpells a b found → found ≡ Some name → BindingSpells a b (Some name)
bound_by {a} {b} h q = subst (λ x. BindingSpells a b x) q h

pub unbound_here : {a b : Row} {found : Option Name} → BindingSpells a b found → found ≡ None → b ≡ a
unbound_here {a} {b} h q = subst (λ x. BindingSpells a b x) q h

pub named_by : {a b : Row} {found : Option Name} {name : Name} → NameSpells a b found → found ≡ Some name → IsName a b name
named_by {a} {b} h q = subst (λ x. NameSpells a b x) q h

pub unnamed_here : {a b : Row} {found : Option Name} → NameSpells a b found → found ≡ None → b ≡ a
unnamed_here {a} {b} h q = subst (λ x. NameSpells a b x) q h

-- a number, by a value that is the same
pub number_of : {a b : Row} {pos : Pos} {value same : ℤ} → IsAt pos a → IsToken (Number value) a b → same ≡ value → g.IsExpr e8 a b (e.Number pos same)
number_of {a} {b} {pos} at h q = subst (λ x. g.IsExpr e8 a b (e.Number pos x)) (sym q) (g.number pos at h)
