-- The grammar of expressions and types (the report, sections 2.2, 2.6 and 2.9): which rows of tokens
-- spell which trees. A row is said by what stands from its first token on and what stands behind its last.
-- Each node has the place of its first token.
use Rattle.std.specs.Prelude.{◌≡◌, ◌≢◌, Bool, true, false, ℕ, ℤ, List, [], ◌∷◌, ◌++◌, Option, None, Some}
use Rattle.std.proofs.Common.{Bor}
use Rattle.m3_base.specs.declared.places.Pos.{Pos}
use Rattle.m3_syntax.specs.declared.expressions.Actual.{Actual}
use Rattle.m3_syntax.specs.declared.expressions.Actual.TheVariants as act
use Rattle.m3_syntax.specs.declared.expressions.Brand.{Brand}
use Rattle.m3_syntax.specs.declared.expressions.Element.{Element}
use Rattle.m3_syntax.specs.declared.expressions.Element.TheVariants as elt
use Rattle.m3_syntax.specs.declared.expressions.Expr.{Expr}
use Rattle.m3_syntax.specs.declared.expressions.Expr.TheVariants as e
use Rattle.m3_syntax.specs.declared.expressions.Field.{Field}
use Rattle.m3_syntax.specs.declared.expressions.Formal.{Formal}
use Rattle.m3_syntax.specs.declared.expressions.Init.{Init}
use Rattle.m3_syntax.specs.declared.expressions.Init.TheVariants as init
use Rattle.m3_syntax.specs.declared.expressions.Method.{Method, out-Method}
use Rattle.m3_syntax.specs.declared.expressions.ObjectPart.{ObjectPart, out-ObjectPart}
use Rattle.m3_syntax.specs.declared.expressions.Operation.{Operation}
use Rattle.m3_syntax.specs.declared.expressions.Override.{Override}
use Rattle.m3_syntax.specs.declared.expressions.PrefixSign.{PrefixSign}
use Rattle.m3_syntax.specs.declared.expressions.Selector.{Selector}
use Rattle.m3_syntax.specs.declared.expressions.Selector.TheVariants as sel
use Rattle.m3_syntax.specs.declared.expressions.Signature.{Signature, out-Signature}
use Rattle.m3_syntax.specs.declared.expressions.TypeExp.{TypeExp}
use Rattle.m3_syntax.specs.declared.expressions.TypeExp.TheVariants as t
use Rattle.m3_syntax.specs.declared.names.Name.{Name}
use Rattle.m3_syntax.specs.declared.names.TypeName.{TypeName}
use Rattle.m3_syntax.specs.declared.tokens.TokenKind.{TokenKind}
use Rattle.m3_syntax.specs.declared.tokens.TokenKind.TheVariants.{Ident, Number, CharLit, TextLit}
use Rattle.m3_syntax.specs.declared.tokens.Sign.TheVariants as s
use Rattle.m3_syntax.specs.declared.tokens.Word.TheVariants as w
use Rattle.m3_read_grammar.specs.declared.operators.Level.{Level}
use Rattle.m3_read_grammar.specs.Operators.{operator_of, level_of}
use Rattle.m3_read_grammar.specs.Ranks.{Rank, whole, e2, e3, e6, e7, e8, next, rank_of}
use Rattle.m3_read_grammar.specs.Tokens.{Row, first_kind, IsAt, IsWritten, IsToken, IsWord, IsSign, IsName}
use Rattle.m3_read_grammar.specs.Names.{IsNames, IsTypeName, IsRaises, IsMode, IsNameAlone}

-- {NOT}, by the places of the words
pub data IsNots : Row → Row → List Pos → Type 0 where
  no_nots : {a : Row} → IsNots a a []
  nots : {a b c : Row} {words : List Pos} (pos : Pos) → IsNots a b words → IsAt pos b → IsWord w.Not b c → IsNots a c (words ++ pos ∷ [])

-- {"+" | "-"}
pub data IsSigns : Row → Row → List PrefixSign → Type 0 where
  no_signs : {a : Row} → IsSigns a a []
  plus : {a b c : Row} {signs : List PrefixSign} (sign : PrefixSign) → IsSigns a b signs → IsAt sign.pos b → IsSign s.Plus b c → sign.is_minus ≡ false → IsSigns a c (signs ++ sign ∷ [])
  minus : {a b c : Row} {signs : List PrefixSign} (sign : PrefixSign) → IsSigns a b signs → IsAt sign.pos b → IsSign s.Minus b c → sign.is_minus ≡ true → IsSigns a c (signs ++ sign ∷ [])

-- the text of BRANDED begins with an identifier, a text literal or a parenthesis
pub data BeginsBrand (a : Row) : Type 0 where
  with_name : first_kind a ≡ Some Ident → BeginsBrand a
  with_text : first_kind a ≡ Some TextLit → BeginsBrand a
  with_parenthesis : {b : Row} → IsSign s.OpenParen a b → BeginsBrand a

mutual
  pub data IsExpr : Rank → Row → Row → Expr → Type 0 where
    -- what is of the next rank is of this one too
    tighter : {r : Rank} {a b : Row} {expr : Expr} → IsExpr (next r) a b expr → IsExpr r a b expr
    -- Expr = E1 {OR E1}, E1 = E2 {AND E2}, E3 = E4 {relation E4}, E4 = E5 {("+" | "-" | "&") E5}, E5 = E6 {("*" | "/" | DIV | MOD) E6}
    operations : {level : Level} {a b c : Row} (pos : Pos) (first : Bor Expr) (rest : Bor (List Operation)) → IsAt pos a → IsExpr (next (rank_of level)) a b first.now
        → IsOperations level b c rest.now → rest.now ≢ [] → IsExpr (rank_of level) a c (e.Operations pos first rest)
    -- E2 = {NOT} E3
    negation : {a b c : Row} (pos : Pos) (words : Bor (List Pos)) (operand : Bor Expr) → IsAt pos a → IsNots a b words.now → words.now ≢ [] → IsExpr e3 b c operand.now
        → IsExpr e2 a c (e.Not pos words operand)
    -- E6 = {"+" | "-"} E7
    signed : {a b c : Row} (pos : Pos) (signs : Bor (List PrefixSign)) (operand : Bor Expr) → IsAt pos a → IsSigns a b signs.now → signs.now ≢ [] → IsExpr e7 b c operand.now
        → IsExpr e6 a c (e.Signed pos signs operand)
    -- E7 = E8 {selector}
    selected : {a b c : Row} (pos : Pos) (operand : Bor Expr) (selectors : Bor (List Selector)) → IsAt pos a → IsExpr e8 a b operand.now → IsSelectors b c selectors.now → selectors.now ≢ []
        → IsExpr e7 a c (e.Selected pos operand selectors)
    -- E8 = Id | Number | CharLit | TextLit | "(" Expr ")" | Type "{" [Cons] "}"
    name : {a b : Row} {name : Name} → IsName a b name → IsExpr e8 a b (e.Name name)
    number : {a b : Row} (pos : Pos) {value : ℤ} → IsAt pos a → IsToken (Number value) a b → IsExpr e8 a b (e.Number pos value)
    character : {a b : Row} (pos : Pos) {value : ℕ} → IsAt pos a → IsToken (CharLit value) a b → IsExpr e8 a b (e.CharLit pos value)
    text : {a b : Row} (pos : Pos) (text : Bor (List ℕ)) → IsAt pos a → IsToken TextLit a b → IsWritten text.now a → IsExpr e8 a b (e.TextLit pos text)
    parenthesis : {a b c d : Row} (pos : Pos) (inner : Bor Expr) → IsAt pos a → IsSign s.OpenParen a b → IsExpr whole b c inner.now → IsSign s.CloseParen c d
        → IsExpr e8 a d (e.Parenthesis pos inner)
    constructor : {a b c d f : Row} (pos brace : Pos) (kind : Bor TypeExp) (elements : Bor (List Element)) {is_filled : Bool} → IsAt pos a → IsType a b kind.now
        → IsAt brace b → IsSign s.OpenBrace b c → IsCons c d elements.now is_filled → IsSign s.CloseBrace d f → IsExpr e8 a f (e.Constructor pos kind brace elements is_filled)

  -- {operator operand}, of one level
  pub data IsOperations : Level → Row → Row → List Operation → Type 0 where
    no_operations : {level : Level} {a : Row} → IsOperations level a a []
    operation : {level : Level} {a b c d : Row} {kind : TokenKind} {operations : List Operation} (operation : Operation) → IsOperations level a b operations
        → IsAt operation.pos b → IsToken kind b c → operator_of kind ≡ Some operation.operator → level_of operation.operator ≡ level
        → IsExpr (next (rank_of level)) c d operation.right.now → IsOperations level a d (operations ++ operation ∷ [])

  -- {"^" | "." Id | "[" Expr {"," Expr} "]" | "(" [Actuals] ")"}
  pub data IsSelectors : Row → Row → List Selector → Type 0 where
    no_selectors : {a : Row} → IsSelectors a a []
    selector : {a b c : Row} {selectors : List Selector} {selector : Selector} → IsSelectors a b selectors → IsSelector b c selector → IsSelectors a c (selectors ++ selector ∷ [])

  pub data IsSelector : Row → Row → Selector → Type 0 where
    dereference : {a b : Row} (pos : Pos) → IsAt pos a → IsSign s.Caret a b → IsSelector a b (sel.Dereference pos)
    member : {a b c : Row} {name : Name} → IsSign s.Dot a b → IsName b c name → IsSelector a c (sel.Member name)
    index : {a b c d : Row} (pos : Pos) (indexes : Bor (List Expr)) → IsAt pos a → IsSign s.OpenBracket a b → IsExprs b c indexes.now → IsSign s.CloseBracket c d
        → IsSelector a d (sel.Index pos indexes)
    call : {a b c d : Row} (pos : Pos) (actuals : Bor (List Actual)) → IsAt pos a → IsSign s.OpenParen a b → IsActuals b c actuals.now → IsSign s.CloseParen c d
        → IsSelector a d (sel.Call pos actuals)

  -- Expr {"," Expr}
  pub data IsExprs : Row → Row → List Expr → Type 0 where
    one_expr : {a b : Row} {expr : Expr} → IsExpr whole a b expr → IsExprs a b (expr ∷ [])
    exprs : {a b c d : Row} {before : List Expr} {expr : Expr} → IsExprs a b before → IsSign s.Comma b c → IsExpr whole c d expr → IsExprs a d (before ++ expr ∷ [])

  -- [Actual {"," Actual}]
  pub data IsActuals : Row → Row → List Actual → Type 0 where
    no_actuals : {a : Row} → IsActuals a a []
    one_actual : {a b : Row} {actual : Actual} → IsActual a b actual → IsActuals a b (actual ∷ [])
    actuals : {a b c d : Row} {before : List Actual} {actual : Actual} → IsActuals a b before → before ≢ [] → IsSign s.Comma b c → IsActual c d actual → IsActuals a d (before ++ actual ∷ [])

  -- Actual = [Id ":="] Expr | Type, where a type is no expression
  pub data IsActual : Row → Row → Actual → Type 0 where
    value : {a b : Row} (expr : Bor Expr) → IsExpr whole a b expr.now → IsActual a b (act.Value expr)
    bound : {a b c d : Row} {name : Name} (expr : Bor Expr) → IsName a b name → IsSign s.Assign b c → IsExpr whole c d expr.now → IsActual a d (act.Named name expr)
    kind : {a b : Row} (kind : Bor TypeExp) → IsType a b kind.now → (IsNameAlone kind.now → ⊥) → IsActual a b (act.«Type» kind)

  -- [Elt {"," Elt} ["," ".."]]
  pub data IsCons : Row → Row → List Element → Bool → Type 0 where
    no_elements : {a : Row} → IsCons a a [] false
    all_elements : {a b : Row} {elements : List Element} → IsElements a b elements → IsCons a b elements false
    filled : {a b c d : Row} {elements : List Element} → IsElements a b elements → IsSign s.Comma b c → IsSign s.DotDot c d → IsCons a d elements true

  pub data IsElements : Row → Row → List Element → Type 0 where
    one_element : {a b : Row} {element : Element} → IsElement a b element → IsElements a b (element ∷ [])
    elements : {a b c d : Row} {before : List Element} {element : Element} → IsElements a b before → IsSign s.Comma b c → IsElement c d element → IsElements a d (before ++ element ∷ [])

  -- Elt = Expr [".." Expr] | Id ":=" Expr
  pub data IsElement : Row → Row → Element → Type 0 where
    element : {a b : Row} (expr : Bor Expr) → IsExpr whole a b expr.now → IsElement a b (elt.Value expr)
    range : {a b c d : Row} (first last : Bor Expr) → IsExpr whole a b first.now → IsSign s.DotDot b c → IsExpr whole c d last.now → IsElement a d (elt.Range first last)
    field_element : {a b c d : Row} {name : Name} (expr : Bor Expr) → IsName a b name → IsSign s.Assign b c → IsExpr whole c d expr.now → IsElement a d (elt.Named name expr)

  pub data IsType : Row → Row → TypeExp → Type 0 where
    named_type : {a b : Row} {name : TypeName} → IsTypeName a b name → IsType a b (t.Named name)
    type_in_parentheses : {a b c d : Row} (pos : Pos) (inner : Bor TypeExp) → IsAt pos a → IsSign s.OpenParen a b → IsType b c inner.now → IsSign s.CloseParen c d → IsType a d (t.Parenthesis pos inner)
    -- ARRAY [Type {"," Type}] OF Type
    array : {a b c d f : Row} (pos : Pos) (indexes : Bor (List TypeExp)) (element : Bor TypeExp) → IsAt pos a → IsWord w.Array a b → IsIndexes b c indexes.now → IsWord w.Of c d → IsType d f element.now
        → IsType a f (t.Array pos indexes element)
    -- BITS ConstExpr FOR Type
    bits : {a b c d f : Row} (pos : Pos) (width : Bor Expr) (target : Bor TypeExp) → IsAt pos a → IsWord w.Bits a b → IsExpr whole b c width.now → IsWord w.For c d → IsType d f target.now
        → IsType a f (t.Bits pos width target)
    -- "{" [IdList] "}"
    enumeration : {a b c d : Row} (pos : Pos) (members : Bor (List Name)) → IsAt pos a → IsSign s.OpenBrace a b → IsNames b c members.now → IsSign s.CloseBrace c d
        → IsType a d (t.Enumeration pos members)
    -- Object = [TypeName | Object] [Brand] OBJECT .. END
    object : {a b : Row} (pos : Pos) (parts : Bor (List ObjectPart)) → IsAt pos a → IsParts a b parts.now → IsType a b (t.Object pos None parts)
    object_of : {a b c : Row} (pos : Pos) {parent : TypeName} (parts : Bor (List ObjectPart)) → IsAt pos a → IsTypeName a b parent → IsParts b c parts.now
        → IsType a c (t.Object pos (Some parent) parts)
    -- PROCEDURE Sig
    procedure : {a b c : Row} (pos : Pos) {signature : Signature} → IsAt pos a → IsWord w.Procedure a b → IsSignature b c signature → IsType a c (t.Procedure pos signature)
    -- RECORD Fields END
    record_type : {a b c d : Row} (pos : Pos) (fields : Bor (List Field)) → IsAt pos a → IsWord w.Record a b → IsFields b c fields.now → IsWord w.End c d → IsType a d (t.Record pos fields)
    -- [UNTRACED] [Brand] REF Type
    reference : {a b c d : Row} (pos : Pos) {brand : Option Brand} (target : Bor TypeExp) → IsAt pos a → IsBrand a b brand → IsWord w.Ref b c → IsType c d target.now
        → IsType a d (t.Ref pos false brand target)
    untraced : {a b c d f : Row} (pos : Pos) {brand : Option Brand} (target : Bor TypeExp) → IsAt pos a → IsWord w.Untraced a b → IsBrand b c brand → IsWord w.Ref c d → IsType d f target.now
        → IsType a f (t.Ref pos true brand target)
    -- SET OF Type
    set : {a b c d : Row} (pos : Pos) (base : Bor TypeExp) → IsAt pos a → IsWord w.Set a b → IsWord w.Of b c → IsType c d base.now → IsType a d (t.Set pos base)
    -- "[" ConstExpr ".." ConstExpr "]"
    subrange : {a b c d f g : Row} (pos : Pos) (first last : Bor Expr) → IsAt pos a → IsSign s.OpenBracket a b → IsExpr whole b c first.now → IsSign s.DotDot c d → IsExpr whole d f last.now
        → IsSign s.CloseBracket f g → IsType a g (t.Subrange pos first last)

  -- [Type {"," Type}]
  pub data IsIndexes : Row → Row → List TypeExp → Type 0 where
    no_indexes : {a : Row} → IsIndexes a a []
    one_index : {a b : Row} {kind : TypeExp} → IsType a b kind → IsIndexes a b (kind ∷ [])
    indexes : {a b c d : Row} {before : List TypeExp} {kind : TypeExp} → IsIndexes a b before → before ≢ [] → IsSign s.Comma b c → IsType c d kind → IsIndexes a d (before ++ kind ∷ [])

  -- [Brand], where Brand = BRANDED [ConstExpr]
  pub data IsBrand : Row → Row → Option Brand → Type 0 where
    no_brand : {a : Row} → IsBrand a a None
    brand : {a b : Row} (pos : Pos) → IsAt pos a → IsWord w.Branded a b → IsBrand a b (Some (record { pos = pos; text = None }))
    brand_text : {a b c : Row} (pos : Pos) (text : Bor Expr) → IsAt pos a → IsWord w.Branded a b → BeginsBrand b → IsExpr whole b c text.now
        → IsBrand a c (Some (record { pos = pos; text = Some text }))

  -- object types of which each is the parent of the next
  pub data IsParts : Row → Row → List ObjectPart → Type 0 where
    one_part : {a b : Row} {part : ObjectPart} → IsPart a b part → IsParts a b (part ∷ [])
    parts : {a b c : Row} {before : List ObjectPart} {part : ObjectPart} → IsParts a b before → IsPart b c part → IsParts a c (before ++ part ∷ [])

  -- [Brand] OBJECT Fields [METHODS Methods] [OVERRIDES Overrides] END
  pub data IsPart : Row → Row → ObjectPart → Type 0 where
    part : {a b c d f g h : Row} {part : ObjectPart} → IsAt (out-ObjectPart part).pos a → IsBrand a b (out-ObjectPart part).brand → IsWord w.Object b c
        → IsFields c d (out-ObjectPart part).fields.now → IsMethods d f (out-ObjectPart part).methods.now
        → IsOverrides f g (out-ObjectPart part).overrides.now → IsWord w.End g h → IsPart a h part

  -- Fields = [Field {";" Field} [";"]]
  pub data IsFields : Row → Row → List Field → Type 0 where
    no_fields : {a : Row} → IsFields a a []
    last_field : {a b c : Row} {fields : List Field} {field : Field} → IsFieldsThen a b fields → IsField b c field → IsFields a c (fields ++ field ∷ [])
    all_fields : {a b : Row} {fields : List Field} → IsFieldsThen a b fields → IsFields a b fields

  -- fields with a semicolon behind each
  pub data IsFieldsThen : Row → Row → List Field → Type 0 where
    no_fields_yet : {a : Row} → IsFieldsThen a a []
    field_then : {a b c d : Row} {fields : List Field} {field : Field} → IsFieldsThen a b fields → IsField b c field → IsSign s.Semicolon c d → IsFieldsThen a d (fields ++ field ∷ [])

  -- Field = IdList CInit
  pub data IsField : Row → Row → Field → Type 0 where
    field : {a b c : Row} {field : Field} → IsNames a b field.names.now → field.names.now ≢ [] → IsInit b c field.init → IsField a c field

  -- CInit = ":" Type [":=" ConstExpr] | ":=" ConstExpr
  pub data IsInit : Row → Row → Init → Type 0 where
    typed : {a b c d : Row} (kind : Bor TypeExp) {default : Option (Bor Expr)} → IsSign s.Colon a b → IsType b c kind.now → IsDefault c d default → IsInit a d (init.Typed kind default)
    untyped : {a b c : Row} (value : Bor Expr) → IsSign s.Assign a b → IsExpr whole b c value.now → IsInit a c (init.Untyped value)

  -- [":=" ConstExpr]
  pub data IsDefault : Row → Row → Option (Bor Expr) → Type 0 where
    no_default : {a : Row} → IsDefault a a None
    default : {a b c : Row} (value : Bor Expr) → IsSign s.Assign a b → IsExpr whole b c value.now → IsDefault a c (Some value)

  -- [METHODS [Method {";" Method} [";"]]]
  pub data IsMethods : Row → Row → List Method → Type 0 where
    no_methods : {a : Row} → IsMethods a a []
    all_methods : {a b c : Row} {methods : List Method} → IsWord w.Methods a b → IsMethodsThen b c methods → IsMethods a c methods
    last_method : {a b c d : Row} {methods : List Method} {method : Method} → IsWord w.Methods a b → IsMethodsThen b c methods → IsMethod c d method → IsMethods a d (methods ++ method ∷ [])

  pub data IsMethodsThen : Row → Row → List Method → Type 0 where
    no_methods_yet : {a : Row} → IsMethodsThen a a []
    method_then : {a b c d : Row} {methods : List Method} {method : Method} → IsMethodsThen a b methods → IsMethod b c method → IsSign s.Semicolon c d → IsMethodsThen a d (methods ++ method ∷ [])

  -- Method = Id Sig [":=" ConstExpr]
  pub data IsMethod : Row → Row → Method → Type 0 where
    method : {a b c d : Row} {method : Method} → IsName a b (out-Method method).name → IsSignature b c (out-Method method).signature → IsDefault c d (out-Method method).default → IsMethod a d method

  -- [OVERRIDES [Override {";" Override} [";"]]]
  pub data IsOverrides : Row → Row → List Override → Type 0 where
    no_overrides : {a : Row} → IsOverrides a a []
    all_overrides : {a b c : Row} {overrides : List Override} → IsWord w.Overrides a b → IsOverridesThen b c overrides → IsOverrides a c overrides
    last_override : {a b c d : Row} {overrides : List Override} {override : Override} → IsWord w.Overrides a b → IsOverridesThen b c overrides → IsOverride c d override
        → IsOverrides a d (overrides ++ override ∷ [])

  pub data IsOverridesThen : Row → Row → List Override → Type 0 where
    no_overrides_yet : {a : Row} → IsOverridesThen a a []
    override_then : {a b c d : Row} {overrides : List Override} {override : Override} → IsOverridesThen a b overrides → IsOverride b c override → IsSign s.Semicolon c d
        → IsOverridesThen a d (overrides ++ override ∷ [])

  -- Override = Id ":=" ConstExpr
  pub data IsOverride : Row → Row → Override → Type 0 where
    override : {a b c d : Row} {override : Override} → IsName a b override.name → IsSign s.Assign b c → IsExpr whole c d override.value.now → IsOverride a d override

  -- Sig = "(" [Formal {";" Formal} [";"]] ")" [":" Type] [RAISES Raises]
  pub data IsSignature : Row → Row → Signature → Type 0 where
    signature : {a b c d f g : Row} {signature : Signature} → IsAt (out-Signature signature).pos a → IsSign s.OpenParen a b → IsFormals b c (out-Signature signature).formals.now
        → IsSign s.CloseParen c d → IsResult d f (out-Signature signature).result → IsRaises f g (out-Signature signature).raises → IsSignature a g signature

  pub data IsResult : Row → Row → Option (Bor TypeExp) → Type 0 where
    no_result : {a : Row} → IsResult a a None
    result : {a b c : Row} (kind : Bor TypeExp) → IsSign s.Colon a b → IsType b c kind.now → IsResult a c (Some kind)

  pub data IsFormals : Row → Row → List Formal → Type 0 where
    last_formal : {a b c : Row} {formals : List Formal} {formal : Formal} → IsFormalsThen a b formals → IsFormal b c formal → IsFormals a c (formals ++ formal ∷ [])
    all_formals : {a b : Row} {formals : List Formal} → IsFormalsThen a b formals → IsFormals a b formals

  pub data IsFormalsThen : Row → Row → List Formal → Type 0 where
    no_formals_yet : {a : Row} → IsFormalsThen a a []
    formal_then : {a b c d : Row} {formals : List Formal} {formal : Formal} → IsFormalsThen a b formals → IsFormal b c formal → IsSign s.Semicolon c d → IsFormalsThen a d (formals ++ formal ∷ [])

  -- Formal = [VALUE | VAR | READONLY] IdList CInit
  pub data IsFormal : Row → Row → Formal → Type 0 where
    formal : {a b c d : Row} {formal : Formal} → IsAt formal.pos a → IsMode a b formal.mode → IsNames b c formal.names.now → formal.names.now ≢ [] → IsInit c d formal.init → IsFormal a d formal
