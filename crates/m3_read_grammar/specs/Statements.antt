-- The grammar of statements, blocks and declarations (the report, sections 2.3 and 2.4).
use Rattle.std.specs.Prelude.{◌≡◌, ◌≢◌, true, false, List, [], ◌∷◌, ◌++◌, Option, None, Some}
use Rattle.std.proofs.Common.{Bor}
use Rattle.m3_base.specs.declared.places.Pos.{Pos}
use Rattle.m3_syntax.specs.declared.expressions.Actual.{Actual}
use Rattle.m3_syntax.specs.declared.expressions.Expr.{Expr}
use Rattle.m3_syntax.specs.declared.expressions.Signature.{Signature}
use Rattle.m3_syntax.specs.declared.expressions.TypeExp.{TypeExp}
use Rattle.m3_syntax.specs.declared.names.Name.{Name}
use Rattle.m3_syntax.specs.declared.names.Qualid.{Qualid}
use Rattle.m3_syntax.specs.declared.statements.Arm.{Arm}
use Rattle.m3_syntax.specs.declared.statements.Binding.{Binding}
use Rattle.m3_syntax.specs.declared.statements.Block.{Block}
use Rattle.m3_syntax.specs.declared.statements.CaseBranch.{CaseBranch}
use Rattle.m3_syntax.specs.declared.statements.ConstDecl.{ConstDecl}
use Rattle.m3_syntax.specs.declared.statements.Decl.{Decl}
use Rattle.m3_syntax.specs.declared.statements.Decl.TheVariants as declare
use Rattle.m3_syntax.specs.declared.statements.Else.{Else}
use Rattle.m3_syntax.specs.declared.statements.ExceptionDecl.{ExceptionDecl}
use Rattle.m3_syntax.specs.declared.statements.Handler.{Handler}
use Rattle.m3_syntax.specs.declared.statements.Label.{Label}
use Rattle.m3_syntax.specs.declared.statements.ProcedureBody.{ProcedureBody}
use Rattle.m3_syntax.specs.declared.statements.Revelation.{Revelation}
use Rattle.m3_syntax.specs.declared.statements.Stmt.{Stmt}
use Rattle.m3_syntax.specs.declared.statements.Stmt.TheVariants as st
use Rattle.m3_syntax.specs.declared.statements.TypeBranch.{TypeBranch}
use Rattle.m3_syntax.specs.declared.statements.TypeDecl.{TypeDecl}
use Rattle.m3_syntax.specs.declared.statements.VarDecl.{VarDecl}
use Rattle.m3_syntax.specs.declared.tokens.Sign.TheVariants as s
use Rattle.m3_syntax.specs.declared.tokens.Word.TheVariants as w
use Rattle.m3_read_grammar.specs.Ranks.{whole}
use Rattle.m3_read_grammar.specs.Tokens.{Row, IsAt, IsWord, IsSign, IsName}
use Rattle.m3_read_grammar.specs.Names.{IsNames, IsQualid, IsQualids}
use Rattle.m3_read_grammar.specs.Expressions.{IsExpr, IsType, IsActuals, IsSignature, IsInit}

-- ---- parts of statements

-- [BY Expr]
pub data IsStep : Row → Row → Option (Bor Expr) → Type 0 where
  no_step : {a : Row} → IsStep a a None
  step : {a b c : Row} (value : Bor Expr) → IsWord w.By a b → IsExpr whole b c value.now → IsStep a c (Some value)

-- ["(" Expr ")"]
pub data IsArgument : Row → Row → Option (Bor Expr) → Type 0 where
  no_argument : {a : Row} → IsArgument a a None
  argument : {a b c d : Row} (value : Bor Expr) → IsSign s.OpenParen a b → IsExpr whole b c value.now → IsSign s.CloseParen c d → IsArgument a d (Some value)

-- [Expr]
pub data IsValue : Row → Row → Option (Bor Expr) → Type 0 where
  no_value : {a : Row} → IsValue a a None
  value : {a b : Row} (value : Bor Expr) → IsExpr whole a b value.now → IsValue a b (Some value)

-- ["(" Id ")"]
pub data IsVariable : Row → Row → Option Name → Type 0 where
  no_variable : {a : Row} → IsVariable a a None
  variable : {a b c d : Row} {name : Name} → IsSign s.OpenParen a b → IsName b c name → IsSign s.CloseParen c d → IsVariable a d (Some name)

-- Label = ConstExpr [".." ConstExpr]
pub data IsLabel : Row → Row → Label → Type 0 where
  one : {a b : Row} (first : Bor Expr) → IsExpr whole a b first.now → IsLabel a b (record { first = first; last = None })
  range : {a b c d : Row} (first last : Bor Expr) → IsExpr whole a b first.now → IsSign s.DotDot b c → IsExpr whole c d last.now
      → IsLabel a d (record { first = first; last = Some last })

-- Label {"," Label}
pub data IsLabels : Row → Row → List Label → Type 0 where
  one_label : {a b : Row} {label : Label} → IsLabel a b label → IsLabels a b (label ∷ [])
  labels : {a b c d : Row} {before : List Label} {label : Label} → IsLabels a b before → IsSign s.Comma b c → IsLabel c d label → IsLabels a d (before ++ label ∷ [])

-- Type {"," Type}
pub data IsKinds : Row → Row → List TypeExp → Type 0 where
  one_kind : {a b : Row} {kind : TypeExp} → IsType a b kind → IsKinds a b (kind ∷ [])
  kinds : {a b c d : Row} {before : List TypeExp} {kind : TypeExp} → IsKinds a b before → IsSign s.Comma b c → IsType c d kind → IsKinds a d (before ++ kind ∷ [])

-- Bind = Id "=" Expr, with commas between
pub data IsBindings : Row → Row → List Binding → Type 0 where
  one_binding : {a b c d : Row} (binding : Binding) → IsName a b binding.name → IsSign s.Equal b c → IsExpr whole c d binding.value.now → IsBindings a d (binding ∷ [])
  bindings : {a b c d f g : Row} {before : List Binding} (binding : Binding) → IsBindings a b before → IsSign s.Comma b c → IsName c d binding.name → IsSign s.Equal d f
      → IsExpr whole f g binding.value.now → IsBindings a g (before ++ binding ∷ [])

-- ---- declarations without blocks

-- [":" Type]
pub data IsKind : Row → Row → Option (Bor TypeExp) → Type 0 where
  no_kind : {a : Row} → IsKind a a None
  kind : {a b c : Row} (kind : Bor TypeExp) → IsSign s.Colon a b → IsType b c kind.now → IsKind a c (Some kind)

-- {Id [":" Type] "=" ConstExpr ";"}
pub data IsConstants : Row → Row → List ConstDecl → Type 0 where
  no_constants : {a : Row} → IsConstants a a []
  constant : {a b c d f g h : Row} {before : List ConstDecl} (constant : ConstDecl) → IsConstants a b before → IsName b c constant.name → IsKind c d constant.kind → IsSign s.Equal d f
      → IsExpr whole f g constant.value.now → IsSign s.Semicolon g h → IsConstants a h (before ++ constant ∷ [])

-- {Id ("=" | "<:") Type ";"}
pub data IsTypes : Row → Row → List TypeDecl → Type 0 where
  no_types : {a : Row} → IsTypes a a []
  defined : {a b c d f g : Row} {before : List TypeDecl} (declared : TypeDecl) → IsTypes a b before → IsName b c declared.name → IsSign s.Equal c d → declared.is_opaque ≡ false
      → IsType d f declared.kind.now → IsSign s.Semicolon f g → IsTypes a g (before ++ declared ∷ [])
  opaque : {a b c d f g : Row} {before : List TypeDecl} (declared : TypeDecl) → IsTypes a b before → IsName b c declared.name → IsSign s.Subtype c d → declared.is_opaque ≡ true
      → IsType d f declared.kind.now → IsSign s.Semicolon f g → IsTypes a g (before ++ declared ∷ [])

-- ["(" Type ")"]
pub data IsPassed : Row → Row → Option (Bor TypeExp) → Type 0 where
  nothing : {a : Row} → IsPassed a a None
  passed : {a b c d : Row} (kind : Bor TypeExp) → IsSign s.OpenParen a b → IsType b c kind.now → IsSign s.CloseParen c d → IsPassed a d (Some kind)

-- {Id ["(" Type ")"] ";"}
pub data IsExceptions : Row → Row → List ExceptionDecl → Type 0 where
  no_exceptions : {a : Row} → IsExceptions a a []
  exception : {a b c d f : Row} {before : List ExceptionDecl} (declared : ExceptionDecl) → IsExceptions a b before → IsName b c declared.name → IsPassed c d declared.argument
      → IsSign s.Semicolon d f → IsExceptions a f (before ++ declared ∷ [])

-- {IdList Init ";"}
pub data IsVariables : Row → Row → List VarDecl → Type 0 where
  no_variables : {a : Row} → IsVariables a a []
  variables : {a b c d f : Row} {before : List VarDecl} (declared : VarDecl) → IsVariables a b before → IsNames b c declared.names.now → declared.names.now ≢ [] → IsInit c d declared.init
      → IsSign s.Semicolon d f → IsVariables a f (before ++ declared ∷ [])

-- {Qualid ("=" | "<:") Type ";"}
pub data IsReveals : Row → Row → List Revelation → Type 0 where
  no_reveals : {a : Row} → IsReveals a a []
  full : {a b c d f g : Row} {before : List Revelation} (reveal : Revelation) → IsReveals a b before → IsQualid b c reveal.name → IsSign s.Equal c d → reveal.is_partial ≡ false
      → IsType d f reveal.kind.now → IsSign s.Semicolon f g → IsReveals a g (before ++ reveal ∷ [])
  partial : {a b c d f g : Row} {before : List Revelation} (reveal : Revelation) → IsReveals a b before → IsQualid b c reveal.name → IsSign s.Subtype c d → reveal.is_partial ≡ true
      → IsType d f reveal.kind.now → IsSign s.Semicolon f g → IsReveals a g (before ++ reveal ∷ [])

-- ---- statements

mutual
  -- S = [Stmt {";" Stmt} [";"]]
  pub data IsStatements : Row → Row → List Stmt → Type 0 where
    all_statements : {a b : Row} {statements : List Stmt} → IsStatementsThen a b statements → IsStatements a b statements
    last_statement : {a b c : Row} {statements : List Stmt} {statement : Stmt} → IsStatementsThen a b statements → IsStmt b c statement → IsStatements a c (statements ++ statement ∷ [])

  -- statements with a semicolon behind each
  pub data IsStatementsThen : Row → Row → List Stmt → Type 0 where
    no_statements_yet : {a : Row} → IsStatementsThen a a []
    statement_then : {a b c d : Row} {statements : List Stmt} {statement : Stmt} → IsStatementsThen a b statements → IsStmt b c statement → IsSign s.Semicolon c d
        → IsStatementsThen a d (statements ++ statement ∷ [])

  pub data IsStmt : Row → Row → Stmt → Type 0 where
    -- Expr ":=" Expr
    assign : {a b c d : Row} (pos : Pos) (target value : Bor Expr) → IsAt pos a → IsExpr whole a b target.now → IsSign s.Assign b c → IsExpr whole c d value.now
        → IsStmt a d (st.Assign pos target value)
    -- Expr "(" [Actuals] ")"
    call : {a b c d f : Row} (pos : Pos) (callee : Bor Expr) (parenthesis : Pos) (actuals : Bor (List Actual)) → IsAt pos a → IsExpr whole a b callee.now → IsAt parenthesis b
        → IsSign s.OpenParen b c → IsActuals c d actuals.now → IsSign s.CloseParen d f → IsStmt a f (st.Call pos callee parenthesis actuals)
    block : {a b : Row} {block : Block} → IsBlock a b block → IsStmt a b (st.Block block)
    -- CASE Expr OF [Case] {"|" Case} [ELSE S] END
    case : {a b c d f g h : Row} (pos : Pos) (value : Bor Expr) (branches : Bor (List CaseBranch)) (otherwise : Else) → IsAt pos a → IsWord w.Case a b
        → IsExpr whole b c value.now → IsWord w.Of c d → IsCases d f branches.now → IsElse f g otherwise → IsWord w.End g h → IsStmt a h (st.Case pos value branches otherwise)
    exit : {a b : Row} (pos : Pos) → IsAt pos a → IsWord w.Exit a b → IsStmt a b (st.Exit pos)
    eval : {a b c : Row} (pos : Pos) (value : Bor Expr) → IsAt pos a → IsWord w.Eval a b → IsExpr whole b c value.now → IsStmt a c (st.Eval pos value)
    -- FOR Id ":=" Expr TO Expr [BY Expr] DO S END
    for : {a b c d f g h i j k l : Row} (pos : Pos) (name : Name) (first last : Bor Expr) (by : Option (Bor Expr)) (body : Bor (List Stmt)) → IsAt pos a → IsWord w.For a b → IsName b c name
        → IsSign s.Assign c d → IsExpr whole d f first.now → IsWord w.To f g → IsExpr whole g h last.now → IsStep h i by → IsWord w.Do i j → IsStatements j k body.now → IsWord w.End k l
        → IsStmt a l (st.For pos name first last by body)
    -- IF Expr THEN S {ELSIF Expr THEN S} [ELSE S] END
    if : {a b c d : Row} (pos : Pos) (arms : Bor (List Arm)) (otherwise : Else) → IsAt pos a → IsArms a b arms.now → IsElse b c otherwise → IsWord w.End c d
        → IsStmt a d (st.If pos arms otherwise)
    -- LOCK Expr DO S END
    lock : {a b c d f g : Row} (pos : Pos) (mutex : Bor Expr) (body : Bor (List Stmt)) → IsAt pos a → IsWord w.Lock a b → IsExpr whole b c mutex.now → IsWord w.Do c d
        → IsStatements d f body.now → IsWord w.End f g → IsStmt a g (st.Lock pos mutex body)
    -- LOOP S END
    loop : {a b c d : Row} (pos : Pos) (body : Bor (List Stmt)) → IsAt pos a → IsWord w.Loop a b → IsStatements b c body.now → IsWord w.End c d → IsStmt a d (st.Loop pos body)
    -- RAISE Qualid ["(" Expr ")"]
    raise : {a b c d : Row} (pos : Pos) (exception : Qualid) (argument : Option (Bor Expr)) → IsAt pos a → IsWord w.Raise a b → IsQualid b c exception → IsArgument c d argument
        → IsStmt a d (st.Raise pos exception argument)
    -- REPEAT S UNTIL Expr
    repeat : {a b c d f : Row} (pos : Pos) (body : Bor (List Stmt)) (condition : Bor Expr) → IsAt pos a → IsWord w.Repeat a b → IsStatements b c body.now → IsWord w.Until c d
        → IsExpr whole d f condition.now → IsStmt a f (st.Repeat pos body condition)
    -- RETURN [Expr]
    return : {a b c : Row} (pos : Pos) (value : Option (Bor Expr)) → IsAt pos a → IsWord w.Return a b → IsValue b c value → IsStmt a c (st.Return pos value)
    -- TRY S EXCEPT [Handler] {"|" Handler} [ELSE S] END
    try_except : {a b c d f g h : Row} (pos : Pos) (body : Bor (List Stmt)) (handlers : Bor (List Handler)) (otherwise : Else) → IsAt pos a → IsWord w.Try a b
        → IsStatements b c body.now → IsWord w.Except c d → IsHandlers d f handlers.now → IsElse f g otherwise → IsWord w.End g h → IsStmt a h (st.TryExcept pos body handlers otherwise)
    -- TRY S FINALLY S END
    try_finally : {a b c d f g : Row} (pos : Pos) (body last : Bor (List Stmt)) → IsAt pos a → IsWord w.Try a b → IsStatements b c body.now → IsWord w.Finally c d
        → IsStatements d f last.now → IsWord w.End f g → IsStmt a g (st.TryFinally pos body last)
    -- TYPECASE Expr OF [TCase] {"|" TCase} [ELSE S] END
    typecase : {a b c d f g h : Row} (pos : Pos) (value : Bor Expr) (branches : Bor (List TypeBranch)) (otherwise : Else) → IsAt pos a → IsWord w.Typecase a b
        → IsExpr whole b c value.now → IsWord w.Of c d → IsTypeCases d f branches.now → IsElse f g otherwise → IsWord w.End g h → IsStmt a h (st.TypeCase pos value branches otherwise)
    -- WHILE Expr DO S END
    while : {a b c d f g : Row} (pos : Pos) (condition : Bor Expr) (body : Bor (List Stmt)) → IsAt pos a → IsWord w.While a b → IsExpr whole b c condition.now → IsWord w.Do c d
        → IsStatements d f body.now → IsWord w.End f g → IsStmt a g (st.While pos condition body)
    -- WITH Bind {"," Bind} DO S END
    with : {a b c d f g : Row} (pos : Pos) (bindings : Bor (List Binding)) (body : Bor (List Stmt)) → IsAt pos a → IsWord w.With a b → IsBindings b c bindings.now → IsWord w.Do c d
        → IsStatements d f body.now → IsWord w.End f g → IsStmt a g (st.With pos bindings body)

  -- [ELSE S]
  pub data IsElse : Row → Row → Else → Type 0 where
    no_else : {a : Row} (otherwise : Else) → otherwise.is_written ≡ false → otherwise.body.now ≡ [] → IsElse a a otherwise
    else : {a b c : Row} (otherwise : Else) → otherwise.is_written ≡ true → IsWord w.Else a b → IsStatements b c otherwise.body.now → IsElse a c otherwise

  -- IF Expr THEN S {ELSIF Expr THEN S}
  pub data IsArms : Row → Row → List Arm → Type 0 where
    if_arm : {a b c d f : Row} (arm : Arm) → IsAt arm.pos a → IsWord w.If a b → IsExpr whole b c arm.condition.now → IsWord w.Then c d → IsStatements d f arm.body.now → IsArms a f (arm ∷ [])
    elsif_arm : {a b c d f g : Row} {before : List Arm} (arm : Arm) → IsArms a b before → IsAt arm.pos b → IsWord w.Elsif b c → IsExpr whole c d arm.condition.now → IsWord w.Then d f
        → IsStatements f g arm.body.now → IsArms a g (before ++ arm ∷ [])

  -- [Case] {"|" Case}, where Case = Label {"," Label} "=>" S
  pub data IsCases : Row → Row → List CaseBranch → Type 0 where
    no_cases : {a : Row} → IsCases a a []
    first_case : {a b : Row} {branch : CaseBranch} → IsCase a b branch → IsCases a b (branch ∷ [])
    cases : {a b c d : Row} {before : List CaseBranch} {branch : CaseBranch} → IsCases a b before → IsSign s.Bar b c → IsCase c d branch → IsCases a d (before ++ branch ∷ [])

  pub data IsCase : Row → Row → CaseBranch → Type 0 where
    branch : {a b c d : Row} (branch : CaseBranch) → IsLabels a b branch.labels.now → IsSign s.Arrow b c → IsStatements c d branch.body.now → IsCase a d branch

  -- [Handler] {"|" Handler}, where Handler = Qualid {"," Qualid} ["(" Id ")"] "=>" S
  pub data IsHandlers : Row → Row → List Handler → Type 0 where
    no_handlers : {a : Row} → IsHandlers a a []
    first_handler : {a b : Row} {handler : Handler} → IsHandler a b handler → IsHandlers a b (handler ∷ [])
    handlers : {a b c d : Row} {before : List Handler} {handler : Handler} → IsHandlers a b before → IsSign s.Bar b c → IsHandler c d handler → IsHandlers a d (before ++ handler ∷ [])

  pub data IsHandler : Row → Row → Handler → Type 0 where
    handler : {a b c d f : Row} (handler : Handler) → IsQualids a b handler.exceptions.now → handler.exceptions.now ≢ [] → IsVariable b c handler.argument → IsSign s.Arrow c d
        → IsStatements d f handler.body.now → IsHandler a f handler

  -- [TCase] {"|" TCase}, where TCase = Type {"," Type} ["(" Id ")"] "=>" S
  pub data IsTypeCases : Row → Row → List TypeBranch → Type 0 where
    no_type_cases : {a : Row} → IsTypeCases a a []
    first_type_case : {a b : Row} {branch : TypeBranch} → IsTypeCase a b branch → IsTypeCases a b (branch ∷ [])
    type_cases : {a b c d : Row} {before : List TypeBranch} {branch : TypeBranch} → IsTypeCases a b before → IsSign s.Bar b c → IsTypeCase c d branch
        → IsTypeCases a d (before ++ branch ∷ [])

  pub data IsTypeCase : Row → Row → TypeBranch → Type 0 where
    type_branch : {a b c d f : Row} (branch : TypeBranch) → IsKinds a b branch.kinds.now → IsVariable b c branch.name → IsSign s.Arrow c d → IsStatements d f branch.body.now
        → IsTypeCase a f branch

  -- Block = {Decl} BEGIN S END
  pub data IsBlock : Row → Row → Block → Type 0 where
    begin : {a b c d f : Row} (block : Block) → IsAt block.pos a → IsDecls a b block.declarations.now → IsWord w.Begin b c → IsStatements c d block.body.now → IsAt block.end d
        → IsWord w.End d f → IsBlock a f block

  -- {Decl}
  pub data IsDecls : Row → Row → List Decl → Type 0 where
    no_decls : {a : Row} → IsDecls a a []
    decls : {a b c : Row} {before : List Decl} {decl : Decl} → IsDecls a b before → IsDecl b c decl → IsDecls a c (before ++ decl ∷ [])

  pub data IsDecl : Row → Row → Decl → Type 0 where
    constants : {a b c : Row} (pos : Pos) (declared : Bor (List ConstDecl)) → IsAt pos a → IsWord w.Const a b → IsConstants b c declared.now → IsDecl a c (declare.Const pos declared)
    types : {a b c : Row} (pos : Pos) (declared : Bor (List TypeDecl)) → IsAt pos a → IsWord w.«Type» a b → IsTypes b c declared.now → IsDecl a c (declare.«Type» pos declared)
    exceptions : {a b c : Row} (pos : Pos) (declared : Bor (List ExceptionDecl)) → IsAt pos a → IsWord w.Exception a b → IsExceptions b c declared.now → IsDecl a c (declare.Exception pos declared)
    var : {a b c : Row} (pos : Pos) (declared : Bor (List VarDecl)) → IsAt pos a → IsWord w.Var a b → IsVariables b c declared.now → IsDecl a c (declare.Var pos declared)
    -- PROCEDURE Id Sig ["=" Block Id] ";"
    procedure : {a b c d f g : Row} (pos : Pos) (name : Name) (signature : Signature) (body : Option ProcedureBody) → IsAt pos a → IsWord w.Procedure a b → IsName b c name
        → IsSignature c d signature → IsProcedureBody d f body → IsSign s.Semicolon f g → IsDecl a g (declare.Procedure pos name signature body)
    reveals : {a b c : Row} (pos : Pos) (declared : Bor (List Revelation)) → IsAt pos a → IsWord w.Reveal a b → IsReveals b c declared.now → IsDecl a c (declare.Reveal pos declared)

  pub data IsProcedureBody : Row → Row → Option ProcedureBody → Type 0 where
    no_body : {a : Row} → IsProcedureBody a a None
    body : {a b c d : Row} (body : ProcedureBody) → IsSign s.Equal a b → IsBlock b c body.block → IsName c d body.closing → IsProcedureBody a d (Some body)
