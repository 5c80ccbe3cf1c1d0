-- The grammar of units (the report, section 2.5).
use Rattle.std.specs.Prelude.{◌≡◌, ◌≢◌, Bool, true, false, List, [], ◌∷◌, ◌++◌, Option, None, Some}
use Rattle.std.proofs.Common.{Bor}
use Rattle.m3_base.specs.declared.places.Pos.{Pos}
use Rattle.m3_syntax.specs.declared.names.Name.{Name}
use Rattle.m3_syntax.specs.declared.statements.Block.{Block}
use Rattle.m3_syntax.specs.declared.tokens.Sign.TheVariants as s
use Rattle.m3_syntax.specs.declared.tokens.Word.TheVariants as w
use Rattle.m3_syntax.specs.declared.units.Import.{Import}
use Rattle.m3_syntax.specs.declared.units.Import.TheVariants as i
use Rattle.m3_syntax.specs.declared.units.ImportItem.{ImportItem}
use Rattle.m3_syntax.specs.declared.units.Unit as units
use Rattle.m3_syntax.specs.declared.units.UnitKind.{UnitKind}
use Rattle.m3_syntax.specs.declared.units.UnitKind.TheVariants as k
use Rattle.m3_read_grammar.specs.Tokens.{Row, IsAt, IsWord, IsSign, IsName}
use Rattle.m3_read_grammar.specs.Names.{IsNames}
use Rattle.m3_read_grammar.specs.Statements.{IsBlock, IsDecls}

-- Item = Id [AS Id]
pub data IsItem : Row → Row → ImportItem → Type 0 where
  plain : {a b : Row} {name : Name} → IsName a b name → IsItem a b (record { interface = name; alias = None })
  renamed : {a b c d : Row} {name alias : Name} → IsName a b name → IsWord w.As b c → IsName c d alias → IsItem a d (record { interface = name; alias = Some alias })

-- Item {"," Item}
pub data IsItems : Row → Row → List ImportItem → Type 0 where
  one_item : {a b : Row} {item : ImportItem} → IsItem a b item → IsItems a b (item ∷ [])
  items : {a b c d : Row} {before : List ImportItem} {item : ImportItem} → IsItems a b before → IsSign s.Comma b c → IsItem c d item → IsItems a d (before ++ item ∷ [])

-- Import = IMPORT Item {"," Item} ";" | FROM Id IMPORT IdList ";"
pub data IsImport : Row → Row → Import → Type 0 where
  interfaces : {a b c d : Row} (pos : Pos) (items : Bor (List ImportItem)) → IsAt pos a → IsWord w.Import a b → IsItems b c items.now → IsSign s.Semicolon c d
      → IsImport a d (i.Interfaces pos items)
  members : {a b c d f g : Row} (pos : Pos) (interface : Name) (names : Bor (List Name)) → IsAt pos a → IsWord w.From a b → IsName b c interface → IsWord w.Import c d
      → IsNames d f names.now → names.now ≢ [] → IsSign s.Semicolon f g → IsImport a g (i.Names pos interface names)

-- {Import}
pub data IsImports : Row → Row → List Import → Type 0 where
  no_imports : {a : Row} → IsImports a a []
  import_more : {a b c : Row} {before : List Import} {import : Import} → IsImports a b before → IsImport b c import → IsImports a c (before ++ import ∷ [])

-- ";" {Import} {Decl} END
pub data IsDeclared : Row → Row → List Import → Block → Type 0 where
  declared : {a b c d f : Row} {imports : List Import} (block : Block) → IsSign s.Semicolon a b → IsImports b c imports → IsAt block.pos c → IsDecls c d block.declarations.now
      → block.body.now ≡ [] → IsAt block.end d → IsWord w.End d f → IsDeclared a f imports block

-- ";" {Import} Block
pub data IsProgrammed : Row → Row → List Import → Block → Type 0 where
  programmed : {a b c d : Row} {imports : List Import} {block : Block} → IsSign s.Semicolon a b → IsImports b c imports → IsBlock c d block → IsProgrammed a d imports block

-- "(" [IdList] ")"
pub data IsParameters : Row → Row → List Name → Type 0 where
  parameters : {a b c d : Row} {names : List Name} → IsSign s.OpenParen a b → IsNames b c names → IsSign s.CloseParen c d → IsParameters a d names

-- "=" Id "(" [IdList] ")" END
pub data IsInstance : Row → Row → Name → List Name → Type 0 where
  instance : {a b c d f : Row} {generic : Name} {actuals : List Name} → IsSign s.Equal a b → IsName b c generic → IsParameters c d actuals → IsWord w.End d f → IsInstance a f generic actuals

-- [EXPORTS IdList]
pub data IsExports : Row → Row → Option (Bor (List Name)) → Type 0 where
  no_exports : {a : Row} → IsExports a a None
  exporting : {a b c : Row} (names : Bor (List Name)) → IsWord w.Exports a b → IsNames b c names.now → names.now ≢ [] → IsExports a c (Some names)

-- nothing is imported or declared
pub record IsNothing (imports : List Import) (block : Block) : Type 0 where
  pub imports_nothing : imports ≡ []
  pub declares_nothing : block.declarations.now ≡ []
  pub does_nothing : block.body.now ≡ []

-- what stands between a unit's name and the name that closes it
abbrev pub IsBody : Row → Row → UnitKind → List Import → Block → Type 0
IsBody a b k.Interface imports block = IsDeclared a b imports block
IsBody a b (k.InterfaceInstance generic actuals) imports block = IsNothing imports block × IsInstance a b generic actuals.now
IsBody a b (k.Module exports) imports block = (c : Row) × IsExports a c exports × IsProgrammed c b imports block
IsBody a b (k.ModuleInstance exports generic actuals) imports block = IsNothing imports block × ((c : Row) × IsExports a c exports × IsInstance c b generic actuals.now)
IsBody a b (k.GenericInterface formals) imports block = (c : Row) × IsParameters a c formals.now × IsDeclared c b imports block
IsBody a b (k.GenericModule formals) imports block = (c : Row) × IsParameters a c formals.now × IsProgrammed c b imports block

-- the word that says what a unit is
abbrev pub IsSort : Row → Row → UnitKind → Type 0
IsSort a b k.Interface = IsWord w.Interface a b
IsSort a b (k.InterfaceInstance generic actuals) = IsWord w.Interface a b
IsSort a b (k.Module exports) = IsWord w.Module a b
IsSort a b (k.ModuleInstance exports generic actuals) = IsWord w.Module a b
IsSort a b (k.GenericInterface formals) = (c : Row) × IsWord w.Generic a c × IsWord w.Interface c b
IsSort a b (k.GenericModule formals) = (c : Row) × IsWord w.Generic a c × IsWord w.Module c b

-- [UNSAFE], which stands before no generic unit
pub data IsUnsafe : Row → Row → Bool → Bool → Type 0 where
  safe : {a : Row} (is_generic : Bool) → IsUnsafe a a is_generic false
  unsafe : {a b : Row} → IsWord w.Unsafe a b → IsUnsafe a b false true

abbrev pub is_generic : UnitKind → Bool
is_generic (k.GenericInterface formals) = true
is_generic (k.GenericModule formals) = true
is_generic _ = false

-- a whole file: Unit = [UNSAFE] (Interface | Module) | GenInf | GenMod
pub record IsUnit (row : Row) (unit : units.Unit) : Type 0 where
  pub place : IsAt unit.pos row
  pub safe_from : Row
  pub named_from : Row
  pub body_from : Row
  pub closed_from : Row
  pub dot_from : Row
  pub safety : IsUnsafe row safe_from (is_generic unit.kind) unit.is_unsafe
  pub sort : IsSort safe_from named_from unit.kind
  pub name : IsName named_from body_from unit.name
  pub body : IsBody body_from closed_from unit.kind unit.imports.now unit.block.now.value
  pub closing : IsName closed_from dot_from unit.closing
  pub dot : IsSign s.Dot dot_from []
