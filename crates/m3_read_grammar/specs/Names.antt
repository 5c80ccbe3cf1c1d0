-- The grammar of names.
use Rattle.std.specs.Prelude.{◌≡◌, ◌≢◌, List, [], ◌∷◌, ◌++◌, None, Some}
use Rattle.std.proofs.Common.{Bor}
use Rattle.m3_base.specs.declared.places.Pos.{Pos}
use Rattle.m3_syntax.specs.declared.expressions.TypeExp.{TypeExp}
use Rattle.m3_syntax.specs.declared.expressions.TypeExp.TheVariants as t
use Rattle.m3_syntax.specs.declared.names.Mode.{Mode}
use Rattle.m3_syntax.specs.declared.names.Mode.TheVariants as mode
use Rattle.m3_syntax.specs.declared.names.Name.{Name}
use Rattle.m3_syntax.specs.declared.names.Qualid.{Qualid}
use Rattle.m3_syntax.specs.declared.names.Raises.{Raises}
use Rattle.m3_syntax.specs.declared.names.Raises.TheVariants as raises
use Rattle.m3_syntax.specs.declared.names.TypeName.{TypeName}
use Rattle.m3_syntax.specs.declared.names.TypeName.TheVariants as named
use Rattle.m3_syntax.specs.declared.tokens.Sign.TheVariants as s
use Rattle.m3_syntax.specs.declared.tokens.Word.TheVariants as w
use Rattle.m3_read_grammar.specs.Tokens.{Row, IsAt, IsWord, IsSign, IsName}

-- [Id {"," Id}]
pub data IsNames : Row → Row → List Name → Type 0 where
  no_names : {a : Row} → IsNames a a []
  one_name : {a b : Row} {name : Name} → IsName a b name → IsNames a b (name ∷ [])
  names : {a b c d : Row} {before : List Name} {name : Name} → IsNames a b before → before ≢ [] → IsSign s.Comma b c → IsName c d name → IsNames a d (before ++ name ∷ [])

-- Qualid = Id ["." Id]
pub data IsQualid : Row → Row → Qualid → Type 0 where
  plain : {a b : Row} {name : Name} → IsName a b name → IsQualid a b (record { first = name; second = None })
  qualified : {a b c d : Row} {first second : Name} → IsName a b first → IsSign s.Dot b c → IsName c d second → IsQualid a d (record { first = first; second = Some second })

-- [Qualid {"," Qualid}]
pub data IsQualids : Row → Row → List Qualid → Type 0 where
  no_qualids : {a : Row} → IsQualids a a []
  one_qualid : {a b : Row} {name : Qualid} → IsQualid a b name → IsQualids a b (name ∷ [])
  qualids : {a b c d : Row} {before : List Qualid} {name : Qualid} → IsQualids a b before → before ≢ [] → IsSign s.Comma b c → IsQualid c d name → IsQualids a d (before ++ name ∷ [])

-- TypeName = Qualid | ROOT | UNTRACED ROOT
pub data IsTypeName : Row → Row → TypeName → Type 0 where
  qualid : {a b : Row} {name : Qualid} → IsQualid a b name → IsTypeName a b (named.Named name)
  root : {a b : Row} (pos : Pos) → IsAt pos a → IsWord w.Root a b → IsTypeName a b (named.Root pos)
  untraced_root : {a b c : Row} (pos : Pos) → IsAt pos a → IsWord w.Untraced a b → IsWord w.Root b c → IsTypeName a c (named.UntracedRoot pos)

-- [RAISES Raises], where Raises = "{" [Qualid {"," Qualid}] "}" | ANY
pub data IsRaises : Row → Row → Raises → Type 0 where
  none_written : {a : Row} (names : Bor (List Qualid)) → names.now ≡ [] → IsRaises a a (raises.Only names)
  any : {a b c : Row} → IsWord w.Raises a b → IsWord w.Any b c → IsRaises a c raises.Any
  only : {a b c d f : Row} (names : Bor (List Qualid)) → IsWord w.Raises a b → IsSign s.OpenBrace b c → IsQualids c d names.now → IsSign s.CloseBrace d f → IsRaises a f (raises.Only names)

-- [VALUE | VAR | READONLY]
pub data IsMode : Row → Row → Mode → Type 0 where
  unwritten : {a : Row} → IsMode a a mode.Value
  value : {a b : Row} → IsWord w.Value a b → IsMode a b mode.Value
  var : {a b : Row} → IsWord w.Var a b → IsMode a b mode.Var
  readonly : {a b : Row} → IsWord w.Readonly a b → IsMode a b mode.Readonly

-- a type that is a qualified name alone, also in parentheses: an expression is spelled so too
pub data IsNameAlone : TypeExp → Type 0 where
  bare : {name : Qualid} → IsNameAlone (t.Named (named.Named name))
  in_parentheses : (pos : Pos) (inner : Bor TypeExp) → IsNameAlone inner.now → IsNameAlone (t.Parenthesis pos inner)
