-- How rows of places tell the form of a definition, and a search through the reveals a full one.
use Rattle.std.proofs.Common.{◌≡◌, ◌↔◌, ◌+◌, ◌++◌, ◌&&◌, ◌||◌, ◌==◌, if◌then◌else◌, ℕ, Bool, true, false, List, [], ◌∷◌, length, drop, All, Option, Some, is_some, refl, sym, ◌∙◌, ap, subst, length-append}
use Rattle.std.specs.Prelude.{IsSomeAnd}
use Rattle.std.specs.Option.{option_map_or}
use Rattle.std.specs.List.{list_any}
use Rattle.std.proofs.Math.Seq.{drop-append_seam}
use Rattle.m3_types.specs.declared.nodes.TypeNode.{TypeNode}
use Rattle.m3_types.specs.declared.nodes.Reveal.{Reveal}
use Rattle.m3_types.specs.Definitions.{node_at, types_at, parts_at, types_of, constants_of, parts_of}
use Rattle.m3_types.specs.Reveals.{full_reveal}
use Rattle.m3_types_valid.specs.Forms.{IsType, IsConstant, HasForm, HasFormAt}
use Rattle.m3_types_valid.specs.Rows.{HasFormOfRows}

-- the rows that stand at a place tell the form of the definition there
pub form_of_rows : (nodes : List TypeNode) (place : ℕ) (node : TypeNode) (types parts : List ℕ) → node_at nodes place ≡ Some node → types ≡ types_at nodes place → parts ≡ parts_at nodes place → HasFormOfRows nodes node types parts ↔ HasFormAt nodes place
form_of_rows nodes place node types parts found types_is parts_is =
    let named : types ≡ types_of node = types_is ∙ ap (λ o. option_map_or types_of o []) found in
    let all_named : parts ≡ types_of node ++ constants_of node = parts_is ∙ ap (λ o. option_map_or parts_of o []) found in
    let behind : drop (length types) parts ≡ constants_of node =
    (ap (λ xs. drop (length xs) parts) named ∙ ap (λ xs. drop (length (types_of node)) xs) all_named)
    ∙ drop-append_seam (types_of node) (constants_of node) in
    let At : Option TypeNode → Type 0 = λ o. IsSomeAnd o (HasForm nodes) in
    let Types : List ℕ → Type 0 = λ xs. All (IsType nodes) xs in
    let Constants : List ℕ → Type 0 = λ xs. All (IsConstant nodes) xs in (
      λ rows. subst At (sym found) (record {
        types = subst Types named rows.0;
        constants = subst Constants behind rows.1.0;
        own = rows.1.1;
      }),
      λ at. let form : HasForm nodes node = subst At found at in
          (subst Types (sym named) form.types, (subst Constants (sym behind) form.constants, form.own)),
    )

-- the types stand in front of all that a definition names
pub types_in_front : (nodes : List TypeNode) (place : ℕ) (node : TypeNode) (types parts : List ℕ) → node_at nodes place ≡ Some node → types ≡ types_at nodes place → parts ≡ parts_at nodes place → length parts ≡ length types + length (constants_of node)
types_in_front nodes place node types parts found types_is parts_is =
    let named : types ≡ types_of node = types_is ∙ ap (λ o. option_map_or types_of o []) found in
    let all_named : parts ≡ types_of node ++ constants_of node = parts_is ∙ ap (λ o. option_map_or parts_of o []) found in
    (ap length all_named ∙ length-append (types_of node) (constants_of node)) ∙ ap (λ xs. length xs + length (constants_of node)) (sym named)

one_more : (b any : Bool) (t : ℕ) (o : Option ℕ) → any ≡ is_some o → (b || any) ≡ is_some (if b then Some t else o)
one_more true any t o same = refl
one_more false any t o same = same

-- a type is revealed fully exactly if some reveal does
pub any_reveals_fully : (place : ℕ) (reveals : List Reveal) → list_any (λ r. r.full && (r.opaque.0 == place)) reveals ≡ is_some (full_reveal reveals place)
any_reveals_fully place [] = refl
any_reveals_fully place (r ∷ reveals) = one_more (r.full && (r.opaque.0 == place)) (list_any (λ r. r.full && (r.opaque.0 == place)) reveals) r.bound.0 (full_reveal reveals place) (any_reveals_fully place reveals)
