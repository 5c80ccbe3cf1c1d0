-- METHODS: what is bound to each method of an object type.
use Rattle.std.specs.Prelude.{ℕ, ◌+◌, ◌==◌, Bool, true, false, List, [], ◌∷◌, ◌++◌, length, map, fold, Option, Some, None, slice_get}
use Rattle.std.specs.Option.{option_map_or, option_and_then}
use Rattle.std.specs.List.{list_any}
use Rattle.m3_types.specs.declared.nodes.ConstValue.TheVariants as constant
use Rattle.m3_types.specs.declared.nodes.Initial.{Initial}
use Rattle.m3_types.specs.declared.nodes.Method.{Method}
use Rattle.m3_types.specs.declared.nodes.Override.{Override}
use Rattle.m3_types.specs.declared.nodes.TypeNode.{TypeNode}
use Rattle.m3_types.specs.declared.nodes.TypeNode.TheVariants as node
use Rattle.m3_types.specs.Definitions.{node_at}
use Rattle.m3_values.specs.Values.{same_list}
use Rattle.m3_values.specs.Programs.{Program}
use Rattle.m3_values.specs.Types.{node_of, line, parent, methods_in}

-- a method's name, and the procedure that is bound to it, if it isn't NIL
pub record Bound : Type 0 where
  pub name : List ℕ
  pub procedure : Option ℕ

abbrev pub is_named : List ℕ → Bound → Bool
is_named name b = same_list ◌==◌ name b.name

-- the newest method of a name is bound anew, which is the last one
abbrev pub rebound : List ℕ → Option ℕ → List Bound → List Bound
rebound name procedure [] = []
rebound name procedure (b ∷ bs) =
    elim (list_any (is_named name) bs) [
      | true ↦ b ∷ rebound name procedure bs
      | false ↦ elim (is_named name b) [
        | true ↦ record b { procedure = procedure } ∷ bs
        | false ↦ b ∷ bs
      ]
    ]

abbrev pub procedure_in : Option TypeNode → Option ℕ
procedure_in (Some (node.Constant (constant.Procedure procedure))) = Some procedure
procedure_in _ = None

abbrev pub overrides_in : Option TypeNode → List Override
overrides_in (Some (node.Object brand parent fields methods overrides)) = overrides.now
overrides_in _ = []

module _ (p : Program) where
  abbrev pub default_procedure : Option Initial → Option ℕ
  default_procedure initial =
      option_and_then (λ (d : Initial). procedure_in (node_at p.nodes d.value.0)) initial

  abbrev pub declared : Method → Bound
  declared m = record { name = m.name.now; procedure = default_procedure m.default }

  abbrev pub overriding : List Bound → Override → List Bound
  overriding bs o = rebound o.name.now (procedure_in (node_at p.nodes o.value.0)) bs

  -- of two overrides of one method in one type the first counts
  abbrev pub overridden : List Bound → List Override → List Bound
  overridden bs [] = bs
  overridden bs (o ∷ os) = overriding (overridden bs os) o

  -- with a type that stands below: what it binds anew, and what it adds
  abbrev pub with_type : List Bound → ℕ → List Bound
  with_type bs t =
      overridden bs (overrides_in (node_of p t)) ++ map declared (methods_in (node_of p t))

  -- the methods of a type, those of its ancestors first
  abbrev pub methods_of : ℕ → List Bound
  methods_of t = fold with_type [] (line p t)

  -- the place of a method among those of an object, by the type that declares it
  abbrev pub method_place : (owner method : ℕ) → ℕ
  method_place owner method =
      option_map_or (λ above. length (methods_of above)) (parent p owner) 0 + method

  -- what an object of a type has bound to the method at a place; none where it is NIL
  abbrev pub procedure_of : (kind place : ℕ) → Option ℕ
  procedure_of kind place =
      option_and_then (λ (b : Bound). b.procedure) (slice_get (methods_of kind) place)
