-- FRAME WORDS: how many words a frame of a procedure may have: 32, those of its variables, 4 for
-- each node of its checked tree, and twice those of each value that a call, a constructor, an actual
-- or a binding of NEW handles.
use Rattle.std.specs.Prelude.{ℕ, zero, suc, ◌+◌, ◌*◌, ◌-◌, true, false, List, [], ◌∷◌, length, map, take, sum_by, Option, Some, slice_get}
use Rattle.std.specs.Option.{option_map, option_map_or}
use Rattle.m3_core.specs.declared.calls.Actual.TheFolds as folds
use Rattle.m3_core.specs.declared.calls.Actual.TheOpen as layer
use Rattle.m3_core.specs.declared.calls.BuiltinCall.{BuiltinCall}
use Rattle.m3_core.specs.declared.chains.Chain.{Chain}
use Rattle.m3_core.specs.declared.exprs.CoreExpr.{CoreExpr}
use Rattle.m3_core.specs.declared.program.Core.{Core}
use Rattle.m3_core.specs.declared.program.ProcDef.{ProcDef}
use Rattle.m3_core.specs.declared.program.VarDef.{VarDef}
use Rattle.m3_core.specs.declared.program.VarKind.{VarKind}
use Rattle.m3_core.specs.declared.program.VarKind.TheVariants as kind
use Rattle.m3_core.specs.declared.stmts.Bound.{Bound}
use Rattle.m3_core.specs.declared.stmts.Bound.TheVariants as bind
use Rattle.m3_core.specs.declared.stmts.WithBinding.{WithBinding}
use Rattle.m3_core.specs.declared.stmts.CoreStmt.{CoreStmt}
use Rattle.m3_core.specs.declared.stmts.CoreStmt.TheFolds as statement_folds
use Rattle.m3_core.specs.declared.stmts.CoreStmt.TheOpen as statement
use Rattle.m3_core.specs.declared.values.Value.TheVariants as constant
use Rattle.m3_types.specs.declared.nodes.TypeId.{TypeId}
use Rattle.m3_values.specs.Programs.{Program, program_of, procedure_at}
use Rattle.m3_values.specs.Types.{element, is_open, type_shape, below_type, open_dimensions}
use Rattle.m3_source_meaning.specs.Assignment.{variables_of}
use Rattle.m3_source_meaning.specs.Reach.{value_words, below, product}

-- ---- what stands in a tree

-- nodes, and the words of the values that are handled
pub record Count : Type 0 where
  pub nodes : ℕ
  pub words : ℕ

abbrev pub nothing : Count
nothing = record { nodes = 0; words = 0 }

infixl 20 ◌and◌
abbrev pub ◌and◌ : Count → Count → Count
c and d = record { nodes = c.nodes + d.nodes; words = c.words + d.words }

abbrev pub all_of : List Count → Count
all_of [] = nothing
all_of (c ∷ cs) = c and all_of cs

abbrev pub nodes_of : ℕ → Count
nodes_of n = record { nodes = n; words = 0 }

abbrev pub node : Count
node = nodes_of 1

-- a value is handled
abbrev pub handled : ℕ → Count
handled words = record { nodes = 0; words = words }

-- ---- parts of expressions

abbrev pub type_of : Option TypeId → Option ℕ
type_of = option_map (λ (t : TypeId). t.0)

-- something with a type
pub record Typed : Type 0 where
  pub count : Count
  pub kind : Option ℕ

-- an expression, and the sizes of an array as far as constants or its type fix them
pub record Sized : Type 0 where
  pub count : Count
  pub kind : Option ℕ
  pub sizes : List ℕ

abbrev pub typed_by : Option ℕ → Count → Typed
typed_by kind count = record { count = count; kind = kind }

abbrev pub last_kind : Option ℕ → List Typed → Option ℕ
last_kind kind [] = kind
last_kind kind (t ∷ ts) = last_kind t.kind ts

abbrev pub counts : List Typed → Count
counts ts = all_of (map (λ t. t.count) ts)

abbrev pub sized_counts : List Sized → Count
sized_counts es = all_of (map (λ e. e.count) es)

abbrev pub Over : (Type 0 → Type 0 → Type 0 → Type 0 → Type 0 → Type 0 → Type 0 → Type 0 → Type 0
    → Type 0 → Type 0) → Type 0
Over Node = Node Count Count Count Sized Count Typed Typed Count Count Typed

abbrev pub OverStatement : (Type 0 → Type 0 → Type 0 → Type 0 → Type 0 → Type 0 → Type 0) → Type 0
OverStatement Node = Node Count Count Count Count Count Count

module _ (p : Program) where
  -- ---- words of values and variables

  -- an open array has one: the cell of its copy
  abbrev pub held_words : ℕ → ℕ
  held_words t = elim (is_open p t) [ true ↦ 1 | false ↦ value_words p t ]

  -- what the sizes of an open array add to a name for it
  abbrev pub size_words : ℕ → ℕ
  size_words t = elim (is_open p t) [ true ↦ suc (open_dimensions p t) | false ↦ 0 ]

  abbrev pub named_value_words : ℕ → ℕ
  named_value_words t = held_words t + size_words t

  abbrev pub named_place_words : ℕ → ℕ
  named_place_words t = 2 + size_words t

  abbrev pub variable_words : VarKind → ℕ
  variable_words (kind.Variable t) = named_value_words t.0
  variable_words (kind.ByValue t) = named_value_words t.0
  variable_words (kind.ByVar t) = named_place_words t.0
  variable_words (kind.ByReadonly t) = named_place_words t.0
  variable_words (kind.Alias t) = named_place_words t.0

  abbrev pub result_words : Option ℕ → ℕ
  result_words kind = option_map_or held_words kind 0

  -- ---- sizes that constants fix

  abbrev pub first_sizes : (element : Option ℕ) → List Sized → List ℕ
  first_sizes element [] = below_type p element
  first_sizes element (e ∷ es) = e.sizes

  -- of an array that is written out
  abbrev pub written_sizes : ℕ → List Sized → List ℕ
  written_sizes t es = elim (is_open p t) [
    | true ↦ length es ∷ first_sizes (element p t) es
    | false ↦ type_shape p t
  ]

  -- of a constant
  abbrev pub constant_sizes : (limit : ℕ) → (t value : ℕ) → List ℕ
  constant_sizes zero t value = type_shape p t
  constant_sizes (suc limit) t value = elim (is_open p t) [
    | true ↦ elim (slice_get p.constants value) [
      | Some (constant.Array parts count) ↦ count ∷ elim parts.now [
        | [] ↦ below_type p (element p t)
        | part ∷ others ↦ option_map_or (λ e. constant_sizes limit e part.0) (element p t) []
      ]
      | other ↦ type_shape p t
    ]
    | false ↦ type_shape p t
  ]

  -- the words of what a constructor makes, of these sizes
  abbrev pub constructed_words : ℕ → List ℕ → ℕ
  constructed_words t sizes =
      let dimensions = open_dimensions p t in
      product p (take dimensions sizes) * value_words p (below p dimensions t)

  -- ---- expressions

  abbrev pub plain : ℕ → Count → Sized
  plain t count = record { count = count; kind = Some t; sizes = type_shape p t }

  abbrev pub of_typed : Typed → Sized
  of_typed t = record { count = t.count; kind = t.kind; sizes = below_type p t.kind }

  abbrev pub constructed : ℕ → List ℕ → Count → Sized
  constructed t sizes parts = record {
    count = node and handled (constructed_words t sizes) and parts;
    kind = Some t;
    sizes = sizes;
  }

  abbrev pub actual_count : Over layer.Actual-F → Count
  actual_count (layer.Actual::Value formal kind e) =
      handled (named_value_words kind.0) and e.now.count
  actual_count (layer.Place formal kind place checks_shape) =
      handled (named_place_words kind.0) and place.now.count

  abbrev pub base_count : Over layer.Base-F → Count
  base_count (layer.Inner chain) = chain.now.count
  base_count (layer.Subarray array start count kind) =
      node and array.now.count and start.now.count and count.now.count
  base_count (layer.Base::Value e) = e.now.count
  base_count _ = node

  abbrev pub step_count : Over layer.Step-F → Count
  step_count (layer.Keep kind) = nothing
  step_count (layer.Element index kind) = node and index.now.count
  step_count (layer.Call actuals kind) =
      node and handled (result_words (type_of kind)) and all_of actuals.now
  step_count (layer.MethodCall owner method actuals kind) =
      node and handled (result_words (type_of kind)) and all_of actuals.now
  step_count _ = node

  abbrev pub chain_count : Over layer.Chain-F → Typed
  chain_count c = typed_by (type_of c.kind) (c.base and all_of c.steps.now)

  abbrev pub element_count : Over layer.SetElement-F → Count
  element_count (layer.One e) = e.now.count
  element_count (layer.Range first last) = first.now.count and last.now.count

  -- an actual of a routine is a value
  abbrev pub operand_count : Sized → Count
  operand_count e = handled (result_words e.kind) and e.count

  abbrev pub call_count : Over layer.BuiltinCall-F → Typed
  call_count c = typed_by (type_of c.kind)
      (node and handled (result_words (type_of c.kind)) and all_of (map operand_count c.actuals.now))

  abbrev pub binding_count : Over layer.Binding-F → Count
  binding_count b = operand_count b.value.now

  abbrev pub field_count : Over layer.FieldValue-F → Count
  field_count f = f.value.now.count

  abbrev pub operation_count : Over layer.Operation-F → Typed
  operation_count o = typed_by (Some o.kind.0) (node and o.right.now.count)

  abbrev pub expression_count : Over layer.CoreExpr-F → Sized
  expression_count (layer.Number at t n) = plain t.0 node
  expression_count (layer.Text at t text) = plain t.0 node
  expression_count (layer.Nil at t) = plain t.0 node
  expression_count (layer.Procedure at t procedure) = plain t.0 node
  expression_count (layer.InnerProcedure at t procedure) = plain t.0 node
  expression_count (layer.Constant at t value) = record {
    count = node;
    kind = Some t.0;
    sizes = constant_sizes (length p.constants) t.0 value.0;
  }
  expression_count (layer.Chain chain) = of_typed chain.now
  expression_count (layer.Builtin call) = of_typed call.now
  expression_count (layer.Prefixed at t operators operand) =
      plain t.0 (nodes_of (length operators.now) and operand.now.count)
  expression_count (layer.Operations at first rest) = of_typed (typed_by
      (last_kind first.now.kind rest.now) (first.now.count and counts rest.now))
  expression_count (layer.SetOf at t elements) =
      constructed t.0 (type_shape p t.0) (all_of elements.now)
  expression_count (layer.ArrayOf at t elements is_filled) =
      constructed t.0 (written_sizes t.0 elements.now) (sized_counts elements.now)
  expression_count (layer.RecordOf at t fields) =
      constructed t.0 (type_shape p t.0) (all_of fields.now)
  expression_count (layer.New at t made sizes bindings) =
      plain t.0 (node and sized_counts sizes.now and all_of bindings.now)
  expression_count (layer.Convert at t check operand) = record {
    count = node and operand.now.count;
    kind = Some t.0;
    sizes = operand.now.sizes;
  }
  expression_count (layer.TypeTest at t operand tested) = plain t.0 (node and operand.now.count)
  expression_count (layer.ArrayLimit at t limit array) = plain t.0 (node and array.now.count)

  abbrev pub in_expression : CoreExpr → Count
  in_expression e =
      (folds.fold-CoreExpr Count Count Count Sized Count Typed Typed Count Count Typed
      actual_count base_count step_count expression_count element_count call_count chain_count
      binding_count field_count operation_count e).count

  abbrev pub in_chain : Chain → Count
  in_chain c =
      (folds.fold-Chain Count Count Count Sized Count Typed Typed Count Count Typed
      actual_count base_count step_count expression_count element_count call_count chain_count
      binding_count field_count operation_count c).count

  abbrev pub in_call : BuiltinCall → Count
  in_call c =
      (folds.fold-BuiltinCall Count Count Count Sized Count Typed Typed Count Count Typed
      actual_count base_count step_count expression_count element_count call_count chain_count
      binding_count field_count operation_count c).count

  -- ---- statements

  abbrev pub bound_count : Bound → Count
  bound_count (bind.Place c) = in_chain c.now
  bound_count (bind.Value e) = in_expression e.now

  -- each binding of a WITH is a node, and a WITH without one is one too
  abbrev pub bindings_count : List WithBinding → Count
  bindings_count bs =
      nodes_of (length bs - 1) and all_of (map (λ (b : WithBinding). bound_count b.bound) bs)

  abbrev pub arm_count : OverStatement statement.Arm-F → Count
  arm_count a = in_expression a.condition.now and all_of a.body.now

  abbrev pub branch_count : OverStatement statement.CaseBranch-F → Count
  branch_count b = all_of b.body.now

  abbrev pub else_count : OverStatement statement.Else-F → Count
  else_count e = all_of e.body.now

  abbrev pub handler_count : OverStatement statement.Handler-F → Count
  handler_count h = all_of h.body.now

  abbrev pub type_branch_count : OverStatement statement.TypeBranch-F → Count
  type_branch_count b = all_of b.body.now

  -- what stands in a statement, beside the node that it is itself
  abbrev pub parts_count : OverStatement statement.CoreStmt-F → Count
  parts_count (statement.Assign at target e checks_shape) =
      in_chain target.now and in_expression e.now
  parts_count (statement.Call at call) = in_chain call.now
  parts_count (statement.Builtin at call) = in_call call.now
  parts_count (statement.Change at is_decrement target amount) =
      in_chain target.now and option_map_or (λ e. in_expression e.now) amount nothing
  parts_count (statement.Block at variables initial body) =
      all_of initial.now and all_of body.now
  parts_count (statement.Case at e branches otherwise) =
      in_expression e.now and all_of branches.now and otherwise
  parts_count (statement.Exit at) = nothing
  parts_count (statement.Eval at e) = in_expression e.now
  parts_count (statement.For at variable first last step body) =
      in_expression first.now and in_expression last.now
      and option_map_or (λ e. in_expression e.now) step nothing and all_of body.now
  parts_count (statement.If at arms otherwise) = all_of arms.now and otherwise
  parts_count (statement.Loop at body) = all_of body.now
  parts_count (statement.Raise at exception argument) =
      option_map_or (λ e. in_expression e.now) argument nothing
  parts_count (statement.Repeat at body condition) =
      all_of body.now and in_expression condition.now
  parts_count (statement.Return at e) = option_map_or (λ e. in_expression e.now) e nothing
  parts_count (statement.TryExcept at body handlers otherwise) =
      all_of body.now and all_of handlers.now and otherwise
  parts_count (statement.TryFinally at body last) = all_of body.now and all_of last.now
  parts_count (statement.TypeCase at e branches otherwise) =
      in_expression e.now and all_of branches.now and otherwise
  parts_count (statement.While at condition body) =
      in_expression condition.now and all_of body.now
  parts_count (statement.With at bindings body) =
      bindings_count bindings.now and all_of body.now

  abbrev pub statement_count : OverStatement statement.CoreStmt-F → Count
  statement_count s = node and parts_count s

  abbrev pub in_statement : CoreStmt → Count
  in_statement = statement_folds.fold-CoreStmt Count Count Count Count Count Count
      statement_count arm_count branch_count else_count handler_count type_branch_count

  -- ---- procedures

  abbrev pub words_in : ProcDef → ℕ
  words_in q =
      let body = all_of (map in_statement q.body.now) in
      32 + sum_by (λ (v : VarDef). variable_words v.kind) (variables_of q)
      + 4 * body.nodes + 2 * body.words

  -- THE FRAME WORDS of a procedure, by its number
  abbrev pub frame_words : ℕ → ℕ
  frame_words q = option_map_or words_in (procedure_at p q) 0

abbrev pub frame_words_of : Core → ℕ → ℕ
frame_words_of core = frame_words (program_of core)
