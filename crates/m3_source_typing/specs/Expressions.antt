-- WELL TYPED EXPRESSIONS: one rule for each form of the checked tree. The forms without a rule are
-- named in docs/PROOFS.md.
use Rattle.std.specs.Prelude.{◌≡◌, ℕ, suc, ℤ, pos, negsuc, ◌==◌, ◌&&◌, ◌<◌, Bool, true, false, List, [], ◌∷◌, length, Option, Some, None, slice_get, nat_lt}
use Rattle.std.specs.Borrow.{Bor}
use Rattle.std.specs.List.{list_any}
use Rattle.std.specs.Option.{option_map}
use Rattle.m3_base.specs.declared.places.Pos.{Pos}
use Rattle.m3_types.specs.declared.nodes.Field.{Field}
use Rattle.m3_types.specs.declared.nodes.TypeId.{TypeId}
use Rattle.m3_types.specs.declared.nodes.Formal.{Formal}
use Rattle.m3_types.specs.declared.nodes.Mode.{Mode}
use Rattle.m3_types.specs.declared.nodes.Mode.TheVariants as mode
use Rattle.m3_core.specs.declared.calls.Actual.{Actual, roll-Actual}
use Rattle.m3_core.specs.declared.calls.BuiltinCall.{BuiltinCall, roll-BuiltinCall}
use Rattle.m3_core.specs.declared.calls.Routine.{Routine}
use Rattle.m3_core.specs.declared.calls.Actual.TheOpen as layer
use Rattle.m3_core.specs.declared.program.ProcDef.{ProcDef}
use Rattle.m3_core.specs.declared.chains.Base.{Base, roll-Base}
use Rattle.m3_core.specs.declared.chains.Chain.{Chain, roll-Chain}
use Rattle.m3_core.specs.declared.chains.Step.{Step, roll-Step}
use Rattle.m3_core.specs.declared.exprs.Binding.{Binding, roll-Binding}
use Rattle.m3_core.specs.declared.exprs.ArrayLimit.{ArrayLimit}
use Rattle.m3_core.specs.declared.exprs.ArrayLimit.TheVariants as limit
use Rattle.m3_core.specs.declared.exprs.Conversion.TheVariants as conversion
use Rattle.m3_core.specs.declared.exprs.CoreExpr.{CoreExpr, roll-CoreExpr}
use Rattle.m3_core.specs.declared.exprs.FieldValue.{FieldValue, roll-FieldValue}
use Rattle.m3_core.specs.declared.exprs.Operation.{Operation, roll-Operation}
use Rattle.m3_core.specs.declared.exprs.Operator.{Operator}
use Rattle.m3_core.specs.declared.exprs.Prefix.{Prefix}
use Rattle.m3_core.specs.declared.exprs.SetElement.{SetElement, roll-SetElement}
use Rattle.m3_core.specs.declared.program.VarDef.{VarDef}
use Rattle.m3_core.specs.declared.values.ValueId.{ValueId}
use Rattle.m3_values.specs.Values.{Value}
use Rattle.m3_values.specs.Programs.{Program, procedure_at}
use Rattle.m3_values.specs.Constants.{constant_at}
use Rattle.m3_values.specs.Methods.{method_place, procedure_of}
use Rattle.m3_values.specs.Store.{Store, is_text_type, is_thread_type, is_made_type}
use Rattle.m3_source_meaning.specs.Phrases.{Here}
use Rattle.m3_source_meaning.specs.Designators.{is_own}
use Rattle.m3_source_meaning.specs.Assignment.{type_of_variable}
use Rattle.m3_values.specs.Types.{Bounds, bounds, node_of, index_in, type_sizes, below_type, element, elements as elements_of, target_in, formals_in, is_open, parent, is_object_in, unveiled, kind_of, object_fields, object_field as field_of_object, is_same}
use Rattle.m3_source_typing.specs.ValueTypes.{has_sizes, OfReferences, OfProcedures, OfRecords, OfArrays, HasType, HasFixedSizes, class_of, member_in, record_fields, result_in, same_result, called_alike, is_count, IsOfNil, IsNumberOf, IsProcedureOf}
use Rattle.m3_source_meaning.specs.Constructors.{first_content, cell_field}
use Rattle.m3_source_typing.specs.Stores.{IsContentOf}
use Rattle.m3_source_typing.specs.Routines.{routine_fits}
use Rattle.m3_source_typing.specs.Subtypes.{IsBelow}
use Rattle.m3_source_typing.specs.Points.{result_type}
use Rattle.m3_source_typing.specs.Sound.{Knows, Alias, Scope}
use Rattle.m3_source_typing.specs.Operators.{is_ordinal, is_boolean, is_text_in, is_part, is_references, within_bounds, prefixes_fit, operator_fits}

-- what a chain gives up to a step: a place of a type, which is a variable or not, a value of one,
-- or nothing, as the call of a procedure without result
pub data Given : Type 0 where
  PlaceOf : (is_variable : Bool) → ℕ → Given
  ValueOf : ℕ → Given
  Nothing : Given

-- what a call gives, by the type of the result
abbrev pub given_by : Option ℕ → Given
given_by None = Nothing
given_by (Some t) = ValueOf t

-- the places of the fields that have values, each once
abbrev pub HasEachField : List Field → List ℕ → Type 0
HasEachField fields ns =
    (length ns ≡ length fields)
    × ((n : ℕ) → n < length fields → list_any (λ m. m == n) ns ≡ true)

-- what has subtypes by declaration is an object type
abbrev pub ParentsAreObjects : Program → Type 0
ParentsAreObjects p = (t u : ℕ) → parent p t ≡ Some u → is_object_in (node_of p u) ≡ true

-- the cells of an object type have a field of a type at a place
pub record HasField (p : Program) (kind n u : ℕ) : Type 0 where
  pub object : is_object_in (node_of p kind) ≡ true
  pub field : Field
  pub there : slice_get (object_fields p kind) n ≡ Some field
  pub same : is_same p field.kind.0 u ≡ true

-- Each cell that is a value of a reference type has such a field: so none of them is a text or a
-- thread.
pub record HaveField (p : Program) (t n u : ℕ) : Type 0 where
  pub no_text : is_text_type p (node_of p (unveiled p t)) ≡ false
  pub no_thread : is_thread_type p (node_of p (unveiled p t)) ≡ false
  pub each : (kind : ℕ)
      → is_made_type p kind (unveiled p t) (node_of p (unveiled p t)) ≡ true → HasField p kind n u

-- the heading of each procedure has the result that the procedure's type has
abbrev pub HeadingsAgree : Program → Type 0
HeadingsAgree p = (n : ℕ) (q : ProcDef) → procedure_at p n ≡ Some q
    → result_in (node_of p q.kind.0) ≡ option_map (λ (t : TypeId). t.0) q.result

-- Each object that is a value of the type has a method at a place with such a result, or NIL there.
pub record HaveMethod (p : Program) (t n : ℕ) (result : Option ℕ) : Type 0 where
  pub no_text : is_text_type p (node_of p (unveiled p t)) ≡ false
  pub no_thread : is_thread_type p (node_of p (unveiled p t)) ≡ false
  pub each : (kind : ℕ)
      → is_made_type p kind (unveiled p t) (node_of p (unveiled p t)) ≡ true
      → (procedure : ℕ) → procedure_of p kind n ≡ Some procedure
      → same_result p (result_type p procedure) result ≡ true

-- a formal that is no VALUE formal stands for a place: of a VAR formal it is a variable
abbrev pub takes_value : Mode → Bool
takes_value mode.Var = false
takes_value _ = true

abbrev pub takes_place : Mode → (is_variable : Bool) → Bool
takes_place mode.Value is_variable = false
takes_place mode.Var is_variable = is_variable
takes_place mode.Readonly is_variable = true

-- A limit of an array has the type: of a fixed array, whose index type the chain names, that of its
-- index type; of an open one a number from 0 on, or one less.
abbrev pub counts : Bounds
counts = record { first = pos 0; last = pos 9223372036854775807 }

abbrev pub last_indices : Bounds
last_indices = record { first = negsuc 0; last = pos 9223372036854775807 }

pub data HasLimit (p : Program) (noted kind : ℕ) : ArrayLimit → Type 0 where
  first_of : (i : ℕ) (b : Bounds) → index_in (node_of p noted) ≡ Some i → bounds p i ≡ Some b
      → IsNumberOf b.first (bounds p kind) → HasLimit p noted kind limit.First
  last_of : (i : ℕ) (b : Bounds) → index_in (node_of p noted) ≡ Some i → bounds p i ≡ Some b
      → IsNumberOf b.last (bounds p kind) → HasLimit p noted kind limit.Last
  first_of_open : index_in (node_of p noted) ≡ None → IsNumberOf (pos 0) (bounds p kind)
      → HasLimit p noted kind limit.First
  last_of_open : index_in (node_of p noted) ≡ None
      → within_bounds (Some last_indices) (bounds p kind) ≡ true
      → HasLimit p noted kind limit.Last
  number_of : within_bounds (Some counts) (bounds p kind) ≡ true
      → HasLimit p noted kind limit.Number

-- two array types of the same elements, and the sizes that they say of their first dimensions
pub record HaveSameElements (p : Program) (t u : ℕ) (size other : Option ℕ) : Type 0 where
  pub array : class_of p t ≡ OfArrays
  pub other_array : class_of p u ≡ OfArrays
  pub e : ℕ
  pub f : ℕ
  pub element_is : element p t ≡ Some e
  pub other_element : element p u ≡ Some f
  pub same : is_same p e f ≡ true
  pub rest : List (Option ℕ)
  pub sizes : type_sizes p t ≡ size ∷ rest
  pub other_sizes : type_sizes p u ≡ other ∷ rest

-- what a reference of a type leads to has a field of another one at a place: an object, or a record
pub data IsFieldOf (p : Program) (t n u : ℕ) : Type 0 where
  of_objects : HaveField p t n u → HasFixedSizes p u → IsFieldOf p t n u
  of_record : (r : ℕ) (f : Field) → target_in (node_of p t) ≡ Some r → ParentsAreObjects p
      → class_of p r ≡ OfRecords → slice_get (record_fields (node_of p r)) n ≡ Some f
      → f.kind.0 ≡ u → HasFixedSizes p u → IsFieldOf p t n u

-- what a new cell of a type holds is what its cells may hold
abbrev pub HasFirstContent : Program → ℕ → Type 0
HasFirstContent p t = (s : Store) → IsContentOf p s
    (first_content p (node_of p (unveiled p t)) (unveiled p t) []) (kind_of p t)
    (node_of p (kind_of p t))

-- So many elements are those of an array type that says this size, or are filled up to its size,
-- which isn't 0.
abbrev pub count_fits : (is_filled : Bool) → (size : Option ℕ) → (filled_to count : ℕ) → Bool
count_fits true None filled_to count = false
count_fits true (Some size) filled_to count =
    (is_count size && nat_lt 0 size) && (size == filled_to)
count_fits false None filled_to count = is_count count
count_fits false (Some size) filled_to count = is_count size && (size == count)

-- the numbers below a count, each once
pub record HasEachNumber (count : ℕ) (ns : List ℕ) : Type 0 where
  pub long : length ns ≡ count
  pub each : (n : ℕ) → n < count → list_any (λ m. m == n) ns ≡ true
  pub no_other : (n i : ℕ) → slice_get ns i ≡ Some n → n < count

-- each formal once
abbrev pub HasEachFormal : List Formal → List ℕ → Type 0
HasEachFormal formals ns =
    (length ns ≡ length formals)
    × ((n : ℕ) → n < length formals → list_any (λ m. m == n) ns ≡ true)

-- in an activation of whose own variables these are made, and have these types
module _ (p : Program) (here : Here) (own : Scope) where
  mutual
    -- THE EXPRESSION IS WELL TYPED, and of this type
    pub data IsExpression : CoreExpr → ℕ → Type 0 where
      -- literals
      number : (at : Pos) (kind : TypeId) (z : ℤ) → is_ordinal p kind.0 ≡ true
          → IsNumberOf z (bounds p kind.0)
          → IsExpression (roll-CoreExpr (layer.Number at kind z)) kind.0
      text : (at : Pos) (kind : TypeId) (n : ℕ) → is_text_in (node_of p kind.0) ≡ true
          → n < length p.texts
          → IsExpression (roll-CoreExpr (layer.Text at kind n)) kind.0
      nil : (at : Pos) (kind : TypeId) → IsOfNil (class_of p kind.0)
          → IsExpression (roll-CoreExpr (layer.Nil at kind)) kind.0
      -- a procedure of the outermost scope of a unit
      procedure : (at : Pos) (kind : TypeId) (n : ℕ) → class_of p kind.0 ≡ OfProcedures
          → IsProcedureOf p (procedure_at p n) kind.0
          → IsExpression (roll-CoreExpr (layer.Procedure at kind n)) kind.0
      -- a procedure that stands in the one that speaks
      inner_procedure : (at : Pos) (kind : TypeId) (n : ℕ) (q : ProcDef)
          → class_of p kind.0 ≡ OfProcedures → procedure_at p n ≡ Some q
          → q.level ≡ suc here.level → IsProcedureOf p (procedure_at p n) kind.0
          → IsExpression (roll-CoreExpr (layer.InnerProcedure at kind n)) kind.0
      -- a constant set, record or array
      constant : (at : Pos) (kind : TypeId) (n : ValueId) (v : Value)
          → constant_at p kind.0 n.0 ≡ Some v → ((s : Store) → HasType p s v kind.0)
          → IsExpression (roll-CoreExpr (layer.Constant at kind n)) kind.0
      -- what a chain gives
      chain : (c : Bor Chain) (t : ℕ) → IsChain c.now (ValueOf t)
          → IsExpression (roll-CoreExpr (layer.Chain c)) t
      -- operators
      prefixed : (at : Pos) (kind : TypeId) (os : Bor (List Prefix)) (operand : Bor CoreExpr)
          (t : ℕ) → IsExpression operand.now t → prefixes_fit p os.now t kind.0 ≡ true
          → IsExpression (roll-CoreExpr (layer.Prefixed at kind os operand)) kind.0
      operations : (at : Pos) (first : Bor CoreExpr) (rest : Bor (List Operation)) (t result : ℕ)
          → IsExpression first.now t → IsRow t rest.now result
          → IsExpression (roll-CoreExpr (layer.Operations at first rest)) result
      -- constructors
      set_of : (at : Pos) (kind : TypeId) (elements : Bor (List SetElement)) (member : ℕ)
          → member_in (node_of p kind.0) ≡ Some member → is_ordinal p member ≡ true
          → AreSetElements member elements.now
          → IsExpression (roll-CoreExpr (layer.SetOf at kind elements)) kind.0
      record_of : (at : Pos) (kind : TypeId) (fields : Bor (List FieldValue)) (ns : List ℕ)
          → class_of p kind.0 ≡ OfRecords
          → AreFieldValues (record_fields (node_of p kind.0)) fields.now ns
          → HasEachField (record_fields (node_of p kind.0)) ns
          → IsExpression (roll-CoreExpr (layer.RecordOf at kind fields)) kind.0
      -- conversions and type tests
      ranged : (at : Pos) (kind : TypeId) (operand : Bor CoreExpr) (t : ℕ)
          → IsExpression operand.now t → is_ordinal p t ≡ true → is_ordinal p kind.0 ≡ true
          → IsExpression (roll-CoreExpr (layer.Convert at kind conversion.Range operand)) kind.0
      narrowed : (at : Pos) (kind : TypeId) (operand : Bor CoreExpr) (t : ℕ)
          → IsExpression operand.now t → is_references (class_of p t) ≡ true
          → is_references (class_of p kind.0) ≡ true
          → IsExpression (roll-CoreExpr (layer.Convert at kind conversion.Narrow operand)) kind.0
      tested : (at : Pos) (kind : TypeId) (operand : Bor CoreExpr) (other : TypeId) (t : ℕ)
          → IsExpression operand.now t → is_references (class_of p t) ≡ true
          → is_boolean p kind.0 ≡ true
          → IsExpression (roll-CoreExpr (layer.TypeTest at kind operand other)) kind.0
      -- an array of at least one element
      array_of : (at : Pos) (kind : TypeId) (first : CoreExpr) (rest : List CoreExpr)
          (elements : Bor (List CoreExpr)) (is_filled : Bool) (e : ℕ) (size : Option ℕ)
          → elements.now ≡ first ∷ rest → class_of p kind.0 ≡ OfArrays
          → element p kind.0 ≡ Some e → type_sizes p kind.0 ≡ size ∷ type_sizes p e
          → AreElementsOf e elements.now
          → count_fits is_filled size (elements_of p kind.0) (length elements.now) ≡ true
          → IsExpression (roll-CoreExpr (layer.ArrayOf at kind elements is_filled)) kind.0
      -- an array without elements, where the type says which shape they would have
      empty_array : (at : Pos) (kind : TypeId) (elements : Bor (List CoreExpr)) (e : ℕ)
          (size : Option ℕ) → elements.now ≡ [] → class_of p kind.0 ≡ OfArrays
          → element p kind.0 ≡ Some e → type_sizes p kind.0 ≡ size ∷ type_sizes p e
          → has_sizes (type_sizes p e) (below_type p (Some e)) ≡ true
          → count_fits false size (elements_of p kind.0) 0 ≡ true
          → IsExpression (roll-CoreExpr (layer.ArrayOf at kind elements false)) kind.0
      -- NEW without sizes
      new_cell : (at : Pos) (kind made : TypeId) (sizes : Bor (List CoreExpr))
          (bindings : Bor (List Binding)) (us : List ℕ) → sizes.now ≡ []
          → AreBindings kind.0 bindings.now us → class_of p kind.0 ≡ OfReferences
          → is_made_type p (kind_of p made.0) (unveiled p kind.0) (node_of p (unveiled p kind.0))
          ≡ true → HasFirstContent p made.0
          → IsExpression (roll-CoreExpr (layer.New at kind made sizes bindings)) kind.0
      -- a routine or predeclared function that gives a value
      routine : (c : Bor BuiltinCall) (t : ℕ) → IsRoutine c.now (Some t)
          → IsExpression (roll-CoreExpr (layer.Builtin c)) t
      -- a procedure that isn't NIL and stands in no other one
      outermost : (at : Pos) (kind : TypeId) (e : Bor CoreExpr) → IsExpression e.now kind.0
          → IsExpression (roll-CoreExpr (layer.Convert at kind conversion.Nested e)) kind.0
      -- FIRST, LAST and NUMBER of an array whose type the chain names
      limit_of : (at : Pos) (kind : TypeId) (l : ArrayLimit) (begins : Pos) (base : Base)
          (row : Bor (List Step)) (noted : TypeId) (c : Bor Chain) (is_variable : Bool) (t e : ℕ)
          → c.now
          ≡ roll-Chain (record { pos = begins; base = base; steps = row; kind = Some noted })
          → IsChain c.now (PlaceOf is_variable t) → class_of p t ≡ OfArrays
          → element p t ≡ Some e → is_ordinal p kind.0 ≡ true → HasLimit p noted.0 kind.0 l
          → IsExpression (roll-CoreExpr (layer.ArrayLimit at kind l c)) kind.0
      -- an array is one of an open type with the same elements, and where its size is checked
      -- one of a fixed type
      opened : (e : CoreExpr) (t other : ℕ) (size : Option ℕ) → IsExpression e t
          → HaveSameElements p t other size None → IsExpression e other
      shaped : (at : Pos) (kind : TypeId) (e : Bor CoreExpr) (t : ℕ) (size wanted : Option ℕ)
          → IsExpression e.now t → HaveSameElements p t kind.0 size wanted
          → IsExpression (roll-CoreExpr (layer.Convert at kind conversion.Shape e)) kind.0
      -- a reference is a value of each type above its type
      above : (e : CoreExpr) (t other : ℕ) → IsExpression e t → class_of p t ≡ OfReferences
          → class_of p other ≡ OfReferences → IsBelow p t other → IsExpression e other
      -- a procedure of a type can be called as one of each type with the same formals and result
      called_as : (e : CoreExpr) (t other : ℕ) → IsExpression e t
          → class_of p t ≡ OfProcedures → class_of p other ≡ OfProcedures
          → called_alike p (node_of p t) (node_of p other) ≡ true → IsExpression e other
      -- a number of a type is one of each type that has all numbers of that one
      widened : (e : CoreExpr) (t wider : ℕ) → IsExpression e t → is_ordinal p t ≡ true
          → is_ordinal p wider ≡ true → is_part p t wider ≡ true → IsExpression e wider
      -- and a value of a type is one of each type that is the same
      same : (e : CoreExpr) (t other : ℕ) → IsExpression e t → is_same p t other ≡ true
          → IsExpression e other

    -- operators in a row with their right operands, from a left operand of a type to a result
    pub data IsRow : ℕ → List Operation → ℕ → Type 0 where
      last : (t : ℕ) → IsRow t [] t
      next : (t right result : ℕ) (o : Operator) (at : Pos) (e : Bor CoreExpr) (kind : TypeId)
          (os : List Operation) → IsExpression e.now right → operator_fits p o t right kind.0 ≡ true
          → IsRow kind.0 os result
          → IsRow t
          (roll-Operation (record { operator = o; pos = at; right = e; kind = kind }) ∷ os) result

    -- the elements of a set, which are of the type of its members
    pub data AreSetElements : ℕ → List SetElement → Type 0 where
      no_elements : (member : ℕ) → AreSetElements member []
      one_element : (member : ℕ) (e : Bor CoreExpr) (es : List SetElement)
          → IsExpression e.now member → AreSetElements member es
          → AreSetElements member (roll-SetElement (layer.One e) ∷ es)
      range_element : (member : ℕ) (first last : Bor CoreExpr) (es : List SetElement)
          → IsExpression first.now member → IsExpression last.now member
          → AreSetElements member es
          → AreSetElements member (roll-SetElement (layer.Range first last) ∷ es)

    -- the elements of an array, of one type
    pub data AreElementsOf : ℕ → List CoreExpr → Type 0 where
      none_of : (e : ℕ) → AreElementsOf e []
      one_of : (e : ℕ) (x : CoreExpr) (xs : List CoreExpr) → IsExpression x e
          → AreElementsOf e xs → AreElementsOf e (x ∷ xs)

    -- the values of the fields of a record, each of the type of its field, by the places of these
    pub data AreFieldValues : List Field → List FieldValue → List ℕ → Type 0 where
      no_fields : (fields : List Field) → AreFieldValues fields [] []
      one_field : (fields : List Field) (n : ℕ) (f : Field) (e : Bor CoreExpr)
          (vs : List FieldValue) (ns : List ℕ) → slice_get fields n ≡ Some f
          → IsExpression e.now f.kind.0 → AreFieldValues fields vs ns
          → AreFieldValues fields (roll-FieldValue (record { field = n; value = e }) ∷ vs) (n ∷ ns)

    -- the call of a routine, whose value has a type, or that gives none: each actual is evaluated
    -- once
    pub data IsRoutine : BuiltinCall → Option ℕ → Type 0 where
      routine_call : (at : Pos) (r : Routine) (actuals : Bor (List CoreExpr))
          (order : Bor (List ℕ)) (kind : Option TypeId) (ts : List ℕ)
          → AreOperands actuals.now ts → HasEachNumber (length ts) order.now
          → routine_fits p r ts (option_map (λ (t : TypeId). t.0) kind) ≡ true
          → IsRoutine (roll-BuiltinCall (record {
            pos = at;
            routine = r;
            actuals = actuals;
            order = order;
            kind = kind;
          })) (option_map (λ (t : TypeId). t.0) kind)

    pub data AreOperands : List CoreExpr → List ℕ → Type 0 where
      no_operands : AreOperands [] []
      one_operand : (e : CoreExpr) (es : List CoreExpr) (t : ℕ) (ts : List ℕ) → IsExpression e t
          → AreOperands es ts → AreOperands (e ∷ es) (t ∷ ts)

    -- the values of fields of a new cell, to which a reference of a type leads
    pub data AreBindings : ℕ → List Binding → List ℕ → Type 0 where
      no_bindings : (t : ℕ) → AreBindings t [] []
      one_binding : (t : ℕ) (owner : Option TypeId) (n : ℕ) (e : Bor CoreExpr) (u : ℕ)
          (bs : List Binding) (us : List ℕ)
          → IsFieldOf p t (cell_field p (option_map (λ (o : TypeId). o.0) owner) n) u
          → IsExpression e.now u → AreBindings t bs us
          → AreBindings t (roll-Binding (record { owner = owner; field = n; value = e }) ∷ bs)
          (u ∷ us)

    -- ---- chains

    pub data IsChain : Chain → Given → Type 0 where
      steps : (at : Pos) (base : Base) (row : Bor (List Step)) (kind : Option TypeId) (g h : Given)
          → IsBase base g → AreSteps g row.now h
          → IsChain
          (roll-Chain (record { pos = at; base = base; steps = row; kind = kind })) h

    -- what a chain begins with
    pub data IsBase : Base → Given → Type 0 where
      global : (x : ℕ) (kind : TypeId) (v : VarDef) → slice_get p.globals x ≡ Some v
          → HasFixedSizes p (type_of_variable v.kind)
          → IsBase (roll-Base (layer.Global x kind)) (PlaceOf true (type_of_variable v.kind))
      -- a variable of the activation that is made and that nobody else can reach
      own_variable : (level x : ℕ) (kind : TypeId) (t : ℕ) → is_own p here level x ≡ true
          → own.holds.kind x ≡ Some t → HasFixedSizes p t
          → IsBase (roll-Base (layer.Local level x kind)) (PlaceOf true t)
      -- SUBARRAY: an open array of elements of the same type
      subarray : (array : Bor Chain) (start count : Bor CoreExpr) (kind : TypeId)
          (is_variable : Bool) (t e f n m : ℕ) (first : Option ℕ) (rest : List (Option ℕ))
          → IsChain array.now (PlaceOf is_variable t) → class_of p t ≡ OfArrays
          → element p t ≡ Some e → type_sizes p t ≡ first ∷ rest → class_of p kind.0 ≡ OfArrays
          → element p kind.0 ≡ Some f → type_sizes p kind.0 ≡ None ∷ rest → is_same p e f ≡ true
          → IsExpression start.now n → is_ordinal p n ≡ true
          → IsExpression count.now m → is_ordinal p m ≡ true
          → IsBase (roll-Base (layer.Subarray array start count kind)) (PlaceOf is_variable kind.0)
      -- a name that stands for a place
      own_name : (level x : ℕ) (kind : TypeId) (a : Alias) → is_own p here level x ≡ true
          → own.names x ≡ Some a → Knows a.known own.holds
          → IsBase (roll-Base (layer.Alias level x kind)) (PlaceOf a.is_variable a.kind)
      inner : (c : Bor Chain) (g : Given) → IsChain c.now g
          → IsBase (roll-Base (layer.Inner c)) g
      value : (e : Bor CoreExpr) (t : ℕ) → IsExpression e.now t
          → IsBase (roll-Base (layer.Base::Value e)) (ValueOf t)

    pub data AreSteps : Given → List Step → Given → Type 0 where
      no_steps : (g : Given) → AreSteps g [] g
      one_step : (g h k : Given) (s : Step) (row : List Step) → IsStep g s h → AreSteps h row k
          → AreSteps g (s ∷ row) k

    pub data IsStep : Given → Step → Given → Type 0 where
      read : (kind : TypeId) (is_variable : Bool) (t : ℕ)
          → IsStep (PlaceOf is_variable t) (roll-Step (layer.Read kind)) (ValueOf t)
      keep : (kind : TypeId) (t : ℕ)
          → IsStep (ValueOf t) (roll-Step (layer.Keep kind)) (PlaceOf false t)
      -- a field of a record is a variable where the record is, and so is an element of an array
      field : (n : ℕ) (kind : TypeId) (is_variable : Bool) (t : ℕ) (f : Field)
          → class_of p t ≡ OfRecords → slice_get (record_fields (node_of p t)) n ≡ Some f
          → HasFixedSizes p f.kind.0
          → IsStep (PlaceOf is_variable t) (roll-Step (layer.Field n kind))
          (PlaceOf is_variable f.kind.0)
      -- the referent of a reference: NIL is a fault
      dereference : (kind : TypeId) (t target : ℕ) → target_in (node_of p t) ≡ Some target
          → ParentsAreObjects p
          → IsStep (ValueOf t) (roll-Step (layer.Dereference kind)) (PlaceOf true target)
      -- a field of an object: NIL is a fault
      object_field : (owner : TypeId) (n : ℕ) (kind : TypeId) (t u : ℕ)
          → class_of p t ≡ OfReferences → HaveField p t (field_of_object p owner.0 n) u
          → HasFixedSizes p u
          → IsStep (ValueOf t) (roll-Step (layer.ObjectField owner n kind)) (PlaceOf true u)
      -- calls: a procedure value, and a method of an object, of which NIL is a fault
      call : (actuals : Bor (List Actual)) (kind : Option TypeId) (t : ℕ) (ns : List ℕ)
          → class_of p t ≡ OfProcedures → HeadingsAgree p
          → AreActuals (formals_in (node_of p t)) actuals.now ns
          → HasEachFormal (formals_in (node_of p t)) ns
          → IsStep (ValueOf t) (roll-Step (layer.Call actuals kind))
          (given_by (result_in (node_of p t)))
      method_call : (owner : TypeId) (m : ℕ) (actuals : Bor (List Actual)) (kind : Option TypeId)
          (t : ℕ) (result : Option ℕ) (formals : List Formal) (ns : List ℕ)
          → class_of p t ≡ OfReferences → HaveMethod p t (method_place p owner.0 m) result
          → AreActuals formals actuals.now ns → HasEachFormal formals ns
          → IsStep (ValueOf t) (roll-Step (layer.MethodCall owner m actuals kind))
          (given_by result)
      element_of : (index : Bor CoreExpr) (kind : TypeId) (is_variable : Bool) (t e i : ℕ)
          → class_of p t ≡ OfArrays → element p t ≡ Some e → IsExpression index.now i
          → is_ordinal p i ≡ true
          → IsStep (PlaceOf is_variable t) (roll-Step (layer.Element index kind))
          (PlaceOf is_variable e)

    -- the actuals of a call, with the places of their formals. A VALUE formal that is an open array
    -- has no rule yet.
    pub data AreActuals : List Formal → List Actual → List ℕ → Type 0 where
      no_actuals : (formals : List Formal) → AreActuals formals [] []
      value_actual : (formals : List Formal) (n : ℕ) (f : Formal) (kind : TypeId)
          (e : Bor CoreExpr) (more : List Actual) (ns : List ℕ) → slice_get formals n ≡ Some f
          → takes_value f.mode ≡ true → is_open p kind.0 ≡ false → IsExpression e.now f.kind.0
          → AreActuals formals more ns
          → AreActuals formals (roll-Actual (layer.Actual::Value n kind e) ∷ more) (n ∷ ns)
      place_actual : (formals : List Formal) (n : ℕ) (f : Formal) (kind : TypeId) (c : Bor Chain)
          (checks_shape is_variable : Bool) (t : ℕ) (more : List Actual) (ns : List ℕ)
          → slice_get formals n ≡ Some f → takes_place f.mode is_variable ≡ true
          → IsChain c.now (PlaceOf is_variable t) → is_same p t f.kind.0 ≡ true
          → AreActuals formals more ns
          → AreActuals formals (roll-Actual (layer.Place n kind c checks_shape) ∷ more) (n ∷ ns)
