-- Each statement of the checked tree is safe, and so is each procedure.
use Rattle.std.proofs.Common.{◌≡◌, ℕ, ℤ, zero, suc, pos, negsuc, Bool, true, false, List, [], ◌∷◌, ◌++◌, Option, Some, None, map, sym, ap, ◌∙◌, subst}
use Rattle.std.specs.Prelude.{not, ◌==◌, ◌+ℤ◌, length}
use Rattle.std.specs.Borrow.{Bor}
use Rattle.std.specs.List.{list_any}
use Rattle.std.specs.Option.{option_map, option_map_or}
use Rattle.m3_base.specs.declared.places.Pos.{Pos}
use Rattle.m3_types.specs.declared.nodes.TypeId.{TypeId}
use Rattle.m3_core.specs.declared.exprs.CoreExpr.{CoreExpr}
use Rattle.m3_core.specs.declared.stmts.Bound.{Bound}
use Rattle.m3_core.specs.declared.stmts.Bound.TheVariants as bind
use Rattle.m3_core.specs.declared.stmts.WithBinding.{WithBinding}
use Rattle.m3_core.specs.declared.stmts.CoreStmt.TheFolds as folds
use Rattle.m3_core.specs.declared.stmts.CoreStmt.TheOpen as layer
use Rattle.m3_core.specs.declared.stmts.CoreStmt.{CoreStmt, roll-CoreStmt}
use Rattle.m3_core.specs.declared.stmts.Arm.{Arm, roll-Arm}
use Rattle.m3_core.specs.declared.stmts.CaseBranch.{CaseBranch, roll-CaseBranch}
use Rattle.m3_core.specs.declared.stmts.Else.{Else, roll-Else}
use Rattle.m3_core.specs.declared.stmts.Handler.{Handler, roll-Handler}
use Rattle.m3_core.specs.declared.stmts.TypeBranch.{TypeBranch, roll-TypeBranch}
use Rattle.m3_values.specs.Values as value
use Rattle.m3_values.specs.Values.{Value}
use Rattle.m3_values.specs.Integers.{within_integer}
use Rattle.m3_values.specs.Programs.{Program}
use Rattle.m3_values.specs.Types.{bounds}
use Rattle.m3_values.specs.Places.{Place, Thing, Is, At}
use Rattle.m3_values.specs.Store.{has_type}
use Rattle.m3_source_meaning.specs.Meanings.{Raised, Evaluates, Acts, seeing}
use Rattle.m3_source_meaning.specs.Phrases.{Here, Expression, Chained}
use Rattle.m3_source_meaning.specs.Designators.{is_shared_here}
use Rattle.m3_source_meaning.specs.Assignment as assignments
use Rattle.m3_source_meaning.specs.Assignment.{type_of_variable}
use Rattle.m3_source_meaning.specs.Blocks as blocks
use Rattle.m3_source_meaning.specs.Blocks.{in_turn}
use Rattle.m3_source_meaning.specs.Branches as branches
use Rattle.m3_source_meaning.specs.Branches.{Otherwise, Conditional, Labelled, Typed}
use Rattle.m3_source_meaning.specs.Loops as loops
use Rattle.m3_source_meaning.specs.Exceptions as exceptions
use Rattle.m3_source_meaning.specs.Exceptions.{Handling}
use Rattle.m3_source_meaning.specs.Statements as statements
use Rattle.m3_source_meaning.specs.Statements.{statement_of, arm_of, branch_of, else_of, handler_of, type_branch_of, statement}
use Rattle.m3_source_meaning.specs.Trees as trees_of
use Rattle.m3_source_meaning.proofs.Trees as trees
use Rattle.m3_source_meaning.specs.Sharing.{Use, Uses, all_of, in_expression, in_chain, in_statement, bound_uses, in_bindings, statement_uses, arm_uses, branch_uses, else_uses, handler_uses, type_branch_uses}
use Rattle.m3_source_laws.specs.Own.{AllOf}
use Rattle.m3_source_laws.proofs.Uses as uses
use Rattle.m3_source_laws.proofs.Safe.{Invariant, Within, Gives, Safe, safe_given, safe_done, safe_bind, gives_bind, gives_any, gives_so, safe_then, safe_holding, safe_holding_all, safe_in_scope, safe_fault, safe_undefined, safe_there, safe_computed, safe_unless, safe_seeing, safe_reading, safe_changing, safe_writing, safe_acting, safe_raising}
use Rattle.m3_source_laws.proofs.SafeExpressions.{SafeExpression, SafeChained, is_value, safe_within}
use Rattle.m3_source_laws.proofs.SafeTrees as known
use Rattle.m3_source_laws.proofs.SafeTrees.{With, first_of_two, second_of_two, all_known}

pub record SafeConditional (inv : Invariant) (c : Conditional) : Type 0 where
  pub condition : SafeExpression inv c.condition
  pub body : Safe inv c.body

pub record SafeLabelled (inv : Invariant) (b : Labelled) : Type 0 where
  pub body : Safe inv b.body

pub record SafeOtherwise (inv : Invariant) (e : Otherwise) : Type 0 where
  pub body : Safe inv e.body

pub record SafeHandling (inv : Invariant) (h : Handling) : Type 0 where
  pub body : Safe inv h.body

pub record SafeTyped (inv : Invariant) (b : Typed) : Type 0 where
  pub body : Safe inv b.body

pub safe_in_turn : {inv : Invariant} (ss : List Acts) → AllOf (Safe inv) ss → Safe inv (in_turn ss)
safe_in_turn [] h = safe_done
safe_in_turn (s ∷ ss) h = safe_then h.0 (safe_in_turn ss h.1)

safe_dropped : {inv : Invariant} {A : Type 0} (p : Program) (here : Here) {e : Evaluates A} → Safe inv e → Safe inv (statements.dropped p here e)
safe_dropped p here h = safe_bind h (λ x. safe_done)

safe_elim : {inv : Invariant} {A : Type 0} (b : Bool) (e f : Evaluates A) → Safe inv e → Safe inv f → Safe inv (elim b as (λ x. Evaluates A) [ true ↦ e | false ↦ f ])
safe_elim true e f h k = h
safe_elim false e f h k = k

-- ---- Assignment

safe_shape_check : {inv : Invariant} (b : Bool) (at : Pos) (to : Place) (v : Value) → Safe inv (assignments.shape_check b at to v)
safe_shape_check false at to v = safe_done
safe_shape_check true at to v = safe_bind (safe_reading to) (λ u. safe_unless _ _ _)

safe_assigned : {inv : Invariant} (b : Bool) (e : Expression) → SafeExpression inv e → (t : Thing) → Safe inv (assignments.assigned b e t)
safe_assigned b e h (At to) = safe_bind (safe_holding (At to) h.value) (λ v. safe_then (safe_shape_check b e.pos to v) (safe_writing to v))
safe_assigned b e h (Is v) = safe_undefined

safe_assignment : {inv : Invariant} (r : Option Use) (c : Chained) (e : Expression) (b : Bool) → SafeChained inv r c → SafeExpression inv e → Safe inv (assignments.assignment c e b)
safe_assignment r c e b h k = gives_bind h.thing (λ t g. safe_assigned b e k t)

abbrev SafeIf : Invariant → Option Expression → Type 0
SafeIf inv None = Unit {0}
SafeIf inv (Some e) = SafeExpression inv e

safe_amount : {inv : Invariant} (e : Option Expression) → SafeIf inv e → Safe inv (assignments.amount_of e)
safe_amount None h = safe_given _
safe_amount (Some e) h = h.value

module _ (inv : Invariant) (p : Program) (here : Here) (w : Within p here inv) where
  abbrev May : Uses → Type 0
  May us = AllOf inv.may us

  some_one : {A : Type 0} (P : A → Type 0) (x y : A) → Some x ≡ Some y → P x → P y
  some_one P x y e h = let q : x ≡ y = cc in subst P q h

  safe_changed : (b : Bool) (at : Pos) (t : ℕ) (to : Place) (v n : Value) → Safe inv (assignments.changed p here b at t to v n)
  safe_changed b at t to (value.Ordinal x) (value.Ordinal n) = safe_bind (safe_computed at (within_integer (assignments.changed_by b x n))) (λ z. safe_then (safe_within at (bounds p t) z) (safe_writing to (value.Ordinal z)))
  safe_changed b at t to _ _ = safe_undefined

  safe_change_at : (b : Bool) (at : Pos) (t : Option ℕ) (e : Option Expression) → SafeIf inv e → (thing : Thing) → Safe inv (assignments.change_at p here b at t e thing)
  safe_change_at b at (Some t) e h (At to) = safe_bind (safe_holding (At to) (safe_amount e h)) (λ n. safe_bind (safe_reading to) (λ v. safe_changed b at t to v n))
  safe_change_at b at (Some t) e h (Is v) = safe_undefined
  safe_change_at b at None e h thing = safe_undefined

  safe_change : (r : Option Use) (b : Bool) (at : Pos) (c : Chained) (e : Option Expression) → SafeChained inv r c → SafeIf inv e → Safe inv (assignments.change p here b at c e)
  safe_change r b at c e h k = gives_bind h.thing (λ t g. safe_change_at b at c.kind e k t)

  pub safe_bound : (x : ℕ) (thing : Thing) → inv.out thing → Safe inv (assignments.bound p here x thing)
  safe_bound x thing h = safe_changing (λ m. Some (assignments.bound_in p here (is_shared_here p here x) x thing m)) (λ now m e g. some_one (λ n. inv.holds (record now { memory = n })) _ m e (w.bound now x thing h g))

  safe_default : (x : ℕ) → Safe inv (assignments.default_for p here x)
  safe_default x = safe_there _

  safe_each_made : (xs : List ℕ) → Safe inv (assignments.each_made p here xs)
  safe_each_made [] = safe_done
  safe_each_made (x ∷ xs) = safe_bind (safe_default x) (λ v. safe_then (safe_bound x (Is v) (inv.value v)) (safe_each_made xs))

  -- ---- Blocks

  safe_block : (xs : List ℕ) (initial body : List Acts) → AllOf (Safe inv) initial → AllOf (Safe inv) body → Safe inv (blocks.block p here xs initial body)
  safe_block xs initial body h k = safe_in_scope xs (safe_then (safe_then (safe_each_made xs) (safe_in_turn initial h)) (safe_in_turn body k))

  gives_bound_thing : (b : Bound) → May (bound_uses b) → Gives inv inv.out (blocks.bound_thing p here b)
  gives_bound_thing (bind.Place c) h = gives_so (known.safe_chain inv p here w c.now (first_of_two inv.may _ _ h)).thing (λ t g. inv.taken (in_chain c.now).root t (second_of_two inv.may (in_chain c.now).uses _ h) g)
  gives_bound_thing (bind.Value e) h = is_value inv.value (known.safe_expression inv p here w e.now h).value

  safe_with : (bs : List WithBinding) (body : Acts) → May (in_bindings bs) → Safe inv body → Safe inv (blocks.with p here bs body)
  safe_with [] body u h = h
  safe_with (b ∷ bs) body u h = gives_bind (gives_bound_thing b.bound (first_of_two inv.may _ _ u)) (λ t g. safe_then (safe_bound b.variable t g) (safe_in_scope _ (safe_with bs body (second_of_two inv.may (bound_uses b.bound) _ u) h)))

  -- ---- Branches

  safe_otherwise : (missing : Acts) (b : Bool) (body : Acts) → Safe inv missing → Safe inv body → Safe inv (branches.otherwise_or missing b body)
  safe_otherwise missing true body h k = k
  safe_otherwise missing false body h k = h

  safe_if_true : (v : Value) (s t : Acts) → Safe inv s → Safe inv t → Safe inv (branches.if_true v s t)
  safe_if_true (value.Ordinal (pos zero)) s t h k = k
  safe_if_true (value.Ordinal (pos (suc n))) s t h k = h
  safe_if_true (value.Ordinal (negsuc n)) s t h k = h
  safe_if_true _ s t h k = safe_undefined

  safe_if_else : (arms : List Conditional) (e : Otherwise) → AllOf (SafeConditional inv) arms → SafeOtherwise inv e → Safe inv (branches.if_else arms e)
  safe_if_else [] e h k = safe_otherwise _ e.is_written e.body safe_done k.body
  safe_if_else (a ∷ arms) e h k = safe_bind h.0.condition.value (λ v. safe_if_true v a.body _ h.0.body (safe_if_else arms e h.1 k))

  safe_chosen : (b : Bool) (s t : Acts) → Safe inv s → Safe inv t → Safe inv (branches.chosen b s t)
  safe_chosen true s t h k = h
  safe_chosen false s t h k = k

  safe_case_of : (at : Pos) (bs : List Labelled) (e : Otherwise) → AllOf (SafeLabelled inv) bs → SafeOtherwise inv e → (z : ℤ) → Safe inv (branches.case_of at bs e z)
  safe_case_of at [] e h k z = safe_otherwise _ e.is_written e.body (safe_fault _ _) k.body
  safe_case_of at (b ∷ bs) e h k z = safe_chosen (branches.is_labelled b.ranges z) b.body _ h.0.body (safe_case_of at bs e h.1 k z)

  safe_case_value : (at : Pos) (bs : List Labelled) (e : Otherwise) → AllOf (SafeLabelled inv) bs → SafeOtherwise inv e → (v : Value) → Safe inv (branches.case_value at bs e v)
  safe_case_value at bs e h k (value.Ordinal z) = safe_case_of at bs e h k z
  safe_case_value at bs e h k _ = safe_undefined

  safe_has_type : (t : ℕ) (v : Value) → Safe inv (seeing (λ m. has_type p m.store t v))
  safe_has_type t v = safe_seeing _

  safe_is_of_any : (ts : List TypeId) (v : Value) → Safe inv (branches.is_of_any p here ts v)
  safe_is_of_any [] v = safe_given _
  safe_is_of_any (t ∷ ts) v = safe_bind (safe_has_type t.0 v) (λ b. safe_elim b _ _ (safe_given true) (safe_is_of_any ts v))

  safe_with_variable : (x : Option ℕ) (v : Value) (body : Acts) → Safe inv body → Safe inv (branches.with_variable p here x v body)
  safe_with_variable None v body h = h
  safe_with_variable (Some x) v body h = safe_then (safe_bound x (Is v) (inv.value v)) (safe_in_scope _ h)

  safe_type_case : (at : Pos) (bs : List Typed) (e : Otherwise) → AllOf (SafeTyped inv) bs → SafeOtherwise inv e → (v : Value) → Safe inv (branches.type_case p here at bs e v)
  safe_type_case at [] e h k v = safe_otherwise _ e.is_written e.body (safe_fault _ _) k.body
  safe_type_case at (b ∷ bs) e h k v = safe_bind (safe_is_of_any b.types v) (λ is. safe_chosen is _ _ (safe_with_variable b.variable v b.body h.0.body) (safe_type_case at bs e h.1 k v))

  -- ---- Loops

  safe_ends_normally : (body : Acts) → Safe inv body → Safe inv (loops.ends_normally body)
  safe_ends_normally body h = record {
    ends = λ around now exits others g b. h.ends around now _ _ g (record {
      gives = λ u later q good. b.gives true later tt good;
      raised = b.raised;
      exit = λ later good. b.gives false later tt good;
      return = b.return;
    });
  }

  safe_exit : Safe inv loops.exit_loop
  safe_exit = record { ends = λ around now exits others g b. b.exit now g }

  safe_passing : Safe inv loops.passing
  safe_passing = safe_bind (safe_acting _ tt) (λ a. safe_done)

  safe_again : (n : ℕ) (turn : Evaluates Bool) → Safe inv turn → Safe inv (loops.again n turn)
  safe_again zero turn h = safe_undefined
  safe_again (suc n) turn h = safe_bind h (λ b. safe_elim b _ _ (safe_again n turn h) safe_done)

  safe_repeatedly : (turn : Evaluates Bool) → Safe inv turn → Safe inv (loops.repeatedly turn)
  safe_repeatedly turn h = record { ends = λ around now exits others g b. (safe_again (suc (length now.answers)) turn h).ends around now exits others g b }

  safe_body_turn : (body : Acts) → Safe inv body → Safe inv (loops.body_turn body)
  safe_body_turn body h = safe_bind (safe_ends_normally body h) (λ b. safe_elim b _ _ (safe_then safe_passing (safe_given true)) (safe_given false))

  safe_truth : (v : Value) → Safe inv (loops.truth_of v)
  safe_truth (value.Ordinal (pos zero)) = safe_given _
  safe_truth (value.Ordinal (pos (suc n))) = safe_given _
  safe_truth (value.Ordinal (negsuc n)) = safe_given _
  safe_truth _ = safe_undefined

  pub safe_test : (e : Expression) → SafeExpression inv e → Safe inv (loops.test e)
  safe_test e h = safe_bind h.value safe_truth

  safe_while : (e : Expression) (body : Acts) → SafeExpression inv e → Safe inv body → Safe inv (loops.while e body)
  safe_while e body h k = safe_repeatedly _ (safe_bind (safe_test e h) (λ b. safe_elim b _ _ (safe_body_turn body k) (safe_given false)))

  safe_repeat : (body : Acts) (e : Expression) → Safe inv body → SafeExpression inv e → Safe inv (loops.repeat body e)
  safe_repeat body e k h = safe_repeatedly _ (safe_bind (safe_body_turn body k) (λ b. safe_elim b _ _ (safe_bind (safe_test e h) (λ c. safe_given (not c))) (safe_given false)))

  safe_step : (e : Option Expression) → SafeIf inv e → Safe inv (loops.step_of e)
  safe_step None h = safe_given _
  safe_step (Some e) h = h.value

  safe_for_turn : (x : ℕ) (z : ℤ) (body : Acts) → Safe inv body → Safe inv (loops.for_turn p here x z body)
  safe_for_turn x z body h = safe_then (safe_bound x (Is (value.Ordinal z)) (inv.value _)) (safe_in_scope _ (safe_body_turn body h))

  safe_counting : (n x : ℕ) (step last z : ℤ) (body : Acts) → Safe inv body → Safe inv (loops.counting p here n x step last z body)
  safe_counting zero x step last z body h = safe_undefined
  safe_counting (suc n) x step last z body h =
      safe_elim (loops.is_further step last z) _ _ (safe_bind (safe_for_turn x z body h) (λ b. safe_elim b _ _ (safe_counting n x step last (z +ℤ step) body h) safe_done)) safe_done

  safe_counted : (x : ℕ) (a b c : Value) (body : Acts) → Safe inv body → Safe inv (loops.counted p here x a b c body)
  safe_counted x (value.Ordinal a) (value.Ordinal b) (value.Ordinal c) body h =
      record { ends = λ around now exits others g k. (safe_counting (suc (length now.answers)) x c b a body h).ends around now exits others g k }
  safe_counted x _ _ _ body h = record { ends = λ around now exits others g k. inv.undefined }

  safe_for : (x : ℕ) (a b : Expression) (c : Option Expression) (body : Acts) → SafeExpression inv a → SafeExpression inv b → SafeIf inv c → Safe inv body → Safe inv (loops.for p here x a b c body)
  safe_for x a b c body h k l m = safe_bind h.value (λ v. safe_bind (safe_holding (Is v) k.value) (λ u. safe_bind (safe_holding (Is v) (safe_holding (Is u) (safe_step c l))) (λ w. safe_counted x v u w body m)))

  -- ---- Exceptions

  safe_optional : (e : Option Expression) → SafeIf inv e → Safe inv (exceptions.optional e)
  safe_optional None h = safe_given _
  safe_optional (Some e) h = safe_bind h.value (λ v. safe_given _)

  safe_raise : (x : ℕ) (e : Option Expression) → SafeIf inv e → Safe inv (exceptions.raise x e)
  safe_raise x e h = safe_bind (safe_optional e h) (λ v. safe_raising _)

  safe_returning : (v : Option Value) → Safe inv (exceptions.returning v)
  safe_returning v = record { ends = λ around now exits others g b. b.return v now g }

  safe_return : (e : Option Expression) → SafeIf inv e → Safe inv (exceptions.return e)
  safe_return e h = safe_bind (safe_optional e h) safe_returning

  safe_with_argument : (x : Option ℕ) (v : Option Value) (body : Acts) → Safe inv body → Safe inv (exceptions.with_argument p here x v body)
  safe_with_argument x None body h = h
  safe_with_argument x (Some v) body h = safe_with_variable x v body h

  safe_handled : (hs : List Handling) (e : Otherwise) → AllOf (SafeHandling inv) hs → SafeOtherwise inv e → (r : Raised) → Safe inv (exceptions.handled p here hs e r)
  safe_handled [] e h k r = safe_elim e.is_written _ _ k.body (safe_raising r)
  safe_handled (x ∷ hs) e h k r = safe_elim (list_any (λ e. r.exception == e) x.exceptions) _ _ (safe_with_argument x.variable r.argument x.body h.0.body) (safe_handled hs e h.1 k r)

  safe_unless_handled : (e : Otherwise) (s : Acts) → SafeOtherwise inv e → Safe inv s → Safe inv (exceptions.unless_handled p here e s)
  safe_unless_handled e s k h = safe_elim e.is_written _ _ k.body h

  safe_exiting : Safe inv (exceptions.exiting p here)
  safe_exiting = record { ends = λ around now exits others g b. b.exit now g }

  safe_try_except : (body : Acts) (hs : List Handling) (e : Otherwise) → Safe inv body → AllOf (SafeHandling inv) hs → SafeOtherwise inv e → Safe inv (exceptions.try_except p here body hs e)
  safe_try_except body hs e b h k = record {
    ends = λ around now exits others g o. b.ends around now _ _ g (record {
      gives = o.gives;
      raised = λ r later good. (safe_handled hs e h k r).ends around later exits others good o;
      exit = λ later good. (safe_unless_handled e (exceptions.exiting p here) k safe_exiting).ends around later exits others good o;
      return = λ v later good. (safe_unless_handled e (exceptions.returning v) k (safe_returning v)).ends around later exits others good o;
    });
  }

  safe_try_finally : (body last : Acts) → Safe inv body → Safe inv last → Safe inv (exceptions.try_finally p here body last)
  safe_try_finally body last b l = record {
    ends = λ around now exits others g o. b.ends around now _ _ g (record {
      gives = λ u later q good. l.ends around later _ _ good (record { gives = λ w after f fine. o.gives u after tt fine; raised = o.raised; exit = o.exit; return = o.return });
      raised = λ r later good. (safe_holding_all (exceptions.kept_value r.argument) l).ends around later _ _ good (record { gives = λ w after f fine. o.raised r after fine; raised = o.raised; exit = o.exit; return = o.return });
      exit = λ later good. l.ends around later _ _ good (record { gives = λ w after f fine. o.exit after fine; raised = o.raised; exit = o.exit; return = o.return });
      return = λ v later good. (safe_holding_all (exceptions.kept_value v) l).ends around later _ _ good (record { gives = λ w after f fine. o.return v after fine; raised = o.raised; exit = o.exit; return = o.return });
    });
  }

  -- ---- trees

  abbrev IsCoreStmt : CoreStmt → Type 0
  IsCoreStmt x = May (in_statement x) → Safe inv (statement p here x)

  abbrev IsArm : Arm → Type 0
  IsArm x = May (uses.arm x) → SafeConditional inv (trees.arm p here x)

  abbrev IsCaseBranch : CaseBranch → Type 0
  IsCaseBranch x = May (uses.branch x) → SafeLabelled inv (trees.branch p here x)

  abbrev IsElse : Else → Type 0
  IsElse x = May (uses.otherwise x) → SafeOtherwise inv (trees.otherwise p here x)

  abbrev IsHandler : Handler → Type 0
  IsHandler x = May (uses.handler x) → SafeHandling inv (trees.handler p here x)

  abbrev IsTypeBranch : TypeBranch → Type 0
  IsTypeBranch x = May (uses.type_branch x) → SafeTyped inv (trees.type_branch p here x)

  abbrev Known : (Type 0 → Type 0 → Type 0 → Type 0 → Type 0 → Type 0 → Type 0) → Type 0
  Known Node = Node (With IsCoreStmt) (With IsArm) (With IsCaseBranch) (With IsElse) (With IsHandler) (With IsTypeBranch)

  abbrev tree_statement : Known layer.CoreStmt-F → trees_of.StatementTree layer.CoreStmt-F
  tree_statement y = folds.map-CoreStmt (With IsCoreStmt) (With IsArm) (With IsCaseBranch) (With IsElse) (With IsHandler) (With IsTypeBranch) CoreStmt Arm CaseBranch Else Handler TypeBranch (λ q. q.0) (λ q. q.0) (λ q. q.0) (λ q. q.0) (λ q. q.0) (λ q. q.0) y

  abbrev meaning_statement : trees_of.StatementTree layer.CoreStmt-F → statements.Over layer.CoreStmt-F
  meaning_statement x = folds.map-CoreStmt CoreStmt Arm CaseBranch Else Handler TypeBranch Acts Conditional Labelled Otherwise Handling Typed (statement p here) (trees.arm p here) (trees.branch p here) (trees.otherwise p here) (trees.handler p here) (trees.type_branch p here) x

  abbrev tree_arm : Known layer.Arm-F → trees_of.StatementTree layer.Arm-F
  tree_arm y = folds.map-Arm (With IsCoreStmt) (With IsArm) (With IsCaseBranch) (With IsElse) (With IsHandler) (With IsTypeBranch) CoreStmt Arm CaseBranch Else Handler TypeBranch (λ q. q.0) (λ q. q.0) (λ q. q.0) (λ q. q.0) (λ q. q.0) (λ q. q.0) y

  abbrev meaning_arm : trees_of.StatementTree layer.Arm-F → statements.Over layer.Arm-F
  meaning_arm x = folds.map-Arm CoreStmt Arm CaseBranch Else Handler TypeBranch Acts Conditional Labelled Otherwise Handling Typed (statement p here) (trees.arm p here) (trees.branch p here) (trees.otherwise p here) (trees.handler p here) (trees.type_branch p here) x

  abbrev tree_branch : Known layer.CaseBranch-F → trees_of.StatementTree layer.CaseBranch-F
  tree_branch y = folds.map-CaseBranch (With IsCoreStmt) (With IsArm) (With IsCaseBranch) (With IsElse) (With IsHandler) (With IsTypeBranch) CoreStmt Arm CaseBranch Else Handler TypeBranch (λ q. q.0) (λ q. q.0) (λ q. q.0) (λ q. q.0) (λ q. q.0) (λ q. q.0) y

  abbrev meaning_branch : trees_of.StatementTree layer.CaseBranch-F → statements.Over layer.CaseBranch-F
  meaning_branch x = folds.map-CaseBranch CoreStmt Arm CaseBranch Else Handler TypeBranch Acts Conditional Labelled Otherwise Handling Typed (statement p here) (trees.arm p here) (trees.branch p here) (trees.otherwise p here) (trees.handler p here) (trees.type_branch p here) x

  abbrev tree_otherwise : Known layer.Else-F → trees_of.StatementTree layer.Else-F
  tree_otherwise y = folds.map-Else (With IsCoreStmt) (With IsArm) (With IsCaseBranch) (With IsElse) (With IsHandler) (With IsTypeBranch) CoreStmt Arm CaseBranch Else Handler TypeBranch (λ q. q.0) (λ q. q.0) (λ q. q.0) (λ q. q.0) (λ q. q.0) (λ q. q.0) y

  abbrev meaning_otherwise : trees_of.StatementTree layer.Else-F → statements.Over layer.Else-F
  meaning_otherwise x = folds.map-Else CoreStmt Arm CaseBranch Else Handler TypeBranch Acts Conditional Labelled Otherwise Handling Typed (statement p here) (trees.arm p here) (trees.branch p here) (trees.otherwise p here) (trees.handler p here) (trees.type_branch p here) x

  abbrev tree_handler : Known layer.Handler-F → trees_of.StatementTree layer.Handler-F
  tree_handler y = folds.map-Handler (With IsCoreStmt) (With IsArm) (With IsCaseBranch) (With IsElse) (With IsHandler) (With IsTypeBranch) CoreStmt Arm CaseBranch Else Handler TypeBranch (λ q. q.0) (λ q. q.0) (λ q. q.0) (λ q. q.0) (λ q. q.0) (λ q. q.0) y

  abbrev meaning_handler : trees_of.StatementTree layer.Handler-F → statements.Over layer.Handler-F
  meaning_handler x = folds.map-Handler CoreStmt Arm CaseBranch Else Handler TypeBranch Acts Conditional Labelled Otherwise Handling Typed (statement p here) (trees.arm p here) (trees.branch p here) (trees.otherwise p here) (trees.handler p here) (trees.type_branch p here) x

  abbrev tree_type_branch : Known layer.TypeBranch-F → trees_of.StatementTree layer.TypeBranch-F
  tree_type_branch y = folds.map-TypeBranch (With IsCoreStmt) (With IsArm) (With IsCaseBranch) (With IsElse) (With IsHandler) (With IsTypeBranch) CoreStmt Arm CaseBranch Else Handler TypeBranch (λ q. q.0) (λ q. q.0) (λ q. q.0) (λ q. q.0) (λ q. q.0) (λ q. q.0) y

  abbrev meaning_type_branch : trees_of.StatementTree layer.TypeBranch-F → statements.Over layer.TypeBranch-F
  meaning_type_branch x = folds.map-TypeBranch CoreStmt Arm CaseBranch Else Handler TypeBranch Acts Conditional Labelled Otherwise Handling Typed (statement p here) (trees.arm p here) (trees.branch p here) (trees.otherwise p here) (trees.handler p here) (trees.type_branch p here) x

  all_statements : (ys : List (With IsCoreStmt)) → May (all_of (map in_statement (map (λ q. q.0) ys))) → AllOf (Safe inv) (map (statement p here) (map (λ q. q.0) ys))
  all_statements ys h = all_known inv.may in_statement (Safe inv) (statement p here) ys h

  -- the uses in statements
  abbrev in_all : List (With IsCoreStmt) → Uses
  in_all ys = all_of (map in_statement (map (λ q. q.0) ys))

  -- of two and of three parts
  front : (us vs : Uses) → May (us ++ vs) → May us
  front us vs h = first_of_two inv.may us vs h

  back : (us vs : Uses) → May (us ++ vs) → May vs
  back us vs h = second_of_two inv.may us vs h

  abbrev in_optional : Option (Bor CoreExpr) → Uses
  in_optional e = option_map_or (λ (e : Bor CoreExpr). in_expression e.now) e []

  safe_optional_expression : (e : Option (Bor CoreExpr)) → May (in_optional e) → SafeIf inv (option_map (λ e. statements.value p here e.now) e)
  safe_optional_expression None h = tt
  safe_optional_expression (Some e) h = known.safe_expression inv p here w e.now h

  arm_layer : (y : Known layer.Arm-F) → May (arm_uses (uses.over_arm (tree_arm y))) → SafeConditional inv (arm_of p here (meaning_arm (tree_arm y)))
  arm_layer y h = record {
    condition = known.safe_expression inv p here w y.condition.now (front (in_expression y.condition.now) (in_all y.body.now) h);
    body = safe_in_turn _ (all_statements y.body.now (back (in_expression y.condition.now) (in_all y.body.now) h));
  }

  branch_layer : (y : Known layer.CaseBranch-F) → May (branch_uses (uses.over_branch (tree_branch y))) → SafeLabelled inv (branch_of p here (meaning_branch (tree_branch y)))
  branch_layer y h = record { body = safe_in_turn _ (all_statements y.body.now h) }

  otherwise_layer : (y : Known layer.Else-F) → May (else_uses (uses.over_otherwise (tree_otherwise y))) → SafeOtherwise inv (else_of p here (meaning_otherwise (tree_otherwise y)))
  otherwise_layer y h = record { body = safe_in_turn _ (all_statements y.body.now h) }

  handler_layer : (y : Known layer.Handler-F) → May (handler_uses (uses.over_handler (tree_handler y))) → SafeHandling inv (handler_of p here (meaning_handler (tree_handler y)))
  handler_layer y h = record { body = safe_in_turn _ (all_statements y.body.now h) }

  type_branch_layer : (y : Known layer.TypeBranch-F) → May (type_branch_uses (uses.over_type_branch (tree_type_branch y))) → SafeTyped inv (type_branch_of p here (meaning_type_branch (tree_type_branch y)))
  type_branch_layer y h = record { body = safe_in_turn _ (all_statements y.body.now h) }

  statement_layer : (y : Known layer.CoreStmt-F) → May (statement_uses (uses.over_statement (tree_statement y))) → Safe inv (statement_of p here (meaning_statement (tree_statement y)))
  statement_layer (layer.Assign at target e checks) h =
      safe_assignment _ _ _ checks (known.safe_chain inv p here w target.now (front (in_chain target.now).uses (in_expression e.now) h))
      (known.safe_expression inv p here w e.now (back (in_chain target.now).uses (in_expression e.now) h))
  statement_layer (layer.Call at call) h = safe_dropped p here (gives_any (known.safe_chain inv p here w call.now h).thing)
  statement_layer (layer.Builtin at call) h = safe_dropped p here (known.safe_routine inv p here w call.now h).value
  statement_layer (layer.Change at b target amount) h =
      safe_change _ b at _ _ (known.safe_chain inv p here w target.now (front (in_chain target.now).uses (in_optional amount) h))
      (safe_optional_expression amount (back (in_chain target.now).uses (in_optional amount) h))
  statement_layer (layer.Block at variables initial body) h =
      safe_block variables.now _ _ (all_statements initial.now (front (in_all initial.now) (in_all body.now) h))
      (all_statements body.now (back (in_all initial.now) (in_all body.now) h))
  statement_layer (layer.Case at e bs otherwise) h =
      let us : Uses = in_expression e.now in
      let vs : Uses = all_of (map uses.branch (map (λ q. q.0) bs.now)) in
      let ws : Uses = uses.otherwise otherwise.0 in
      let f : May (us ++ vs) = front (us ++ vs) ws h in
      safe_bind (known.safe_expression inv p here w e.now (front us vs f)).value
      (λ v. safe_case_value at _ _ (all_known inv.may uses.branch (SafeLabelled inv) (trees.branch p here) bs.now (back us vs f)) (otherwise.1 (back (us ++ vs) ws h)) v)
  statement_layer (layer.Exit at) h = safe_exit
  statement_layer (layer.Eval at e) h = safe_dropped p here (known.safe_expression inv p here w e.now h).value
  statement_layer (layer.For at x first last step body) h =
      let us : Uses = in_expression first.now in
      let vs : Uses = in_expression last.now in
      let ws : Uses = in_optional step in
      let f : May (us ++ vs ++ ws) = front (us ++ vs ++ ws) (in_all body.now) h in
      let g : May (us ++ vs) = front (us ++ vs) ws f in
      safe_for x _ _ _ _ (known.safe_expression inv p here w first.now (front us vs g)) (known.safe_expression inv p here w last.now (back us vs g))
      (safe_optional_expression step (back (us ++ vs) ws f)) (safe_in_turn _ (all_statements body.now (back (us ++ vs ++ ws) (in_all body.now) h)))
  statement_layer (layer.If at arms otherwise) h =
      let us : Uses = all_of (map uses.arm (map (λ q. q.0) arms.now)) in
      let vs : Uses = uses.otherwise otherwise.0 in
      safe_if_else _ _ (all_known inv.may uses.arm (SafeConditional inv) (trees.arm p here) arms.now (front us vs h)) (otherwise.1 (back us vs h))
  statement_layer (layer.Loop at body) h = safe_repeatedly _ (safe_body_turn _ (safe_in_turn _ (all_statements body.now h)))
  statement_layer (layer.Raise at x argument) h = safe_raise x _ (safe_optional_expression argument h)
  statement_layer (layer.Repeat at body condition) h =
      safe_repeat _ _ (safe_in_turn _ (all_statements body.now (front (in_all body.now) (in_expression condition.now) h)))
      (known.safe_expression inv p here w condition.now (back (in_all body.now) (in_expression condition.now) h))
  statement_layer (layer.Return at e) h = safe_return _ (safe_optional_expression e h)
  statement_layer (layer.TryExcept at body handlers otherwise) h =
      let us : Uses = in_all body.now in
      let vs : Uses = all_of (map uses.handler (map (λ q. q.0) handlers.now)) in
      let ws : Uses = uses.otherwise otherwise.0 in
      let f : May (us ++ vs) = front (us ++ vs) ws h in
      safe_try_except _ _ _ (safe_in_turn _ (all_statements body.now (front us vs f)))
      (all_known inv.may uses.handler (SafeHandling inv) (trees.handler p here) handlers.now (back us vs f)) (otherwise.1 (back (us ++ vs) ws h))
  statement_layer (layer.TryFinally at body last) h =
      safe_try_finally _ _ (safe_in_turn _ (all_statements body.now (front (in_all body.now) (in_all last.now) h)))
      (safe_in_turn _ (all_statements last.now (back (in_all body.now) (in_all last.now) h)))
  statement_layer (layer.TypeCase at e bs otherwise) h =
      let us : Uses = in_expression e.now in
      let vs : Uses = all_of (map uses.type_branch (map (λ q. q.0) bs.now)) in
      let ws : Uses = uses.otherwise otherwise.0 in
      let f : May (us ++ vs) = front (us ++ vs) ws h in
      safe_bind (known.safe_expression inv p here w e.now (front us vs f)).value
      (λ v. safe_type_case at _ _ (all_known inv.may uses.type_branch (SafeTyped inv) (trees.type_branch p here) bs.now (back us vs f)) (otherwise.1 (back (us ++ vs) ws h)) v)
  statement_layer (layer.While at condition body) h =
      safe_while _ _ (known.safe_expression inv p here w condition.now (front (in_expression condition.now) (in_all body.now) h))
      (safe_in_turn _ (all_statements body.now (back (in_expression condition.now) (in_all body.now) h)))
  statement_layer (layer.With at bindings body) h =
      safe_with bindings.now _ (front (in_bindings bindings.now) (in_all body.now) h)
      (safe_in_turn _ (all_statements body.now (back (in_bindings bindings.now) (in_all body.now) h)))

  statement_known : (x : trees_of.StatementTree layer.CoreStmt-F) (y : Known layer.CoreStmt-F) → tree_statement y ≡ x → IsCoreStmt (roll-CoreStmt x)
  statement_known x y is h =
      subst (Safe inv) (ap (λ z. statement_of p here (meaning_statement z)) is ∙ sym (trees.statement_is p here x))
      (statement_layer y (subst May (sym (ap (λ z. statement_uses (uses.over_statement z)) is ∙ sym (uses.statement_is x))) h))

  arm_known : (x : trees_of.StatementTree layer.Arm-F) (y : Known layer.Arm-F) → tree_arm y ≡ x → IsArm (roll-Arm x)
  arm_known x y is h =
      subst (SafeConditional inv) (ap (λ z. arm_of p here (meaning_arm z)) is ∙ sym (trees.arm_is p here x))
      (arm_layer y (subst May (sym (ap (λ z. arm_uses (uses.over_arm z)) is ∙ sym (uses.arm_is x))) h))

  branch_known : (x : trees_of.StatementTree layer.CaseBranch-F) (y : Known layer.CaseBranch-F) → tree_branch y ≡ x → IsCaseBranch (roll-CaseBranch x)
  branch_known x y is h =
      subst (SafeLabelled inv) (ap (λ z. branch_of p here (meaning_branch z)) is ∙ sym (trees.branch_is p here x))
      (branch_layer y (subst May (sym (ap (λ z. branch_uses (uses.over_branch z)) is ∙ sym (uses.branch_is x))) h))

  otherwise_known : (x : trees_of.StatementTree layer.Else-F) (y : Known layer.Else-F) → tree_otherwise y ≡ x → IsElse (roll-Else x)
  otherwise_known x y is h =
      subst (SafeOtherwise inv) (ap (λ z. else_of p here (meaning_otherwise z)) is ∙ sym (trees.otherwise_is p here x))
      (otherwise_layer y (subst May (sym (ap (λ z. else_uses (uses.over_otherwise z)) is ∙ sym (uses.otherwise_is x))) h))

  handler_known : (x : trees_of.StatementTree layer.Handler-F) (y : Known layer.Handler-F) → tree_handler y ≡ x → IsHandler (roll-Handler x)
  handler_known x y is h =
      subst (SafeHandling inv) (ap (λ z. handler_of p here (meaning_handler z)) is ∙ sym (trees.handler_is p here x))
      (handler_layer y (subst May (sym (ap (λ z. handler_uses (uses.over_handler z)) is ∙ sym (uses.handler_is x))) h))

  type_branch_known : (x : trees_of.StatementTree layer.TypeBranch-F) (y : Known layer.TypeBranch-F) → tree_type_branch y ≡ x → IsTypeBranch (roll-TypeBranch x)
  type_branch_known x y is h =
      subst (SafeTyped inv) (ap (λ z. type_branch_of p here (meaning_type_branch z)) is ∙ sym (trees.type_branch_is p here x))
      (type_branch_layer y (subst May (sym (ap (λ z. type_branch_uses (uses.over_type_branch z)) is ∙ sym (uses.type_branch_is x))) h))

  pub safe_statement : (x : CoreStmt) → IsCoreStmt x
  safe_statement = folds.ind-CoreStmt IsCoreStmt IsArm IsCaseBranch IsElse IsHandler IsTypeBranch
      statement_known arm_known branch_known otherwise_known handler_known type_branch_known

  pub safe_statements : (ss : List CoreStmt) → May (all_of (map in_statement ss)) → AllOf (Safe inv) (map (statement p here) ss)
  safe_statements [] h = tt
  safe_statements (s ∷ ss) h = (safe_statement s (first_of_two inv.may (in_statement s) _ h), safe_statements ss (second_of_two inv.may (in_statement s) _ h))
