-- Well typed statements are defined.
use Rattle.std.proofs.Common.{◌≡◌, ℕ, Bool, true, false, List, ◌∷◌, map, Some, None, sym, ap, ◌∙◌, subst}
use Rattle.std.specs.Option.{option_map}
use Rattle.m3_types.specs.declared.nodes.TypeId.{TypeId}
use Rattle.m3_core.specs.declared.program.ProcDef.{ProcDef}
use Rattle.m3_core.specs.declared.stmts.Arm.{Arm}
use Rattle.m3_core.specs.declared.stmts.CaseBranch.{CaseBranch}
use Rattle.m3_core.specs.declared.stmts.CoreStmt.{CoreStmt}
use Rattle.m3_core.specs.declared.stmts.CoreStmt.TheOpen as statement
use Rattle.m3_core.specs.declared.stmts.Else.{Else}
use Rattle.m3_core.specs.declared.stmts.Handler.{Handler}
use Rattle.m3_core.specs.declared.stmts.TypeBranch.{TypeBranch}
use Rattle.m3_values.specs.Programs.{Program}
use Rattle.m3_values.specs.Store.{Store}
use Rattle.m3_source_meaning.specs.Meanings.{Raised, done}
use Rattle.m3_source_meaning.specs.Phrases.{Here, Chained}
use Rattle.m3_source_meaning.specs.Blocks.{in_turn}
use Rattle.m3_source_meaning.specs.Branches.{Otherwise, if_else}
use Rattle.m3_source_meaning.specs.Loops.{body_turn}
use Rattle.m3_source_meaning.specs.Exceptions.{handled}
use Rattle.m3_source_meaning.specs.Travelling.{argument_type}
use Rattle.m3_source_meaning.specs.Expressions.{expression, chain}
use Rattle.m3_source_meaning.specs.Statements as meaning
use Rattle.m3_source_meaning.specs.Procedures as procedures
use Rattle.m3_source_meaning.proofs.Trees as trees
use Rattle.m3_source_laws.specs.Limits.{while_turn, repeat_turn}
use Rattle.m3_source_laws.proofs.Turns.{body_takes, while_takes, repeat_takes, body_counts, test_counts}
use Rattle.m3_source_typing.specs.Points.{IsArgument}
use Rattle.m3_source_typing.specs.Sound.{Scope, Leaving, IsDefined}
use Rattle.m3_source_typing.specs.Expressions.{PlaceOf}
use Rattle.m3_source_typing.specs.Statements as typed
use Rattle.m3_source_typing.specs.Statements.{inside, and_variable, branch_type, IsStatement, AreStatements, AreArms, IsElse, AreBranches, AreTypeBranches, AreHandlers}
use Rattle.m3_source_typing.specs.Laws.{BodiesAreSound}
use Rattle.m3_source_typing.proofs.Staying.{now_itself}
use Rattle.m3_source_typing.proofs.Expressions.{expression_sound, chain_typed}
use Rattle.m3_source_typing.proofs.Leaving.{gives_does, Nothing, DoesAll, with_value, does_bind, does_done, does_then, does_exit, does_raise, does_return}
use Rattle.m3_source_typing.proofs.Repeating.{does_repeatedly}
use Rattle.m3_source_typing.proofs.Assigning.{assignment_sound, change_sound}
use Rattle.m3_source_typing.proofs.Making.{does_block, does_with, does_variable}
use Rattle.m3_source_typing.proofs.Branching as branching
use Rattle.m3_source_typing.proofs.Branching.{AreLabelled, AreTypes, choice, on_truth, on_number, on_type}
use Rattle.m3_source_typing.proofs.Turning.{body_sound, while_sound, repeat_sound}
use Rattle.m3_source_typing.proofs.Excepting as excepting
use Rattle.m3_source_typing.proofs.Excepting.{AreHandling, optional_sound, finally_sound, without_variable, with_its_argument, except_sound}
use Rattle.m3_source_typing.proofs.Counted.{for_sound}
use Rattle.m3_source_typing.proofs.Staying.{argument_stays}
use Rattle.m3_source_typing.proofs.Places.{IsGiven}
use Rattle.m3_source_typing.specs.Stores.{IsTyped}
use Rattle.m3_source_typing.proofs.Serving.{IsServed}
use Rattle.m3_source_typing.proofs.Expressions.{routine_typed}

module _ (p : Program) (here : Here) where
  mutual
    statement_sound : (own : Scope) (a : Leaving) (s : CoreStmt) → IsStatement p here own a s → DoesAll p own a (meaning.statement p here s)
    statement_sound _ _ _ (typed.assign own a at target e checks t to is fits) =
        subst (DoesAll p own a) (sym (trees.statement_is p here (statement.Assign at target e checks)))
        (assignment_sound p own here a (chain p here target.now) (expression p here e.now) t checks (chain_typed p own here target.now (PlaceOf true t) to) (expression_sound p own here e.now t is) fits)
    statement_sound _ _ _ (typed.change own a at is_decrement begins base row kind target e form to numbers is) =
        subst (DoesAll p own a) (sym (trees.statement_is p here (statement.Change at is_decrement target e)))
        (change_sound p own here a is_decrement at (chain p here target.now) kind.0 e (chain_typed p own here target.now (PlaceOf true kind.0) to)
        (ap (λ (c : Chained). c.kind) (ap (chain p here) form ∙ trees.chain_is p here (record { pos = begins; base = base; steps = row; kind = Some kind }))) numbers is)
    statement_sound _ _ _ (typed.evaluate own a at e t is) =
        subst (DoesAll p own a) (sym (trees.statement_is p here (statement.Eval at e)))
        (with_value p own a (expression p here e.now) t (λ v. done) (expression_sound p own here e.now t is) (λ v s q. does_done p own a s))
    statement_sound _ _ _ (typed.call own a at c g is) =
        subst (DoesAll p own a) (sym (trees.statement_is p here (statement.Call at c)))
        (λ s. does_bind p own a s (IsGiven p own.holds g) (Nothing p own a) _ _ (gives_does p own a s _ _ ((chain_typed p own here c.now g is).thing s)) (λ thing u l q. does_done p own a u))
    statement_sound _ _ _ (typed.builtin own a at c k is) =
        subst (DoesAll p own a) (sym (trees.statement_is p here (statement.Builtin at c)))
        (λ s. does_bind p own a s (IsServed p own k) (Nothing p own a) _ _ (gives_does p own a s _ _ (routine_typed p own here c.now k is s)) (λ v u l q. does_done p own a u))
    statement_sound _ _ _ (typed.exit own a at is) =
        subst (DoesAll p own a) (sym (trees.statement_is p here (statement.Exit at))) (λ s. does_exit p own a s is)
    statement_sound _ _ _ (typed.block own inner a at variables initial body made first rest) =
        subst (DoesAll p own a) (sym (trees.statement_is p here (statement.Block at variables initial body)))
        (does_block p here own inner a variables.now (map (meaning.statement p here) initial.now) (map (meaning.statement p here) body.now) made (all_sound inner a initial.now first) (all_sound inner a body.now rest))
    statement_sound _ _ _ (typed.with own inner a at bindings body names all) =
        subst (DoesAll p own a) (sym (trees.statement_is p here (statement.With at bindings body)))
        (does_with p here own inner a bindings.now _ names (all_sound inner a body.now all))
    statement_sound _ _ _ (typed.conditional own a at arms otherwise all behind) =
        subst (DoesAll p own a) (sym (trees.statement_is p here (statement.If at arms otherwise)))
        (arms_sound own a arms.now all (trees.otherwise p here otherwise) (else_sound own a otherwise behind))
    statement_sound _ _ _ (typed.case own a at e branches otherwise t is numbers all behind) =
        subst (DoesAll p own a) (sym (trees.statement_is p here (statement.Case at e branches otherwise)))
        (on_number p own here a at (expression p here e.now) t (map (trees.branch p here) branches.now) (trees.otherwise p here otherwise) (expression_sound p own here e.now t is) numbers (branches_sound own a branches.now all) (else_sound own a otherwise behind))
    statement_sound _ _ _ (typed.type_case own a at e branches otherwise t is from all behind) =
        subst (DoesAll p own a) (sym (trees.statement_is p here (statement.TypeCase at e branches otherwise)))
        (on_type p own here a at (expression p here e.now) t (map (trees.type_branch p here) branches.now) (trees.otherwise p here otherwise) (expression_sound p own here e.now t is) from (types_sound own a t branches.now all) (else_sound own a otherwise behind))
    statement_sound _ _ _ (typed.loop own a at body all) =
        subst (DoesAll p own a) (sym (trees.statement_is p here (statement.Loop at body)))
        (does_repeatedly p own a (body_turn (meaning.statements p here body.now)) (body_takes _ (body_counts p here body.now)) (body_sound p own here a _ (all_sound own (inside a) body.now all)))
    statement_sound _ _ _ (typed.while own a at condition body t is truth all) =
        subst (DoesAll p own a) (sym (trees.statement_is p here (statement.While at condition body)))
        (does_repeatedly p own a (while_turn (expression p here condition.now) (meaning.statements p here body.now)) (while_takes (expression p here condition.now) (meaning.statements p here body.now) (test_counts p here condition.now) (body_counts p here body.now)) (while_sound p own here a (expression p here condition.now) t _ (expression_sound p own here condition.now t is) truth (all_sound own (inside a) body.now all)))
    statement_sound _ _ _ (typed.repeat own a at body condition t all is truth) =
        subst (DoesAll p own a) (sym (trees.statement_is p here (statement.Repeat at body condition)))
        (does_repeatedly p own a (repeat_turn (meaning.statements p here body.now) (expression p here condition.now)) (repeat_takes (meaning.statements p here body.now) (expression p here condition.now) (body_counts p here body.now) (test_counts p here condition.now)) (repeat_sound p own here a _ (expression p here condition.now) t (all_sound own (inside a) body.now all) (expression_sound p own here condition.now t is) truth))
    statement_sound _ _ _ (typed.count own a at x first last step body t one two numbers is new all) =
        subst (DoesAll p own a) (sym (trees.statement_is p here (statement.For at x first last step body)))
        (for_sound p own here a x t (expression p here first.now) (expression p here last.now) step (meaning.statements p here body.now) (expression_sound p own here first.now t one) (expression_sound p own here last.now t two) numbers is new (body_counts p here body.now) (all_sound (and_variable x t own) (inside a) body.now all))
    statement_sound _ _ _ (typed.raise own a at exception e is) =
        subst (DoesAll p own a) (sym (trees.statement_is p here (statement.Raise at exception e)))
        (λ s. does_bind p own a s (λ t v. IsArgument p t v (argument_type p exception)) (Nothing p own a) _ _ (optional_sound p own here a e (argument_type p exception) is s)
        (λ v u l q. does_raise p own a u (record { exception = exception; argument = v }) (λ t m. argument_stays p u t m v (argument_type p exception) q)))
    statement_sound _ _ _ (typed.return own a at e is) =
        subst (DoesAll p own a) (sym (trees.statement_is p here (statement.Return at e)))
        (λ s. does_bind p own a s (λ t v. IsArgument p t v a.result) (Nothing p own a) _ _ (optional_sound p own here a e a.result is s)
        (λ v u l q. does_return p own a u v (λ t m. argument_stays p u t m v a.result q)))
    statement_sound _ _ _ (typed.except own a at body handlers otherwise all handled behind) =
        subst (DoesAll p own a) (sym (trees.statement_is p here (statement.TryExcept at body handlers otherwise)))
        (except_sound p own here a _ (map (trees.handler p here) handlers.now) (trees.otherwise p here otherwise) (all_sound own a body.now all) (handlers_sound own a handlers.now handled) (else_sound own a otherwise behind))
    statement_sound _ _ _ (typed.finally own a at body last all more) =
        subst (DoesAll p own a) (sym (trees.statement_is p here (statement.TryFinally at body last)))
        (finally_sound p own here a _ _ (all_sound own a body.now all) (all_sound own a last.now more))

    pub all_sound : (own : Scope) (a : Leaving) (ss : List CoreStmt) → AreStatements p here own a ss → DoesAll p own a (in_turn (map (meaning.statement p here) ss))
    all_sound _ _ _ (typed.no_statements own a) = λ s. does_done p own a s
    all_sound _ _ _ (typed.one_statement own a x xs is more) =
        λ s. does_then p own a s (meaning.statement p here x) (in_turn (map (meaning.statement p here) xs)) (statement_sound own a x is s) (λ t l. all_sound own a xs more t)

    arms_sound : (own : Scope) (a : Leaving) (arms : List Arm) → AreArms p here own a arms → (e : Otherwise) → DoesAll p own a e.body → DoesAll p own a (if_else (map (trees.arm p here) arms) e)
    arms_sound _ _ _ (typed.no_arms own a) e h = choice p own here a e.is_written done e.body (λ s. does_done p own a s) h
    arms_sound _ _ _ (typed.one_arm own a condition body arms t is truth all more) e h =
        subst (λ arm. DoesAll p own a (if_else (arm ∷ map (trees.arm p here) arms) e)) (sym (trees.arm_is p here (record { condition = condition; body = body })))
        (on_truth p own here a (expression p here condition.now) t _ _ (expression_sound p own here condition.now t is) truth (all_sound own a body.now all) (arms_sound own a arms more e h))

    else_sound : (own : Scope) (a : Leaving) (e : Else) → IsElse p here own a e → DoesAll p own a (trees.otherwise p here e).body
    else_sound _ _ _ (typed.otherwise own a is_written body all) =
        subst (λ (e : Otherwise). DoesAll p own a e.body) (sym (trees.otherwise_is p here (record { is_written = is_written; body = body })))
        (all_sound own a body.now all)

    branches_sound : (own : Scope) (a : Leaving) (bs : List CaseBranch) → AreBranches p here own a bs → AreLabelled p own here a (map (trees.branch p here) bs)
    branches_sound _ _ _ (typed.no_branches own a) = branching.no_labels
    branches_sound _ _ _ (typed.one_branch own a ranges body bs all more) =
        subst (λ b. AreLabelled p own here a (b ∷ map (trees.branch p here) bs)) (sym (trees.branch_is p here (record { ranges = ranges; body = body })))
        (branching.labels (record { ranges = ranges.now; body = meaning.statements p here body.now }) (map (trees.branch p here) bs) (all_sound own a body.now all) (branches_sound own a bs more))

    types_sound : (own : Scope) (a : Leaving) (t : ℕ) (bs : List TypeBranch) → AreTypeBranches p here own a t bs → AreTypes p own here a t (map (trees.type_branch p here) bs)
    types_sound _ _ _ _ (typed.no_types own a t) = branching.no_types
    types_sound _ _ _ _ (typed.types own a t ts body bs from all more) =
        subst (λ b. AreTypes p own here a t (b ∷ map (trees.type_branch p here) bs)) (sym (trees.type_branch_is p here (record { types = ts; variable = None; body = body })))
        (branching.types (record { types = ts.now; variable = None; body = meaning.statements p here body.now }) (map (trees.type_branch p here) bs) from (λ v s q. all_sound own a body.now all s) (types_sound own a t bs more))
    types_sound _ _ _ _ (typed.types_with_variable own a t ts x body bs from new all more) =
        subst (λ b. AreTypes p own here a t (b ∷ map (trees.type_branch p here) bs)) (sym (trees.type_branch_is p here (record { types = ts; variable = Some x; body = body })))
        (branching.types (record { types = ts.now; variable = Some x; body = meaning.statements p here body.now }) (map (trees.type_branch p here) bs) from
        (λ v s q. does_variable p here own a s x (branch_type t ts.now) v (meaning.statements p here body.now) new q (all_sound (and_variable x (branch_type t ts.now) own) a body.now all)) (types_sound own a t bs more))

    handlers_sound : (own : Scope) (a : Leaving) (hs : List Handler) → AreHandlers p here own a hs → AreHandling p own here a (map (trees.handler p here) hs)
    handlers_sound _ _ _ (typed.no_handlers own a) = excepting.no_handling
    handlers_sound _ _ _ (typed.handler own a exceptions body hs all more) =
        subst (λ h. AreHandling p own here a (h ∷ map (trees.handler p here) hs)) (sym (trees.handler_is p here (record { exceptions = exceptions; variable = None; body = body })))
        (excepting.handling (record { exceptions = exceptions.now; variable = None; body = meaning.statements p here body.now }) (map (trees.handler p here) hs)
        (λ r s named q. without_variable p own here a r.argument (meaning.statements p here body.now) (all_sound own a body.now all) s) (handlers_sound own a hs more))
    handlers_sound _ _ _ (typed.handler_with_variable own a exceptions x t body hs arguments new all more) =
        subst (λ h. AreHandling p own here a (h ∷ map (trees.handler p here) hs)) (sym (trees.handler_is p here (record { exceptions = exceptions; variable = Some x; body = body })))
        (excepting.handling (record { exceptions = exceptions.now; variable = Some x; body = meaning.statements p here body.now }) (map (trees.handler p here) hs)
        (with_its_argument p own here a x t exceptions.now (meaning.statements p here body.now) arguments new (all_sound (and_variable x t own) a body.now all)) (handlers_sound own a hs more))

-- ---- procedures

end_defined : (p : Program) (q : ProcDef) (b : Bool) (s : Store) → IsTyped p None s → IsDefined p (procedures.at_end p q b s)
end_defined p q true s h = tt
end_defined p q false s h = h

raised_defined : (p : Program) (q : ProcDef) (b : Bool) (r : Raised) (s : Store) → IsTyped p None s → IsDefined p (procedures.leaves_raised p q b r s)
raised_defined p q true r s h = h
raised_defined p q false r s h = tt

pub bodies_are_sound : BodiesAreSound
bodies_are_sound p here own q around now all good fit =
    let a : Leaving = record { in_loop = false; result = option_map (λ (t : TypeId). t.0) q.result } in
    (all_sound p here own a q.body.now all now.memory.store).ends around now (procedures.ways_out p q) (now_itself now.memory.store) good
    (record {
      after = record {
        gives = λ u later l fine w f. end_defined p q (procedures.has_result p q) later.memory.store fine.fair.store;
        raised = λ r later l fine w f. raised_defined p q (procedures.may_raise p (option_map (λ es. es.now) q.raises) r.exception) r later.memory.store fine.fair.store;
      };
      exit = λ is later l fine f. absurd (let bad : false ≡ true = is in cc);
      return = λ v later l fine w f. fine.fair.store;
    })
    fit
