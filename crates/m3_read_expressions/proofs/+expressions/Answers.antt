use mir.Val.{to_z, of_z}
use mir.Syntax.{w64}
use Rattle.std.proofs.Common.{◌≡◌, None, Some, inl, inr, refl, sym, ap, ◌∙◌, rules}
use Rattle.m3_read_grammar.specs.Expressions as g
use Rattle.m3_read_grammar.specs.Expressions.{IsNots, IsSigns}
use Rattle.m3_read_grammar.specs.Plain as plain
use Rattle.m3_read_grammar.specs.Ranks.{whole, e2, e3, e6, e7, e8, next, rank_of}
use Rattle.m3_read_cursor.proofs.Rests.{still, stays, follows_on}
use Rattle.m3_read_expressions.specs.Spelled.{IndexesSpell, ActualsSpell}
use Rattle.m3_read_expressions.proofs.Spelling.{same_rest, moved, empty_row, some_row, kept_spells, node_spells, node_typed, loosened, not_negated, one_not, nothing_negated, negated, unsigned, no_sign, one_sign, signed, Operated, unoperated, one_operand, operated, one_operation, Selecting, unselecting, one_selector, unselected, selected, passed_kept, passed_bound, name_alone, in_parentheses, sign_from, unselected_here, bound_by, unbound_here, named_by, unnamed_here, indexed_by, called_with, Indexing, one_index, indexes_go_on, indexes_end, Passing, one_actual, put_more, actuals_go_on, actuals_end, actuals_from, unpassed, number_of}
use Rattle.m3_read_expressions.proofs.+expressions.Goals as goal

pub expressions::expression-returns-clause-reads : goal.expressions::expression-returns-clause-reads
expressions::expression-returns-clause-reads t c =
    record {
      spelled = λ h.
          let kept = c.kept_value.ensures in
          kept_spells {rank = whole} (c.phrase-found.ensures.reads.spelled (still kept.follows h)) (kept.value h) (kept.stays h);
    }

pub expressions::negation-words-init : goal.expressions::negation-words-init
expressions::negation-words-init t c =
    record { follows = stays _; reads = λ _. not_negated _ c.new-words.ensures.items }

pub expressions::negation-words-preserved : goal.expressions::negation-words-preserved
expressions::negation-words-preserved t c =
    let skip = c.skip_word.ensures in
    let put = c.put.ensures in
    record {
      follows = follows_on c.words.invariant.follows (follows_on skip.follows put.follows);
      reads = λ h.
          let before = still skip.follows (still put.follows h) in
          moved (IsNots c.args.reader.now.rest.now) (put.reads h) (put.items h)
          (one_not c.pos-word.result (c.words.invariant.reads before) c.pos-word.ensures (skip.reads c.if-not-skip_word.false));
    }

pub expressions::negation-returns-then-is_empty-clause-reads : goal.expressions::negation-returns-then-is_empty-clause-reads
expressions::negation-returns-then-is_empty-clause-reads t c =
    record {
      spelled = λ h.
          let skip = c.skip_word.ensures in
          let row = c.row-words.ensures in
          let found = c.operations.ensures in
          let row_goes = still found.follows h in
          let skip_goes = still row.follows row_goes in
          let nots = c.words.invariant.reads (still skip.follows skip_goes) in
          let none = sym (row.items row_goes) ∙ empty_row _ _ c.is_empty.ensures c.if-is_empty.true in
          loosened e2 _ _ _ _ (row.reads row_goes ∙ (same_rest (skip.stays c.if-not-skip_word.true) ∙ nothing_negated nots none)) (found.reads.spelled h);
    }

pub expressions::negation-returns-clause-reads : goal.expressions::negation-returns-clause-reads
expressions::negation-returns-clause-reads t c =
    record {
      spelled = λ h.
          let skip = c.skip_word.ensures in
          let row = c.row-words.ensures in
          let found = c.operations-found.ensures in
          let kept = c.kept_value-operand.ensures in
          let node = c.keep_expr.ensures in
          let kept_goes = still node.follows h in
          let found_goes = still kept.follows kept_goes in
          let row_goes = still found.follows found_goes in
          let skip_goes = still row.follows row_goes in
          let nots = moved (IsNots c.args.reader.now.rest.now) (row.reads row_goes ∙ same_rest (skip.stays c.if-not-skip_word.true)) (row.items row_goes)
          (c.words.invariant.reads (still skip.follows skip_goes)) in
          let operand = kept_spells {rank = e3} (found.reads.spelled found_goes) (kept.value kept_goes) (kept.stays kept_goes) in
          node_spells {rank = e2} (node.kept h) (node.reads h) (negated _ _ _ c.pos-pos.ensures nots (some_row _ _ c.is_empty.ensures c.if-is_empty.false) operand);
    }

pub expressions::operations-operations-init : goal.expressions::operations-operations-init
expressions::operations-operations-init t c =
    record { follows = stays _; reads = record { spelled = λ _. unoperated _ _ c.new-rest.ensures.items } }

pub expressions::operations-operations-preserved : goal.expressions::operations-operations-preserved
expressions::operations-operations-preserved t c =
    let operator = c.in-Some.ensures in
    let found = c.tighter-found.ensures in
    let kept = c.kept_value-right.ensures in
    let put = c.put.ensures in
    record {
      follows = follows_on c.operations.invariant.follows (follows_on operator.follows (follows_on found.follows (follows_on kept.follows put.follows)));
      reads = record {
        spelled = λ h.
            let kept_goes = still put.follows h in
            let found_goes = still kept.follows kept_goes in
            let operator_goes = still found.follows found_goes in
            let before = c.operations.invariant.reads.spelled (still operator.follows operator_goes) in
            let right = kept_spells {rank = next (rank_of c.args.level)} (found.reads.spelled found_goes) (kept.value kept_goes) (kept.stays kept_goes) in
            moved (Operated c.args.level _) (put.reads h) (put.items h) (one_operation c.args.level _ before c.pos-place.ensures operator.reads right);
      };
    }

pub expressions::operations-returns-then-is_empty-clause-reads : goal.expressions::operations-returns-then-is_empty-clause-reads
expressions::operations-returns-then-is_empty-clause-reads t c =
    record {
      spelled = λ h.
          let row = c.row-rest.ensures in
          let operator_goes = still row.follows h in
          let none = c.in_default.ensures in
          let same : c.operator_here.new.reader ≡ c.operations.reader = search rules in
          let loop_goes = still none.follows operator_goes in
          let first_goes = still c.operations.invariant.follows loop_goes in
          one_operand c.args.level (c.in-Value.ensures.reads.spelled first_goes)
          (moved (Operated c.args.level _) (row.reads h ∙ same_rest same) (row.items h) (c.operations.invariant.reads.spelled loop_goes)) (empty_row _ _ c.is_empty.ensures c.if-is_empty.true);
    }

pub expressions::operations-returns-clause-reads : goal.expressions::operations-returns-clause-reads
expressions::operations-returns-clause-reads t c =
    record {
      spelled = λ h.
          let kept = c.keep_expr.ensures in
          let row = c.row-rest.ensures in
          let row_goes = still kept.follows h in
          let none = c.in_default.ensures in
          let same : c.operator_here.new.reader ≡ c.operations.reader = search rules in
          let operator_goes = still row.follows row_goes in
          let loop_goes = still none.follows operator_goes in
          let first_goes = still c.operations.invariant.follows loop_goes in
          let rest = moved (Operated c.args.level _) (row.reads row_goes ∙ same_rest same) (row.items row_goes) (c.operations.invariant.reads.spelled loop_goes) in
          let operations = operated c.args.level _ _ _ c.pos-pos.ensures (c.in-Value.ensures.reads.spelled first_goes) rest (some_row _ _ c.is_empty.ensures c.if-is_empty.false) in
          node_spells {rank = rank_of c.args.level} (kept.kept h) (kept.reads h) operations;
    }

pub expressions::signed-signs-init : goal.expressions::signed-signs-init
expressions::signed-signs-init t c =
    record { follows = stays _; reads = λ _. unsigned _ c.new-signs.ensures.items }

pub expressions::signed-signs-preserved : goal.expressions::signed-signs-preserved
expressions::signed-signs-preserved t c =
    let sign = c.in-Some.ensures in
    let put = c.put.ensures in
    record {
      follows = follows_on c.signs.invariant.follows (follows_on sign.follows put.follows);
      reads = λ h.
          let before = still sign.follows (still put.follows h) in
          moved (IsSigns c.args.reader.now.rest.now) (put.reads h) (put.items h) (one_sign (c.signs.invariant.reads before) sign.reads);
    }

pub expressions::signed-returns-then-is_empty-clause-reads : goal.expressions::signed-returns-then-is_empty-clause-reads
expressions::signed-returns-then-is_empty-clause-reads t c =
    record {
      spelled = λ h.
          let sign = c.prefix_sign.ensures in
          let same : c.prefix_sign.new.reader ≡ c.signs.reader = search rules in
          let row = c.row-signs.ensures in
          let found = c.operand.ensures in
          let row_goes = still found.follows h in
          let sign_goes = still row.follows row_goes in
          let signs = c.signs.invariant.reads (still sign.follows sign_goes) in
          let none = sym (row.items row_goes) ∙ empty_row _ _ c.is_empty.ensures c.if-is_empty.true in
          loosened e6 _ _ _ _ (row.reads row_goes ∙ (same_rest same ∙ no_sign signs none)) (found.reads.spelled h);
    }

pub expressions::signed-returns-clause-reads : goal.expressions::signed-returns-clause-reads
expressions::signed-returns-clause-reads t c =
    record {
      spelled = λ h.
          let sign = c.prefix_sign.ensures in
          let same : c.prefix_sign.new.reader ≡ c.signs.reader = search rules in
          let row = c.row-signs.ensures in
          let found = c.operand-found.ensures in
          let kept = c.kept_value-operand.ensures in
          let node = c.keep_expr.ensures in
          let kept_goes = still node.follows h in
          let found_goes = still kept.follows kept_goes in
          let row_goes = still found.follows found_goes in
          let sign_goes = still row.follows row_goes in
          let signs = moved (IsSigns c.args.reader.now.rest.now) (row.reads row_goes ∙ same_rest same) (row.items row_goes) (c.signs.invariant.reads (still sign.follows sign_goes)) in
          let operand = kept_spells {rank = e7} (found.reads.spelled found_goes) (kept.value kept_goes) (kept.stays kept_goes) in
          node_spells {rank = e6} (node.kept h) (node.reads h) (signed _ _ _ c.pos-pos.ensures signs (some_row _ _ c.is_empty.ensures c.if-is_empty.false) operand);
    }

pub operands::operand-returns-clause-reads : goal.operands::operand-returns-clause-reads
operands::operand-returns-clause-reads t c =
    record {
      spelled = λ h.
          let selected = c.selected.ensures in
          selected.reads.spelled h _ c.pos-pos.ensures (inr (c.constructor-constructor.ensures.typed (still selected.follows h)));
    }

pub operands::without_brace-returns-then-is_branded-clause-reads : goal.operands::without_brace-returns-then-is_branded-clause-reads
operands::without_brace-returns-then-is_branded-clause-reads t c =
    record { spelled = λ h. c.selected-expr.ensures.reads.spelled h _ c.pos-pos.ensures (c.in-Value.ensures.reads.spelled (still c.selected-expr.ensures.follows h)) }

pub operands::primary-returns-in-Some-Ident-clause-reads : goal.operands::primary-returns-in-Some-Ident-clause-reads
operands::primary-returns-in-Some-Ident-clause-reads t c =
    record {
      spelled = λ h.
          let kept = c.keep_expr.ensures in
          node_spells {rank = e8} (kept.kept h) (kept.reads h) (inl (g.name (c.take_name-name.ensures.reads (still kept.follows h))));
    }

pub operands::primary-returns-in-Some-TextLit-clause-reads : goal.operands::primary-returns-in-Some-TextLit-clause-reads
operands::primary-returns-in-Some-TextLit-clause-reads t c =
    record {
      spelled = λ h.
          let kept = c.keep_expr-in-Some-TextLit.ensures in
          let text = c.take_text-text.ensures in
          node_spells {rank = e8} (kept.kept h) (kept.reads h) (inl (g.text _ _ c.pos-pos.ensures (text.reads (still kept.follows h)) text.written));
    }

pub operands::parenthesis-returns-in-Value-clause-reads : goal.operands::parenthesis-returns-in-Value-clause-reads
operands::parenthesis-returns-in-Value-clause-reads t c =
    record {
      spelled = λ h.
          let opening = c.take_sign-pos.ensures in
          let inner = c.phrase-inner.ensures in
          let close = c.take_sign.ensures in
          let kept = c.keep_expr.ensures in
          let close_goes = still kept.follows h in
          let inner_goes = still close.follows close_goes in
          let opened = opening.reads (still inner.follows inner_goes) in
          let spelled = rw c.in-Value.is at inner.reads.spelled inner_goes in
          node_spells {rank = e8} (kept.kept h) (kept.reads h) (in_parentheses _ _ opening.place opened spelled (close.reads close_goes));
    }

pub operands::selected-selectors-init : goal.operands::selected-selectors-init
operands::selected-selectors-init t c =
    record { follows = stays _; reads = record { spelled = λ _. unselecting _ c.new-selectors.ensures.items } }

pub operands::selected-selectors-preserved : goal.operands::selected-selectors-preserved
operands::selected-selectors-preserved t c =
    let selector = c.in-Some.ensures in
    let put = c.put.ensures in
    record {
      follows = follows_on c.selectors.invariant.follows (follows_on selector.follows put.follows);
      reads = record {
        spelled = λ h.
            let selector_goes = still put.follows h in
            let before = c.selectors.invariant.reads.spelled (still selector.follows selector_goes) in
            moved (Selecting _) (put.reads h) (put.items h) (one_selector before (selector.reads.spelled selector_goes));
      };
    }

pub operands::selected-returns-then-is_empty-clause-reads : goal.operands::selected-returns-then-is_empty-clause-reads
operands::selected-returns-then-is_empty-clause-reads t c =
    record {
      spelled = λ h before at operand.
          let none = c.selector.ensures in
          let ended : c.selector.result ≡ None = search rules in
          let row = c.row-selectors.ensures in
          let none_goes = still row.follows h in
          let selectors = c.selectors.invariant.reads.spelled (still none.follows none_goes) in
          unselected operand (moved (Selecting _) (row.reads h ∙ unselected_here (none.reads.spelled none_goes) ended) (row.items h) selectors) (empty_row _ _ c.is_empty.ensures c.if-is_empty.true);
    }

pub operands::selected-returns-clause-reads : goal.operands::selected-returns-clause-reads
operands::selected-returns-clause-reads t c =
    record {
      spelled = λ h before at operand.
          let none = c.selector.ensures in
          let ended : c.selector.result ≡ None = search rules in
          let row = c.row-selectors.ensures in
          let kept = c.keep_expr.ensures in
          let row_goes = still kept.follows h in
          let none_goes = still row.follows row_goes in
          let selectors = c.selectors.invariant.reads.spelled (still none.follows none_goes) in
          let row_selectors = moved (Selecting _) (row.reads row_goes ∙ unselected_here (none.reads.spelled none_goes) ended) (row.items row_goes) selectors in
          node_spells {rank = e7} (kept.kept h) (kept.reads h) (selected _ _ _ at operand row_selectors (some_row _ _ c.is_empty.ensures c.if-is_empty.false));
    }

pub operands::constructor-returns-clause-typed : goal.operands::constructor-returns-clause-typed
operands::constructor-returns-clause-typed t c =
    λ h. node_typed (c.keep_expr.ensures.kept h) (plain.in_constructor _ _ _ _ _)

pub operands::primary-returns-in-Some-Number-clause-reads : goal.operands::primary-returns-in-Some-Number-clause-reads
operands::primary-returns-in-Some-Number-clause-reads t c =
    -- a number that is copied is the same
    let same : to_z w64 (of_z w64 c.in-Some-Number.value) ≡ c.in-Some-Number.value = search rules in
    record {
      spelled = λ h.
          let kept = c.keep_expr-in-Some-Number.ensures in
          let number = number_of c.pos-pos.ensures (c.step.ensures.reads _ (sym c.kind.ensures ∙ (c.in-Some-Number.is ∙ ap Some c.in-Some-Number.field-0-is))) same in
          node_spells {rank = e8} (kept.kept h) (kept.reads h) (inl number);
    }

pub operands::primary-returns-in-Some-CharLit-clause-reads : goal.operands::primary-returns-in-Some-CharLit-clause-reads
operands::primary-returns-in-Some-CharLit-clause-reads t c =
    record {
      spelled = λ h.
          let kept = c.keep_expr-in-Some-CharLit.ensures in
          let character = g.character _ c.pos-pos.ensures (c.step-in-Some-CharLit.ensures.reads _ (sym c.kind.ensures ∙ (c.in-Some-CharLit.is ∙ ap Some c.in-Some-CharLit.field-0-is))) in
          node_spells {rank = e8} (kept.kept h) (kept.reads h) (inl character);
    }

pub operands::selector-returns-then-skip_sign-clause-reads : goal.operands::selector-returns-then-skip_sign-clause-reads
operands::selector-returns-then-skip_sign-clause-reads t c =
    record { spelled = λ h. inl (g.dereference _ c.pos-pos.ensures (c.skip_sign.ensures.reads c.if-skip_sign.true)) }

pub operands::selector-returns-then-skip_sign-2-clause-reads : goal.operands::selector-returns-then-skip_sign-2-clause-reads
operands::selector-returns-then-skip_sign-2-clause-reads t c =
    record {
      spelled = λ h.
          let no_caret = same_rest (c.skip_sign.ensures.stays c.if-skip_sign.false) in
          inl (g.member (sign_from no_caret (c.skip_sign-else-skip_sign.ensures.reads c.if-skip_sign-2.true)) (c.take_name.ensures.reads h));
    }

pub operands::selector-returns-then-skip_sign-3-clause-reads : goal.operands::selector-returns-then-skip_sign-3-clause-reads
operands::selector-returns-then-skip_sign-3-clause-reads t c =
    record {
      spelled = λ h.
          let no_caret = same_rest (c.skip_sign.ensures.stays c.if-skip_sign.false) in
          let no_dot = same_rest (c.skip_sign-else-skip_sign.ensures.stays c.if-skip_sign-2.false) ∙ no_caret in
          indexed_by _ _ c.pos-pos.ensures (sign_from no_dot (c.skip_sign-else-skip_sign-2.ensures.reads c.if-skip_sign-3.true)) (c.indexes.ensures.reads.spelled h);
    }

pub operands::selector-returns-then-skip_sign-4-clause-reads : goal.operands::selector-returns-then-skip_sign-4-clause-reads
operands::selector-returns-then-skip_sign-4-clause-reads t c =
    record {
      spelled = λ h.
          let no_caret = same_rest (c.skip_sign.ensures.stays c.if-skip_sign.false) in
          let no_dot = same_rest (c.skip_sign-else-skip_sign.ensures.stays c.if-skip_sign-2.false) ∙ no_caret in
          let no_bracket = same_rest (c.skip_sign-else-skip_sign-2.ensures.stays c.if-skip_sign-3.false) ∙ no_dot in
          called_with _ _ c.pos-pos.ensures (sign_from no_bracket (c.skip_sign-else-skip_sign-3.ensures.reads c.if-skip_sign-4.true)) (c.actuals.ensures.reads.spelled h);
    }

pub operands::indexes-indexes-preserved : goal.operands::indexes-indexes-preserved
operands::indexes-indexes-preserved t c =
    let index = c.expression-index.ensures in
    let put = c.put.ensures in
    let comma = c.skip_sign.ensures in
    record {
      follows = follows_on c.indexes.invariant.follows (follows_on index.follows (follows_on put.follows comma.follows));
      reads = λ h.
          let put_goes = still comma.follows h in
          let index_goes = still put.follows put_goes in
          let begun = c.indexes.invariant.reads (still index.follows index_goes) in
          indexes_go_on (moved (Indexing _) (put.reads put_goes) (put.items put_goes) (one_index begun (index.reads.spelled index_goes))) (comma.reads c.if-not-skip_sign.false);
    }

pub operands::indexes-returns-clause-reads : goal.operands::indexes-returns-clause-reads
operands::indexes-returns-clause-reads t c =
    record {
      spelled = λ h.
          let index = c.expression-index.ensures in
          let put = c.put.ensures in
          let comma = c.skip_sign.ensures in
          let close = c.take_sign.ensures in
          let row = c.row.ensures in
          let close_goes = still row.follows h in
          let put_goes = still comma.follows (still close.follows close_goes) in
          let index_goes = still put.follows put_goes in
          let begun = c.indexes.invariant.reads (still index.follows index_goes) in
          let indexes = moved (Indexing _) (put.reads put_goes) (put.items put_goes) (one_index begun (index.reads.spelled index_goes)) in
          let closed = sign_from (same_rest (comma.stays c.if-not-skip_sign.true)) (close.reads close_goes) in
          moved (IndexesSpell _) (row.reads h) (row.items h) (indexes_end indexes closed);
    }

pub operands::actuals-actuals-preserved : goal.operands::actuals-actuals-preserved
operands::actuals-actuals-preserved t c =
    let actual = c.actual-actual.ensures in
    let put = c.put.ensures in
    let comma = c.skip_sign-in-actuals.ensures in
    record {
      follows = follows_on c.actuals.invariant.follows (follows_on actual.follows (follows_on put.follows comma.follows));
      reads = λ h.
          let put_goes = still comma.follows h in
          let actual_goes = still put.follows put_goes in
          let begun = c.actuals.invariant.reads (still actual.follows actual_goes) in
          let actuals = moved (Passing _) (put.reads put_goes) (put.items put_goes) (one_actual begun (actual.reads.spelled actual_goes)) in
          actuals_go_on actuals (put_more _ _ (put.items put_goes)) (comma.reads c.if-not-skip_sign.false);
    }

pub operands::actuals-returns-clause-reads : goal.operands::actuals-returns-clause-reads
operands::actuals-returns-clause-reads t c =
    record {
      spelled = λ h.
          let actual = c.actual-actual.ensures in
          let put = c.put.ensures in
          let comma = c.skip_sign-in-actuals.ensures in
          let close = c.take_sign.ensures in
          let row = c.row.ensures in
          let close_goes = still row.follows h in
          let put_goes = still comma.follows (still close.follows close_goes) in
          let actual_goes = still put.follows put_goes in
          let begun = c.actuals.invariant.reads (still actual.follows actual_goes) in
          let actuals = moved (Passing _) (put.reads put_goes) (put.items put_goes) (one_actual begun (actual.reads.spelled actual_goes)) in
          let closed = sign_from (same_rest (comma.stays c.if-not-skip_sign.true)) (close.reads close_goes) in
          actuals_from (same_rest (c.skip_sign.ensures.stays c.if-skip_sign.false)) (moved (ActualsSpell _) (row.reads h) (row.items h) (actuals_end actuals closed));
    }

pub operands::actuals-returns-then-skip_sign-clause-reads : goal.operands::actuals-returns-then-skip_sign-clause-reads
operands::actuals-returns-then-skip_sign-clause-reads t c =
    record { spelled = λ h. unpassed c.no_items.ensures (c.skip_sign.ensures.reads c.if-skip_sign.true) }

pub operands::actual-returns-in-Some-clause-reads : goal.operands::actual-returns-in-Some-clause-reads
operands::actual-returns-in-Some-clause-reads t c =
    record {
      spelled = λ h.
          let value = c.expression.ensures in
          let bound = bound_by (c.binding.ensures.reads (still value.follows h)) c.in-Some.is in
          passed_bound _ _ bound.1 bound.2 (value.reads.spelled h);
    }

pub operands::actual-returns-in-Some-lone_name-clause-reads : goal.operands::actual-returns-in-Some-lone_name-clause-reads
operands::actual-returns-in-Some-lone_name-clause-reads t c =
    record {
      spelled = λ h.
          let kept = c.keep_expr.ensures in
          let lone_goes = still kept.follows h in
          let unbound : c.binding.result ≡ None = search rules in
          let start = unbound_here (c.binding.ensures.reads (still c.lone_name.ensures.follows lone_goes)) unbound in
          passed_kept _ start (name_alone (named_by (c.lone_name.ensures.reads lone_goes) c.in-Some-lone_name.is)) (kept.kept h) (kept.reads h);
    }

pub operands::actual-returns-in-Value-clause-reads : goal.operands::actual-returns-in-Value-clause-reads
operands::actual-returns-in-Value-clause-reads t c =
    record {
      spelled = λ h.
          let value = c.in-Value.ensures in
          let lone_goes = still value.follows h in
          let unbound : c.binding.result ≡ None = search rules in
          let unnamed : c.lone_name.result ≡ None = search rules in
          let start = unbound_here (c.binding.ensures.reads (still c.lone_name.ensures.follows lone_goes)) unbound in
          passed_kept _ (unnamed_here (c.lone_name.ensures.reads lone_goes) unnamed ∙ start) (value.reads.spelled h) refl refl;
    }

pub operands::actual-returns-in-TypeExp-clause-reads : goal.operands::actual-returns-in-TypeExp-clause-reads
operands::actual-returns-in-TypeExp-clause-reads t c =
    record { spelled = λ h. inr (plain.a_type _) }
