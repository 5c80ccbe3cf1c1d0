use Rattle.std.proofs.Common.{◌≡◌, None, length, ◌+◌, ◌*◌}
use Rattle.m3_read_grammar.specs.Expressions.{IsNots, IsSigns}
use Rattle.m3_read_cursor.specs.Readers.{Follows, Reads}
use Rattle.m3_read_expressions.specs.Spelled.{ReadsOperations, ReadsSelectors}
use Rattle.m3_read_expressions.proofs.Looseness.{looseness}
use Rattle.m3_read_expressions.proofs.Begun.{IndexesBegun, ActualsBegun}
use Rattle.m3_read_expressions.proofs.+expressions.Given as goal

abbrev pub decreases-expressions::expression : goal.decreases-expressions::expression
decreases-expressions::expression l = 64 * l.room + 1

abbrev pub decreases-expressions::negation : goal.decreases-expressions::negation
decreases-expressions::negation l = 64 * l.setting.calls + 27

abbrev pub decreases-expressions::operations : goal.decreases-expressions::operations
decreases-expressions::operations l = 64 * l.setting.calls + (20 + 3 * looseness l.level)

abbrev pub decreases-expressions::phrase : goal.decreases-expressions::phrase
decreases-expressions::phrase l = 64 * l.room + 0

abbrev pub decreases-expressions::signed : goal.decreases-expressions::signed
decreases-expressions::signed l = 64 * l.setting.calls + 18

abbrev pub decreases-expressions::tighter : goal.decreases-expressions::tighter
decreases-expressions::tighter l = 64 * l.setting.calls + (19 + 3 * looseness l.level)

abbrev pub decreases-members::assigned : goal.decreases-members::assigned
decreases-members::assigned l = 64 * l.room + 2

abbrev pub decreases-members::fields : goal.decreases-members::fields
decreases-members::fields l = 64 * l.room + 5

abbrev pub decreases-members::formals : goal.decreases-members::formals
decreases-members::formals l = 64 * l.room + 5

abbrev pub decreases-members::initial : goal.decreases-members::initial
decreases-members::initial l = 64 * l.room + 3

abbrev pub decreases-members::methods : goal.decreases-members::methods
decreases-members::methods l = 64 * l.room + 8

abbrev pub decreases-members::overrides : goal.decreases-members::overrides
decreases-members::overrides l = 64 * l.room + 3

abbrev pub decreases-members::signature : goal.decreases-members::signature
decreases-members::signature l = 64 * l.room + 6

abbrev pub decreases-operands::actual : goal.decreases-operands::actual
decreases-operands::actual l = 64 * l.room + 3

abbrev pub decreases-operands::actuals : goal.decreases-operands::actuals
decreases-operands::actuals l = 64 * l.room + 4

abbrev pub decreases-operands::constructor : goal.decreases-operands::constructor
decreases-operands::constructor l = 64 * l.setting.calls + 14

abbrev pub decreases-operands::element : goal.decreases-operands::element
decreases-operands::element l = 64 * l.room + 3

abbrev pub decreases-operands::elements : goal.decreases-operands::elements
decreases-operands::elements l = 64 * l.room + 4

abbrev pub decreases-operands::indexes : goal.decreases-operands::indexes
decreases-operands::indexes l = 64 * l.room + 3

abbrev pub decreases-operands::operand : goal.decreases-operands::operand
decreases-operands::operand l = 64 * l.setting.calls + 17

abbrev pub decreases-operands::parenthesis : goal.decreases-operands::parenthesis
decreases-operands::parenthesis l = 64 * l.setting.calls + 14

abbrev pub decreases-operands::primary : goal.decreases-operands::primary
decreases-operands::primary l = 64 * l.setting.calls + 15

abbrev pub decreases-operands::selected : goal.decreases-operands::selected
decreases-operands::selected l = 64 * l.setting.calls + 15

abbrev pub decreases-operands::selector : goal.decreases-operands::selector
decreases-operands::selector l = 64 * l.setting.calls + 14

abbrev pub decreases-operands::without_brace : goal.decreases-operands::without_brace
decreases-operands::without_brace l = 64 * l.setting.calls + 16

abbrev pub decreases-types::array_indexes : goal.decreases-types::array_indexes
decreases-types::array_indexes l = 64 * l.room + 2

abbrev pub decreases-types::composed_type : goal.decreases-types::composed_type
decreases-types::composed_type l = 64 * l.room + 12

abbrev pub decreases-types::enclosed_type : goal.decreases-types::enclosed_type
decreases-types::enclosed_type l = 64 * l.room + 12

abbrev pub decreases-types::brand : goal.decreases-types::brand
decreases-types::brand l = 64 * l.room + 2

abbrev pub decreases-types::named_type : goal.decreases-types::named_type
decreases-types::named_type l = 64 * l.room + 11

abbrev pub decreases-types::members_of : goal.decreases-types::members_of
decreases-types::members_of l = 64 * l.room + 9

abbrev pub decreases-types::object_parts : goal.decreases-types::object_parts
decreases-types::object_parts l = 64 * l.room + 10

abbrev pub decreases-types::opened_type : goal.decreases-types::opened_type
decreases-types::opened_type l = 64 * l.room + 13

abbrev pub decreases-types::reference_or_object : goal.decreases-types::reference_or_object
decreases-types::reference_or_object l = 64 * l.room + 12

abbrev pub decreases-types::type_expression : goal.decreases-types::type_expression
decreases-types::type_expression l = 64 * l.room + 0

abbrev pub invariant-operands::actuals-actuals : goal.invariant-operands::actuals-actuals
invariant-operands::actuals-actuals l = record { follows : Follows l.initial.reader l.reader; reads : l.reader.stop ≡ None → ActualsBegun l.initial.reader.rest.now l.reader.rest.now l.actuals.items }

abbrev pub decreases-operands::actuals-actuals : goal.decreases-operands::actuals-actuals
decreases-operands::actuals-actuals l = length l.reader.rest.now

abbrev pub invariant-types::array_indexes-indexes : goal.invariant-types::array_indexes-indexes
invariant-types::array_indexes-indexes l = Follows l.initial.reader l.reader

abbrev pub decreases-types::array_indexes-indexes : goal.decreases-types::array_indexes-indexes
decreases-types::array_indexes-indexes l = length l.reader.rest.now

abbrev pub invariant-operands::elements-elements : goal.invariant-operands::elements-elements
invariant-operands::elements-elements l = Follows l.initial.reader l.reader

abbrev pub decreases-operands::elements-elements : goal.decreases-operands::elements-elements
decreases-operands::elements-elements l = length l.reader.rest.now

abbrev pub invariant-members::fields-fields : goal.invariant-members::fields-fields
invariant-members::fields-fields l = Follows l.initial.reader l.reader

abbrev pub decreases-members::fields-fields : goal.decreases-members::fields-fields
decreases-members::fields-fields l = length l.reader.rest.now

abbrev pub invariant-members::formals-formals : goal.invariant-members::formals-formals
invariant-members::formals-formals l = Follows l.initial.reader l.reader

abbrev pub decreases-members::formals-formals : goal.decreases-members::formals-formals
decreases-members::formals-formals l = length l.reader.rest.now

abbrev pub invariant-operands::indexes-indexes : goal.invariant-operands::indexes-indexes
invariant-operands::indexes-indexes l = record { follows : Follows l.initial.reader l.reader; reads : l.reader.stop ≡ None → IndexesBegun l.initial.reader.rest.now l.reader.rest.now l.indexes.items }

abbrev pub decreases-operands::indexes-indexes : goal.decreases-operands::indexes-indexes
decreases-operands::indexes-indexes l = length l.reader.rest.now

abbrev pub invariant-members::methods-methods : goal.invariant-members::methods-methods
invariant-members::methods-methods l = Follows l.initial.reader l.reader

abbrev pub decreases-members::methods-methods : goal.decreases-members::methods-methods
decreases-members::methods-methods l = length l.reader.rest.now

abbrev pub invariant-expressions::negation-words : goal.invariant-expressions::negation-words
invariant-expressions::negation-words l = record { follows : Follows l.initial.reader l.reader; reads : Reads l.initial.reader l.reader (λ before after. IsNots before after l.words.items) }

abbrev pub decreases-expressions::negation-words : goal.decreases-expressions::negation-words
decreases-expressions::negation-words l = length l.reader.rest.now

abbrev pub invariant-types::object_parts-parts : goal.invariant-types::object_parts-parts
invariant-types::object_parts-parts l = Follows l.initial.reader l.reader

abbrev pub decreases-types::object_parts-parts : goal.decreases-types::object_parts-parts
decreases-types::object_parts-parts l = length l.reader.rest.now

abbrev pub invariant-expressions::operations-operations : goal.invariant-expressions::operations-operations
invariant-expressions::operations-operations l = record { follows : Follows l.initial.reader l.reader; reads : ReadsOperations l.level l.initial.reader l.reader l.rest.items }

abbrev pub decreases-expressions::operations-operations : goal.decreases-expressions::operations-operations
decreases-expressions::operations-operations l = length l.reader.rest.now

abbrev pub invariant-members::overrides-overrides : goal.invariant-members::overrides-overrides
invariant-members::overrides-overrides l = Follows l.initial.reader l.reader

abbrev pub decreases-members::overrides-overrides : goal.decreases-members::overrides-overrides
decreases-members::overrides-overrides l = length l.reader.rest.now

abbrev pub invariant-operands::selected-selectors : goal.invariant-operands::selected-selectors
invariant-operands::selected-selectors l = record { follows : Follows l.initial.reader l.reader; reads : ReadsSelectors l.initial.reader l.reader l.selectors.items }

abbrev pub decreases-operands::selected-selectors : goal.decreases-operands::selected-selectors
decreases-operands::selected-selectors l = length l.reader.rest.now

abbrev pub invariant-expressions::signed-signs : goal.invariant-expressions::signed-signs
invariant-expressions::signed-signs l = record { follows : Follows l.initial.reader l.reader; reads : Reads l.initial.reader l.reader (λ before after. IsSigns before after l.signs.items) }

abbrev pub decreases-expressions::signed-signs : goal.decreases-expressions::signed-signs
decreases-expressions::signed-signs l = length l.reader.rest.now
