use Rattle.std.proofs.Common.{length, ◌+◌, ◌*◌}
use Rattle.m3_read_cursor.specs.Readers.{Follows}
use Rattle.m3_read_statements.proofs.+statements.Given as goal

abbrev pub decreases-blocks::block : goal.decreases-blocks::block
decreases-blocks::block l = 16 * l.room + 0

abbrev pub decreases-branches::case_statement : goal.decreases-branches::case_statement
decreases-branches::case_statement l = 16 * l.room + 3

abbrev pub decreases-branches::if_statement : goal.decreases-branches::if_statement
decreases-branches::if_statement l = 16 * l.room + 3

abbrev pub decreases-branches::otherwise : goal.decreases-branches::otherwise
decreases-branches::otherwise l = 16 * l.room + 2

abbrev pub decreases-branches::typecase_statement : goal.decreases-branches::typecase_statement
decreases-branches::typecase_statement l = 16 * l.room + 3

abbrev pub decreases-declarations::declaration : goal.decreases-declarations::declaration
decreases-declarations::declaration l = 16 * l.room + 2

abbrev pub decreases-declarations::declaration_list : goal.decreases-declarations::declaration_list
decreases-declarations::declaration_list l = 16 * l.room + 3

abbrev pub decreases-declarations::procedure : goal.decreases-declarations::procedure
decreases-declarations::procedure l = 16 * l.room + 1

abbrev pub decreases-handlers::handlers : goal.decreases-handlers::handlers
decreases-handlers::handlers l = 16 * l.room + 2

abbrev pub decreases-handlers::try_statement : goal.decreases-handlers::try_statement
decreases-handlers::try_statement l = 16 * l.room + 3

abbrev pub decreases-loops::done : goal.decreases-loops::done
decreases-loops::done l = 16 * l.room + 2

abbrev pub decreases-loops::for_statement : goal.decreases-loops::for_statement
decreases-loops::for_statement l = 16 * l.room + 3

abbrev pub decreases-loops::enclosing : goal.decreases-loops::enclosing
decreases-loops::enclosing l = 16 * l.room + 3

abbrev pub decreases-statements::statement : goal.decreases-statements::statement
decreases-statements::statement l = 16 * l.room + 0

abbrev pub decreases-statements::statements : goal.decreases-statements::statements
decreases-statements::statements l = 16 * l.room + 1

abbrev pub invariant-statements::statements-statements : goal.invariant-statements::statements-statements
invariant-statements::statements-statements l = Follows l.initial.reader l.reader

abbrev pub decreases-statements::statements-statements : goal.decreases-statements::statements-statements
decreases-statements::statements-statements l = length l.reader.rest.now

abbrev pub invariant-branches::if_statement-arms : goal.invariant-branches::if_statement-arms
invariant-branches::if_statement-arms l = Follows l.initial.reader l.reader

abbrev pub decreases-branches::if_statement-arms : goal.decreases-branches::if_statement-arms
decreases-branches::if_statement-arms l = length l.reader.rest.now

abbrev pub invariant-branches::case_statement-branches : goal.invariant-branches::case_statement-branches
invariant-branches::case_statement-branches l = Follows l.initial.reader l.reader

abbrev pub decreases-branches::case_statement-branches : goal.decreases-branches::case_statement-branches
decreases-branches::case_statement-branches l = length l.reader.rest.now

abbrev pub invariant-branches::typecase_statement-branches : goal.invariant-branches::typecase_statement-branches
invariant-branches::typecase_statement-branches l = Follows l.initial.reader l.reader

abbrev pub decreases-branches::typecase_statement-branches : goal.decreases-branches::typecase_statement-branches
decreases-branches::typecase_statement-branches l = length l.reader.rest.now

abbrev pub invariant-handlers::handlers-handlers : goal.invariant-handlers::handlers-handlers
invariant-handlers::handlers-handlers l = Follows l.initial.reader l.reader

abbrev pub decreases-handlers::handlers-handlers : goal.decreases-handlers::handlers-handlers
decreases-handlers::handlers-handlers l = length l.reader.rest.now

abbrev pub invariant-declarations::declaration_list-declarations : goal.invariant-declarations::declaration_list-declarations
invariant-declarations::declaration_list-declarations l = Follows l.initial.reader l.reader

abbrev pub decreases-declarations::declaration_list-declarations : goal.decreases-declarations::declaration_list-declarations
decreases-declarations::declaration_list-declarations l = length l.reader.rest.now
