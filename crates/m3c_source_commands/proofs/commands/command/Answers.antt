use Rattle.std.proofs.Common.{refl, sym}
use Rattle.m3c_source_commands.specs.Orders.{order_of, usage, no_words, carried_out}
use Rattle.m3c_source_commands.proofs.commands.command.Goals as goal

pub returns-in-Ok-Some : goal.returns-in-Ok-Some
returns-in-Ok-Some g c =
    let asked = rw c.in-Ok-Some.field-0-is at c.in-Ok-Some.ensures in
    carried_out (order_of c.in-Ok-Some.request) c.carry_out-answer.result _ (sym asked) c.carry_out-answer.ensures c.tell.ensures

pub returns-in-Ok-None : goal.returns-in-Ok-None
returns-in-Ok-None g c =
    let asked = rw c.in-Ok-None.field-0-is at c.in-Ok-None.ensures in
    usage _ (sym asked) refl refl c.tell-in-Ok-None.ensures

pub returns-in-Err : goal.returns-in-Err
returns-in-Err g c = no_words _ refl refl c.tell-in-Err.ensures
