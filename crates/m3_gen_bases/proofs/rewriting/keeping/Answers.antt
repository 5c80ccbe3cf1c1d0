use Rattle.std.proofs.Common.{pos}
use Rattle.m3_mid_additions.specs.Additions.{number, moved, formal}
use Rattle.m3_gen_bases.proofs.rewriting.keeping.Goals as goal

pub returns-in_default : goal.returns-in_default
returns-in_default c = number c.in_ok-to.to (pos 0) c.in_ok-to.ensures.behind

pub returns-in-Temp : goal.returns-in-Temp
returns-in-Temp c = moved c.in_ok-to.to c.in-Temp.from c.in_ok-to.ensures.behind

pub returns-in_ok-base_slot-in-Slot : goal.returns-in_ok-base_slot-in-Slot
returns-in_ok-base_slot-in-Slot c =
    formal c.in_ok-to.to c.in_ok-base_slot-in-Slot.field-0 c.in_ok-to.ensures.behind c.in_ok-base_slot-in-Slot.ensures
