use Rattle.std.proofs.Common.{sym, arith}
use Rattle.m3_isa.proofs.Shifts.{shifted_out_down}
use Rattle.m3_isa.proofs.arithmetic.shift_down.Goals as goal

pub returns-else-places-lt64 : goal.returns-else-places-lt64
returns-else-places-lt64 c = sym (shifted_out_down c.args.word c.args.places (omega arith) (omega arith))
