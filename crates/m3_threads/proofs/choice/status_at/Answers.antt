use Rattle.std.proofs.Common.{sym}
use Rattle.m3_threads.proofs.Standing.{stands_ready}
use Rattle.m3_threads.proofs.choice.status_at.Goals as goal

pub returns-in_default : goal.returns-in_default
returns-in_default c = sym (stands_ready c.args.i.op c.args.i.a c.args.i.b c.in_default.not-Acq c.in_default.not-Join c.in_default.not-Ajoin)
