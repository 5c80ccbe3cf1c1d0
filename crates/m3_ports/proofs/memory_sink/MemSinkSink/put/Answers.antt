use Rattle.std.proofs.Common.{arith, refl}
use Rattle.m3_ports.proofs.memory_sink.MemSinkSink.put.Goals as goal

-- a fault takes nothing of the piece, and nothing waits
pub returns-then-fails-clause-failed : goal.returns-then-fails-clause-failed
returns-then-fails-clause-failed c =
    (grind arith, (c.args.self.now.taken, ((c.args.piece.now, refl), omega arith), grind arith))
