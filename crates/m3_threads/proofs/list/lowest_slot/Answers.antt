use Rattle.std.proofs.Common.{arith}
use Rattle.m3_threads.proofs.Places.{all_used}
use Rattle.m3_threads.proofs.list.lowest_slot.Goals as goal

pub unreachable-requires : goal.unreachable-requires
unreachable-requires c =
    let h = all_used c.loop-slot.slot c.args.threads.now c.loop-slot.invariant in
    omega arith
