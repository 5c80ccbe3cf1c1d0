use Rattle.std.proofs.Common.{ap, ◌∙◌, arith}
use Rattle.std.specs.Prelude.{slice_set}
use Rattle.std.proofs.lemmas.Option.{slice_get_read}
use Rattle.m3_threads.specs.Actions.{woken_on}
use Rattle.m3_threads.proofs.Places.{mixed_more}
use Rattle.m3_threads.proofs.list.wake_sleepers.Goals as goal

pub loop-k-preserved : goal.loop-k-preserved
loop-k-preserved c =
    let now = c.loop-k.threads.items in
    let k = c.loop-k.k in
    let t = c.index-t.result.now in
    let read = slice_get_read now _ k t c.loop-k.threads.ok.0 (omega arith) c.index-t.ensures in
    record {
      threads = ap (slice_set now k) c.woken_on.ensures ∙ mixed_more (woken_on c.args.condition) c.args.threads.now.items now k t c.loop-k.invariant.threads read;
      length = c.loop-k.invariant.length;
      capacity = c.loop-k.invariant.capacity;
    }
