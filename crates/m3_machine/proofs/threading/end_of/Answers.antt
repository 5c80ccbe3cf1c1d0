use Rattle.std.specs.Prelude.{length}
use Rattle.m3_threads.specs.All.{thread_named}
use Rattle.m3_run_memory.specs.Addresses.{outside_of, settable_of}
use Rattle.m3_machine.proofs.ThreadActs.{by_op, is_there, uncounted}
use Rattle.m3_machine.proofs.threading.end_of.Goals as goal

pub returns-clause-acts : goal.returns-clause-acts
returns-clause-acts g c = λ t running. by_op _ _ c.requires.operation _ _ _ _ _ _ _ _ (c.end.ensures.after t running)

pub returns-clause-counts : goal.returns-clause-counts
returns-clause-counts g c =
    let old = c.args.threads.now in
    let outside = c.args.outside.now in
    let cells = (g.S.Store.heap outside.heap.store).cells in
    let there = is_there (thread_named old c.args.running) c.requires.there in
    uncounted there.0 c.args.i old (outside_of outside.globals.items outside.constants.items cells) (settable_of (length outside.globals.items) cells)
    c.end.result c.end.new.self _ (c.end.ensures.after there.0 there.1)
