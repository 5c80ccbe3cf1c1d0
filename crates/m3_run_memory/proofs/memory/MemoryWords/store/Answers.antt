use Rattle.std.specs.Prelude.{length, true}
use Rattle.std.proofs.Common.{ap, ◌∙◌, cond}
use Rattle.m3_threads.specs.Spaces.{is_in_stack}
use Rattle.m3_run_memory.specs.Addresses.{outside_of, settable_of}
use Rattle.m3_run_memory.proofs.StackPuts.{stored_in_memory, keeps_stacks, same_in_stack}
use Rattle.m3_run_memory.proofs.memory.MemoryWords.store.Goals as goal

pub returns-clause-stored : goal.returns-clause-stored
returns-clause-stored g c = λ set x.
    let m = c.args.self.now in
    let n = c.store.new.mem in
    stored_in_memory m.threads c.store.new.self
    (outside_of m.outside.globals.items m.outside.constants.items (g.S.Store.heap m.outside.heap.store).cells)
    (outside_of n.globals.items n.constants.items (g.S.Store.heap n.heap.store).cells)
    c.args.at c.args.word x (c.store.ensures.inside set) (c.store.ensures.outside set x)

pub returns-clause-writable : goal.returns-clause-writable
returns-clause-writable g c = λ x.
    let m = c.args.self.now in
    let n = c.store.new.mem in
    ap (λ b. cond b true (settable_of (length n.globals.items) (g.S.Store.heap n.heap.store).cells x))
    (same_in_stack m.threads c.store.new.self c.args.at c.args.word x c.store.result c.store.ensures.inside c.store.ensures.refused)
    ∙ ap (λ b. cond (is_in_stack m.threads x) true b) (c.store.ensures.writable x)

pub returns-clause-keeps : goal.returns-clause-keeps
returns-clause-keeps g c = (
  record {
    stacks = keeps_stacks c.args.self.now.threads c.store.new.self c.args.at c.args.word c.store.result c.store.ensures.inside c.store.ensures.refused;
    outside = c.store.ensures.keeps.0;
  },
  c.store.ensures.keeps.1,
)
