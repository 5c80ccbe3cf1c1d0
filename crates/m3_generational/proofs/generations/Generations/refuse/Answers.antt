use Rattle.m3_generational.proofs.HeapLemmas.{is-closed, resting, closed-sound}
use Rattle.m3_generational.proofs.generations.Generations.refuse.Goals as goal

pub returns-clause-sound : goal.returns-clause-sound
returns-clause-sound c =
    let i = c.self.inside in
    let closed = is-closed i c.args.self.now c.self.view_is c.requires.closed in
    closed-sound i.is_open i.spaces i.left.value i.remembered c.args.words i.minors i.fulls closed c.self.invariant.placed (resting i c.self.invariant closed)
