use Rattle.std.proofs.Common.{ap, arith}
use Rattle.m3_threads.proofs.Places.{place_got}
use Rattle.m3_threads.proofs.threads.Threads.find.Goals as goal

pub returns-in-Some-clause-slot : goal.returns-in-Some-clause-slot
returns-in-Some-clause-slot c =
    let p = place_got c.args.number c.self.inside.list.items c.deref.result.now c.in-Some.k c.index.result.now c.deref.ensures.value c.in-Some.ensures c.index.ensures in
    let h = c.self.invariant.0.slots c.in-Some.k c.index.result.now p.got in
    let e = ap (λ v. v.allowed) c.self.view_is in
    omega arith

pub returns-in-Some-clause-registers : goal.returns-in-Some-clause-registers
returns-in-Some-clause-registers c =
    let p = place_got c.args.number c.self.inside.list.items c.deref.result.now c.in-Some.k c.index.result.now c.deref.ensures.value c.in-Some.ensures c.index.ensures in
    c.self.invariant.0.registers c.in-Some.k c.index.result.now p.got
