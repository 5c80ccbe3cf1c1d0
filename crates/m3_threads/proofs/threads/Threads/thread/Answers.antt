use Rattle.std.proofs.Common.{sym, ap, ◌∙◌, arith}
use Rattle.m3_threads.specs.All.{thread_named}
use Rattle.m3_threads.proofs.Places.{found-number, place_got}
use Rattle.m3_threads.proofs.threads.Threads.thread.Goals as goal

pub returns-clause-number : goal.returns-clause-number
returns-clause-number c =
    let p = place_got c.args.number c.self.inside.list.items c.deref.result.now c.in-Some.k c.index.result.now c.deref.ensures.value c.in-Some.ensures c.index.ensures in
    found-number c.args.number c.self.inside.list.items c.index.result.now p.owned

pub returns-clause-given_out : goal.returns-clause-given_out
returns-clause-given_out c =
    let p = place_got c.args.number c.self.inside.list.items c.deref.result.now c.in-Some.k c.index.result.now c.deref.ensures.value c.in-Some.ensures c.index.ensures in
    let h = c.self.invariant.0.numbers c.in-Some.k c.index.result.now p.got in
    let e = ap (λ v. v.forks) c.self.view_is in
    omega arith

pub returns-clause-slot : goal.returns-clause-slot
returns-clause-slot c =
    let p = place_got c.args.number c.self.inside.list.items c.deref.result.now c.in-Some.k c.index.result.now c.deref.ensures.value c.in-Some.ensures c.index.ensures in
    let h = c.self.invariant.0.slots c.in-Some.k c.index.result.now p.got in
    let e = ap (λ v. v.allowed) c.self.view_is in
    omega arith

pub returns-clause-named : goal.returns-clause-named
returns-clause-named c =
    let t = c.index.result.now in
    let n = c.args.number in
    let p = place_got n c.self.inside.list.items c.deref.result.now c.in-Some.k t c.deref.ensures.value c.in-Some.ensures c.index.ensures in
    let same = found-number n c.self.inside.list.items t p.owned in
    ap (λ k. thread_named c.args.self.now k) same ∙ sym (ap (λ v. thread_named v n) c.self.view_is) ∙ p.owned

pub returns-clause-registers : goal.returns-clause-registers
returns-clause-registers c =
    let p = place_got c.args.number c.self.inside.list.items c.deref.result.now c.in-Some.k c.index.result.now c.deref.ensures.value c.in-Some.ensures c.index.ensures in
    c.self.invariant.0.registers c.in-Some.k c.index.result.now p.got
