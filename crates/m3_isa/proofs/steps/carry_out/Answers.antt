use Rattle.std.proofs.Common.{refl}
use Rattle.m3_isa.specs.Effects.{at_hand}
use Rattle.m3_isa.proofs.Plain.{not_plain, other_is_not_plain}
use Rattle.m3_isa.proofs.steps.carry_out.Goals as goal

pub returns-in-Call-clause-effect : goal.returns-in-Call-clause-effect
returns-in-Call-clause-effect g c =
    let i = c.args.i.now in
    let m = g.W.Words.holds c.args.mem.now in
    let can = g.W.Words.writable c.args.mem.now in
    rw (not_plain i.op (other_is_not_plain i.op c.in-Call.is) i.a i.b i.c i.imm (at_hand c.args.r.now c.args.pc.now c.args.fp) m can) (refl, refl, λ x. refl)
