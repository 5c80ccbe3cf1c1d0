use Rattle.std.proofs.Common.{◌≡◌, suc, length, ap, rules, arith}
use Rattle.m3_image_sections.specs.Parts.{type_at}
use Rattle.m3_image_sections.specs.Fields.{many_in}
use Rattle.m3_image_sections.specs.PartViews.{type_of}
use Rattle.m3_image_sections.proofs.ListLemmas.{types_some, type_less}
use Rattle.m3_image_sections.proofs.types.TypesIterator.next.Goals as goal

pub invariant_of-self : goal.invariant_of-self
invariant_of-self c =
    let less = type_less c.args.self.now.bytes.now c.in_ok-first.rest.now (type_of c.in_ok-first.first) c.in_ok-first.ensures in
    let small = c.args.self.now.small in
    omega arith

pub returns-clause-steps : goal.returns-clause-steps
returns-clause-steps c = types_some c.args.self.now.bytes.now c.in_ok-first.rest.now (type_of c.in_ok-first.first) c.in_ok-first.ensures

pub returns-clause-goes : goal.returns-clause-goes
returns-clause-goes c =
    let bytes = c.args.self.now.bytes.now in
    let rest = c.in_ok-first.rest.now in
    let fewer : length (many_in type_at (length bytes) bytes) ≡ suc (length (many_in type_at (length rest) rest)) =
    ap length (types_some bytes rest (type_of c.in_ok-first.first) c.in_ok-first.ensures) in
    record { on = λ f. (search rules, search rules, omega arith); keeps = search rules; rests = search rules }
