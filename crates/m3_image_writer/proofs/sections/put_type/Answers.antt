use Rattle.std.proofs.Common.{arith}
use Rattle.m3_image_writer.proofs.AgainParts.{type_again}
use Rattle.m3_image_writer.proofs.sections.put_type.Goals as goal

pub returns-clause-again : goal.returns-clause-again
returns-clause-again c =
    type_again c.args.part.now (record {
      kind = omega arith;
      parent = omega arith;
      words = omega arith;
      dims = omega arith;
      methods = rw c.deref.ensures.value at c.in_ok-put_list.ensures.again;
      pointers = rw c.deref-2.ensures.value at c.in_ok-put_list-2.ensures.again;
    })
