use Rattle.std.proofs.Common.{arith}
use Rattle.m3_image_writer.proofs.Lengths.{count_of_spans, length-name}
use Rattle.m3_image_writer.proofs.AgainParts.{variable_again}
use Rattle.m3_image_writer.proofs.variables.put_variable.Goals as goal

pub overflow_cast-len : goal.overflow_cast-len
overflow_cast-len c = omega (arith, c.requires, count_of_spans c.args.variable.now)

pub put_text-requires : goal.put_text-requires
put_text-requires c = rw c.as_slice.ensures (omega (arith, c.requires, length-name c.args.variable.now))

pub returns-clause-again : goal.returns-clause-again
returns-clause-again c =
    let v = c.args.variable.now in
    let count = count_of_spans v in
    let name = length-name v in
    variable_again v (record {
      proc = omega arith;
      word = omega arith;
      name = omega (arith, c.requires);
      spans = rw c.deref.ensures.value at c.in_ok-put_spans.ensures.again;
      count = omega (arith, c.requires);
    })
