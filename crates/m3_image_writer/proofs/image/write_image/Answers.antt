use Rattle.std.proofs.Common.{arith}
use Rattle.m3_image_writer.specs.Fields.{text_bytes}
use Rattle.m3_image_writer.specs.Variables.{variables_bytes}
use Rattle.m3_image_writer.proofs.Joined.{piece}
use Rattle.m3_image_writer.proofs.Lengths.{variables_fit}
use Rattle.m3_image_writer.proofs.AgainImage.{first_again, second_again}
use Rattle.m3_image_writer.proofs.image.write_image.Goals as goal

pub put_variables-requires : goal.put_variables-requires
put_variables-requires c =
    rw c.deref.ensures.value (variables_fit c.args.parts.now c.in-Some.variables c.in-Some.is (omega (arith, c.requires.size)))

pub returns-in_ok-put_sections-in-None-clause-read_again : goal.returns-in_ok-put_sections-in-None-clause-read_again
returns-in_ok-put_sections-in-None-clause-read_again c =
    first_again c.args.parts.now c.in_ok-out.out.items c.put_word.new.out.items c.put_sections.new.out.items c.in-None.is c.in_ok-out.ensures.items c.in_ok-put_word-in-None.ensures c.in_ok-put_sections-in-None.ensures.bytes c.requires.form c.in_ok-put_sections-in-None.ensures.again (omega (arith, c.requires.size))

pub returns-in_ok-put_variables-in-Some-clause-read_again : goal.returns-in_ok-put_variables-in-Some-clause-read_again
returns-in_ok-put_variables-in-Some-clause-read_again c =
    let variables = c.in-Some.variables in
    let bytes = piece (λ x. text_bytes (variables_bytes x)) c.put_sections-in-Some.new.out.items c.put_variables.new.out.items c.deref.result.now variables.items c.in_ok-put_variables-in-Some.ensures.bytes c.deref.ensures.value in
    second_again c.args.parts.now variables c.in_ok-out.out.items c.put_word-in-Some.new.out.items c.put_sections-in-Some.new.out.items c.put_variables.new.out.items c.in-Some.is c.in_ok-out.ensures.items c.in_ok-put_word-in-Some.ensures c.in_ok-put_sections-in-Some.ensures.bytes bytes c.requires.form c.in_ok-put_sections-in-Some.ensures.again (omega (arith, c.requires.size)) (rw c.deref.ensures.value at c.in_ok-put_variables-in-Some.ensures.again)
