use Rattle.std.proofs.Common.{◌*◌, sym, ap, ◌∙◌, arith}
use Rattle.std.proofs.lemmas.List.{take_rest}
use Rattle.m3_isa.specs.CodeBytes.{instruction_in}
use Rattle.m3_image_sections.proofs.CodeLemmas.{code_at, code_past}
use Rattle.m3_image_sections.proofs.code.Code.get.Goals as goal

pub returns-then-number-self-clause-value : goal.returns-then-number-self-clause-value
returns-then-number-self-clause-value c = sym (code_past c.args.self.now.bytes.now c.args.number c.args.self.now.sound (omega arith))

pub returns-clause-value : goal.returns-clause-value
returns-clause-value c =
    let bytes = c.args.self.now.bytes.now in
    c.instruction_in.ensures.value ∙ ap instruction_in (take_rest bytes (8 * c.args.number))
    ∙ sym (code_at bytes c.args.number c.args.self.now.sound (omega arith))
