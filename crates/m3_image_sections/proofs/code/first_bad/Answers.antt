use Rattle.std.proofs.Common.{◌≡◌, ℕ, ◌*◌, ◌/◌, length, sym, ap, ◌∙◌, false, arith}
use Rattle.std.specs.Prelude.{is_some}
use Rattle.std.proofs.lemmas.List.{take_rest}
use Rattle.m3_isa.specs.CodeBytes.{instruction_in}
use Rattle.m3_image_sections.specs.Reading.{instruction_at}
use Rattle.m3_image_sections.proofs.FirstLemmas.{first_zero, first_stop, first_more}
use Rattle.m3_image_sections.proofs.code.first_bad.Goals as goal

pub loop-n-init : goal.loop-n-init
loop-n-init c = first_zero (λ k. is_some (instruction_at c.args.section.now k))

pub returns-then-not-is_instruction : goal.returns-then-not-is_instruction
returns-then-not-is_instruction c =
    let bytes = c.args.section.now in
    let n : ℕ = c.loop-n.n in
    let bad : is_some (instruction_at bytes n) ≡ false = sym (c.if-not-is_instruction.ensures ∙ ap (λ b. is_some (instruction_in b)) (take_rest bytes (8 * n))) in
    sym (first_stop (λ k. is_some (instruction_at bytes k)) (length bytes / 8) n (omega arith) c.loop-n.invariant bad)

pub loop-n-preserved : goal.loop-n-preserved
loop-n-preserved c =
    let bytes = c.args.section.now in
    let n : ℕ = c.loop-n.n in
    first_more (λ k. is_some (instruction_at bytes k)) n c.loop-n.invariant (sym (c.if-not-is_instruction.ensures ∙ ap (λ b. is_some (instruction_in b)) (take_rest bytes (8 * n))))
