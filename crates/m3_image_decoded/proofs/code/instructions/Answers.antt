use Rattle.std.proofs.Common.{◌≡◌, ℕ, List, [], ◌∷◌, ◌++◌, Some, sym, ◌∙◌, ap, subst, arith}
use Rattle.std.specs.List.{slice_get}
use Rattle.m3_isa.specs.declared.instructions.Instr.{Instr}
use Rattle.m3_isa.specs.Instructions.{IsInstruction}
use Rattle.m3_image.specs.Views.{image_view}
use Rattle.m3_image_decoded.proofs.Lists.{take_more, take_all, all_more, none_past}
use Rattle.m3_image_decoded.proofs.code.instructions.Goals as goal
use Rattle.m3_image_decoded.proofs.code.instructions.Goals.{else-loop-n-test, then-loop-n-test+in_default}

pub loop-n-preserved : goal.loop-n-preserved
loop-n-preserved c =
    let code = (image_view c.args.image.now).program.code in
    let grown = c.in_ok-push.ensures.items in
    let Good : List Instr → Type 0 = λ xs. (k : ℕ) (i : Instr) → slice_get xs k ≡ Some i → IsInstruction i in (
      grown ∙ (ap (λ (xs : List Instr). xs ++ c.in-Some.i ∷ []) c.loop-n.invariant.0 ∙ sym (take_more code c.loop-n.n c.in-Some.i (sym c.in-Some.ensures.value))),
      subst Good (sym grown) (all_more (λ (k : ℕ) (i : Instr). IsInstruction i) c.loop-n.found.items c.in-Some.i c.loop-n.invariant.1 c.in-Some.ensures.good),
    )

pub returns-clause-code : goal.returns-clause-code
returns-clause-code c =
    let code = (image_view c.args.image.now).program.code in
    elim c.loop-n-test.branch [
      | else-loop-n-test w ↦ c.loop-n.invariant.0 ∙ take_all code c.loop-n.n (omega (arith, w.loop-n-test.false, c.code_len-n-end.ensures))
      | then-loop-n-test+in_default w ↦ c.loop-n.invariant.0 ∙ take_all code c.loop-n.n (none_past code c.loop-n.n (sym w.in_default.ensures.value))
    ]
