use Rattle.std.proofs.Common.{◌≡◌, ℕ, List, [], ◌∷◌, length, Some, sym, ap, subst, arith, length-append}
use Rattle.std.specs.List.{slice_get}
use Rattle.m3_image_sections.specs.declared.procs.ProcPart.{ProcPart}
use Rattle.m3_image_sections.specs.Ranges.{containing}
use Rattle.m3_image.specs.Views.{image_view}
use Rattle.m3_image_decoded.proofs.Lists.{all_more}
use Rattle.m3_image_decoded.proofs.code.homes.Goals as goal
use Rattle.m3_image_decoded.proofs.code.homes.Goals.{else-loop-n-test, then-loop-n-test+in_default}

pub loop-n-preserved : goal.loop-n-preserved
loop-n-preserved c =
    let procs = (image_view c.args.image.now).program.procs in
    let grown = c.in_ok-push.ensures.items in
    let P : ℕ → ProcPart → Type 0 = λ k p. containing procs k ≡ Some p in
    let Good : List ProcPart → Type 0 = λ xs. (k : ℕ) (p : ProcPart) → slice_get xs k ≡ Some p → P k p in
    let same = c.loop-n.invariant.1 in
    let here : P (length c.loop-n.found.items) c.in-Some.proc = rw same (sym c.in-Some.ensures.value) in (
      subst Good (sym grown) (all_more P c.loop-n.found.items c.in-Some.proc c.loop-n.invariant.0 here),
      omega (arith, ap length grown, length-append c.loop-n.found.items (c.in-Some.proc ∷ []), same),
    )

pub returns-clause-all : goal.returns-clause-all
returns-clause-all c =
    let same = c.loop-n.invariant.1 in
    elim c.loop-n-test.branch [
      | else-loop-n-test w ↦ omega (arith, w.loop-n-test.false, c.code_len-n-end.ensures, same)
      | then-loop-n-test+in_default w ↦ omega (arith, w.in_default.ensures.all, w.loop-n-test.true, c.code_len-n-end.ensures, same)
    ]
