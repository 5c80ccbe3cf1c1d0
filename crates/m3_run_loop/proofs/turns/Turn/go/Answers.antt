use Rattle.std.specs.Prelude.{◌≡◌, ◌<◌, ◌-◌, false, List, length, slice_get, Some}
use Rattle.std.proofs.Common.{arith, subst, sym, ap, ◌∙◌}
use Rattle.std.proofs.lemmas.Option.{slice_get-get_or}
use Rattle.m3_isa.specs.declared.instructions.Instr.{Instr}
use Rattle.m3_isa.specs.Instructions.{is_plain}
use Rattle.m3_image_decoded.specs.Ready.{image_of}
use Rattle.m3_run_meaning.specs.declared.near.Place.{Place}
use Rattle.m3_run_loop.specs.Leading.{Track, Stands_in, Halts_in, further}
use Rattle.m3_run_loop.proofs.Leading.{further_on}
use Rattle.m3_run_loop.proofs.Keeping.{keeps_more}
use Rattle.m3_run_loop.proofs.turns.Turn.go.Goals as goal

one-is : (x y : Instr) → Some x ≡ Some y → x ≡ y
one-is x y e = cc

pub go_on-requires-clause-instruction : goal.go_on-requires-clause-instruction
go_on-requires-clause-instruction g c =
    let within : c.steps.at.pc < length c.code-code.result.now = omega arith in
    c.code-code.ensures.good c.steps.at.pc _ (slice_get-get_or c.code-code.result.now c.steps.at.pc _ within)

pub go_on-requires-clause-inside : goal.go_on-requires-clause-inside
go_on-requires-clause-inside g c =
    let within : c.steps.at.pc < length c.code-code.result.now = omega arith in
    subst (λ (code : List Instr). c.steps.at.pc < length code) c.code-code.ensures.value within

pub steps-preserved : goal.steps-preserved
steps-preserved g c =
    let p = (image_of c.args.self.image.now).program in
    let within : c.steps.at.pc < length c.code-code.result.now = omega arith in
    let first = c.args.fuel.now in
    let mid = c.steps.fuel in
    let n = c.go_on.new in
    let inv = c.steps.invariant in
    let counts = c.in_default.ensures.counts in (
      omega (arith, inv.0, counts.left),
      omega (arith, inv.1, counts.points),
      λ same.
          let mid-same : mid.points ≡ first.points = omega (arith, same, inv.1, counts.points) in
          let new-same : n.fuel.points ≡ mid.points = omega (arith, same, inv.1, counts.points) in
          counts.floor new-same ∙ inv.2 mid-same,
      keeps_more c.args.memory.now c.steps.memory n.memory inv.3 c.go_on.ensures.keeps,
      λ k st.
          let next = ap (λ (code : List Instr). slice_get code c.steps.at.pc) (sym c.code-code.ensures.value) ∙ slice_get-get_or c.code-code.result.now c.steps.at.pc _ within in
          subst (λ (x : Track). Stands_in p x c.args.self.stack n.fuel.limit (n.fuel.left - n.fuel.floor) n.fuel.points n.r n.at n.memory)
          (further_on k (first.points - mid.points) (first.left - mid.left) (mid.points - n.fuel.points) (mid.left - n.fuel.left) (first.points - n.fuel.points) (first.left - n.fuel.left)
          (omega (arith, inv.1, counts.points)) (omega (arith, inv.0, counts.left)))
          (c.in_default.ensures.strides (further k (first.points - mid.points) (first.left - mid.left)) next (inv.4 k st)),
    )

pub returns-in-Some-clause-strides : goal.returns-in-Some-clause-strides
returns-in-Some-clause-strides g c = λ k st.
    let p = (image_of c.args.self.image.now).program in
    let within : c.steps.at.pc < length c.code-code.result.now = omega arith in
    let first = c.args.fuel.now in
    let mid = c.steps.fuel in
    let n = c.go_on.new in
    let inv = c.steps.invariant in
    let halts = c.in-Some.ensures.halts in
    let next = ap (λ (code : List Instr). slice_get code c.steps.at.pc) (sym c.code-code.ensures.value) ∙ slice_get-get_or c.code-code.result.now c.steps.at.pc _ within in
    subst (λ (x : Track). Halts_in p x c.args.self.stack n.fuel.limit (n.fuel.left - n.fuel.floor) n.fuel.points n.r n.at n.memory c.in-Some.halt)
    (further_on k (first.points - mid.points) (first.left - mid.left) (mid.points - n.fuel.points) (mid.left - n.fuel.left) (first.points - n.fuel.points) (first.left - n.fuel.left)
    (omega (arith, inv.1, halts.1)) (omega (arith, inv.0, halts.0)))
    (c.in-Some.ensures.strides (further k (first.points - mid.points) (first.left - mid.left)) next (inv.4 k st))

pub returns-in-Some-clause-other : goal.returns-in-Some-clause-other
returns-in-Some-clause-other g c = λ is some i next.
    let within : c.steps.at.pc < length c.code-code.result.now = omega arith in
    let halts = c.in-Some.ensures.halts.3 is in
    let here = ap (λ (code : List Instr). slice_get code c.steps.at.pc) (sym c.code-code.ensures.value) ∙ slice_get-get_or c.code-code.result.now c.steps.at.pc _ within in
    let same = ap (λ (at : Place). slice_get (image_of c.args.self.image.now).program.code at.pc) (sym halts.1) ∙ next in
    subst (λ (x : Instr). is_plain x.op ≡ false) (one-is _ i (sym here ∙ same)) halts.0
