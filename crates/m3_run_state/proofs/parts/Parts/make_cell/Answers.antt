use Rattle.std.proofs.Common.{ap, subst}
use Rattle.m3_image_sections.specs.Parts.{Program}
use Rattle.m3_run_meaning.specs.State.{State}
use Rattle.m3_run_meaning.specs.Making.{Makes_late, at_once, late}
use Rattle.m3_run_state.specs.Seen.{Rest, state_of}
use Rattle.m3_run_state.proofs.Going.{still_going}
use Rattle.m3_run_state.proofs.parts.Parts.make_cell.Goals as goal

pub returns-in-Some-clause-made : goal.returns-in-Some-clause-made
returns-in-Some-clause-made g c = λ going. at_once c.in-Some.cell _ c.in-Some.ensures.allocated

pub returns-in-None-clause-made : goal.returns-in-None-clause-made
returns-in-None-clause-made g c = λ going.
    let mid = state_of c.allocate.new.self in
    let u = state_of c.make_late.new.self in
    let depth = ap (λ (x : State). x.all.stack) c.in-None.ensures.allocated.rest in
    late mid u c.make_late.result c.in-None.ensures.allocated
    (subst (λ (p : Program). Makes_late p c.args.kind c.args.words mid c.make_late.result u) (ap (λ (r : Rest). r.program) c.allocate.ensures.rest) (c.make_late.ensures.made (still_going c.args.self.now c.allocate.new.self c.allocate.ensures.rest depth going)))
