use Rattle.std.specs.Prelude.{ℕ, slice_get}
use Rattle.std.proofs.Common.{sym, ap, ◌∙◌, arith, rules}
use Rattle.m3_image_sections.specs.Parts.{Image}
use Rattle.m3_image.specs.Views.{image_view}
use Rattle.m3_run_meaning.specs.State.{first_globals}
use Rattle.m3_image_decoded.specs.Ready.{image_of}
use Rattle.m3_run_state.specs.Seen.{Rest}
use Rattle.m3_machine.proofs.Images.{main_at_point}
use Rattle.m3_machine.proofs.Starting.{first_is, begins_there, ready_there, program_is}
use Rattle.m3_machine.proofs.machine.Machine.new.Goals as goal

pub invariant_of-parts-3 : goal.invariant_of-parts-3
invariant_of-parts-3 g c = record {
  small = c.requires.small;
  counted = search rules;
  words = c.in_ok-globals.ensures.count ∙ c.global_words.ensures ∙ sym (ap (λ (i : Image). i.program.globals.words) c.in_ok-image.ensures);
  loaded = c.in_ok-constants.ensures.loaded ∙ sym (ap (λ (i : Image). i.program.constants) c.in_ok-image.ensures);
  roomy = c.in_ok-room.ensures;
  sized = λ n form e.
      let there = ap (λ (i : Image). slice_get i.program.types n) (sym c.in_ok-image.ensures) ∙ e in
      let few = c.most_dims.ensures n form there in
      omega (arith, few, c.in_ok-sizes.ensures);
  fitting = λ e. ∣ g.met.S.Store.empty_fits c.args.store _ c.requires.empty ∣₁;
}

pub returns-clause-program : goal.returns-clause-program
returns-clause-program g c =
    ap (λ (r : Rest). r.program) c.stand.ensures.rest ∙ program_is (image_of c.in_ok-image.image) (image_view c.args.image) c.in_ok-constants.constants.items c.in_ok-image.ensures c.in_ok-constants.ensures.loaded

pub returns-clause-input : goal.returns-clause-input
returns-clause-input g c = ap (λ (r : Rest). r.input) c.stand.ensures.rest

pub returns-clause-begins : goal.returns-clause-begins
returns-clause-begins g c =
    let p = (image_view c.args.image).program in
    let same = program_is (image_of c.in_ok-image.image) (image_view c.args.image) c.in_ok-constants.constants.items c.in_ok-image.ensures c.in_ok-constants.ensures.loaded in
    let words = c.in_ok-globals.ensures.words ∙ ap (λ (n : ℕ). first_globals n) c.global_words.ensures in
    let is = first_is p (g.S.Store.heap c.args.store) c.args.stacks.count c.args.stacks.words c.in_ok-threads.threads c.in_ok-globals.globals.items c.args.steps c.in_ok-threads.ensures words c.requires.none in
    begins_there p _ _ c.stand.new.parts (g.S.Store.heap c.args.store) c.args.stacks.count c.args.stacks.words same is (c.stand.ensures.stands (omega arith)) (main_at_point p c.keeps_its_form.ensures.procs c.keeps_its_form.ensures.sound)

pub returns-clause-ready : goal.returns-clause-ready
returns-clause-ready g c =
    let p = (image_view c.args.image).program in
    let same = program_is (image_of c.in_ok-image.image) (image_view c.args.image) c.in_ok-constants.constants.items c.in_ok-image.ensures c.in_ok-constants.ensures.loaded in
    let words = c.in_ok-globals.ensures.words ∙ ap (λ (n : ℕ). first_globals n) c.global_words.ensures in
    let is = first_is p (g.S.Store.heap c.args.store) c.args.stacks.count c.args.stacks.words c.in_ok-threads.threads c.in_ok-globals.globals.items c.args.steps c.in_ok-threads.ensures words c.requires.none in
    ready_there p _ _ c.stand.new.parts (g.S.Store.heap c.args.store) c.args.stacks.count c.args.stacks.words same (ap (λ (r : Rest). r.program) c.stand.ensures.rest ∙ same) is (ap (λ (r : Rest). r.made) c.stand.ensures.rest) (ap (λ (r : Rest). r.stuck) c.stand.ensures.rest) (ap (λ (r : Rest). r.stack) c.stand.ensures.rest)
    (c.stand.ensures.stands (omega arith)) c.requires.some (main_at_point p c.keeps_its_form.ensures.procs c.keeps_its_form.ensures.sound)
