use Rattle.std.specs.Prelude.{◌%◌, [], ◌∷◌, Some, Ok, Err}
use Rattle.std.proofs.Common.{refl, ap, subst}
use Rattle.m3_isa.specs.Effects.{reg}
use Rattle.m3_image_sections.specs.Parts.{Program}
use Rattle.m3_run_meaning.specs.Progress.{became}
use Rattle.m3_run_meaning.specs.NewTexts.{GivesText}
use Rattle.m3_run_state.specs.Seen.{Rest, state_of}
use Rattle.m3_run_state.proofs.parts.Parts.make_char.Goals as goal

pub returns-in-Ok-clause-makes : goal.returns-in-Ok-clause-makes
returns-in-Ok-clause-makes g c = λ going.
    let i = c.args.i in
    record {
      made = Ok c.in-Ok.start;
      left = state_of c.make_cell.new.self;
      makes = c.in-Ok.ensures.made going;
      gives = subst (λ (p : Program). GivesText p i.a (λ memory u. Some (reg u.regs i.b % 256 ∷ [])) (Ok c.in-Ok.start) (state_of c.make_cell.new.self) (became c.fill_char.result (state_of c.fill_char.new.self)))
          (ap (λ (r : Rest). r.program) c.make_cell.ensures.rest) c.fill_char.ensures.fills;
    }

pub returns-in-Err-clause-makes : goal.returns-in-Err-clause-makes
returns-in-Err-clause-makes g c = λ going. record { made = Err c.in-Err.outcome; left = state_of c.make_cell.new.self; makes = c.in-Err.ensures.made going; gives = refl }
