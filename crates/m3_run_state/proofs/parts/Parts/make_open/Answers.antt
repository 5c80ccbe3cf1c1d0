use Rattle.std.specs.Prelude.{ℕ, ◌≡◌, Result, slice_get}
use Rattle.std.specs.Int.{cast_unsigned, w32}
use Rattle.std.proofs.Common.{sym, ap, subst, ◌∙◌, rules}
use Rattle.m3_base.specs.declared.outcomes.Outcome.{Outcome}
use Rattle.m3_image_sections.specs.Parts.{CellType}
use Rattle.m3_image_sections.specs.PartViews.{type_of}
use Rattle.m3_run_meaning.specs.Progress.{became}
use Rattle.m3_run_meaning.specs.NewTexts.{Makes_open, open_type, not_open}
use Rattle.m3_run_state.specs.Seen.{state_of, program_of}
use Rattle.m3_run_state.proofs.OpenSizes.{there_is}
use Rattle.m3_run_state.proofs.parts.Parts.make_open.Goals as goal

pub returns-in-Err-clause-makes : goal.returns-in-Err-clause-makes
returns-in-Err-clause-makes g c = λ going t running.
    let m = c.args.self.now in
    let p = program_of m in
    let kind : c.cast_unsigned-kind.result ≡ cast_unsigned w32 c.args.i.imm = search rules in
    not_open c.in-Err.outcome (sym (ap (λ (k : ℕ). open_type (slice_get p.types k)) kind) ∙ c.in-Err.ensures)

pub returns-in-Ok-clause-makes : goal.returns-in-Ok-clause-makes
returns-in-Ok-clause-makes g c = λ going t running.
    let m = c.args.self.now in
    let p = program_of m in
    let kind : c.cast_unsigned-kind.result ≡ cast_unsigned w32 c.args.i.imm = search rules in
    let told = sym (ap (λ (k : ℕ). open_type (slice_get p.types k)) kind) ∙ c.in-Ok.ensures in
    let form = type_of c.in-Ok.shape in
    let room = m.sized c.cast_unsigned-kind.result form (there_is (slice_get p.types c.cast_unsigned-kind.result) form c.in-Ok.ensures) in
    subst (λ (r : Result CellType Outcome). Makes_open p t c.args.i (state_of m) r (became c.make_by_sizes.result (state_of c.make_by_sizes.new.self))) (sym told)
    (c.make_by_sizes.ensures.makes going room t running)
