use Rattle.std.specs.Prelude.{ℕ, ◌+◌, List, length, Ok, Err}
use Rattle.std.proofs.Common.{refl, ap, subst, arith}
use Rattle.m3_image_sections.specs.Parts.{Program}
use Rattle.m3_run_meaning.specs.Progress.{became}
use Rattle.m3_run_meaning.specs.State.{Becomes, memory_of}
use Rattle.m3_run_meaning.specs.NewTexts.{with_words, GivesOpen}
use Rattle.m3_run_state.specs.Seen.{Rest, state_of, program_of}
use Rattle.m3_run_state.proofs.Filling.{still_running}
use Rattle.m3_run_state.proofs.parts.Parts.make_sized.Goals as goal

pub write_sizes-requires-clause-room : goal.write_sizes-requires-clause-room
write_sizes-requires-clause-room g c =
    let same = ap (λ (ws : List ℕ). length ws) c.make_cell.ensures.sizes in
    omega (arith, same, c.requires.room)

pub returns-in-Ok-clause-makes : goal.returns-in-Ok-clause-makes
returns-in-Ok-clause-makes g c = λ going.
    let m = c.args.self.now in
    let p = program_of m in
    let mid = c.make_cell.new.self in
    let u = state_of mid in
    let cell = c.in-Ok.cell in
    let filled = state_of c.write_sizes.new.self in
    let progress = became c.give.result (state_of c.give.new.self) in
    let becomes : Becomes p u (with_words (cell + 1) m.sizes.items (memory_of p u)) filled =
    subst (λ (ws : List ℕ). Becomes p u (with_words (cell + 1) ws (memory_of p u)) filled) c.make_cell.ensures.sizes
    (subst (λ (r : Program). Becomes r u (with_words (cell + 1) mid.sizes.items (memory_of r u)) filled) (ap (λ (r : Rest). r.program) c.make_cell.ensures.rest) c.write_sizes.ensures.filled) in
    let gives : GivesOpen p c.args.a m.sizes.items (Ok cell) u progress = λ t running. record {
      filled = filled;
      becomes = becomes;
      goes = c.give.ensures.goes t (still_running u filled t becomes.others running);
    } in
    (Ok cell, u, c.in-Ok.ensures.made going, gives)

pub returns-in-Err-clause-makes : goal.returns-in-Err-clause-makes
returns-in-Err-clause-makes g c = λ going. (Err c.in-Err.outcome, state_of c.make_cell.new.self, c.in-Err.ensures.made going, refl)
