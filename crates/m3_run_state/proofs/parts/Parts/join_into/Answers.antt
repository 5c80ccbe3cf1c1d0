use Rattle.std.specs.Prelude.{ℕ}
use Rattle.std.proofs.Common.{sym, subst}
use Rattle.m3_isa.specs.Effects.{reg}
use Rattle.m3_run_meaning.specs.Progress.{became}
use Rattle.m3_run_meaning.specs.State.{memory_of}
use Rattle.m3_run_meaning.specs.Making.{HasNew}
use Rattle.m3_run_meaning.specs.NewTexts.{both, part_of, FillsText}
use Rattle.m3_run_state.specs.Seen.{state_of, program_of}
use Rattle.m3_run_state.proofs.parts.Parts.join_into.Goals as goal

pub finish_text-requires-clause-new : goal.finish_text-requires-clause-new
finish_text-requires-clause-new g c = subst (λ (w : ℕ). HasNew 0 w c.args.start (state_of c.args.self.now)) (sym c.words_for-words.ensures.words) c.requires.new

pub returns-clause-fills : goal.returns-clause-fills
returns-clause-fills g c = λ t running.
    let m = c.args.self.now in
    let p = program_of m in
    let s = state_of m in
    let memory = memory_of p s in
    let progress = became c.finish_text.result (state_of c.finish_text.new.self) in
    subst (λ (x : ℕ). FillsText p c.args.i.a c.args.start (both (part_of memory x 0 c.args.left) (part_of memory (reg t.regs c.args.i.c) 0 c.args.right)) s t progress) (c.word-left_text.ensures t running)
    (subst (λ (y : ℕ). FillsText p c.args.i.a c.args.start (both (part_of memory c.word-left_text.result 0 c.args.left) (part_of memory y 0 c.args.right)) s t progress) (c.word-right_text.ensures t running)
    (c.finish_text.ensures.fills t running))
