use Rattle.std.specs.Prelude.{ℕ, ◌≡◌, ◌+◌, List, Option}
use Rattle.std.proofs.Common.{sym, ap, subst, ◌∙◌, arith}
use Rattle.m3_run_meaning.specs.Progress.{became}
use Rattle.m3_run_meaning.specs.State.{memory_of}
use Rattle.m3_run_meaning.specs.Texts.{text_words}
use Rattle.m3_run_meaning.specs.Making.{HasNew}
use Rattle.m3_run_meaning.specs.NewTexts.{part_of, FillsText}
use Rattle.m3_run_state.specs.Seen.{state_of, program_of}
use Rattle.m3_run_state.proofs.BlankLemmas.{both_empty}
use Rattle.m3_run_state.proofs.parts.Parts.cut_into.Goals as goal

none : (n : ℕ) → n + 0 ≡ n
none n = omega arith

pub finish_text-requires-clause-new : goal.finish_text-requires-clause-new
finish_text-requires-clause-new g c =
    subst (λ (w : ℕ). HasNew 0 w c.args.start (state_of c.args.self.now)) (sym (c.words_for-words.ensures.words ∙ ap text_words (none c.args.count))) c.requires.new

pub returns-clause-fills : goal.returns-clause-fills
returns-clause-fills g c = λ t running.
    let m = c.args.self.now in
    let p = program_of m in
    let s = state_of m in
    let memory = memory_of p s in
    let progress = became c.finish_text.result (state_of c.finish_text.new.self) in
    subst (λ (x : ℕ). FillsText p c.args.i.a c.args.start (part_of memory x c.args.from c.args.count) s t progress) (c.word-text.ensures t running)
    (subst (λ (o : Option (List ℕ)). FillsText p c.args.i.a c.args.start o s t progress) (both_empty (part_of memory c.word-text.result c.args.from c.args.count))
    (c.finish_text.ensures.fills t running))
