use Rattle.std.specs.Prelude.{ℕ, ◌≡◌, ◌+◌, true, false, is_some}
use Rattle.std.proofs.Common.{sym, ap, ◌∙◌, arith, rules}
use Rattle.m3_base.specs.Words.{add_words}
use Rattle.m3_isa.specs.Effects.{every}
use Rattle.m3_isa.proofs.Every.{every-fails}
use Rattle.m3_run_meaning.specs.State.{memory_of}
use Rattle.m3_run_state.specs.Seen.{state_of, program_of}
use Rattle.m3_run_state.proofs.TextBytes.{every_more}
use Rattle.m3_run_state.proofs.parts.Parts.has_words.Goals as goal

pub words-preserved : goal.words-preserved
words-preserved g c =
    let m = c.args.self.now in
    let there = λ (k : ℕ). is_some (memory_of (program_of m) (state_of m) (add_words c.args.text (2 + (c.args.first + k)))) in
    let one : there c.words.k ≡ true = search rules in
    every_more there c.words.k c.words.invariant one

pub returns-then-is_none : goal.returns-then-is_none
returns-then-is_none g c =
    let m = c.args.self.now in
    let there = λ (k : ℕ). is_some (memory_of (program_of m) (state_of m) (add_words c.args.text (2 + (c.args.first + k)))) in
    let none : there c.words.k ≡ false = search rules in
    sym (every-fails there c.words.k c.args.many c.words-test.true none)

pub returns : goal.returns
returns g c =
    let m = c.args.self.now in
    let there = λ (k : ℕ). is_some (memory_of (program_of m) (state_of m) (add_words c.args.text (2 + (c.args.first + k)))) in
    let all : c.words.k ≡ c.args.many = omega arith in
    sym (sym (ap (λ (n : ℕ). every there n) all) ∙ c.words.invariant)
