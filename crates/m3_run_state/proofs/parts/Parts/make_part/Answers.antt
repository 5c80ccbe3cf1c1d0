use Rattle.std.specs.Prelude.{ℕ, ◌≡◌, Result}
use Rattle.std.specs.Int.{cast_unsigned, w32}
use Rattle.std.proofs.Common.{refl, ap, subst, ◌∙◌, rules}
use Rattle.m3_base.specs.Words.{add_words}
use Rattle.m3_base.specs.declared.outcomes.Outcome.{Outcome}
use Rattle.m3_isa.specs.Effects.{reg}
use Rattle.m3_run_meaning.specs.Act.{or_trap}
use Rattle.m3_run_meaning.specs.Progress.{Ends, became}
use Rattle.m3_run_meaning.specs.State.{memory_of}
use Rattle.m3_run_meaning.specs.NewTexts.{Makes_text, Subs, sub_count, part_of}
use Rattle.m3_run_state.specs.Seen.{state_of, program_of}
use Rattle.m3_run_state.proofs.parts.Parts.make_part.Goals as goal

pub returns-in-Ok-clause-subs : goal.returns-in-Ok-clause-subs
returns-in-Ok-clause-subs g c = λ going t running.
    let m = c.args.self.now in
    let p = program_of m in
    let s = state_of m in
    let i = c.args.i in
    let memory = memory_of p s in
    let bytes = c.in-Ok.bytes in
    let progress = became c.make_cut.result (state_of c.make_cut.new.self) in
    let number : c.cast_unsigned-number.result ≡ cast_unsigned w32 i.imm = search rules in
    let told = c.in-Ok.ensures ∙ ap (λ (x : ℕ). or_trap 2 (memory (add_words x 1))) (c.word-text.ensures t running) in
    let cuts = λ (from most : ℕ). Makes_text p i.a s (sub_count bytes from most) (λ memory u. part_of memory (reg u.regs i.b) from (sub_count bytes from most)) progress in
    subst (λ (r : Result ℕ Outcome). Subs p t i s r progress) told
    (subst (λ (from : ℕ). cuts from (reg t.regs (cast_unsigned w32 i.imm))) (c.word-from.ensures t running)
    (subst (λ (most : ℕ). cuts c.word-from.result most) (c.named_word-most.ensures t running ∙ ap (λ (n : ℕ). reg t.regs n) number) (c.make_cut.ensures.makes going)))

pub returns-in-Err-clause-subs : goal.returns-in-Err-clause-subs
returns-in-Err-clause-subs g c = λ going t running.
    let m = c.args.self.now in
    let memory = memory_of (program_of m) (state_of m) in
    let told = c.in-Err.ensures ∙ ap (λ (x : ℕ). or_trap 2 (memory (add_words x 1))) (c.word-text.ensures t running) in
    subst (λ (r : Result ℕ Outcome). Subs (program_of m) t c.args.i (state_of m) r (Ends (state_of m) c.in-Err.outcome)) told refl
