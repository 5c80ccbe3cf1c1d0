use Rattle.std.specs.Prelude.{◌≡◌, false, true, None, Some}
use Rattle.std.proofs.Common.{refl, sym, ap, ◌∙◌, rules}
use Rattle.m3_isa.specs.Effects.{next}
use Rattle.m3_run_meaning.specs.declared.progress.Progress.{Progress as Answer}
use Rattle.m3_run_meaning.specs.Act.{Puts, stops_with_trap}
use Rattle.m3_run_meaning.specs.Progress.{became}
use Rattle.m3_run_meaning.specs.State.{memory_of}
use Rattle.m3_run_meaning.specs.Texts.{text_bytes}
use Rattle.m3_run_meaning.specs.Acts.{puts_text}
use Rattle.m3_run_state.specs.Seen.{state_of, program_of}
use Rattle.m3_run_state.proofs.TextBytes.{put_none}
use Rattle.m3_run_state.proofs.Putting.{put_loaded, put_found, put_as, cut_as, at_any}
use Rattle.m3_run_state.proofs.parts.Parts.put_text.Goals as goal

pub returns-in-None-clause-puts : goal.returns-in-None-clause-puts
returns-in-None-clause-puts g c = λ t running.
    let m = c.args.self.now in
    let s = state_of m in
    let p = program_of m in
    let memory = memory_of p s in
    let taken = g.O.Sink.taken c.args.out.now in
    put_as p s (became c.trap.result s) taken taken (stops_with_trap 2) (puts_text c.args.i t.regs memory)
    (put_loaded c.args.i t.regs memory c.word-text.result None (c.word-text.ensures t running) c.in-None.ensures)
    (put_none taken, ap (λ (a : Answer). became a s) c.trap.ensures)

pub returns-then-not-has_part-clause-puts : goal.returns-then-not-has_part-clause-puts
returns-then-not-has_part-clause-puts g c = λ t running.
    let m = c.args.self.now in
    let s = state_of m in
    let p = program_of m in
    let memory = memory_of p s in
    let taken = g.O.Sink.taken c.args.out.now in
    let text = c.word-text.result in
    let missing : c.has_part.result ≡ false = search rules in
    put_as p s (became c.trap-then-not-has_part.result s) taken taken (stops_with_trap 2) (puts_text c.args.i t.regs memory)
    (put_found memory text c.in-Some.count t.regs false (sym missing ∙ c.has_part.ensures)
    ∙ put_loaded c.args.i t.regs memory text (Some c.in-Some.count) (c.word-text.ensures t running) c.in-Some.ensures)
    (put_none taken, ap (λ (a : Answer). became a s) c.trap-then-not-has_part.ensures)

pub returns-clause-puts : goal.returns-clause-puts
returns-clause-puts g c = λ t running.
    let m = c.args.self.now in
    let s = state_of m in
    let p = program_of m in
    let memory = memory_of p s in
    let text = c.word-text.result in
    let there : c.has_part.result ≡ true = search rules in
    put_as p s (became c.go_on.result (state_of c.go_on.new.self)) (g.O.Sink.taken c.args.out.now) (g.O.Sink.taken c.put_part.new.out)
    (Puts (text_bytes memory text 0 c.in-Some.count) (next t.regs)) (puts_text c.args.i t.regs memory)
    (put_found memory text c.in-Some.count t.regs true (sym there ∙ c.has_part.ensures)
    ∙ put_loaded c.args.i t.regs memory text (Some c.in-Some.count) (c.word-text.ensures t running) c.in-Some.ensures)
    (c.in_ok-put_part.ensures.took, c.go_on.ensures.goes t running)

pub returns-in_err-put_part-clause-cut : goal.returns-in_err-put_part-clause-cut
returns-in_err-put_part-clause-cut g c = at_any _ c.from_residual.result (λ t running.
    let m = c.args.self.now in
    let memory = memory_of (program_of m) (state_of m) in
    let text = c.word-text.result in
    let there : c.has_part.result ≡ true = search rules in
    cut_as g.O.Sink c.args.out.now c.put_part.new.out (text_bytes memory text 0 c.in-Some.count) (next t.regs)
    (Puts (text_bytes memory text 0 c.in-Some.count) (next t.regs)) (puts_text c.args.i t.regs memory)
    (put_found memory text c.in-Some.count t.regs true (sym there ∙ c.has_part.ensures)
    ∙ put_loaded c.args.i t.regs memory text (Some c.in-Some.count) (c.word-text.ensures t running) c.in-Some.ensures)
    refl c.in_err-put_part.ensures.cut)
