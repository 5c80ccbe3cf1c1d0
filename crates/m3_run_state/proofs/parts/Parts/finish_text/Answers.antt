use Rattle.std.specs.Prelude.{◌≡◌, Bool, true, false}
use Rattle.std.proofs.Common.{sym, ap, subst, ◌∙◌, rules}
use Rattle.m3_run_meaning.specs.declared.progress.Progress.{Progress as Answer}
use Rattle.m3_run_meaning.specs.Progress.{became}
use Rattle.m3_run_meaning.specs.State.{memory_of}
use Rattle.m3_run_meaning.specs.Texts.{text_bytes}
use Rattle.m3_run_meaning.specs.Acts.{has_text}
use Rattle.m3_run_meaning.specs.NewTexts.{bytes_if, both, part_of, FillsText}
use Rattle.m3_run_state.specs.Seen.{state_of, program_of}
use Rattle.m3_run_state.proofs.Filling.{still_running}
use Rattle.m3_run_state.proofs.parts.Parts.finish_text.Goals as goal

pub returns-then-not-has_part-clause-fills : goal.returns-then-not-has_part-clause-fills
returns-then-not-has_part-clause-fills g c = λ t running.
    let m = c.args.self.now in
    let s = state_of m in
    let memory = memory_of (program_of m) s in
    let l = c.args.left in
    let r = c.args.right in
    let missing : c.has_part.result ≡ false = search rules in
    subst (λ (b : Bool). FillsText (program_of m) c.args.a c.args.blank.start (both (bytes_if b (text_bytes memory l.text l.from l.count)) (part_of memory r.text r.from r.count)) s t (became c.trap.result s))
    (sym missing ∙ c.has_part.ensures) (ap (λ (a : Answer). became a s) c.trap.ensures)

pub returns-then-not-has_part-2-clause-fills : goal.returns-then-not-has_part-2-clause-fills
returns-then-not-has_part-2-clause-fills g c = λ t running.
    let m = c.args.self.now in
    let s = state_of m in
    let memory = memory_of (program_of m) s in
    let l = c.args.left in
    let r = c.args.right in
    let fills = λ (x y : Bool). FillsText (program_of m) c.args.a c.args.blank.start (both (bytes_if x (text_bytes memory l.text l.from l.count)) (bytes_if y (text_bytes memory r.text r.from r.count))) s t (became c.trap-then-not-has_part-2.result s) in
    let there : c.has_part.result ≡ true = search rules in
    let missing : c.has_part-2.result ≡ false = search rules in
    subst (λ (x : Bool). fills x (has_text memory r.text r.from r.count)) (sym there ∙ c.has_part.ensures)
    (subst (λ (y : Bool). fills true y) (sym missing ∙ c.has_part-2.ensures) (ap (λ (a : Answer). became a s) c.trap-then-not-has_part-2.ensures))

pub returns-clause-fills : goal.returns-clause-fills
returns-clause-fills g c = λ t running.
    let m = c.args.self.now in
    let s = state_of m in
    let memory = memory_of (program_of m) s in
    let l = c.args.left in
    let r = c.args.right in
    let progress = became c.give.result (state_of c.give.new.self) in
    let fills = λ (x y : Bool). FillsText (program_of m) c.args.a c.args.blank.start (both (bytes_if x (text_bytes memory l.text l.from l.count)) (bytes_if y (text_bytes memory r.text r.from r.count))) s t progress in
    let there : c.has_part.result ≡ true = search rules in
    let there-too : c.has_part-2.result ≡ true = search rules in
    let becomes = c.fill_text.ensures.filled in
    let filled : fills true true = record {
      filled = state_of c.fill_text.new.self;
      becomes = becomes;
      goes = c.give.ensures.goes t (still_running s (state_of c.fill_text.new.self) t becomes.others running);
    } in
    subst (λ (x : Bool). fills x (has_text memory r.text r.from r.count)) (sym there ∙ c.has_part.ensures)
    (subst (λ (y : Bool). fills true y) (sym there-too ∙ c.has_part-2.ensures) filled)
