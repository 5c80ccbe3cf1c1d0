use Rattle.std.specs.Prelude.{ℕ, ◌≡◌, ◌+◌, take, Option, unwrap_or}
use Rattle.std.proofs.Common.{refl, sym, ap, ◌∙◌, arith}
use Rattle.m3_base.specs.Words.{add_words}
use Rattle.m3_run_meaning.specs.State.{memory_of}
use Rattle.m3_run_meaning.specs.Texts.{text_byte}
use Rattle.m3_run_state.specs.Seen.{state_of, program_of}
use Rattle.m3_run_state.proofs.TextBytes.{word_bytes}
use Rattle.m3_run_state.proofs.Putting.{start_pieces, more_pieces, cut_pieces, at_any}
use Rattle.m3_run_state.proofs.parts.Parts.put_part.Goals as goal

pub pieces-init : goal.pieces-init
pieces-init g c =
    let m = c.args.self.now in
    (refl, start_pieces (g.O.Sink.taken c.args.out.now) (text_byte (memory_of (program_of m) (state_of m)) c.args.part.text) c.args.part.count)

pub pieces-preserved : goal.pieces-preserved
pieces-preserved g c =
    let m = c.args.self.now in
    let memory = memory_of (program_of m) (state_of m) in
    let text = c.args.part.text in
    let k = c.pieces.k in
    let word : unwrap_or (memory (add_words text (2 + k))) 0 ≡ c.unwrap_or-word.result = sym (c.unwrap_or-word.ensures ∙ ap (λ (o : Option ℕ). unwrap_or o 0) c.load.ensures) in
    let left = c.bytes_in-left.ensures in (
      c.in_ok-put.ensures.kept ∙ c.pieces.invariant.0,
      more_pieces (g.O.Sink.taken c.args.out.now) (g.O.Sink.taken c.pieces.out) (g.O.Sink.taken c.put.new.self) (text_byte memory text) c.args.part.count k c.bytes_in-left.result _
          left.below left.value c.pieces.invariant.1 c.in_ok-put.ensures.ok (ap (take c.bytes_in-left.result) c.to_le_bytes-bytes.ensures ∙ word_bytes memory text k c.bytes_in-left.result c.unwrap_or-word.result (omega (arith, left.value)) word),
    )

pub returns-in_err-put-clause-cut : goal.returns-in_err-put-clause-cut
returns-in_err-put-clause-cut g c =
    let m = c.args.self.now in
    let memory = memory_of (program_of m) (state_of m) in
    let text = c.args.part.text in
    let k = c.pieces.k in
    let word : unwrap_or (memory (add_words text (2 + k))) 0 ≡ c.unwrap_or-word.result = sym (c.unwrap_or-word.ensures ∙ ap (λ (o : Option ℕ). unwrap_or o 0) c.load.ensures) in
    let left = c.bytes_in-left.ensures in
    at_any _ c.from_residual.result
    (cut_pieces g.O.Sink c.args.out.now c.pieces.out c.put.new.self (text_byte memory text) c.args.part.count k c.bytes_in-left.result _
    left.below left.value c.pieces.invariant.1 c.in_err-put.ensures.failed.1
    (ap (take c.bytes_in-left.result) c.to_le_bytes-bytes.ensures ∙ word_bytes memory text k c.bytes_in-left.result c.unwrap_or-word.result (omega (arith, left.value)) word))
