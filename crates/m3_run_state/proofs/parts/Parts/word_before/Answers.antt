use Rattle.std.specs.Prelude.{◌≡◌, ◌≢◌, ◌+◌, slice_index, slice_set}
use Rattle.std.proofs.Common.{sym, ap, ◌∙◌, arith, ⊎_elim, get_or-set_other, get_or-set_same, length-set}
use Rattle.std.proofs.lemmas.Bool.{cases_eq}
use Rattle.m3_run_state.specs.Blanks.{both_bytes}
use Rattle.m3_run_state.proofs.Packing.{word_from}
use Rattle.m3_run_state.proofs.parts.Parts.word_before.Goals as goal

pub bytes-preserved : goal.bytes-preserved
bytes-preserved g c =
    let k = c.bytes.k in
    let inv = c.bytes.invariant in (
      length-set c.bytes.bytes k c.byte_of.result ∙ inv.0,
      λ before was j low. ⊎_elim
          (λ (same : j ≡ k).
          ap (λ n. slice_index (slice_set c.bytes.bytes k c.byte_of.result) n) same ∙ get_or-set_same c.bytes.bytes k c.byte_of.result 0 (omega (arith, inv.0))
          ∙ c.byte_of.ensures before was ∙ sym (ap (λ n. slice_index (both_bytes before c.args.left c.args.right) (c.args.from + n)) same))
          (λ (other : j ≢ k). get_or-set_other c.bytes.bytes k j c.byte_of.result 0 other ∙ inv.1 before was j (omega arith))
          (cases_eq j k),
    )

pub returns : goal.returns
returns g c = λ before was.
    let inv = c.bytes.invariant in
    word_from c.bytes.bytes (both_bytes before c.args.left c.args.right) c.args.from c.from_le_bytes.result inv.0 (λ j low. inv.1 before was j (omega arith)) c.from_le_bytes.ensures
