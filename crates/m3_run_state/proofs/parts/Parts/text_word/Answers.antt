use Rattle.std.specs.Prelude.{◌≡◌, ◌+◌, ◌-◌, ◌*◌, slice_index, take, drop}
use Rattle.std.proofs.Common.{sym, ap, ◌∙◌, arith}
use Rattle.m3_run_meaning.specs.Texts.{packed, text_rest}
use Rattle.m3_run_state.specs.Blanks.{both_bytes}
use Rattle.m3_run_state.proofs.BlankLemmas.{both_length, rest_word}
use Rattle.m3_run_state.proofs.parts.Parts.text_word.Goals as goal

pub returns : goal.returns
returns g c = λ before was.
    let bytes = both_bytes before c.args.left c.args.right in
    let many = both_length before c.args.left c.args.right in
    let from : (c.args.k - 1) * 8 ≡ 8 * (c.args.k - 1) = omega arith in
    let next : c.args.k - 1 + 1 ≡ c.args.k = omega arith in
    c.word_before.ensures before was ∙ ap (λ n. packed (take 8 (drop n bytes))) from
    ∙ sym (rest_word bytes (c.args.k - 1) (omega (arith, many, c.requires.there))) ∙ ap (λ n. slice_index (text_rest bytes) n) next

pub returns-then-k-eq0 : goal.returns-then-k-eq0
returns-then-k-eq0 g c = λ before was.
    sym (both_length before c.args.left c.args.right) ∙ ap (λ n. slice_index (text_rest (both_bytes before c.args.left c.args.right)) n) (sym c.if-k-eq0.true)
