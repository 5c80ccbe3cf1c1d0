use Rattle.std.specs.Prelude.{ℕ, ◌+◌, ◌%◌, Option, unwrap_or}
use Rattle.std.proofs.Common.{ap, ◌∙◌}
use Rattle.m3_isa.specs.Arithmetic.{byte_in}
use Rattle.m3_run_state.proofs.parts.Parts.byte_before.Goals as goal

pub returns : goal.returns
returns g c = λ before was.
    ap (λ (w : ℕ). byte_in w ((c.args.part.from + c.args.n) % 8))
    (c.unwrap_or-word.ensures ∙ ap (λ (o : Option ℕ). unwrap_or o 0) (c.load_before.ensures before was))
