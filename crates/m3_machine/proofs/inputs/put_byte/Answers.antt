use Rattle.std.specs.Prelude.{ℕ, [], ◌∷◌, ◌%◌}
use Rattle.std.proofs.Common.{ap}
use Rattle.m3_machine.proofs.Cutting.{at_any, cut_as_told}
use Rattle.m3_machine.proofs.inputs.put_byte.Goals as goal

pub returns-in_err-put-clause-cut : goal.returns-in_err-put-clause-cut
returns-in_err-put-clause-cut g c = at_any _ c.from_residual.result (λ t running.
    cut_as_told g.O.Sink c.args.out.now c.put.new.self _ _ (ap (λ (x : ℕ). x % 256 ∷ []) (c.word.ensures t running)) c.in_err-put.ensures.failed.1)
