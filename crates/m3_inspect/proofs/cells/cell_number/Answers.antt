use Rattle.std.proofs.Common.{ℕ, ◌+◌, ap, ◌∙◌}
use Rattle.m3_inspect.proofs.CellLemmas.{number_inserted, with_inserted}
use Rattle.m3_inspect.proofs.cells.cell_number.Goals as goal

pub returns-clause-number : goal.returns-clause-number
returns-clause-number c =
    ap (λ (n : ℕ). n + 1) c.in_ok-place.ensures.index ∙ number_inserted c.args.cells.now.keys c.args.at

pub returns-clause-cells : goal.returns-clause-cells
returns-clause-cells c = c.in_ok-place.ensures.keys ∙ with_inserted c.args.cells.now.keys c.args.at
