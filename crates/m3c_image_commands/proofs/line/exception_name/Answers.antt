use Rattle.std.proofs.Common.{ℕ, List, length, ◌≤◌, ap, sym, ◌∙◌, subst}
use Rattle.m3_image.specs.Views.{image_view}
use Rattle.m3c_image_commands.specs.Reports.{name_bytes, longest_name}
use Rattle.m3c_image_commands.proofs.LineLemmas.{exception_within}
use Rattle.m3c_image_commands.proofs.line.exception_name.Goals as goal

pub returns-clause-short : goal.returns-clause-short
returns-clause-short c =
    subst (λ (n : List ℕ). length n ≤ longest_name (image_view c.args.image.now)) (sym (c.name_bytes.ensures ∙ ap name_bytes c.exception.ensures))
    (exception_within (image_view c.args.image.now) c.args.exception)
