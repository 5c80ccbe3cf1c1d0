use Rattle.std.proofs.Common.{sym, ◌∙◌, ap}
use Rattle.m3_types_subtype.specs.Views.{bound_at, itself}
use Rattle.m3_types_subtype.proofs.seen.visible.Goals as goal

pub returns-in-None : goal.returns-in-None
returns-in-None c = itself (ap (λ nodes. bound_at nodes c.args.t.0) (sym c.deref.ensures.value) ∙ sym c.in-None.ensures)
