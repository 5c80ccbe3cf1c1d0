use Rattle.std.proofs.Common.{ap, ◌∙◌}
use Rattle.m3_ports.specs.Counts.{raised}
use Rattle.m3_ports.proofs.Newest.{Contains-along}
use Rattle.m3_ports.proofs.memory_shelf.MemShelfShelf.fetch.Goals as goal

pub returns-in-Err-Failed-clause-only_named : goal.returns-in-Err-Failed-clause-only_named
returns-in-Err-Failed-clause-only_named c =
    λ failed. Contains-along _ _ _ _
    (c.as_slice.ensures.value ∙ ap (λ h. h.failing) c.self.view_is)
    (c.saturating_add-self-inside.ensures ∙ ap (λ h. raised h.calls) c.self.view_is)
    (c.is_named-fails.ensures.0 (c.take_newest-answer.ensures.only_named failed))
