use Rattle.std.proofs.Common.{ap, refl, ◌∙◌}
use Rattle.m3_ports.specs.Counts.{raised}
use Rattle.m3_ports.proofs.Newest.{Contains-along}
use Rattle.m3_ports.proofs.memory_shelf.MemShelfShelf.store.Goals as goal

pub returns-then-is_named-clause-only_named : goal.returns-then-is_named-clause-only_named
returns-then-is_named-clause-only_named c =
    λ _. Contains-along _ _ _ _
    (c.as_slice.ensures.value ∙ ap (λ h. h.failing) c.self.view_is)
    (c.saturating_add-self-inside.ensures ∙ ap (λ h. raised h.calls) c.self.view_is)
    (c.if-is_named.ensures.0 refl)
