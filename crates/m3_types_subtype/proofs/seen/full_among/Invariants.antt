use Rattle.std.proofs.Common.{◌≡◌, true, take}
use Rattle.std.specs.Prelude.{Contains}
use Rattle.m3_types.specs.declared.nodes.Reveal.{Reveal}
use Rattle.m3_types_subtype.proofs.seen.full_among.Given as goal

-- none of the reveals so far is full and applies
abbrev pub invariant-loop-reveal : goal.invariant-loop-reveal
invariant-loop-reveal l = (r : Reveal) → Contains (take l.reveal-index l.found) r → r.view ≡ l.view → r.opaque ≡ l.t → r.full ≡ true → ⊥
