use Rattle.std.proofs.Common.{◌≡◌, drop}
use Rattle.m3_same_forms.specs.Facts.{known}
use Rattle.m3_same_forms.proofs.facts.known.Given as goal

abbrev pub invariant-loop-known : goal.invariant-loop-known
invariant-loop-known l = known l.query (drop l.known-index l.knowns) ≡ known l.query l.knowns
