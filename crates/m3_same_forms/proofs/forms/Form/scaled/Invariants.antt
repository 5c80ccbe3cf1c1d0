use Rattle.std.proofs.Common.{◌≡◌, ◌++◌, drop}
use Rattle.m3_same_forms.specs.Forms.{scaled}
use Rattle.m3_same_forms.proofs.forms.Form.scaled.Given as goal

abbrev pub invariant-loop-term : goal.invariant-loop-term
invariant-loop-term l =
    l.terms.items ++ scaled l.factor (drop l.term-index l.term-items) ≡ scaled l.factor l.term-items
