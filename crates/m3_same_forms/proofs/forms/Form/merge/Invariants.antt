use Rattle.std.proofs.Common.{◌≡◌, drop}
use Rattle.m3_same_forms.specs.Forms.{merge}
use Rattle.m3_same_forms.proofs.forms.Form.merge.Given as goal

abbrev pub invariant-loop-term : goal.invariant-loop-term
invariant-loop-term l = merge (drop l.term-index l.term-items) l.sum ≡ merge l.term-items l.fn.other
