use Rattle.std.proofs.Common.{◌≡◌, drop}
use Rattle.m3_same_forms.specs.Forms.{mark_onto}
use Rattle.m3_same_forms.proofs.forms.Form.mark.Given as goal

abbrev pub invariant-loop-term : goal.invariant-loop-term
invariant-loop-term l = mark_onto l.out (drop l.term-index l.term-items) ≡ mark_onto 0 l.term-items
