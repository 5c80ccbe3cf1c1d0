use Rattle.std.proofs.Common.{◌≡◌, ◌++◌, drop}
use Rattle.std.specs.Prelude.{if◌then◌else◌}
use Rattle.m3_same_forms.specs.Forms.{insert}
use Rattle.m3_same_forms.proofs.forms.Form.insert.Given as goal

abbrev pub invariant-loop-term : goal.invariant-loop-term
invariant-loop-term l =
    l.terms.items ++ (if l.is_in then drop l.term-index l.term-items else insert l.symbol l.times (drop l.term-index l.term-items))
    ≡ insert l.symbol l.times l.term-items
