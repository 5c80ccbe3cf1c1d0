use Rattle.std.proofs.Common.{◌<◌, ℕ}
use Rattle.m3_types_valid.specs.Forms.{HasFormAt}
use Rattle.m3_types_valid.proofs.graphs.all_have_form.Given as goal

abbrev pub invariant-loop-place : goal.invariant-loop-place
invariant-loop-place l = (p : ℕ) → p < l.place → HasFormAt l.nodes p
