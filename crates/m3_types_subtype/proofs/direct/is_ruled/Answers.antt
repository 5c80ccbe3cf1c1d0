use Rattle.std.proofs.Common.{◌≡◌, Bool, true, false, refl}
use Rattle.std.specs.Prelude.{IsTrue}
use Rattle.m3_types_subtype.specs.Subtypes.{null, refany, root, subrange, array, procedure}
use Rattle.m3_types_subtype.proofs.Refuting.{only_same}
use Rattle.m3_types_subtype.proofs.direct.is_ruled.Goals as goal
use Rattle.m3_types_subtype.proofs.direct.is_ruled.Goals.{then-null_below-via-then-null_below, then-null_below-via-else-null_below+then-refany_above, then-null_below-via-else-null_below+else-refany_above+then-root_above}

pub returns-then-null_below-clause-yes : goal.returns-then-null_below-clause-yes
returns-then-null_below-clause-yes c = λ t.
    elim c.then-null_below.branch [
      | then-null_below-via-then-null_below w ↦ null (w.if-null_below.ensures.0 refl)
      | then-null_below-via-else-null_below+then-refany_above w ↦ refany (w.if-refany_above.ensures.0 refl)
      | then-null_below-via-else-null_below+else-refany_above+then-root_above w ↦ root (w.if-root_above.ensures.0 refl)
    ]

pub returns-then-branch-clause-yes : goal.returns-then-branch-clause-yes
returns-then-branch-clause-yes c = λ t. subrange (c.in_ok-subrange_below.ensures.0 c.if-branch.true)

pub returns-then-branch-2-clause-yes : goal.returns-then-branch-2-clause-yes
returns-then-branch-2-clause-yes c = λ t. procedure (c.in_ok-procedure_below.ensures.0 c.if-branch-2.true)

-- an answer that is false refutes what the answer true would follow from
by_false : {P : Type 0} (answer : Bool) → answer ≡ false → (P → IsTrue answer) → P → ⊥
by_false answer f h p = let t : answer ≡ true = h p in let z : ⊥ = cc in z

pub returns-clause-yes : goal.returns-clause-yes
returns-clause-yes c = λ t. array (c.in_ok-array_below.ensures.0 t)

pub returns-clause-no : goal.returns-clause-no
returns-clause-no c = λ t.
    only_same c.args.nodes.now c.args.a c.args.b
    (by_false false refl c.if-null_below.ensures.1)
    (by_false false refl c.if-refany_above.ensures.1)
    (by_false false refl c.if-root_above.ensures.1)
    (by_false c.in_ok-subrange_below.field-0 c.if-branch.false c.in_ok-subrange_below.ensures.1)
    (by_false c.in_ok-array_below.field-0 t c.in_ok-array_below.ensures.1)
    (by_false c.in_ok-procedure_below.field-0 c.if-branch-2.false c.in_ok-procedure_below.ensures.1)
