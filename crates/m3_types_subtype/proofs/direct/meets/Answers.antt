use Rattle.std.proofs.Common.{refl, subst}
use Rattle.std.specs.Prelude.{IfSome}
use Rattle.m3_types_subtype.specs.Heights.{HasHeight}
use Rattle.m3_types_subtype.specs.Subtypes.{same}
use Rattle.m3_types_subtype.proofs.Levels.{same_height}
use Rattle.m3_types_subtype.proofs.direct.meets.Goals as goal

pub returns-then-heights_differ-clause-no : goal.returns-then-heights_differ-clause-no
returns-then-heights_differ-clause-no c = λ t d.
    let nodes = c.args.nodes.now in
    let s = c.in_ok-is_ruled.ensures.no c.if-branch.false d in
    let e = c.if-heights_differ.ensures refl in
    let mine = subst (λ o. IfSome o (λ m. HasHeight nodes c.args.a m)) e.2 c.requires.height in
    let other = subst (λ o. IfSome o (λ m. HasHeight nodes c.args.b m)) e.3 c.requires.goal in
    e.4 (same_height nodes c.args.a c.args.b e.0 e.1 s mine other)

pub returns-clause-yes : goal.returns-clause-yes
returns-clause-yes c = λ t. same (c.in_ok-same_types.ensures.0 t)
