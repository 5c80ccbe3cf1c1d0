use Rattle.std.proofs.Common.{◌≡◌, true, Some, sym, ◌∙◌, ap, subst}
use Rattle.m3_types_subtype.specs.Assignments.{Members}
use Rattle.m3_types_subtype.specs.Ranges.{members}
use Rattle.m3_types_subtype.specs.Sameness.{Same}
use Rattle.m3_types_subtype.proofs.assigning.share_member.Goals as goal

members_is : (m n : Members) → Some m ≡ Some n → m ≡ n
members_is m n h = cc

pub returns-clause-no : goal.returns-clause-no
returns-clause-no c = λ f s.
    let nodes = c.args.nodes.now in
    let mine : s.0.base ≡ c.in-Some.mine.base = ap (λ m. m.base) (members_is s.0 (members c.in-Some.mine) (sym s.2 ∙ sym c.in-Some.ensures)) in
    let other : s.1.base ≡ c.in-Some-range_at.other.base = ap (λ m. m.base) (members_is s.1 (members c.in-Some-range_at.other) (sym s.3 ∙ sym c.in-Some-range_at.ensures)) in
    let same : Same nodes c.in-Some.mine.base c.in-Some-range_at.other.base = subst (λ k. Same nodes k c.in-Some-range_at.other.base) mine (subst (Same nodes s.0.base) other s.5) in
    let t : c.in_ok-same_types.field-0 ≡ true = c.in_ok-same_types.ensures.1 same in
    let z : ⊥ = cc in
    z
