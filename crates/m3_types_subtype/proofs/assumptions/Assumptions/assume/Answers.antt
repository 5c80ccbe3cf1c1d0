use Rattle.std.proofs.Common.{◌≡◌, ℕ, ◌+◌, ◌<◌, sym, subst}
use Rattle.std.specs.Prelude.{if◌then◌else◌}
use Rattle.m3_types_subtype.specs.Classes.{parent_of, root_count}
use Rattle.m3_types_subtype.specs.Assumptions.{IsKept}
use Rattle.m3_types_subtype.proofs.Keeping.{kept_joined}
use Rattle.m3_types_subtype.proofs.assumptions.Assumptions.assume.Goals as goal

pub returns-in_ok-push-clause-kept : goal.returns-in_ok-push-clause-kept
returns-in_ok-push-clause-kept c =
    let f = parent_of c.args.self.now.classes.parents in
    let g = parent_of c.join.new.self.parents in
    let e = c.in_ok-join.ensures in
    subst (IsKept g) (sym c.in_ok-push.ensures.items) (kept_joined f g c.args.self.now.pairs.items c.args.x c.args.y c.ranges.x.fits c.ranges.y.fits c.requires e.joined e.keeps e.only (subst (λ b. (n : ℕ) → c.args.x < n → c.args.y < n → root_count g n + (if b then 1 else 0) ≡ root_count f n) c.if-branch.true e.count))
