use Rattle.std.proofs.Common.{sym, ◌∙◌, subst}
use Rattle.m3_types_subtype.specs.Reaching.{IsVisited}
use Rattle.m3_types_subtype.proofs.Adding.{kept_added}
use Rattle.m3_types_subtype.proofs.reached.Reached.add.Goals as goal

pub returns-in_ok-push-clause-kept : goal.returns-in_ok-push-clause-kept
returns-in_ok-push-clause-kept c =
    subst (IsVisited c.insert.new.self) (sym c.in_ok-push.ensures.items) (kept_added c.args.self.now.seen c.insert.new.self c.args.self.now.places.items c.args.place c.ranges.place.fits c.requires (sym c.if-branch.true ∙ c.in_ok-insert.ensures.added) c.in_ok-insert.ensures.updates)
