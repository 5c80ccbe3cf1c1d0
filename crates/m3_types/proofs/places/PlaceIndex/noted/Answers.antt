use Rattle.std.proofs.Common.{sym, subst}
use Rattle.std.specs.Prelude.{Contains}
use Rattle.m3_types.specs.Noting.{IsNoted}
use Rattle.m3_types.proofs.Noting.{link_smaller, link_done, link_gone}
use Rattle.m3_types.proofs.places.PlaceIndex.noted.Goals as goal

pub loop-at-smaller : goal.loop-at-smaller
loop-at-smaller c = link_smaller c.args.self.now.links.items c.args.self.now.descends c.loop-at.at c.in-Some.number c.in-Some-link.link c.in-Some.is (sym c.in-Some-link.ensures)

pub loop-at-preserved : goal.loop-at-preserved
loop-at-preserved c = λ p h.
    link_done c.args.self.now.links.items c.loop-at.at c.in-Some.number c.in-Some-link.link c.in-Some.is (sym c.in-Some-link.ensures) c.loop-at.places.items c.push.new.self.items c.in_ok-push.ensures.items p (c.loop-at.invariant p h)

pub returns-in_default-link : goal.returns-in_default-link
returns-in_default-link c = λ p h.
    link_gone c.args.self.now.links.items c.loop-at.at c.in-Some.number c.in-Some.is (sym c.in_default-link.ensures) c.loop-at.places.items p (c.loop-at.invariant p h)
