use Rattle.std.proofs.Common.{◌≡◌, ℕ, suc, ◌⊎◌}
use Rattle.std.specs.Prelude.{Contains}
use Rattle.std.specs.Option.{option_map_or}
use Rattle.m3_types.specs.Noting.{newest_of, IsNoted}
use Rattle.m3_types.proofs.places.PlaceIndex.noted.Given as goal

-- each place is listed, or is at the link or before it
abbrev pub invariant-loop-at : goal.invariant-loop-at
invariant-loop-at l = (p : ℕ) → IsNoted l.self.links.items (newest_of l.self.newest l.view l.id) p → Contains l.places.items p ⊎ IsNoted l.self.links.items l.at p

-- each link leads to an earlier one
abbrev pub decreases-loop-at : goal.decreases-loop-at
decreases-loop-at l = option_map_or suc l.at 0
