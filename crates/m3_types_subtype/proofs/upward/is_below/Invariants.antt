use Rattle.std.proofs.Common.{◌-◌, ◌≤◌, ◌^◌, length, take, All}
use Rattle.m3_types_subtype.specs.Subtypes.{Steps}
use Rattle.m3_types_subtype.specs.Heights.{AreHeights}
use Rattle.m3_types_subtype.specs.Reaching.{IsVisited, IsDone, Has}
use Rattle.m3_types_subtype.proofs.upward.is_below.Given as goal

-- each type of the list is reached, and those before the next one have all their steps in it
abbrev pub invariant-loop-next : goal.invariant-loop-next
invariant-loop-next l = record {
  heights : AreHeights l.graph.nodes.items l.heights.known;
  kept : IsVisited l.reached.seen l.reached.places.items;
  first : Has l.reached.places.items l.a;
  place : l.next ≤ length l.reached.places.items;
  sound : All (Steps l.graph.nodes.items l.graph.reveals.items l.view l.a) l.reached.places.items;
  done : All (IsDone l.graph.nodes.items l.graph.reveals.items l.view l.b l.reached.places.items) (take l.next l.reached.places.items);
}

-- there are no more types than numbers
abbrev pub decreases-loop-next : goal.decreases-loop-next
decreases-loop-next l = 2 ^ 64 - l.next
