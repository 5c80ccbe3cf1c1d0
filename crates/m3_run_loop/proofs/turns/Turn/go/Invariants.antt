use Rattle.std.specs.Prelude.{◌≡◌, ◌≤◌, ◌-◌}
use Rattle.m3_image_decoded.specs.Ready.{image_of}
use Rattle.m3_run_loop.specs.Leading.{Track, KeepsWhole, Stands_in, further}
use Rattle.m3_run_loop.proofs.turns.Turn.go.Given as goal

-- the memory keeps what it had, and where the turn stood at first, there it stands after so many points and instructions
abbrev pub invariant-steps : goal.invariant-steps
invariant-steps g l =
    let p = (image_of l.self.image.now).program in
    let first = l.initial.fuel in
    let now = l.fuel in
    (now.left ≤ first.left)
    × (now.points ≤ first.points)
    × (now.points ≡ first.points → now.floor ≡ first.floor)
    × KeepsWhole l.initial.memory l.memory
    × ((k : Track) → Stands_in p k l.self.stack first.limit (first.left - first.floor) first.points l.initial.r l.initial.at l.initial.memory
    → Stands_in p (further k (first.points - now.points) (first.left - now.left)) l.self.stack now.limit (now.left - now.floor) now.points l.r l.at l.memory)

abbrev pub decreases-steps : goal.decreases-steps
decreases-steps g l = l.fuel.left
