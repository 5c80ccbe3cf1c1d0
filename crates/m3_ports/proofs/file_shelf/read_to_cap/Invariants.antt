use Rattle.std.proofs.Common.{◌≡◌, ◌+◌, ◌++◌, ℕ, List, length}
use Rattle.m3_ports.proofs.file_shelf.read_to_cap.Given as goal

abbrev pub invariant-loop-turn : goal.invariant-loop-turn
invariant-loop-turn g l =
    (got : List ℕ) × (l.into.items ≡ l.fn.into.items ++ got) × (length got + l.left ≡ l.cap)
