use Rattle.std.proofs.Common.{◌≡◌}
use Rattle.std.specs.Ordering.{nat_cmp}
use Rattle.std.specs.Cmp.Lexicographic.{slice_cmp}
use Rattle.std.specs.FinMap.{get, find}
use Rattle.std.specs.VecDeque.Iter.{deque_iter_rest}
use Rattle.m3_ports.specs.Files.{files_of}
use Rattle.m3_ports.proofs.memory_shelf.newest.Given as goal

abbrev pub invariant-loop-held : goal.invariant-loop-held
invariant-loop-held l = get (files_of l.log.items) l.name ≡ find (slice_cmp nat_cmp) l.name (deque_iter_rest l.held-iterator)
