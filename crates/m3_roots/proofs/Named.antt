-- A thread of which something is told is there.
use Rattle.std.specs.Prelude.{◌≡◌, Option, Some, None, IsSome}
use Rattle.std.proofs.Common.{rules}
use Rattle.m3_threads.specs.declared.status.Thread.{Thread}
use Rattle.m3_threads.specs.Going.{of_thread}

pub is_named : {A : Type 0} (part : Thread → A) (o : Option Thread) (x : A) → of_thread part o ≡ Some x → IsSome o
is_named part None x e = cc
is_named part (Some t) x e = search rules
