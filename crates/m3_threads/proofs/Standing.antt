-- The status of a thread at an instruction that waits for nothing.
use Rattle.std.proofs.Common.{◌≡◌, ◌≢◌, ℕ, refl}
use Rattle.m3_isa.specs.declared.instructions.Op.{Op}
use Rattle.m3_isa.specs.declared.instructions.Op.TheVariants.{Acq, Join, Ajoin}
use Rattle.m3_threads.specs.declared.status.Status.TheVariants.{Ready}
use Rattle.m3_threads.specs.Going.{status_at_of}

pub stands_ready : (op : Op) (a b : ℕ) → op ≢ Acq → op ≢ Join → op ≢ Ajoin → status_at_of op a b ≡ Ready
stands_ready Acq a b m n o = absurd (m refl)
stands_ready Join a b m n o = absurd (n refl)
stands_ready Ajoin a b m n o = absurd (o refl)
stands_ready _ a b m n o = refl
