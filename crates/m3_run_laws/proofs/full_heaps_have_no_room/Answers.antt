use Rattle.m3_run_laws.proofs.Agreeing.{full_exactly}
use Rattle.m3_run_laws.proofs.full_heaps_have_no_room.Goals as goal

pub returns : goal.returns
returns c = full_exactly
