use Rattle.std.proofs.lemmas.Option.{slice_get-get_or}
use Rattle.m3_run_memory_tests.proofs.steps.run_over.Goals as goal

pub step_over-requires : goal.step_over-requires
step_over-requires g c = c.requires c.loop-i.i-index _ (slice_get-get_or c.args.code.now c.loop-i.i-index _ c.loop-i-test.true)
