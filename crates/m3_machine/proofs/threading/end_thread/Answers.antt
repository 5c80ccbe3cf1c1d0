use Rattle.std.proofs.Common.{ap}
use Rattle.m3_run_meaning.specs.declared.progress.Progress.{Progress as Answer}
use Rattle.m3_run_meaning.specs.Progress.{became}
use Rattle.m3_run_state.specs.Seen.{state_of}
use Rattle.m3_machine.proofs.threading.end_thread.Goals as goal

pub returns-clause-ends : goal.returns-clause-ends
returns-clause-ends g c = λ few t running awake.
    let left = state_of c.end_with_threads.new.parts in
    record {
      done = c.end_with_threads.result;
      left = left;
      acts = c.end_with_threads.ensures.acts few t running awake;
      others = c.end_with_threads.ensures.others;
      became = ap (λ (a : Answer). became a left) c.told_end.ensures;
    }
