use Rattle.std.proofs.Common.{arith}
use Rattle.std.proofs.lemmas.Grind.{common_steps}
use Rattle.m3_image_sections.specs.Parts.{proc_in}
use Rattle.m3_image_writer.specs.Again.{ReadsFixed}
use Rattle.m3_image_writer.specs.Sections.{proc_bytes}
use Rattle.m3_image_writer.proofs.Joined.{holds_on_ok, all_more_at, all_told}
use Rattle.m3_image_writer.proofs.AgainImage.{procs_again}
use Rattle.m3_image_writer.proofs.sections.put_procs.Goals as goal

pub loop-proc-preserved : goal.loop-proc-preserved
loop-proc-preserved c =
    record {
      bytes = grind (arith, common_steps);
      again = all_more_at (λ p. ReadsFixed 16 proc_in (proc_bytes p) p) c.args.procs.now c.loop-proc.proc-index _ c.loop-proc-test.true c.loop-proc.invariant.again c.in_ok-put_proc.ensures.again;
    }

pub returns-clause-again : goal.returns-clause-again
returns-clause-again c = holds_on_ok c.put_text.result _ (procs_again c.args.procs.now (all_told (λ p. ReadsFixed 16 proc_in (proc_bytes p) p) c.args.procs.now c.loop-proc.proc-index c.loop-proc-test.false c.loop-proc.invariant.again))
