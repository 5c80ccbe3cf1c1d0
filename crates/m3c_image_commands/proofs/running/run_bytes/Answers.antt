use Rattle.std.proofs.Common.{refl}
use Rattle.m3c_image_commands.proofs.RunLemmas.{ends_image, refuses_image}
use Rattle.m3c_image_commands.proofs.running.run_bytes.Goals as goal

pub returns-in-Ok : goal.returns-in-Ok
returns-in-Ok g c = ends_image c.args.bytes.now _ _ _ c.run_view.result _ c.in-Ok.ensures.ok c.run_view.ensures

pub returns-in-Err : goal.returns-in-Err
returns-in-Err g c = refuses_image c.args.bytes.now _ _ _ c.in-Err.answer c.in-Err.ensures.err.0 refl
