use Rattle.std.proofs.Common.{refl}
use Rattle.m3c_image_commands.proofs.RunLemmas.{refuses_dump}
use Rattle.m3c_image_commands.proofs.dumping.dump_bytes.Goals as goal

pub returns-in-Err : goal.returns-in-Err
returns-in-Err g c = refuses_dump c.args.bytes.now _ c.in-Err.answer c.in-Err.ensures.err.0 refl
