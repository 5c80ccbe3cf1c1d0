use Rattle.std.proofs.Common.{rules}
use Rattle.m3_image.proofs.program.Places.has_file.Goals as goal

pub returns : goal.returns
returns c = rw c.args.self.now.held (search rules)
