use Rattle.m3_image.specs.ProgramViews.{program_view}
use Rattle.m3_image.proofs.CoverLemmas.{none_past}
use Rattle.m3_image.proofs.image.ImageView.containing.Goals as goal

pub returns-clause-all : goal.returns-clause-all
returns-clause-all c = none_past (program_view c.args.self.now.program) c.args.instr c.containing.result c.args.self.now.sound c.containing.ensures
