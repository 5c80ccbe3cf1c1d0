use Rattle.m3_tables.proofs.SectionLemmas.{good_rises}
use Rattle.m3_tables.proofs.row.Row.is_within.Goals as goal

pub all_tidy_below-requires-clause-rises : goal.all_tidy_below-requires-clause-rises
all_tidy_below-requires-clause-rises c = λ k le. good_rises c.args.self.now.section.bytes.now k (c.args.self.now.good k le)
