use Rattle.m3_tables.proofs.SectionLemmas.{good_rises}
use Rattle.m3_tables.proofs.row.Row.tidy.Goals as goal

pub is_tidy-requires-clause-rises : goal.is_tidy-requires-clause-rises
is_tidy-requires-clause-rises c = λ k le. good_rises c.args.self.now.section.bytes.now k (c.args.self.now.good k le)
