use Rattle.m3_tables.specs.Sections.{is_tidy, is_listed}
use Rattle.m3_tables.specs.Views.{entries_of, contents_of}
use Rattle.m3_tables.proofs.MarkLemmas.{window_by}
use Rattle.m3_tables.proofs.form.Candidate.window_fits.Goals as goal

pub returns-clause-fit : goal.returns-clause-fit
returns-clause-fit c =
    window_by c.args.marks.now c.mark_places.new.marks c.args.from (is_listed (is_tidy c.args.self.now.section.bytes.now c.args.self.now.row) (contents_of c.args.self.now.contents)) (entries_of c.args.self.now.contents.derived) c.bases_fit.result c.mark_places.ensures.length c.if-not-mark_places.ensures.apart c.if-not-paths_are_free.ensures c.bases_fit.ensures.fit
