use Rattle.std.proofs.Common.{◌∙◌}
use Rattle.m3_tables.specs.Sections.{is_tidy, is_listed}
use Rattle.m3_tables.specs.Views.{entry_of, entries_of, contents_of}
use Rattle.m3_tables.specs.Windows.{has_mark, MarkThose}
use Rattle.m3_tables.proofs.MarkLemmas.{next_those, no_marks, bases_stop, bases_go_on, apart_later}
use Rattle.m3_tables.proofs.form.Candidate.bases_fit.Goals as goal

pub returns-then-not-ways_known-clause-fit : goal.returns-then-not-ways_known-clause-fit
returns-then-not-ways_known-clause-fit c =
    let first = c.args.marks.now in
    let now = c.loop-entry.marks in
    let next = c.set_mark.new.marks in
    let before = entries_of c.loop-entry.later in
    let later = entries_of c.next.new.self in
    let inv = c.loop-entry.invariant in
    let those : MarkThose next c.args.from later = next_those first now next c.args.from (entry_of c.in-Some.entry) before later inv.length c.set_mark.ensures.length c.in-Some.ensures.steps c.set_mark.ensures.marked inv.marked inv.apart in
    bases_stop first next c.args.from (is_listed (is_tidy c.args.self.now.section.bytes.now c.args.self.now.row) (contents_of c.args.self.now.contents)) (entry_of c.in-Some.entry) before later (entries_of c.args.self.now.contents.derived) (c.set_mark.ensures.length ∙ inv.length) c.in-Some.ensures.steps inv.fit (c.if-not-ways_known.ensures later those)

pub loop-entry-preserved : goal.loop-entry-preserved
loop-entry-preserved c =
    let first = c.args.marks.now in
    let now = c.loop-entry.marks in
    let next = c.set_mark.new.marks in
    let before = entries_of c.loop-entry.later in
    let later = entries_of c.next.new.self in
    let inv = c.loop-entry.invariant in
    let those : MarkThose next c.args.from later = next_those first now next c.args.from (entry_of c.in-Some.entry) before later inv.length c.set_mark.ensures.length c.in-Some.ensures.steps c.set_mark.ensures.marked inv.marked inv.apart in
    record {
      fit = bases_go_on first next c.args.from (is_listed (is_tidy c.args.self.now.section.bytes.now c.args.self.now.row) (contents_of c.args.self.now.contents)) (entry_of c.in-Some.entry) before later (entries_of c.args.self.now.contents.derived) (c.set_mark.ensures.length ∙ inv.length) c.in-Some.ensures.steps inv.fit (c.if-not-ways_known.ensures later those);
      marked = those;
      apart = apart_later (has_mark first c.args.from) (entry_of c.in-Some.entry) before later c.in-Some.ensures.steps inv.apart;
      length = c.set_mark.ensures.length ∙ inv.length;
    }

pub returns-clause-clear : goal.returns-clause-clear
returns-clause-clear c = λ fits. no_marks c.loop-entry.marks c.args.from (entries_of c.loop-entry.later) c.in_default.ensures.steps.0 c.loop-entry.invariant.marked
