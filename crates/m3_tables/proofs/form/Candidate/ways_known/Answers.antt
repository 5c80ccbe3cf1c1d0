use Rattle.std.proofs.Common.{ℕ, Bool, not, ◌||◌}
use Rattle.m3_tables.specs.Rows.{Bases}
use Rattle.m3_tables.specs.Sections.{is_tidy, is_listed, bases_known}
use Rattle.m3_tables.specs.Views.{bases_of, ways_of, entry_of, contents_of}
use Rattle.m3_tables.specs.Windows.{has_mark}
use Rattle.m3_tables.proofs.MarkLemmas.{list_stops, list_goes_on, list_ends}
use Rattle.m3_tables.proofs.form.Candidate.ways_known.Goals as goal

pub returns-then-not-way_known : goal.returns-then-not-way_known
returns-then-not-way_known c = λ later those.
    let test : Bases → Bool = bases_known (λ (l : ℕ). not (has_mark c.args.marks.now c.args.from l) || is_listed (is_tidy c.args.self.now.section.bytes.now c.args.self.now.row) (contents_of c.args.self.now.contents) l) later in
    list_stops test (ways_of c.loop-way.way-iterator) (ways_of c.next.new.self) (entry_of c.args.entry.now).ways (bases_of c.in-Some.way) c.in-Some.ensures.steps (c.loop-way.invariant later those) (c.if-not-way_known.ensures later those)

pub loop-way-preserved : goal.loop-way-preserved
loop-way-preserved c = λ later those.
    let test : Bases → Bool = bases_known (λ (l : ℕ). not (has_mark c.args.marks.now c.args.from l) || is_listed (is_tidy c.args.self.now.section.bytes.now c.args.self.now.row) (contents_of c.args.self.now.contents) l) later in
    list_goes_on test (ways_of c.loop-way.way-iterator) (ways_of c.next.new.self) (entry_of c.args.entry.now).ways (bases_of c.in-Some.way) c.in-Some.ensures.steps (c.loop-way.invariant later those) (c.if-not-way_known.ensures later those)

pub returns : goal.returns
returns c = λ later those.
    let test : Bases → Bool = bases_known (λ (l : ℕ). not (has_mark c.args.marks.now c.args.from l) || is_listed (is_tidy c.args.self.now.section.bytes.now c.args.self.now.row) (contents_of c.args.self.now.contents) l) later in
    list_ends test (ways_of c.loop-way.way-iterator) (entry_of c.args.entry.now).ways c.in-None.ensures.steps.0 (c.loop-way.invariant later those)
