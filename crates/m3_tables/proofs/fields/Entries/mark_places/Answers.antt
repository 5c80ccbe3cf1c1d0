use Rattle.std.proofs.Common.{rules, ◌≡◌, ◌∙◌}
use Rattle.m3_tables.specs.Views.{entry_of, entries_of}
use Rattle.m3_tables.proofs.MarkLemmas.{start_marked, start_apart, next_marked, next_apart}
use Rattle.m3_tables.proofs.fields.Entries.mark_places.Goals as goal

pub loop-entry-init : goal.loop-entry-init
loop-entry-init c =
    let same : entries_of c.into_iter-entry-iterator.result ≡ entries_of c.args.self = cc in
    record {
      marked = start_marked c.args.marks.now c.args.from (entries_of c.into_iter-entry-iterator.result) (entries_of c.args.self) same c.requires;
      apart = start_apart c.args.marks.now c.args.from (entries_of c.into_iter-entry-iterator.result) (entries_of c.args.self) same c.requires;
      length = search rules;
    }

pub loop-entry-preserved : goal.loop-entry-preserved
loop-entry-preserved c =
    let first = c.args.marks.now in
    let now = c.loop-entry.marks in
    let next = c.set_mark.new.marks in
    let before = entries_of c.loop-entry.entry-iterator in
    let later = entries_of c.next.new.self in
    let all = entries_of c.args.self in
    let inv = c.loop-entry.invariant in
    record {
      marked = next_marked first now next c.args.from (entry_of c.in-Some.entry) before later all inv.length c.in-Some.ensures.steps c.set_mark.ensures.marked inv.marked;
      apart = next_apart first now next c.args.from (entry_of c.in-Some.entry) before later all inv.length c.in-Some.ensures.steps c.set_mark.ensures.marked c.if-is_marked.ensures inv.apart;
      length = c.set_mark.ensures.length ∙ inv.length;
    }
