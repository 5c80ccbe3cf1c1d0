use Rattle.std.proofs.Common.{rules, ◌<◌, ◌∙◌, arith, sym, refl}
use Rattle.m3_tables.specs.Numbers.{word_in}
use Rattle.m3_tables.proofs.MarkLemmas.{fresh}
use Rattle.m3_tables.proofs.SectionLemmas.{first_bad-zero, first_bad-more, first_bad-stop, first_bad-none, good_rises}
use Rattle.m3_tables.proofs.section.Section.first_bad.Goals as goal

pub loop-row-init : goal.loop-row-init
loop-row-init c = record {
  good = first_bad-zero c.args.self.now.bytes.now;
  start = refl;
  clear = λ q. fresh 65536 q;
  length = search rules;
}

pub is_good-requires-clause-before : goal.is_good-requires-clause-before
is_good-requires-clause-before c =
    λ k lt. good_rises c.args.self.now.bytes.now k (first_bad-none c.args.self.now.bytes.now c.loop-row.row c.loop-row.invariant.good k lt)

pub returns-then-not-is_good : goal.returns-then-not-is_good
returns-then-not-is_good c =
    let below : c.loop-row.row < word_in c.args.self.now.bytes.now = omega (arith, c.word-row-end.ensures) in
    sym (first_bad-stop c.args.self.now.bytes.now (word_in c.args.self.now.bytes.now) c.loop-row.row below c.loop-row.invariant.good (sym c.if-not-is_good.ensures.value))

pub loop-row-preserved : goal.loop-row-preserved
loop-row-preserved c = record {
  good = first_bad-more c.args.self.now.bytes.now c.loop-row.row c.loop-row.invariant.good (sym c.if-not-is_good.ensures.value);
  start = c.start_after-start.ensures;
  clear = c.if-not-is_good.ensures.clear refl;
  length = c.is_good.ensures.length ∙ c.loop-row.invariant.length;
}
