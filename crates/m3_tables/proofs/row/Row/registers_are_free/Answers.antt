use Rattle.std.proofs.Common.{sym}
use Rattle.m3_tables.specs.Sections.{is_tidy}
use Rattle.m3_tables.proofs.SectionLemmas.{good_rises, free_zero, free_more, free_stop}
use Rattle.m3_tables.proofs.row.Row.registers_are_free.Goals as goal

pub loop-register-init : goal.loop-register-init
loop-register-init c = free_zero (is_tidy c.args.self.now.section.bytes.now c.args.self.now.number)

pub is_tidy-requires-clause-rises : goal.is_tidy-requires-clause-rises
is_tidy-requires-clause-rises c = λ k le. good_rises c.args.self.now.section.bytes.now k (c.args.self.now.good k le)

pub returns-then-is_tidy : goal.returns-then-is_tidy
returns-then-is_tidy c =
    sym (free_stop (is_tidy c.args.self.now.section.bytes.now c.args.self.now.number) 16 c.loop-register.register c.loop-register-test.true c.if-is_tidy.ensures)

pub loop-register-preserved : goal.loop-register-preserved
loop-register-preserved c =
    free_more (is_tidy c.args.self.now.section.bytes.now c.args.self.now.number) c.loop-register.register c.loop-register.invariant c.if-is_tidy.ensures
