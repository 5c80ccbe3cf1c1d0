use Rattle.std.proofs.Common.{◌≡◌, true, sym, subst}
use Rattle.m3_tables.specs.Numbers.{rises}
use Rattle.m3_tables.specs.Rows.{Contents}
use Rattle.m3_tables.proofs.SectionLemmas.{passed_rise}
use Rattle.m3_tables.proofs.row.Row.passed.Goals as goal

pub has-requires : goal.has-requires
has-requires c =
    subst (λ (x : Contents). rises x.passed ≡ true) (sym c.contents.ensures) (passed_rise c.args.self.now.section.bytes.now c.args.self.now.number c.args.self.now.good)
