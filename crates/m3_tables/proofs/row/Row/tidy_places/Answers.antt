use Rattle.std.proofs.Common.{◌≡◌, true, Ok, Err}
use Rattle.std.specs.Prelude.{IfOk}
use Rattle.m3_tables.specs.Numbers.{is_once}
use Rattle.m3_tables.specs.Sections.{tidy_list}
use Rattle.m3_tables.proofs.OnceLemmas.{tidy_list_once}
use Rattle.m3_tables.proofs.SectionLemmas.{good_rises}
use Rattle.m3_tables.proofs.row.Row.tidy_places.Goals as goal

pub tidy_places-requires-clause-rises : goal.tidy_places-requires-clause-rises
tidy_places-requires-clause-rises c = λ k le. good_rises c.args.self.now.section.bytes.now k (c.args.self.now.good k le)

pub returns-clause-once : goal.returns-clause-once
returns-clause-once c =
    let section = c.args.self.now.section.bytes.now in
    let row = c.args.self.now.number in
    let once = tidy_list_once section row c.args.self.now.good in
    (elim c.tidy_places.result as (λ r. IfOk r (λ v. v.items ≡ tidy_list section row) → IfOk r (λ v. is_once v.items ≡ true)) [ Ok v ↦ λ told. rw told once | Err e ↦ λ told. told ]) c.tidy_places.ensures
