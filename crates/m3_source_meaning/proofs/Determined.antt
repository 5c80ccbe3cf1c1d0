-- The language of a checked program is determined.
use Rattle.std.proofs.Common.{◌≡◌, Option, Some, refl, sym, ap, ◌∙◌}
use Rattle.m3_runs.specs.Languages.{New, Parts}
use Rattle.m3_runs.specs.Laws.{IsDetermined}
use Rattle.m3_values.specs.Programs.{Program}
use Rattle.m3_values.specs.Places.{Thing}
use Rattle.m3_values.specs.Store.{Store, with_new_cell}
use Rattle.m3_source_meaning.specs.Programs as programs
use Rattle.m3_source_meaning.specs.Programs.{Activity, language}

module _ (p : Program) where
  made_once : (parts : Parts Activity Thing Store) (new : New Thing) (v v' : Option Thing) (after after' : Parts Activity Thing Store) → programs.Makes p parts new v after → programs.Makes p parts new v' after' → v ≡ v'
  made_once parts new v v' after after' (programs.makes c e) (programs.makes c' e') = refl

  after_once : (parts : Parts Activity Thing Store) (new : New Thing) (v v' : Option Thing) (after after' : Parts Activity Thing Store) → programs.Makes p parts new v after → programs.Makes p parts new v' after' → after ≡ after'
  after_once parts new v v' after after' (programs.makes c e) (programs.makes c' e') =
      let q : Some c ≡ Some c' = sym e ∙ e' in
      let same : c ≡ c' = cc in
      ap (λ i. record parts { memory = with_new_cell i parts.memory }) same

  pub determined : IsDetermined (language p)
  determined = record {
    enters = λ ss q environment vs m e e' h h'. sym h ∙ h';
    goes = λ s a m move move' h h'. sym h ∙ h';
    made = λ parts n new v v' after after'. made_once parts new v v' after after';
    makes = λ parts n new v v' after after'. after_once parts new v v' after after';
    collects = λ parts after after' e e'. sym e ∙ e';
  }
