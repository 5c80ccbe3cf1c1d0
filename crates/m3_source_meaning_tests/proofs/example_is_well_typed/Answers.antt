use Rattle.m3_source_meaning_tests.proofs.Typing.{is_well_typed}
use Rattle.m3_source_meaning_tests.proofs.example_is_well_typed.Goals as goal

pub returns : goal.returns
returns d = is_well_typed
