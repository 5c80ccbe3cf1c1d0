use Rattle.m3_source_meaning_tests.proofs.Example.{puts_three}
use Rattle.m3_source_meaning_tests.proofs.example_puts_three.Goals as goal

pub returns : goal.returns
returns d = puts_three
