use Rattle.m3_mid_programs_tests.proofs.Example.{puts_raised}
use Rattle.m3_mid_programs_tests.proofs.example_puts_raised.Goals as goal

pub returns : goal.returns
returns d = puts_raised
