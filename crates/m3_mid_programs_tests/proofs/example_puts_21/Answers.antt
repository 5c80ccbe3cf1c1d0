use Rattle.m3_mid_programs_tests.proofs.Example.{puts_21}
use Rattle.m3_mid_programs_tests.proofs.example_puts_21.Goals as goal

pub returns : goal.returns
returns d = puts_21
