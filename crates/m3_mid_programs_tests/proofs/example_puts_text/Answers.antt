use Rattle.m3_mid_programs_tests.proofs.Example.{puts_text}
use Rattle.m3_mid_programs_tests.proofs.example_puts_text.Goals as goal

pub returns : goal.returns
returns d = puts_text
