use Rattle.m3_mid_meaning.specs.Runs.{start_of}
use Rattle.m3_mid_meaning.proofs.Longer.{stays, begins}
use Rattle.m3_mid_meaning.proofs.laws.more_answers.Goals as goal

pub returns : goal.returns
returns c p around memory answers o x = let s = start_of p around memory in record {
  stays = stays p around p.start s answers o x;
  begins = begins p around p.start s answers o x;
}
