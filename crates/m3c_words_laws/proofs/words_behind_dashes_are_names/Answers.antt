use Rattle.std.proofs.Common.{codes, refl}
use Rattle.m3c_words_laws.proofs.Once.{behind_are_names}
use Rattle.m3c_words_laws.proofs.words_behind_dashes_are_names.Goals as goal

pub returns : goal.returns
returns c = record {
  build = behind_are_names (codes "build") refl;
  run = behind_are_names (codes "run") refl;
  exec = behind_are_names (codes "exec") refl;
  dump = behind_are_names (codes "dump") refl;
  inspect = behind_are_names (codes "inspect") refl;
}
