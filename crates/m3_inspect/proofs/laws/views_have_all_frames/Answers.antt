use Rattle.m3_inspect.proofs.ThreadLemmas.{frames_clash}
use Rattle.m3_inspect.proofs.laws.views_have_all_frames.Goals as goal

pub returns : goal.returns
returns c = λ i all globals s number shown none. frames_clash i all globals s number shown none
