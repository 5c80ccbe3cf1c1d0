use Rattle.m3_inspect.proofs.PlaceLemmas.{places_below}
use Rattle.m3_inspect.proofs.laws.places_are_in_stacks.Goals as goal

pub returns : goal.returns
returns c = λ i all t frames image sixteen framed. places_below i all t frames image sixteen framed
