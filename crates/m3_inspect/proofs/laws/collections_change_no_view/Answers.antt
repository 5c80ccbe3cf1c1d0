use Rattle.m3_inspect.proofs.CollectLemmas.{view_stays}
use Rattle.m3_inspect.proofs.laws.collections_change_no_view.Goals as goal

pub returns : goal.returns
returns c = λ i old new s good registers listed whole collected shown.
    view_stays i old new s good registers listed whole collected shown
