use Rattle.std.proofs.Common.{All, sym, subst}
use Rattle.std.specs.Prelude.{Contains}
use Rattle.m3_types.proofs.Revealing.{found_here}
use Rattle.m3_types.proofs.graph.add_at.Goals as goal

pub returns-in_ok-push-clause-there : goal.returns-in_ok-push-clause-there
returns-in_ok-push-clause-there c = λ all. subst (All (Contains c.args.reveals.now)) (sym c.in_ok-push.ensures.items) (found_here c.args.reveals.now c.args.place c.in-Some.reveal (sym c.in-Some.ensures) c.args.found.now.items all)
