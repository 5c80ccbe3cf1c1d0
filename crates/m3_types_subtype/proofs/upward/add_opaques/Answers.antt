use Rattle.std.proofs.Common.{◌<◌, length, arith}
use Rattle.std.specs.Prelude.{Contains}
use Rattle.std.proofs.lemmas.List.Elements.{All-get_or, All-contains_itself}
use Rattle.m3_types_subtype.specs.Reaching.{Has, OpaqueAbove}
use Rattle.m3_types_subtype.proofs.Adding.{has_stays}
use Rattle.m3_types_subtype.proofs.Stepping.{adds_chained, no_reveal, reveals_more, reveals_all}
use Rattle.m3_types_subtype.proofs.upward.add_opaques.Goals as goal

pub loop-reveal-preserved : goal.loop-reveal-preserved
loop-reveal-preserved c =
    let nodes = c.args.nodes.now in
    let found = c.args.found.now in
    let view = c.args.view in
    let x = c.args.x in
    let i = c.loop-reveal.reveal-index in
    let was = c.loop-reveal.invariant in
    let e = c.in_ok-add_opaque.ensures in
    let first = c.args.reached.now.places.items in
    let old = c.loop-reveal.reached.places.items in
    let new = c.add_opaque.new.reached.places.items in
    let l : i < length found = omega arith in
    let extends = (e.adds found (All-contains_itself found i no_reveal l)).extends in
    record {
      kept = e.kept;
      adds = λ reveals there. adds_chained nodes reveals view x first old new (was.adds reveals there) (e.adds reveals (All-get_or (Contains reveals) found i no_reveal l there));
      all = reveals_more (λ r. OpaqueAbove nodes r view x → Has new r.opaque.0) found i l (λ r c q. has_stays old new r.opaque.0 extends (was.all r c q)) e.all;
    }

pub returns-clause-all : goal.returns-clause-all
returns-clause-all c = λ r has b. c.loop-reveal.invariant.all r (reveals_all c.args.found.now c.loop-reveal.reveal-index r (omega arith) has) b
