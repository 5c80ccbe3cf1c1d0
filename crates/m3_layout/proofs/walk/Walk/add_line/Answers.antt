use Rattle.std.proofs.Common.{◌+◌, ◌++◌, ◌<◌, length, get_or, drop, map, sym, ap, ◌∙◌, arith}
use Rattle.std.proofs.lemmas.List.{get_or-map, length-map}
use Rattle.m3_types.specs.declared.nodes.TypeId.{TypeId}
use Rattle.m3_types.specs.Definitions.{node_at}
use Rattle.m3_layout.specs.Depths.{own_words, own_pointers, line_pointers}
use Rattle.m3_layout.proofs.Lineage.{LineStep, line_step, offsets_on}
use Rattle.m3_layout.proofs.walk.Walk.add_line.Goals as goal

pub add_own-requires-clause-fits : goal.add_own-requires-clause-fits
add_own-requires-clause-fits c =
    let line = c.args.line.now in
    let none : TypeId = record { 0 = 0 } in
    let u = get_or line c.loop-t.t-index none in
    let xs = map (λ (v : TypeId). v.0) line in
    let l : c.loop-t.t-index < length xs = omega (arith, length-map line (λ (v : TypeId). v.0)) in
    let s : LineStep c.args.types.now.graph.nodes.items xs c.loop-t.t-index c.loop-t.next u.0 = line_step c.args.types.now.graph.nodes.items xs c.loop-t.t-index c.loop-t.next u.0 l (sym (get_or-map (λ (v : TypeId). v.0) line c.loop-t.t-index none u.0 c.loop-t-test.true)) in
    omega (arith, s.words, c.loop-t.invariant.after, c.requires.fits)

pub loop-t-preserved : goal.loop-t-preserved
loop-t-preserved c =
    let nodes = c.args.types.now.graph.nodes.items in
    let line = c.args.line.now in
    let none : TypeId = record { 0 = 0 } in
    let u = get_or line c.loop-t.t-index none in
    let xs = map (λ (v : TypeId). v.0) line in
    let rest = drop (c.loop-t.t-index + 1) xs in
    let l : c.loop-t.t-index < length xs = omega (arith, length-map line (λ (v : TypeId). v.0)) in
    let s : LineStep nodes xs c.loop-t.t-index c.loop-t.next u.0 = line_step nodes xs c.loop-t.t-index c.loop-t.next u.0 l (sym (get_or-map (λ (v : TypeId). v.0) line c.loop-t.t-index none u.0 c.loop-t-test.true)) in
    record {
      known = c.in_ok-next.ensures.known;
      idle = c.in_ok-next.ensures.idle;
      offsets = ap (λ n. c.add_own.new.self.offsets.items ++ line_pointers nodes n rest) c.in_ok-next.ensures.after ∙ offsets_on c.add_own.new.self.offsets.items c.loop-t.self.offsets.items (own_pointers nodes c.loop-t.next (node_at nodes u.0)) (line_pointers nodes (c.loop-t.next + own_words nodes (node_at nodes u.0)) rest) (line_pointers nodes c.loop-t.next (drop c.loop-t.t-index xs)) _ c.in_ok-next.ensures.offsets s.pointers c.loop-t.invariant.offsets;
      after = omega (arith, s.words, c.loop-t.invariant.after, c.in_ok-next.ensures.after);
    }
