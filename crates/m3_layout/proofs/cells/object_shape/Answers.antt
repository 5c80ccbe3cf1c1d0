use Rattle.std.proofs.Common.{◌≡◌, ℕ, ◌+◌, ◌++◌, List, All, map, ap, sym, ◌∙◌, subst}
use Rattle.m3_types.specs.declared.nodes.TypeId.{TypeId}
use Rattle.m3_types.specs.Definitions.{node_at}
use Rattle.m3_layout.specs.Pointers.{RisesWithin}
use Rattle.m3_layout.specs.Depths.{CanStand, line_words, line_pointers}
use Rattle.m3_layout.specs.Walking.{AreRuns}
use Rattle.m3_layout.proofs.InOrder.{line_rises}
use Rattle.m3_layout.proofs.cells.object_shape.Goals as goal

pub add_line-requires-clause-known : goal.add_line-requires-clause-known
add_line-requires-clause-known c =
    let nodes = c.args.types.now.graph.nodes.items in
    subst (λ (o : List ℕ). AreRuns nodes o c.new-walk.result.runs) (sym c.new-walk.ensures.offsets) (c.new-walk.ensures.known nodes)

pub returns-clause-order : goal.returns-clause-order
returns-clause-order c =
    let nodes = c.args.types.now.graph.nodes.items in
    let reveals = c.args.types.now.graph.reveals.items in
    let us = c.deref.result.now in
    let xs = map (λ (u : TypeId). u.0) us in
    let P = λ (u : TypeId). CanStand nodes reveals u.0 (node_at nodes u.0) in
    let stand : All P us = subst (λ (vs : List TypeId). All P vs) (sym c.deref.ensures.value) c.in_ok-line.ensures.stand in
    let items : c.add_line.new.self.offsets.items ≡ line_pointers nodes 1 xs = c.in_ok-words.ensures.offsets ∙ ap (λ ys. ys ++ line_pointers nodes 1 xs) c.new-walk.ensures.offsets in
    subst (λ (n : ℕ). RisesWithin 1 n c.add_line.new.self.offsets.items) (sym c.in_ok-words.ensures.after)
    (subst (λ (ys : List ℕ). RisesWithin 1 (1 + line_words nodes xs) ys) (sym items) (line_rises nodes reveals c.args.types.now.shallow us stand 1))
