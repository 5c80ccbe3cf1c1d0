use Rattle.std.proofs.Common.{◌+◌, ◌∷◌, [], List, ℕ, sym, subst}
use Rattle.m3_types.specs.Definitions.{node_at}
use Rattle.m3_layout.specs.Walking.{AreRuns}
use Rattle.m3_layout.proofs.Walks.{runs_more}
use Rattle.m3_layout.proofs.Lineage.{fields_own}
use Rattle.m3_layout.proofs.walk.Walk.add_own.Goals as goal

pub add_fields-requires-clause-sized : goal.add_fields-requires-clause-sized
add_fields-requires-clause-sized c =
    let nodes = c.args.types.now.graph.nodes.items in
    (fields_own nodes c.args.types.now.graph.reveals.items c.args.t.0 (node_at nodes c.args.t.0) c.args.at c.in-Some.fields.now c.in-Some.ensures).0 c.requires.stands

pub returns-then-is_thread-clause-known : goal.returns-then-is_thread-clause-known
returns-then-is_thread-clause-known c =
    let nodes = c.args.types.now.graph.nodes.items in
    subst (λ (o : List ℕ). AreRuns nodes o c.args.self.now.runs) (sym c.in_ok-push.ensures.items) (runs_more nodes c.args.self.now.offsets.items ((c.args.at + 2) ∷ []) c.args.self.now.runs c.requires.known)
