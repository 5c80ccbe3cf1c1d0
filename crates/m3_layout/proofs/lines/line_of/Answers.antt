use Rattle.std.proofs.Common.{◌++◌, ◌∷◌, [], ap, ◌∙◌}
use Rattle.m3_layout.proofs.Lineage.{line_start, line_more}
use Rattle.m3_layout.proofs.lines.line_of.Goals as goal

pub loop-parent-init : goal.loop-parent-init
loop-parent-init c = line_start c.args.types.now.graph.nodes.items c.args.types.now.graph.reveals.items c.push.new.self.items c.args.t (c.in_ok-push.ensures.items ∙ ap (λ xs. xs ++ c.args.t ∷ []) c.new-line.ensures.items) c.requires

pub loop-parent-preserved : goal.loop-parent-preserved
loop-parent-preserved c = line_more c.args.types.now.graph.nodes.items c.args.types.now.graph.reveals.items c.loop-parent.line.items c.push-in-Some.new.self.items c.loop-parent.top c.in-Some.parent c.args.t c.in-Some.ensures c.in_ok-push-2.ensures.items c.loop-parent.invariant
