use Rattle.std.proofs.Common.{◌≡◌, sym, ◌∙◌, ap, arith}
use Rattle.m3_types_subtype.specs.Classes.{parent_of, root_of}
use Rattle.m3_types_subtype.proofs.Forest.{root_of_root, root_of_parent}
use Rattle.m3_types_subtype.proofs.partition.Partition.root.Goals as goal

pub returns-then-up-at-clause-root : goal.returns-then-up-at-clause-root
returns-then-up-at-clause-root c =
    let stands : parent_of c.loop-at.self.parents c.loop-at.at ≡ c.loop-at.at = sym c.parent-up.ensures ∙ c.if-up-at.true in
    sym (root_of_root (parent_of c.loop-at.self.parents) c.loop-at.at stands) ∙ c.loop-at.invariant.classes c.loop-at.at ∙ c.loop-at.invariant.way

pub loop-at-preserved : goal.loop-at-preserved
loop-at-preserved c =
    let before = parent_of c.args.self.now.parents in
    let now = parent_of c.loop-at.self.parents in
    let at = c.loop-at.at in
    let up : root_of now at ≡ root_of now (now at) = root_of_parent now c.loop-at.self.descends at in
    let top : root_of now (now at) ≡ root_of now (now (now at)) = root_of_parent now c.loop-at.self.descends (now at) in
    let is : c.parent-top.result ≡ now (now at) = c.parent-top.ensures ∙ ap now c.parent-up.ensures in
    record {
      classes = λ j. c.lift.ensures.classes j ∙ c.loop-at.invariant.classes j;
      count = λ n. c.lift.ensures.count n ∙ c.loop-at.invariant.count n;
      low = omega (arith, c.loop-at.self.descends at, c.loop-at.self.descends (now at));
      way = sym (c.loop-at.invariant.classes c.parent-top.result) ∙ ap (root_of now) is ∙ sym top ∙ sym up ∙ c.loop-at.invariant.classes at ∙ c.loop-at.invariant.way;
    }
