use Rattle.std.proofs.Common.{◌≡◌, ◌<◌, Some, length, arith, sym, ◌∙◌, subst}
use Rattle.m3_types.specs.declared.nodes.TypeNode.{TypeNode}
use Rattle.m3_types_sizes.specs.Sizes.{CanBeTold}
use Rattle.m3_types_sizes.proofs.Measuring.{settled_right, right_added, low_added, node_here, one_node, settled_size, sound_added, none_here}
use Rattle.m3_types_sizes.proofs.words.settle.Goals as goal

pub returns-in-Some-words_of_node-clause-right : goal.returns-in-Some-words_of_node-clause-right
returns-in-Some-words_of_node-clause-right c =
    let nodes = c.args.nodes.now in
    let table = c.args.table.now in
    let i = c.args.i in
    let n = c.in-Some.node in
    let w = c.in-Some-words_of_node.words in
    let e = c.in-Some-words_of_node.ensures.some in
    let l : i < length table = omega arith in
    right_added nodes table i w l c.requires.right (settled_right nodes table i n w c.requires.right (sym c.in-Some.ensures) e.0 e.2)

pub returns-in-Some-words_of_node-clause-low : goal.returns-in-Some-words_of_node-clause-low
returns-in-Some-words_of_node-clause-low c =
    let l : c.args.i < length c.args.table.now = omega arith in
    low_added c.args.table.now c.args.i c.in-Some-words_of_node.words l c.requires.low c.in-Some-words_of_node.ensures.some.1

node_is : {m n : TypeNode} → Some m ≡ Some n → m ≡ n
node_is h = cc

pub returns-in-None-clause-settled : goal.returns-in-None-clause-settled
returns-in-None-clause-settled c = λ t node h none ready.
    c.in-None.ensures.none (subst (CanBeTold c.args.nodes.now c.args.table.now) (sym (node_is (c.in-Some.ensures ∙ h))) ready)

pub returns-in-Some-words_of_node-clause-sound : goal.returns-in-Some-words_of_node-clause-sound
returns-in-Some-words_of_node-clause-sound c =
    let nodes = c.args.nodes.now in
    let table = c.args.table.now in
    let i = c.args.i in
    let n = c.in-Some.node in
    let e = c.in-Some-words_of_node.ensures.some in
    let l : i < length table = omega arith in
    sound_added nodes table i c.in-Some-words_of_node.words l (none_here table i c.is_some.result c.is_some.ensures c.if-is_some.false) c.requires.sound (settled_size nodes table i n c.in-Some-words_of_node.words c.requires.right c.requires.sound (sym c.in-Some.ensures) e.0 e.1 e.2)
