use Rattle.m3_types_subtype.specs.Classes.{parent_of}
use Rattle.m3_types_subtype.proofs.Forest.{root_of_shorter, root_count_shorter}
use Rattle.m3_types_subtype.proofs.Parents.{parents_lifted, lifted_descends}
use Rattle.m3_types_subtype.proofs.partition.Partition.lift.Goals as goal

pub returns-clause-classes : goal.returns-clause-classes
returns-clause-classes c =
    let m = c.args.self.now.parents in
    let n = c.insert.new.self in
    root_of_shorter (parent_of m) (parent_of n) c.args.self.now.descends (lifted_descends c.insert.result m n c.args.i c.args.top c.args.self.now.descends c.requires c.insert.ensures.updates c.insert.ensures.err) (parents_lifted c.insert.result m n c.args.i c.args.top c.requires c.insert.ensures.updates c.insert.ensures.err)

pub returns-clause-count : goal.returns-clause-count
returns-clause-count c =
    let m = c.args.self.now.parents in
    let n = c.insert.new.self in
    root_count_shorter (parent_of m) (parent_of n) c.args.self.now.descends (lifted_descends c.insert.result m n c.args.i c.args.top c.args.self.now.descends c.requires c.insert.ensures.updates c.insert.ensures.err) (parents_lifted c.insert.result m n c.args.i c.args.top c.requires c.insert.ensures.updates c.insert.ensures.err)
