use Rattle.m3_types_subtype.specs.Classes.{parent_of}
use Rattle.m3_types_subtype.proofs.Forest.{root_of_joined, root_count_joined}
use Rattle.m3_types_subtype.proofs.Parents.{parent_written, parent_elsewhere, linked_descends}
use Rattle.m3_types_subtype.proofs.partition.Partition.link.Goals as goal

pub returns-clause-roots : goal.returns-clause-roots
returns-clause-roots c =
    let m = c.args.self.now.parents in
    let n = c.insert.new.self in
    let low = c.args.low in
    let high = c.args.high in
    let u = c.in_ok-insert.ensures.updates in
    root_of_joined (parent_of m) (parent_of n) c.args.self.now.descends (linked_descends m n high low c.args.self.now.descends c.requires.apart u) low high c.requires.low c.requires.high c.requires.apart (parent_written m n high low u) (parent_elsewhere m n high low u)

pub returns-clause-count : goal.returns-clause-count
returns-clause-count c =
    let m = c.args.self.now.parents in
    let n = c.insert.new.self in
    let low = c.args.low in
    let high = c.args.high in
    let u = c.in_ok-insert.ensures.updates in
    root_count_joined (parent_of m) (parent_of n) c.args.self.now.descends (linked_descends m n high low c.args.self.now.descends c.requires.apart u) low high c.requires.low c.requires.high c.requires.apart (parent_written m n high low u) (parent_elsewhere m n high low u)
