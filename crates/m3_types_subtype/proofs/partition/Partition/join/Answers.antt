use Rattle.std.proofs.Common.{◌≡◌, sym, ◌∙◌, ap}
use Rattle.m3_types_subtype.specs.Classes.{parent_of, root_of}
use Rattle.m3_types_subtype.proofs.Forest.{root_of_root, root_is_root}
use Rattle.m3_types_subtype.proofs.partition.Partition.join.Goals as goal

-- the first root is still one after the second look-up
pub link-requires-clause-low : goal.link-requires-clause-low
link-requires-clause-low c =
    let now = parent_of c.root-y.new.self.parents in
    let r : root_of now c.root-x.result ≡ c.root-x.result = c.root-y.ensures.classes c.root-x.result ∙ root_of_root (parent_of c.root-x.new.self.parents) c.root-x.result c.root-x.ensures.stands in
    ap now (sym r) ∙ root_is_root now c.root-y.new.self.descends c.root-x.result ∙ r

pub link-requires-else-x-y-2-clause-high : goal.link-requires-else-x-y-2-clause-high
link-requires-else-x-y-2-clause-high c =
    let now = parent_of c.root-y.new.self.parents in
    let r : root_of now c.root-x.result ≡ c.root-x.result = c.root-y.ensures.classes c.root-x.result ∙ root_of_root (parent_of c.root-x.new.self.parents) c.root-x.result c.root-x.ensures.stands in
    ap now (sym r) ∙ root_is_root now c.root-y.new.self.descends c.root-x.result ∙ r
