use Rattle.std.proofs.Common.{◌≡◌, suc, length, ap, arith}
use Rattle.m3_image_sections.specs.Parts.{type_at}
use Rattle.m3_image_sections.specs.PartViews.{types_of}
use Rattle.m3_image_sections.proofs.ListLemmas.{length_many}
use Rattle.m3_image_sections.proofs.types.Types.len.Goals as goal

pub overflow_add-count : goal.overflow_add-count
overflow_add-count c =
    let bytes = c.args.self.now.bytes.now in
    let most = length_many type_at (length bytes) bytes in
    let small = c.args.self.now.small in
    let step : length (types_of c.loop.iterator') ≡ suc (length (types_of c.next.new.self)) = ap length c.in-Some.ensures.steps in
    omega (arith, c.loop.invariant)
