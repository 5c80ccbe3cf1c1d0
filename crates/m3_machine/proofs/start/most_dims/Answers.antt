use Rattle.std.proofs.Common.{arith}
use Rattle.m3_image_sections.specs.PartViews.{types_of, type_of}
use Rattle.m3_machine.proofs.Images.{still_ahead}
use Rattle.m3_machine.proofs.start.most_dims.Goals as goal

pub types-preserved : goal.types-preserved
types-preserved c = λ n form e.
    still_ahead c.types.most c.larger-most.result (types_of c.types.view-iterator) (types_of c.next.new.self) (type_of c.in-Some.view) form c.in-Some.ensures.steps c.larger-most.ensures.first
    (omega (arith, c.larger-most.ensures.second, c.dims.ensures)) (c.types.invariant n form e)
