use Rattle.std.specs.Prelude.{◌≡◌, take}
use Rattle.m3_image.specs.Views.{image_view}
use Rattle.m3_machine.proofs.start.constants_of.Given as goal

abbrev pub invariant-constants : goal.invariant-constants
invariant-constants l = l.constants.items ≡ take l.n (image_view l.image).program.constants
