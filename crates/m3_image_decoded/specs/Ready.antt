-- The image that was made ready.
use Rattle.m3_image_sections.specs.Parts.{Image}
use Rattle.m3_image.specs.Views.{image_view}
use Rattle.m3_image_decoded.specs.declared.decoded.Decoded.{Decoded}

abbrev pub image_of : Decoded → Image
image_of d = image_view d.image
