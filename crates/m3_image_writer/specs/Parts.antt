-- What the parts of an image have to keep.
use Rattle.std.specs.Prelude.{IsSome, IfSome}
use Rattle.std.specs.List.{AllByRecursion}
use Rattle.m3_isa.specs.Instructions.{IsInstruction}
use Rattle.m3_tables.specs.Places.{number_of}
use Rattle.m3_image.specs.Images.{IsImage}
use Rattle.m3_image_writer.specs.declared.parts.VarPart.{VarPart}
use Rattle.m3_image_writer.specs.declared.parts.ImageParts.{ImageParts}
use Rattle.m3_image_writer.specs.Views.{image_of}

-- each place where a variable is has a number
abbrev pub AreNumbered : VarPart → Type 0
AreNumbered v = AllByRecursion (λ span. IsSome (number_of span.1)) v.spans.items

-- The instructions are those of the machine. What the parts say is an image: each list has the form of its
-- section, each instruction names what is there, the tables have a good row for each point instruction, and the
-- variables are those of the globals and of the procedures. The places of variables have numbers.
pub record AreParts (p : ImageParts) : Type 0 where
  pub code : AllByRecursion IsInstruction p.code.items
  pub image : IsImage (image_of p)
  pub numbered : IfSome p.variables (λ variables. AllByRecursion AreNumbered variables.items)
