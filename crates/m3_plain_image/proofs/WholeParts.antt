-- Parts that say the image of a module of the plain form are parts of an image.
use Rattle.std.proofs.Common.{◌≡◌, ℕ, List, [], ◌∷◌, length, Option, None, Some, refl, sym, ap, subst}
use Rattle.std.specs.Prelude.{map, IfSome}
use Rattle.std.specs.Global.{Vec}
use Rattle.std.specs.List.{AllByRecursion}
use Rattle.m3_isa.specs.Instructions.{IsInstruction}
use Rattle.m3_image.specs.Images.{IsImage}
use Rattle.m3_image_sections.specs.Parts.{Image, Variable}
use Rattle.m3_image_writer.specs.declared.parts.VarPart.{VarPart}
use Rattle.m3_image_writer.specs.declared.parts.ImageParts.{ImageParts}
use Rattle.m3_image_writer.specs.Views.{image_of, variable_of, variables_of_parts}
use Rattle.m3_image_writer.specs.Parts.{AreNumbered, AreParts}
use Rattle.m3_plain.specs.Terms.{Term, AreShallow}
use Rattle.m3_plain_image.specs.Image.{plain_image}
use Rattle.m3_plain_image.proofs.Sound.{Said, code_valid, image_sound}

none-mapped : (vs : List VarPart) → map variable_of vs ≡ [] → AllByRecursion AreNumbered vs
none-mapped [] e = tt
none-mapped (v ∷ vs) e = absurd (cons-nil e)
  where
    cons-nil : ◌≡◌ {A = List Variable} (variable_of v ∷ map variable_of vs) [] → ⊥
    cons-nil e = cc

numbered : (variables : Option (Vec VarPart)) → variables_of_parts variables ≡ [] → IfSome variables (λ v. AllByRecursion AreNumbered v.items)
numbered None e = tt
numbered (Some v) e = none-mapped v.items e

pub are_parts : (p : ImageParts) (name : List ℕ) (puts : List Term) → Said puts → AreShallow puts → image_of p ≡ plain_image name puts → AreParts p
are_parts p name puts said few e = record {
  code = subst (λ (i : Image). AllByRecursion IsInstruction i.program.code) (sym e) (code_valid name puts few);
  image = subst IsImage (sym e) (image_sound name puts said few);
  numbered = numbered p.variables (ap (λ (i : Image). i.variables) e);
}
