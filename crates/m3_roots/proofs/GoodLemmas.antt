-- What every image keeps, wherever a call tells it.
use Rattle.std.proofs.Common.{◌≡◌, true, None, sym, ◌∙◌, subst}
use Rattle.m3_image_sections.specs.Parts.{Image, Program}
use Rattle.m3_image_sections.specs.Forms.{procs_fit, globals_fit}
use Rattle.m3_image.specs.Images.{IsImage}
use Rattle.m3_image.specs.Programs.{fault_of}
use Rattle.m3_image.specs.Sound.{IsSoundProgram}

pub record IsGood (p : Program) : Type 0 where
  pub sound : IsSoundProgram p
  pub procs : procs_fit p.procs ≡ true
  pub fault : fault_of p ≡ None
  pub globals : globals_fit p.globals ≡ true

pub good_of : (i j k : Image) → i ≡ k → j ≡ k → IsImage i → IsSoundProgram j.program → IsGood k.program
good_of i j k e f image sound =
    subst (λ (x : Image). IsGood x.program) e (record { sound = subst (λ (x : Image). IsSoundProgram x.program) (f ∙ sym e) sound; procs = image.procs; fault = image.sound; globals = image.globals })

pub fault_free : (i k : Image) → i ≡ k → IsImage i → fault_of k.program ≡ None
fault_free i k e image = subst (λ (x : Image). fault_of x.program ≡ None) e image.sound
