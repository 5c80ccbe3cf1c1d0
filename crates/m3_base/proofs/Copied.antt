-- What the references in a choice of two options point to.
use Rattle.std.proofs.Common.{◌≡◌, Option, None, Some, refl}
use Rattle.std.specs.Option.{option_copied, option_or}
use Rattle.std.specs.Borrow.{Bor}

pub copied_or : {T : Type 0} (a b : Option (Bor T)) → option_copied (option_or a b) ≡ option_or (option_copied a) (option_copied b)
copied_or None b = refl
copied_or (Some x) b = refl
