-- The text of the only file that a command names.
use Rattle.std.proofs.Common.{◌≡◌, ◌≤◌, ◌-◌, ℕ, List, [], ◌∷◌, length, min, Option, None, Some, refl, sym, inl, inr, arith}
use Rattle.std.specs.Prelude.{IfSome, slice_get}
use Rattle.std.specs.FinMap.{get}
use Rattle.std.proofs.lemmas.Option.{none-some, same_Some}
use Rattle.m3_ports.specs.Files.{Files}
use Rattle.m3c_image_commands.specs.Statuses.{Only}
use Rattle.m3c_source_commands.specs.SourceCommands.{AreTextsOf, OfExec, total}
use Rattle.m3c.specs.Command.{file_cap}

-- a file that was read within its cap, where the shelf tells what it holds
pub record HasText (held : Option Files) (name text : List ℕ) : Type 0 where
  pub short : length text ≤ file_cap
  pub told : IfSome held (λ files. get files name ≡ Some text)

pub one_text : (held : Option Files) (name : List ℕ) (texts : List (List ℕ)) → AreTextsOf held (name ∷ []) texts → (text : List ℕ) × (texts ≡ text ∷ []) × HasText held name text
one_text held name [] r = let none = r.1 in absurd (cc)
one_text held name (t ∷ []) r = let short = r.0.0.0 in (t, refl, record { short = omega (arith, short); told = r.0.0.1 })
one_text held name (t ∷ u ∷ texts) r = absurd r.0.1

pub head_same : (x y : List ℕ) → x ∷ [] ≡ y ∷ [] → x ≡ y
head_same x y e = cc

-- the files that `exec FILE` reads
pub only_file : (held : Option Files) (name n : List ℕ) (c : ℕ) → OfExec held (name ∷ []) None None n c → Only name file_cap n c
only_file held name n c (inl f) = first f.texts f.next f.left
  where
    first : (texts : List (List ℕ)) → slice_get (name ∷ []) (length texts) ≡ Some n → c ≡ min (8388608 - total texts) 1048576 → Only name file_cap n c
    first [] e l = (sym (same_Some name n e), omega (arith, l))
    first (t ∷ texts) e l = absurd (none-some n e)
only_file held name n c (inr (read, inl o)) = absurd (none-some n o.0)
only_file held name n c (inr (read, inr o)) = absurd (none-some n o.1.0)
