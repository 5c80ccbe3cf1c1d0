-- The names and the texts of FILEs while they are fetched.
use Rattle.std.specs.Prelude.{ℕ, ◌≡◌, ◌-◌, min, Option, List, [], ◌∷◌, ◌++◌, length, map}
use Rattle.m3_ports.specs.Files.{Files}
use Rattle.m3c_image_commands.specs.Statuses.{IsRead}
use Rattle.m3c_source_commands.specs.SourceCommands.{source_cap}
use Rattle.m3c_source_commands.specs.declared.sources.Sources.{Sources}

abbrev pub names_of : Sources → List (List ℕ)
names_of sources = map (λ name. name.now) sources.names.items

abbrev pub texts_of : Sources → List (List ℕ)
texts_of sources = map (λ text. text.items) sources.texts.items

-- a file was read behind others, within its cap and what was left, and so many bytes are left for those that follow
pub record IsNext (held : Option Files) (name : List ℕ) (left : ℕ) (before after : List (List ℕ)) (rest : ℕ) : Type 0 where
  pub text : List ℕ
  pub added : after ≡ before ++ text ∷ []
  pub taken : rest ≡ left - length text
  pub read : IsRead held name (min left source_cap) text
