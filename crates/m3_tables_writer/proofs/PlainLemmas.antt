-- Places as numbers.
use Rattle.std.proofs.Common.{◌≡◌, ℕ, zero, suc, ◌<◌, List, [], ◌∷◌, length, get_or, refl, arith}
use Rattle.m3_tables.specs.declared.place.Location.{Location}
use Rattle.m3_tables_writer.specs.Plain.{place_number, place_numbers}

pub numbers_at : (ls : List Location) (i : ℕ) (d : Location) → i < length ls → place_number (get_or ls i d) ≡ get_or (place_numbers ls) i 0
numbers_at [] i d lt = absurd (omega arith)
numbers_at (l ∷ ls) zero d lt = refl
numbers_at (l ∷ ls) (suc i) d lt = numbers_at ls i d (omega arith)
