-- The marks of words that no row may list.
use Rattle.std.specs.Prelude.{ℕ, List, ◌∷◌, ◌++◌, map}
use Rattle.std.specs.List.{flat_map}
use Rattle.m3_roots.specs.ThreadWords.{place_from, Derived, path_places, base_places}
use Rattle.m3_roots.specs.Marking.{Act, Bars, Uses}

-- the first two words of a frame and the paths are barred, and the bases used
abbrev pub bar_acts : ℕ → List Derived → List Act
bar_acts first ds =
    Bars (place_from first 16) ∷ (Bars (place_from first 17) ∷ (map Bars (flat_map path_places ds) ++ map Uses (flat_map base_places ds)))
