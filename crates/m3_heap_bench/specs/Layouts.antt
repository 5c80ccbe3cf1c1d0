-- The cells that these programs make.
use Rattle.std.specs.Prelude.{List, [], ◌∷◌}
use Rattle.m3_heap.specs.Shapes.{Shape, Fixed, Open}

-- a link: the next one, and a number; a node: two children, and a number; an array of references, its size
-- first; a box: a number
abbrev pub layouts : List Shape
layouts =
    record { form = Fixed; dims = 0; words = 3; pointers = 1 ∷ [] }
    ∷ record { form = Fixed; dims = 0; words = 4; pointers = 1 ∷ 2 ∷ [] }
    ∷ record { form = Open; dims = 1; words = 1; pointers = 0 ∷ [] }
    ∷ record { form = Fixed; dims = 0; words = 2; pointers = [] }
    ∷ []
