-- Words of a machine, where each cell lies somewhere.
use Rattle.std.specs.Prelude.{ℕ, ◌*◌, List, sum_by}
use Rattle.m3_base.specs.Words.{add_words}
use Rattle.m3_mid_meaning.specs.Words.{Multiple, Word, Place, InCell, Outside}

-- the sum of the first addresses of cells, each so many times
abbrev pub addresses_of : (ℕ → ℕ) → List Multiple → ℕ
addresses_of lies cells = sum_by (λ x. x.times * lies x.cell) cells

-- the machine's word where `lies` gives the first address of each cell
abbrev pub machine_word : (ℕ → ℕ) → Word → ℕ
machine_word lies w = add_words (addresses_of lies w.cells) w.offset

abbrev pub machine_address : (ℕ → ℕ) → Place → ℕ
machine_address lies (InCell c n) = add_words (lies c) n
machine_address lies (Outside n) = n
