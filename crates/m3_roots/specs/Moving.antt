-- What a collection makes of the words of a thread.
use Rattle.std.specs.Prelude.{ℕ, ◌≡◌, true, false, List, map, length, Some, Contains}
use Rattle.m3_base.specs.Words.{add_words, sub_words}
use Rattle.m3_tables.specs.Numbers.{has}
use Rattle.m3_tables.specs.Rows.{Bases}
use Rattle.m3_heap.specs.Moves.{Move, forwarded}
use Rattle.m3_image_sections.specs.Parts.{Program}
use Rattle.m3_run_frames.specs.declared.frame.Frame.{Frame}
use Rattle.m3_roots.specs.ThreadWords.{word_at_place, Derived, place_of, way_at, bases_by_way}
use Rattle.m3_roots.specs.RowMeaning.{tidy_places, derived_words}

-- Tidy words follow their cells, each derived word grows by as much as its bases grow, modulo 2 ^ 64, and every other
-- word stays. A cell that is kept unasked stays where it is, and so do the words that refer to it.
pub record MovesWords (p : Program) (moves : List Move) (frames : List Frame) (old new : List ℕ) : Type 0 where
  pub count : length new ≡ length old
  pub tidy : (place : ℕ) → has (tidy_places p frames) place ≡ true → word_at_place new place ≡ forwarded moves (word_at_place old place)
  pub derived : (d : Derived) (way : Bases) → Contains (derived_words p frames) d → way_at old d ≡ Some way
      → word_at_place new (place_of d) ≡ add_words (word_at_place old (place_of d)) (sub_words (bases_by_way new d.first way) (bases_by_way old d.first way))
  pub others : (place : ℕ) → has (tidy_places p frames) place ≡ false → has (map place_of (derived_words p frames)) place ≡ false → word_at_place new place ≡ word_at_place old place
