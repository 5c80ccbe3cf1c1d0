use Rattle.std.proofs.Common.{◌≡◌, ◌++◌}
use Rattle.std.specs.List.{flat_map}
use Rattle.m3_tables.specs.Views.{numbers_of}
use Rattle.m3_image_dump.specs.Texts.{place_word}
use Rattle.m3_image_dump.proofs.words.put_places.Given as goal

abbrev pub invariant-places : goal.invariant-places
invariant-places l = l.text.items ++ flat_map place_word (numbers_of l.place-iterator) ≡ l.fn.text.items ++ flat_map place_word (numbers_of l.fn.places)
