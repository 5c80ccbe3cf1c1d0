use Rattle.std.proofs.Common.{◌≡◌, ◌++◌, take}
use Rattle.std.specs.List.{flat_map}
use Rattle.m3_image_dump.specs.Texts.{place_word}
use Rattle.m3_image_dump.proofs.rows.put_tidy.Given as goal

abbrev pub invariant-tidy : goal.invariant-tidy
invariant-tidy l = l.text.items ≡ l.fn.text.items ++ flat_map place_word (take l.place-index l.tidy)
