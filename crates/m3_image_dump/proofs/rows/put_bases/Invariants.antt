use Rattle.std.proofs.Common.{◌≡◌, ◌++◌}
use Rattle.std.specs.List.{flat_map}
use Rattle.m3_tables.specs.Views.{numbers_of}
use Rattle.m3_image_dump.specs.Texts.{place_text}
use Rattle.m3_image_dump.proofs.rows.put_bases.Given as goal

abbrev pub invariant-bases : goal.invariant-bases
invariant-bases l =
    l.text.items ++ flat_map (λ b. l.fn.sign ++ place_text b) (numbers_of l.base-iterator) ≡ l.fn.text.items ++ flat_map (λ b. l.fn.sign ++ place_text b) (numbers_of l.fn.bases)
