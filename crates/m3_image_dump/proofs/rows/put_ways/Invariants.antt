use Rattle.std.proofs.Common.{◌≡◌, ◌++◌}
use Rattle.std.specs.Prelude.{codes}
use Rattle.std.specs.List.{flat_map}
use Rattle.m3_tables.specs.Views.{ways_of}
use Rattle.m3_image_dump.specs.Texts.{way_text}
use Rattle.m3_image_dump.proofs.rows.put_ways.Given as goal

abbrev pub invariant-ways : goal.invariant-ways
invariant-ways l =
    l.text.items ++ flat_map (λ w. codes "|" ++ way_text w) (ways_of l.way-iterator) ≡ l.initial.text.items ++ flat_map (λ w. codes "|" ++ way_text w) (ways_of l.initial.way-iterator)
