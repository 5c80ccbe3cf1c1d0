use Rattle.std.proofs.Common.{◌≡◌, take, map}
use Rattle.m3c_source_commands.specs.Judging.{names_in, texts_in}
use Rattle.m3c_source_commands.proofs.sources.views_of.Given as goal

abbrev pub invariant-files : goal.invariant-files
invariant-files l =
    (names_in l.views.items ≡ map (λ name. name.now) (take l.place l.sources.names.items)) × (texts_in l.views.items ≡ map (λ text. text.items) (take l.place l.sources.texts.items))
