use Rattle.std.specs.Prelude.{map}
use Rattle.m3c_image_commands.specs.Statuses.{shelving}
use Rattle.m3c_source_commands.specs.Texts.{names_of, texts_of}
use Rattle.m3c_source_commands.proofs.SourceLemmas.{Reading}
use Rattle.m3c_source_commands.proofs.sources.fetch_sources.Given as goal

abbrev pub invariant-files : goal.invariant-files
invariant-files g l = Reading (shelving g.F.Shelf l.initial.shelf l.shelf) (map (λ n. n.now) l.files) (names_of l.sources) (texts_of l.sources) l.place l.left
