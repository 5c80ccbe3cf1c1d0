use Rattle.std.proofs.Common.{◌≡◌, take}
use Rattle.m3c_source_commands.specs.Judging.{names_in, texts_in}
use Rattle.m3c_source_commands.proofs.compiling.copies.Given as goal

abbrev pub invariant-loop-source : goal.invariant-loop-source
invariant-loop-source l =
    (names_in l.copies.items ≡ names_in (take l.source-index l.sources)) × (texts_in l.copies.items ≡ texts_in (take l.source-index l.sources))
