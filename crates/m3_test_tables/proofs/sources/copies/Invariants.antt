use Rattle.std.proofs.Common.{◌<◌, All, length}
use Rattle.m3_test_tables.proofs.sources.copies.Given as goal

-- the copies so far are short
abbrev pub invariant-sources : goal.invariant-sources
invariant-sources l = All (λ source. length source.text.now < 4294967295) l.copies.items
