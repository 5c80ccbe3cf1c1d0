use Rattle.std.proofs.Common.{◌≡◌, ◌++◌, drop, map}
use Rattle.m3_plain_image.specs.Image.{in_first_file}
use Rattle.m3_plain_image.proofs.parts.places.Given as goal

-- the places so far, and those of the lines that are left, are all of them
abbrev pub invariant-loop-line : goal.invariant-loop-line
invariant-loop-line l = l.places.items ++ map in_first_file (drop l.line-index l.lines) ≡ map in_first_file l.lines
