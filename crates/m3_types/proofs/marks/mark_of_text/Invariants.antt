use Rattle.std.proofs.Common.{◌≡◌, take, fold}
use Rattle.m3_types.specs.Marks.{mix}
use Rattle.m3_types.proofs.marks.mark_of_text.Given as goal

-- the bytes so far are mixed
abbrev pub invariant-loop-byte : goal.invariant-loop-byte
invariant-loop-byte l = l.mark ≡ fold mix 7 (take l.byte-index l.text)
