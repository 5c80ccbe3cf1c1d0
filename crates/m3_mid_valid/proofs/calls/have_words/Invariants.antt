use Rattle.std.proofs.Common.{◌≡◌, ◌+◌, take, sum_by}
use Rattle.m3_mid_valid.specs.Calls.{words_of}
use Rattle.m3_mid_valid.proofs.calls.have_words.Given as goal

abbrev pub invariant-loop-actual : goal.invariant-loop-actual
invariant-loop-actual l = l.left + sum_by words_of (take l.actual-index l.passed) ≡ l.words
