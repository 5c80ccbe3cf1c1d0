use Rattle.std.proofs.Common.{◌≡◌, true}
use Rattle.m3_isa.specs.Effects.{are_there, are_equal}
use Rattle.m3_isa.proofs.blocks.equal_words.Given as goal

abbrev pub invariant-loop-k : goal.invariant-loop-k
invariant-loop-k g l =
    (are_there (g.W.Words.holds l.mem) l.left l.k ≡ true) × (are_there (g.W.Words.holds l.mem) l.right l.k ≡ true)
    × (l.equal ≡ are_equal (g.W.Words.holds l.mem) l.k l.left l.right)
