use Rattle.std.proofs.Common.{◌≡◌, ◌+◌, ◌==◌, true, is_some}
use Rattle.m3_base.specs.Words.{add_words}
use Rattle.m3_isa.specs.Arithmetic.{below_length}
use Rattle.m3_isa.specs.Effects.{every, held_word}
use Rattle.m3_isa.proofs.blocks.equal_bytes.Given as goal

abbrev pub invariant-loop-k : goal.invariant-loop-k
invariant-loop-k g l =
    (every (λ k. is_some (g.W.Words.holds l.mem (add_words l.left (2 + k)))) l.k ≡ true)
    × (every (λ k. is_some (g.W.Words.holds l.mem (add_words l.right (2 + k)))) l.k ≡ true)
    × (l.equal ≡ every (λ k. below_length l.bytes k (held_word (g.W.Words.holds l.mem) (add_words l.left (2 + k))) == below_length l.bytes k (held_word (g.W.Words.holds l.mem) (add_words l.right (2 + k)))) l.k)
