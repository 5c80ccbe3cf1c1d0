use Rattle.std.proofs.Common.{◌≡◌, ℕ, ◌+◌, ◌==◌, sym, ◌&&◌, false, is_some, arith, ap, ◌∙◌}
use Rattle.std.proofs.lemmas.Grind.{common_steps}
use Rattle.m3_base.specs.Words.{add_words}
use Rattle.m3_isa.specs.Arithmetic.{words_of_bytes, below_length}
use Rattle.m3_isa.specs.Effects.{has_bytes, every, held_word}
use Rattle.m3_isa.proofs.Every.{every-fails, and-false}
use Rattle.m3_isa.proofs.blocks.equal_bytes.Goals as goal

pub returns-in_err-x : goal.returns-in_err-x
returns-in_err-x g c =
    let m = g.W.Words.holds c.args.mem.now in
    let e : has_bytes m c.args.left c.args.bytes ≡ false =
    every-fails (λ k. is_some (m (add_words c.args.left (2 + k)))) c.loop-k.k (words_of_bytes c.args.bytes) (omega arith) (grind (arith, common_steps)) in
    grind (arith, common_steps)

pub returns-in_err-y : goal.returns-in_err-y
returns-in_err-y g c =
    let m = g.W.Words.holds c.args.mem.now in
    let e : has_bytes m c.args.right c.args.bytes ≡ false =
    every-fails (λ k. is_some (m (add_words c.args.right (2 + k)))) c.loop-k.k (words_of_bytes c.args.bytes) (omega arith) (grind (arith, common_steps)) in
    let f = and-false (has_bytes m c.args.left c.args.bytes) in
    grind (arith, common_steps)

pub returns : goal.returns
returns g c =
    let m = g.W.Words.holds c.args.mem.now in
    let bytes = c.args.bytes in
    let e : c.loop-k.k ≡ words_of_bytes bytes = omega arith in
    let left = λ (k : ℕ). is_some (m (add_words c.args.left (2 + k))) in
    let right = λ (k : ℕ). is_some (m (add_words c.args.right (2 + k))) in
    let same = λ (k : ℕ). below_length bytes k (held_word m (add_words c.args.left (2 + k))) == below_length bytes k (held_word m (add_words c.args.right (2 + k))) in (
      ap (λ b. b && has_bytes m c.args.right bytes) (ap (every left) (sym e) ∙ c.loop-k.invariant.0) ∙ (ap (every right) (sym e) ∙ c.loop-k.invariant.1),
      c.loop-k.invariant.2 ∙ ap (every same) e,
    )
