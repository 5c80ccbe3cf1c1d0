use Rattle.std.proofs.Common.{◌≡◌, false, is_some, arith}
use Rattle.std.proofs.lemmas.Grind.{common_steps}
use Rattle.m3_base.specs.Words.{add_words}
use Rattle.m3_isa.specs.Effects.{are_there}
use Rattle.m3_isa.proofs.Every.{every-fails, and-false}
use Rattle.m3_isa.proofs.blocks.equal_words.Goals as goal

pub returns-in_err-x : goal.returns-in_err-x
returns-in_err-x g c =
    let m = g.W.Words.holds c.args.mem.now in
    let e : are_there m c.args.left c.args.n ≡ false =
    every-fails (λ k. is_some (m (add_words c.args.left k))) c.loop-k.k c.args.n (omega arith) (grind (arith, common_steps)) in
    grind (arith, common_steps)

pub returns-in_err-y : goal.returns-in_err-y
returns-in_err-y g c =
    let m = g.W.Words.holds c.args.mem.now in
    let e : are_there m c.args.right c.args.n ≡ false =
    every-fails (λ k. is_some (m (add_words c.args.right k))) c.loop-k.k c.args.n (omega arith) (grind (arith, common_steps)) in
    let f = and-false (are_there m c.args.left c.args.n) in
    grind (arith, common_steps)
