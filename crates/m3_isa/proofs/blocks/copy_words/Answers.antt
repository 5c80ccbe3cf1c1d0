use Rattle.std.proofs.Common.{◌≡◌, ◌+◌, ◌<◌, ◌≤◌, ◌&&◌, ℕ, ◌^◌, false, true, is_some, ap, ◌∙◌, arith}
use Rattle.m3_isa.specs.Effects.{are_there, are_writable, copied}
use Rattle.m3_isa.specs.LowCopies.{copied_low}
use Rattle.m3_isa.proofs.Every.{and-false}
use Rattle.m3_isa.proofs.Copies.{copied-low, every-high, not_some, not_true, with_copied}
use Rattle.m3_isa.proofs.blocks.copy_words.Goals as goal
use Rattle.m3_isa.proofs.blocks.copy_words.Goals.{then-n-gt-TOP-via-then-n-gt-TOP, then-n-gt-TOP-via-else-n-gt-TOP+then-from-n, then-n-gt-TOP-via-else-n-gt-TOP+else-from-n+then-to-n}

pub returns-then-n-gt-TOP-clause-copied : goal.returns-then-n-gt-TOP-clause-copied
returns-then-n-gt-TOP-clause-copied g c =
    let s = c.args.mem.now in
    let m = g.W.Words.holds s in
    let can = g.W.Words.writable s in
    let n = c.args.n in
    let from = c.args.from in
    let to = c.args.to in
    let gone = λ (x : ℕ) (h : 2 ^ 63 ≤ x). not_some (m x) x (g.met.W.Words.low s x) h in
    let fixed = λ (x : ℕ) (h : 2 ^ 63 ≤ x). not_true (can x) x (λ t. g.met.W.Words.low s x (g.met.W.Words.readable s x t)) h in
    let source : 2 ^ 63 < from + n → (are_there m from n && are_writable can to n) ≡ false =
    λ h. ap (λ b. b && are_writable can to n) (every-high (λ x. is_some (m x)) from n gone (omega arith) (omega arith) (omega arith) h) in
    let target : 2 ^ 63 < to + n → (are_there m from n && are_writable can to n) ≡ false =
    λ h. ap (λ b. are_there m from n && b) (every-high can to n fixed (omega arith) (omega arith) (omega arith) h) ∙ and-false (are_there m from n) in
    elim c.then-n-gt-TOP.branch [
      | then-n-gt-TOP-via-then-n-gt-TOP w ↦ source (omega arith)
      | then-n-gt-TOP-via-else-n-gt-TOP+then-from-n w ↦ source (omega arith)
      | then-n-gt-TOP-via-else-n-gt-TOP+else-from-n+then-to-n w ↦ target (omega arith)
    ]

pub returns-then-to-from-clause-copied : goal.returns-then-to-from-clause-copied
returns-then-to-from-clause-copied g c =
    let m = g.W.Words.holds c.args.mem.now in
    let good = are_there m c.args.from c.args.n && are_writable (g.W.Words.writable c.args.mem.now) c.args.to c.args.n in
    with_copied c.copy_rising.result (good ≡ true) (good ≡ false) (g.W.Words.holds c.copy_rising.new.mem) (copied_low m c.args.n c.args.from c.args.to) (copied m c.args.n c.args.from c.args.to)
    (λ x. copied-low m c.args.n c.args.from c.args.to x (omega arith) (omega arith)) c.copy_rising.ensures.copied

pub returns-else-to-from-clause-copied : goal.returns-else-to-from-clause-copied
returns-else-to-from-clause-copied g c =
    let m = g.W.Words.holds c.args.mem.now in
    let good = are_there m c.args.from c.args.n && are_writable (g.W.Words.writable c.args.mem.now) c.args.to c.args.n in
    with_copied c.copy_falling.result (good ≡ true) (good ≡ false) (g.W.Words.holds c.copy_falling.new.mem) (copied_low m c.args.n c.args.from c.args.to) (copied m c.args.n c.args.from c.args.to)
    (λ x. copied-low m c.args.n c.args.from c.args.to x (omega arith) (omega arith)) c.copy_falling.ensures.copied
