use Rattle.std.proofs.Common.{◌≡◌, ℕ, ◌+◌, ◌-◌, List, [], ◌∷◌, ◌++◌, length, take, drop, set, replicate, append_assoc, ap, ◌∙◌, arith, length-set}
use Rattle.std.proofs.lemmas.List.{take_more_set, length-take-le, length-drop, length-replicate}
use Rattle.std.proofs.lemmas.Slice.{take-put_mid}
use Rattle.m3_heap.proofs.half.write_cell.Goals as goal

pub returns-clause-words : goal.returns-clause-words
returns-clause-words c =
    let at = c.args.at in
    let end = c.args.end in
    let words = c.args.words.now in
    let headed = set words at c.args.header in
    let long = length-set words at c.args.header in
    let rest = end - (at + 1) in
    let count : length (take rest (drop (at + 1) headed)) ≡ rest = length-take-le rest (drop (at + 1) headed) (omega (arith, length-drop (at + 1) headed, long)) in
    let filled : c.fill.new.self ≡ replicate rest 0 = c.fill.ensures.after (λ y e. e) ∙ ap (λ n. replicate n 0) count in
    let ends : end ≡ at + 1 + length c.fill.new.self = omega (arith, ap (λ (ws : List ℕ). length ws) filled, length-replicate {A = ℕ} rest 0) in
    take-put_mid (at + 1) rest headed c.fill.new.self end ends (omega (arith, long))
    ∙ ap (λ (ws : List ℕ). ws ++ c.fill.new.self) (take_more_set words at c.args.header (omega arith))
    ∙ append_assoc (take at words) (c.args.header ∷ []) c.fill.new.self
    ∙ ap (λ (ws : List ℕ). take at words ++ c.args.header ∷ ws) filled
