use Rattle.std.proofs.Common.{◌≡◌, ℕ, ◌*◌, ◌-◌, length, take, drop, Some, sym, ap, ◌∙◌, arith}
use Rattle.std.proofs.lemmas.List.{take_rest}
use Rattle.m3_tables.specs.Numbers.{word_in}
use Rattle.m3_image_sections.specs.Parts.{pair_in}
use Rattle.m3_image_sections.proofs.ListLemmas.{each_at, each_past}
use Rattle.m3_image_sections.proofs.lists.Pairs.get.Goals as goal

pub returns-then-place-self : goal.returns-then-place-self
returns-then-place-self c = sym (each_past 8 pair_in c.args.self.now.count c.args.self.now.bytes.now c.args.place (omega arith))

pub returns : goal.returns
returns c =
    let bytes = c.args.self.now.bytes.now in
    let start = 8 * c.args.place in
    let pair = take (length bytes - start) (drop start bytes) in
    let first : c.word.result ≡ word_in (drop start bytes) = c.word.ensures ∙ ap word_in (take_rest bytes start) in
    let second : c.word-2.result ≡ word_in (drop 4 (drop start bytes)) =
    c.word-2.ensures ∙ ap word_in (take_rest pair 4 ∙ ap (drop 4) (take_rest bytes start)) in
    ap (λ (n : ℕ). Some (n, c.word-2.result)) first ∙ ap (λ (n : ℕ). Some (word_in (drop start bytes), n)) second
    ∙ sym (each_at 8 pair_in c.args.self.now.count bytes c.args.place (omega arith))
