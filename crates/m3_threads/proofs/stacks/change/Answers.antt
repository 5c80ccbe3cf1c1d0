use Rattle.std.proofs.Common.{ℕ, List, [], ap, sym, ◌∙◌, ◌<◌, length, arith, length-set, Vec, Global}
use Rattle.std.specs.Prelude.{slice_set, slice_index_or}
use Rattle.m3_threads.specs.PlacesInside.{contents}
use Rattle.m3_threads.proofs.StackWords.{set_stack, count-contents, content_at}
use Rattle.m3_threads.proofs.Hand.{handed, at-own}
use Rattle.m3_threads.proofs.stacks.change.Goals as goal

pub returns-clause-whole : goal.returns-clause-whole
returns-clause-whole c =
    let o = c.args.others.now.items in
    let n = c.args.near.now in
    let back = c.swap.new.y in
    let next = c.swap-2.new.x in
    let one = ap (λ (v : Vec ℕ Global). slice_set (slice_set (slice_set o c.args.from v) c.args.to c.swap-2.new.y) c.args.to next) c.swap.ensures.y_after in
    one ∙ handed o c.args.from c.args.to n c.swap-2.new.y next
    (c.swap-2.ensures.x_after ∙ c.index_mut-2.ensures.value
    ∙ ap (λ (v : Vec ℕ Global). slice_index_or (slice_set o c.args.from v) c.args.to c.index_mut-2.result.now) c.swap.ensures.y_after
    ∙ ap (λ (v : Vec ℕ Global). slice_index_or (slice_set o c.args.from n) c.args.to v) (sym c.swap-2.ensures.x_after))

pub returns-clause-blank : goal.returns-clause-blank
returns-clause-blank c =
    let o = c.args.others.now.items in
    let o1 = slice_set o c.args.from c.swap.new.y in
    let count = count-contents o1 in
    let same = length-set o c.args.from c.swap.new.y in
    let within : c.args.to < length (contents o1) = omega (arith, count, same, c.requires.to, c.args.others.now.ok.0) in
    let first : c.args.from < length o = omega (arith, c.requires.from, c.args.others.now.ok.0) in
    ap (λ (st : List (List ℕ)). slice_index_or st c.args.to []) (set_stack o1 c.args.to c.swap-2.new.y) ∙ at-own (contents o1) c.args.to c.swap-2.new.y.items within
    ∙ ap (λ (v : Vec ℕ Global). v.items) (c.swap-2.ensures.y_after ∙ c.swap.ensures.x_after)
    ∙ content_at o c.args.from c.index_mut.result.now first c.index_mut.ensures.value ∙ c.requires.blank
