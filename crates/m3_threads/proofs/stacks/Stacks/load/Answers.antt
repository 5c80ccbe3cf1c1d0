use Rattle.std.proofs.Common.{ℕ, ◌<◌, ◌≤◌, List, [], length, Some, sym, ap, ◌∙◌, arith}
use Rattle.std.specs.Prelude.{slice_set, slice_index, slice_index_or}
use Rattle.m3_threads.specs.PlacesInside.{contents}
use Rattle.m3_threads.specs.Spaces.{slot_at}
use Rattle.m3_threads.specs.Stacked.{Stacked, word_in}
use Rattle.m3_threads.proofs.StackWords.{set_stack, count-contents, content_at, word-within}
use Rattle.m3_threads.proofs.Hand.{there-is, grown, near-word, near-loads, apart, word-elsewhere, nowhere, none-loads, distance}
use Rattle.m3_threads.proofs.stacks.Stacks.load.Goals as goal

pub returns-then-place-len : goal.returns-then-place-len
returns-then-place-len c =
    let s = c.self.inside in
    let o = s.others.items in
    let st = contents o in
    let ws = s.near.items in
    let at = c.args.at in
    let are = c.self.invariant in
    let g = grown s.depth o s.near s.slot s.base are in
    let n = near-word st ws s.slot s.base at g.few g.within are.begins g.small (omega arith) (omega (arith, c.if-place-len.true, c.len.ensures, s.near.ok.0)) in
    ap Some (c.index.ensures ∙ there-is ws (distance at s.base) c.index.result.now (omega (arith, c.if-place-len.true, c.len.ensures, s.near.ok.0))) ∙ sym (near-loads st ws s.slot at (distance at s.base) g.within n) ∙ ap (λ x. word_in x at) (sym (set_stack o s.slot s.near))
    ∙ ap (λ (v : Stacked). word_in v.words at) c.self.view_is

pub returns-in-Some : goal.returns-in-Some
returns-in-Some c =
    let s = c.self.inside in
    let o = s.others.items in
    let st = contents o in
    let ws = s.near.items in
    let at = c.args.at in
    let are = c.self.invariant in
    let g = grown s.depth o s.near s.slot s.base are in
    let found = c.in-Some.ensures in
    let there = found.0 in
    let ne = apart st s.slot at are.blank there in
    let inside : slot_at at < length o = let w = word-within st at there in let count = count-contents o in omega (arith, w.0, count) in
    let low : c.in-Some.slot < length o = omega (arith, inside, found.1) in
    let v = c.index-in-Some.result.now in
    let content = content_at o c.in-Some.slot v low c.index-in-Some.ensures in
    let long = ap (λ (us : List ℕ). length us) content ∙ ap (λ k. length (slice_index_or st k [])) found.1 in
    let at-place : c.in-Some.place < length v.items = let w = (word-within st at there).1 in omega (arith, w, long, found.2) in
    ap Some (c.index-in-Some-2.ensures ∙ there-is v.items c.in-Some.place c.index-in-Some-2.result.now at-place ∙ ap (λ us. slice_index us c.in-Some.place) content
    ∙ ap (λ k. slice_index (slice_index_or st k []) c.in-Some.place) found.1
    ∙ ap (λ q. slice_index (slice_index_or st (slot_at at) []) q) found.2)
    ∙ sym (word-elsewhere st ws s.slot at ne there) ∙ ap (λ x. word_in x at) (sym (set_stack o s.slot s.near))
    ∙ ap (λ (v : Stacked). word_in v.words at) c.self.view_is

pub returns-in-None : goal.returns-in-None
returns-in-None c =
    let s = c.self.inside in
    let o = s.others.items in
    let st = contents o in
    let ws = s.near.items in
    let at = c.args.at in
    let are = c.self.invariant in
    let g = grown s.depth o s.near s.slot s.base are in
    let past : length ws ≤ distance at s.base = omega (arith, c.if-place-len.false, c.len.ensures, s.near.ok.0) in
    let none = nowhere st ws s.slot s.base at g.few g.within are.begins (omega arith) past c.in-None.ensures in
    sym (none-loads (slice_set st s.slot ws) at none) ∙ ap (λ x. word_in x at) (sym (set_stack o s.slot s.near))
    ∙ ap (λ (v : Stacked). word_in v.words at) c.self.view_is
