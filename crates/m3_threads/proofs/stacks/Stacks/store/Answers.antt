use Rattle.std.proofs.Common.{◌≡◌, ℕ, ◌<◌, ◌≤◌, List, [], length, refl, sym, ap, ◌∙◌, arith, length-set}
use Rattle.std.specs.Prelude.{slice_set, slice_index_or}
use Rattle.std.specs.Vec.{with_item}
use Rattle.m3_threads.specs.PlacesInside.{contents}
use Rattle.m3_threads.specs.Spaces.{slot_at}
use Rattle.m3_threads.specs.Stacked.{Stacked, is_in, put_in}
use Rattle.m3_threads.proofs.StackWords.{set_stack, count-contents, content_at, word-within}
use Rattle.m3_threads.proofs.Hand.{stacked, grown, near-room, changed, replaced, near-word, near-puts, apart, same-elsewhere, put-elsewhere, nowhere, none-puts, far-set, distance}
use Rattle.m3_threads.proofs.stacks.Stacks.store.Goals as goal

pub invariant_of-self : goal.invariant_of-self
invariant_of-self c =
    let s = c.self.inside in
    let o = s.others.items in
    let st = contents o in
    let ws = s.near.items in
    let at = c.args.at in
    let are = c.self.invariant in
    let g = grown s.depth o s.near s.slot s.base are in
    let p = distance at s.base in
    let long = length-set ws p c.args.word in
    let fits = near-room s.depth o s.near s.slot s.base are in
    let low = fits.0 in
    let high = fits.1 in
    changed s.depth o o s.near s.near (with_item s.near p c.args.word) s.slot s.base s.slot s.base are refl are.blank refl are.within are.begins (low, omega (arith, long, high))

pub returns-then-place-len-clause-answer : goal.returns-then-place-len-clause-answer
returns-then-place-len-clause-answer c =
    let s = c.self.inside in
    let o = s.others.items in
    let st = contents o in
    let ws = s.near.items in
    let at = c.args.at in
    let are = c.self.invariant in
    let g = grown s.depth o s.near s.slot s.base are in
    let n = near-word st ws s.slot s.base at g.few g.within are.begins g.small (omega arith) (omega (arith, c.if-place-len.true, c.len.ensures, s.near.ok.0)) in
    sym n.here ∙ ap (λ x. is_in x at) (sym (set_stack o s.slot s.near)) ∙ ap (λ (v : Stacked). is_in v.words at) c.self.view_is

pub returns-then-place-len-clause-put : goal.returns-then-place-len-clause-put
returns-then-place-len-clause-put c =
    let s = c.self.inside in
    let o = s.others.items in
    let st = contents o in
    let ws = s.near.items in
    let at = c.args.at in
    let are = c.self.invariant in
    let g = grown s.depth o s.near s.slot s.base are in
    let n = near-word st ws s.slot s.base at g.few g.within are.begins g.small (omega arith) (omega (arith, c.if-place-len.true, c.len.ensures, s.near.ok.0)) in
    let p = distance at s.base in
    ap (λ (x : List (List ℕ)). stacked s.depth x)
    (replaced o o s.near s.near (with_item s.near p c.args.word) s.slot s.slot refl
    ∙ ap (λ x. slice_set x s.slot (slice_set ws p c.args.word)) (set_stack o s.slot s.near)
    ∙ sym (near-puts st ws s.slot at p c.args.word g.within n)
    ∙ ap (λ x. put_in x at c.args.word) (sym (set_stack o s.slot s.near)))
    ∙ ap (λ (v : Stacked). stacked v.depth (put_in v.words at c.args.word)) c.self.view_is

pub invariant_of-self-in-Some : goal.invariant_of-self-in-Some
invariant_of-self-in-Some c =
    let s = c.self.inside in
    let o = s.others.items in
    let st = contents o in
    let ws = s.near.items in
    let at = c.args.at in
    let are = c.self.invariant in
    let g = grown s.depth o s.near s.slot s.base are in
    let found = c.in-Some.ensures in
    let there = found.0 in
    let ne = apart st s.slot at are.blank there in
    let inside : slot_at at < length o = let w = word-within st at there in let count = count-contents o in omega (arith, w.0, count) in
    let low : c.in-Some.slot < length o = omega (arith, inside, found.1) in
    let v = c.index_mut-in-Some.result.now in
    let apart-slot = λ (e : c.in-Some.slot ≡ s.slot). ne (sym found.1 ∙ e) in
    far-set s.depth o s.near v (with_item v c.in-Some.place c.args.word) s.slot s.base c.in-Some.slot are apart-slot low c.index_mut-in-Some.ensures.value refl (length-set v.items c.in-Some.place c.args.word)

pub returns-in-Some-clause-answer : goal.returns-in-Some-clause-answer
returns-in-Some-clause-answer c =
    let s = c.self.inside in
    let o = s.others.items in
    let st = contents o in
    let ws = s.near.items in
    let at = c.args.at in
    let are = c.self.invariant in
    let g = grown s.depth o s.near s.slot s.base are in
    let found = c.in-Some.ensures in
    let there = found.0 in
    let ne = apart st s.slot at are.blank there in
    let inside : slot_at at < length o = let w = word-within st at there in let count = count-contents o in omega (arith, w.0, count) in
    let low : c.in-Some.slot < length o = omega (arith, inside, found.1) in
    sym there ∙ sym (same-elsewhere st ws s.slot at ne) ∙ ap (λ x. is_in x at) (sym (set_stack o s.slot s.near)) ∙ ap (λ (v : Stacked). is_in v.words at) c.self.view_is

pub returns-in-Some-clause-put : goal.returns-in-Some-clause-put
returns-in-Some-clause-put c =
    let s = c.self.inside in
    let o = s.others.items in
    let st = contents o in
    let ws = s.near.items in
    let at = c.args.at in
    let are = c.self.invariant in
    let g = grown s.depth o s.near s.slot s.base are in
    let found = c.in-Some.ensures in
    let there = found.0 in
    let ne = apart st s.slot at are.blank there in
    let inside : slot_at at < length o = let w = word-within st at there in let count = count-contents o in omega (arith, w.0, count) in
    let low : c.in-Some.slot < length o = omega (arith, inside, found.1) in
    let v = c.index_mut-in-Some.result.now in
    let word = c.args.word in
    let w = with_item v c.in-Some.place word in
    let content = content_at o c.in-Some.slot v low c.index_mut-in-Some.ensures.value in
    ap (λ (x : List (List ℕ)). stacked s.depth x)
    (set_stack (slice_set o c.in-Some.slot w) s.slot s.near ∙ ap (λ x. slice_set x s.slot ws) (set_stack o c.in-Some.slot w)
    ∙ ap (λ us. slice_set (slice_set st c.in-Some.slot (slice_set us c.in-Some.place word)) s.slot ws) content
    ∙ ap (λ k. slice_set (slice_set st k (slice_set (slice_index_or st k []) c.in-Some.place word)) s.slot ws) found.1
    ∙ ap (λ q. slice_set (slice_set st (slot_at at) (slice_set (slice_index_or st (slot_at at) []) q word)) s.slot ws) found.2
    ∙ sym (put-elsewhere st ws s.slot at word ne there)
    ∙ ap (λ x. put_in x at word) (sym (set_stack o s.slot s.near)))
    ∙ ap (λ (u : Stacked). stacked u.depth (put_in u.words at word)) c.self.view_is

pub returns-in-None-clause-answer : goal.returns-in-None-clause-answer
returns-in-None-clause-answer c =
    let s = c.self.inside in
    let o = s.others.items in
    let st = contents o in
    let ws = s.near.items in
    let at = c.args.at in
    let are = c.self.invariant in
    let g = grown s.depth o s.near s.slot s.base are in
    let past : length ws ≤ distance at s.base = omega (arith, c.if-place-len.false, c.len.ensures, s.near.ok.0) in
    let none = nowhere st ws s.slot s.base at g.few g.within are.begins (omega arith) past c.in-None.ensures in
    sym none ∙ ap (λ x. is_in x at) (sym (set_stack o s.slot s.near)) ∙ ap (λ (v : Stacked). is_in v.words at) c.self.view_is

pub returns-in-None-clause-put : goal.returns-in-None-clause-put
returns-in-None-clause-put c =
    let s = c.self.inside in
    let o = s.others.items in
    let st = contents o in
    let ws = s.near.items in
    let at = c.args.at in
    let are = c.self.invariant in
    let g = grown s.depth o s.near s.slot s.base are in
    let past : length ws ≤ distance at s.base = omega (arith, c.if-place-len.false, c.len.ensures, s.near.ok.0) in
    let none = nowhere st ws s.slot s.base at g.few g.within are.begins (omega arith) past c.in-None.ensures in
    let gone = ap (λ (v : Stacked). is_in v.words at) (sym c.self.view_is) ∙ ap (λ x. is_in x at) (set_stack o s.slot s.near) ∙ none in
    ap (λ (x : List (List ℕ)). stacked c.args.self.now.depth x) (sym (none-puts c.args.self.now.words at c.args.word gone))
