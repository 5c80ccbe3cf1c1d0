use Rattle.std.proofs.Common.{◌≡◌, ℕ, suc, ◌+◌, ◌*◌, ◌-◌, ◌<◌, ◌^◌, [], ◌∷◌, ◌++◌, length, ap, ◌∙◌, sym, refl, arith, subst}
use Rattle.m3_layout.specs.declared.walk.Task.TheVariants.{OneValue, ElementsLeft}
use Rattle.m3_layout.specs.Pointers.{element_pointers}
use Rattle.m3_layout.specs.Depths.{value_words, value_pointers}
use Rattle.m3_layout.proofs.Depths.{words_told}
use Rattle.m3_layout.proofs.Walks.{last_ready}
use Rattle.m3_layout.proofs.Telling.{closed_go, nothing_left, copies_go, run_inside, more_elements_go}
use Rattle.m3_layout.proofs.walk.Walk.tell_elements.Goals as goal

pub close-requires-clause-open : goal.close-requires-clause-open
close-requires-clause-open c =
    let nodes = c.args.types.now.graph.nodes.items in
    let t = ElementsLeft c.args.whole c.args.element c.args.left c.args.at in
    nothing_left nodes c.args.self.now.offsets.items c.args.self.now.tasks.items c.args.self.now.runs t c.args.whole refl (ap (element_pointers (value_words nodes c.args.element.0) (λ k. value_pointers nodes k c.args.element.0) c.args.at) c.if-left-eq0.true) c.requires

pub returns-then-left-eq0 : goal.returns-then-left-eq0
returns-then-left-eq0 c =
    let nodes = c.args.types.now.graph.nodes.items in
    let t = ElementsLeft c.args.whole c.args.element c.args.left c.args.at in
    let g = closed_go nodes c.args.self.now.offsets.items _ c.args.self.now.tasks.items _ t c.args.self.now.runs _ c.in_ok-close.ensures.offsets c.in_ok-close.ensures.tasks (ap (element_pointers (value_words nodes c.args.element.0) (λ k. value_pointers nodes k c.args.element.0) c.args.at) c.if-left-eq0.true) c.requires c.in_ok-close.ensures.known in
    record { walk = g.walk; same = g.same; less = g.less }

pub words_of-words-requires : goal.words_of-words-requires
words_of-words-requires c =
    let nodes = c.args.types.now.graph.nodes.items in
    ∣ (length nodes, (last_ready nodes c.args.self.now.offsets.items c.args.self.now.tasks.items (ElementsLeft c.args.whole c.args.element c.args.left c.args.at) c.args.self.now.runs c.requires).0) ∣₁

pub copy_run-requires-clause-ordered : goal.copy_run-requires-clause-ordered
copy_run-requires-clause-ordered c = (c.requires.known c.args.element.0 c.in-Some.run'.now (sym c.in-Some.ensures.value)).ordered

pub copy_run-requires-clause-within : goal.copy_run-requires-clause-within
copy_run-requires-clause-within c = (c.requires.known c.args.element.0 c.in-Some.run'.now (sym c.in-Some.ensures.value)).within

pub copy_run-requires-clause-inside : goal.copy_run-requires-clause-inside
copy_run-requires-clause-inside c =
    let nodes = c.args.types.now.graph.nodes.items in
    run_inside nodes c.args.self.now.offsets.items c.args.element.0 c.words_of-words.result c.in-Some.run'.now c.words_of-words.ensures.shallow (words_told nodes c.args.element.0 c.words_of-words.result c.words_of-words.ensures.words c.words_of-words.ensures.shallow) (c.requires.known c.args.element.0 c.in-Some.run'.now (sym c.in-Some.ensures.value)).right

pub copy_run-requires-clause-fits : goal.copy_run-requires-clause-fits
copy_run-requires-clause-fits c =
    let nodes = c.args.types.now.graph.nodes.items in
    let room = (last_ready nodes c.args.self.now.offsets.items c.args.self.now.tasks.items (ElementsLeft c.args.whole c.args.element c.args.left c.args.at) c.args.self.now.runs c.requires).1 in
    subst (λ n. c.args.at + c.args.left * n < 2 ^ 64) (sym (words_told nodes c.args.element.0 c.words_of-words.result c.words_of-words.ensures.words c.words_of-words.ensures.shallow)) room

pub returns-in-Some : goal.returns-in-Some
returns-in-Some c =
    let nodes = c.args.types.now.graph.nodes.items in
    let some : c.args.left ≡ suc (c.args.left - 1) = omega arith in
    let g = copies_go nodes c.args.self.now.offsets.items c.copy_run.new.offsets.items c.args.self.now.tasks.items _ c.args.self.now.runs c.args.whole c.args.element c.args.left (c.args.left - 1) c.args.at c.words_of-words.result c.in-Some.run'.now some (words_told nodes c.args.element.0 c.words_of-words.result c.words_of-words.ensures.words c.words_of-words.ensures.shallow) (c.requires.known c.args.element.0 c.in-Some.run'.now (sym c.in-Some.ensures.value)).right c.requires c.in_ok-copy_run.ensures c.in_ok-push.ensures.items in
    record { walk = g.walk; same = g.same; less = g.less }

pub overflow_add-at : goal.overflow_add-at
overflow_add-at c =
    let nodes = c.args.types.now.graph.nodes.items in
    let V = value_words nodes c.args.element.0 in
    let some : c.args.left ≡ suc (c.args.left - 1) = omega arith in
    let room : c.args.at + c.args.left * V < 2 ^ 64 = (last_ready nodes c.args.self.now.offsets.items c.args.self.now.tasks.items (ElementsLeft c.args.whole c.args.element c.args.left c.args.at) c.args.self.now.runs c.requires).1 in
    let all : c.args.left * V ≡ suc (c.args.left - 1) * V = ap (λ n. n * V) some in
    let words : c.words_of-words.result ≡ V = words_told nodes c.args.element.0 c.words_of-words.result c.words_of-words.ensures.words c.words_of-words.ensures.shallow in
    let fits : c.args.at + c.words_of-words.result < 2 ^ 64 = one_fits c.args.at c.args.left (c.args.left - 1) V c.words_of-words.result room all words in
    omega (arith, fits)
  where
    one_fits : (at left rest v w : ℕ) → at + left * v < 2 ^ 64 → left * v ≡ suc rest * v → w ≡ v → at + w < 2 ^ 64
    one_fits at left rest v w room all words = omega arith

pub returns : goal.returns
returns c =
    let nodes = c.args.types.now.graph.nodes.items in
    let some : c.args.left ≡ suc (c.args.left - 1) = omega arith in
    let g = more_elements_go nodes c.args.self.now.offsets.items c.args.self.now.tasks.items _ c.args.self.now.runs c.args.whole c.args.element c.args.left (c.args.left - 1) c.args.at c.words_of-words.result some (words_told nodes c.args.element.0 c.words_of-words.result c.words_of-words.ensures.words c.words_of-words.ensures.shallow) c.words_of-words.ensures.shallow c.requires (c.in_ok-push-3.ensures.items ∙ ap (λ xs. xs ++ OneValue c.args.element c.args.at ∷ []) c.in_ok-push-2.ensures.items) in
    record { walk = g.walk; same = g.same; less = g.less }
