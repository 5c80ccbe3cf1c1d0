use Rattle.std.proofs.Common.{◌≡◌, ℕ, ◌+◌, ◌++◌, ◌≤◌, List, length, ap, sym, ◌∙◌, subst, arith}
use Rattle.m3_types_sizes.specs.Sizes.{most_words}
use Rattle.m3_layout.specs.Pointers.{RisesWithin}
use Rattle.m3_layout.specs.Cells.{Layout}
use Rattle.m3_layout.specs.Depths.{value_words, value_pointers}
use Rattle.m3_layout.specs.Walking.{AreRuns}
use Rattle.m3_layout.proofs.Depths.{words_told}
use Rattle.m3_layout.proofs.InOrder.{sized_low}
use Rattle.m3_layout.proofs.Rising.{value_rises}
use Rattle.m3_layout.proofs.cells.value_shape.Goals as goal

pub add_value-requires-clause-known : goal.add_value-requires-clause-known
add_value-requires-clause-known c =
    let nodes = c.args.types.now.graph.nodes.items in
    subst (λ (o : List ℕ). AreRuns nodes o c.new-walk.result.runs) (sym c.new-walk.ensures.offsets) (c.new-walk.ensures.known nodes)

pub add_value-requires-clause-fits : goal.add_value-requires-clause-fits
add_value-requires-clause-fits c =
    let nodes = c.args.types.now.graph.nodes.items in
    let low : value_words nodes c.args.t.0 ≤ most_words = sized_low nodes (length nodes) c.args.t.0 c.words_of-words.ensures.shallow in
    omega (arith, c.requires.header)

pub returns-clause-rises : goal.returns-clause-rises
returns-clause-rises c =
    let nodes = c.args.types.now.graph.nodes.items in
    let header = c.args.header in
    let i = c.args.t.0 in
    let words : c.words_of-words.result ≡ value_words nodes i = words_told nodes i c.words_of-words.result c.words_of-words.ensures.words c.words_of-words.ensures.shallow in
    let items : c.add_value.new.self.offsets.items ≡ value_pointers nodes header i = c.in_ok-add_value.ensures.offsets ∙ ap (λ xs. xs ++ value_pointers nodes header i) c.new-walk.ensures.offsets in
    subst (λ (n : ℕ). RisesWithin header (header + n) c.add_value.new.self.offsets.items) (sym words)
    (subst (λ (xs : List ℕ). RisesWithin header (header + value_words nodes i) xs) (sym items) (value_rises nodes i c.words_of-words.ensures.shallow header))

pub overflow_add-result : goal.overflow_add-result
overflow_add-result c =
    let nodes = c.args.types.now.graph.nodes.items in
    let low : value_words nodes c.args.t.0 ≤ most_words = sized_low nodes (length nodes) c.args.t.0 c.words_of-words.ensures.shallow in
    let words : c.words_of-words.result ≡ value_words nodes c.args.t.0 = words_told nodes c.args.t.0 c.words_of-words.result c.words_of-words.ensures.words c.words_of-words.ensures.shallow in
    omega (arith, c.requires.header)

pub returns-clause-layout : goal.returns-clause-layout
returns-clause-layout c =
    let nodes = c.args.types.now.graph.nodes.items in
    let header = c.args.header in
    let i = c.args.t.0 in
    let words : c.words_of-words.result ≡ value_words nodes i = words_told nodes i c.words_of-words.result c.words_of-words.ensures.words c.words_of-words.ensures.shallow in
    let items : c.add_value.new.self.offsets.items ≡ value_pointers nodes header i = c.in_ok-add_value.ensures.offsets ∙ ap (λ xs. xs ++ value_pointers nodes header i) c.new-walk.ensures.offsets in
    ap (λ (n : ℕ). (let l : Layout = record { words = header + n; dims = c.args.dims; pointers = c.add_value.new.self.offsets.items } in l)) words
    ∙ ap (λ (xs : List ℕ). (let l : Layout = record { words = header + value_words nodes i; dims = c.args.dims; pointers = xs } in l)) items
