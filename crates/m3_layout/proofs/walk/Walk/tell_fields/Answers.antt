use Rattle.std.proofs.Common.{◌≡◌, ◌+◌, ◌<◌, ◌^◌, [], ◌∷◌, ◌++◌, ap, ◌∙◌, refl, arith}
use Rattle.m3_layout.specs.declared.walk.Task.TheVariants.{OneValue, FieldsFrom}
use Rattle.m3_layout.specs.Pointers.{field_pointers}
use Rattle.m3_layout.specs.Depths.{value_words, value_pointers}
use Rattle.m3_layout.proofs.Depths.{words_told}
use Rattle.m3_layout.proofs.Telling.{fields_go, closed_go, field_room, nothing_left}
use Rattle.m3_layout.proofs.walk.Walk.tell_fields.Goals as goal

pub words_of-requires : goal.words_of-requires
words_of-requires c =
    let e = c.in-Some.ensures in
    (field_room c.args.types.now.graph.nodes.items c.args.self.now.offsets.items c.args.self.now.tasks.items c.args.self.now.runs c.args.whole c.args.next c.args.at e.0 c.in-Some.kind e.1 e.3 c.requires).0

pub overflow_add-after : goal.overflow_add-after
overflow_add-after c =
    let e = c.in-Some.ensures in
    let nodes = c.args.types.now.graph.nodes.items in
    let words : c.words_of.result ≡ value_words nodes c.in-Some.kind.0 = words_told nodes c.in-Some.kind.0 c.words_of.result c.words_of.ensures.words c.words_of.ensures.shallow in
    let room : c.args.at + value_words nodes c.in-Some.kind.0 < 2 ^ 64 = (field_room nodes c.args.self.now.offsets.items c.args.self.now.tasks.items c.args.self.now.runs c.args.whole c.args.next c.args.at e.0 c.in-Some.kind e.1 e.3 c.requires).1 in
    omega arith

pub close-requires-clause-open : goal.close-requires-clause-open
close-requires-clause-open c =
    let nodes = c.args.types.now.graph.nodes.items in
    nothing_left nodes c.args.self.now.offsets.items c.args.self.now.tasks.items c.args.self.now.runs (FieldsFrom c.args.whole c.args.next c.args.at) c.args.whole refl (ap (field_pointers (value_words nodes) (value_pointers nodes) c.args.at) c.in-None.ensures) c.requires

pub returns-in_ok-push-in-Some-2 : goal.returns-in_ok-push-in-Some-2
returns-in_ok-push-in-Some-2 c =
    let e = c.in-Some.ensures in
    let nodes = c.args.types.now.graph.nodes.items in
    let words : c.words_of.result ≡ value_words nodes c.in-Some.kind.0 = words_told nodes c.in-Some.kind.0 c.words_of.result c.words_of.ensures.words c.words_of.ensures.shallow in
    let g = fields_go nodes c.args.self.now.offsets.items c.args.self.now.tasks.items _ c.args.self.now.runs c.args.whole c.args.next c.args.at c.words_of.result e.0 c.in-Some.kind e.1 e.3 words c.words_of.ensures.shallow c.requires (c.in_ok-push-in-Some-2.ensures.items ∙ ap (λ xs. xs ++ OneValue c.in-Some.kind c.args.at ∷ []) c.in_ok-push-in-Some.ensures.items) in
    record { walk = g.walk; same = g.same; less = g.less }

pub returns-in_ok-close-in-None : goal.returns-in_ok-close-in-None
returns-in_ok-close-in-None c =
    let nodes = c.args.types.now.graph.nodes.items in
    let g = closed_go nodes c.args.self.now.offsets.items _ c.args.self.now.tasks.items _ (FieldsFrom c.args.whole c.args.next c.args.at) c.args.self.now.runs _ c.in_ok-close-in-None.ensures.offsets c.in_ok-close-in-None.ensures.tasks (ap (field_pointers (value_words nodes) (value_pointers nodes) c.args.at) c.in-None.ensures) c.requires c.in_ok-close-in-None.ensures.known in
    record { walk = g.walk; same = g.same; less = g.less }

pub overflow_add-next : goal.overflow_add-next
overflow_add-next c = omega (arith, c.in-Some.ensures.4)
