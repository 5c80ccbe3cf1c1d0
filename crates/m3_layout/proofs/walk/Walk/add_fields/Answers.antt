use Rattle.std.proofs.Common.{◌≡◌, ◌+◌, ◌++◌, [], None, get_or, drop, ap, ◌∙◌, arith}
use Rattle.m3_types.specs.declared.nodes.Field.{Field}
use Rattle.m3_types.proofs.Lists.{get_or_any}
use Rattle.m3_layout.specs.Pointers.{field_pointers}
use Rattle.m3_layout.specs.Depths.{value_words, value_pointers}
use Rattle.m3_layout.proofs.Depths.{words_told}
use Rattle.m3_layout.proofs.Lineage.{field_step, offsets_on}
use Rattle.m3_layout.proofs.walk.Walk.add_fields.Goals as goal

-- the field that stands past the end of a list
abbrev no_field : Field
no_field = record { name = record { ref_ptr = (0, 0); now = [] }; kind = record { 0 = 0 }; default = None }

pub add_value-requires-clause-sized : goal.add_value-requires-clause-sized
add_value-requires-clause-sized c =
    (field_step c.args.types.now.graph.nodes.items c.args.fields.now c.loop-field.field-index c.loop-field.next (get_or c.args.fields.now c.loop-field.field-index no_field) c.loop-field-test.true (get_or_any c.args.fields.now c.loop-field.field-index _ _ c.loop-field-test.true)).size c.loop-field.invariant.sized

pub add_value-requires-clause-fits : goal.add_value-requires-clause-fits
add_value-requires-clause-fits c =
    let s = field_step c.args.types.now.graph.nodes.items c.args.fields.now c.loop-field.field-index c.loop-field.next (get_or c.args.fields.now c.loop-field.field-index no_field) c.loop-field-test.true (get_or_any c.args.fields.now c.loop-field.field-index _ _ c.loop-field-test.true) in
    omega (arith, s.words, c.loop-field.invariant.after, c.requires.fits)

pub words_of-next-requires : goal.words_of-next-requires
words_of-next-requires c =
    (field_step c.args.types.now.graph.nodes.items c.args.fields.now c.loop-field.field-index c.loop-field.next (get_or c.args.fields.now c.loop-field.field-index no_field) c.loop-field-test.true (get_or_any c.args.fields.now c.loop-field.field-index _ _ c.loop-field-test.true)).size c.loop-field.invariant.sized

pub loop-field-preserved : goal.loop-field-preserved
loop-field-preserved c =
    let nodes = c.args.types.now.graph.nodes.items in
    let next = c.loop-field.next in
    let f = (get_or c.args.fields.now c.loop-field.field-index no_field) in
    let rest = drop (c.loop-field.field-index + 1) c.args.fields.now in
    let s = field_step nodes c.args.fields.now c.loop-field.field-index next f c.loop-field-test.true (get_or_any c.args.fields.now c.loop-field.field-index _ _ c.loop-field-test.true) in
    let words : c.words_of-next.result ≡ value_words nodes f.kind.0 = words_told nodes f.kind.0 c.words_of-next.result c.words_of-next.ensures.words c.words_of-next.ensures.shallow in
    record {
      known = c.in_ok-add_value.ensures.known;
      idle = c.in_ok-add_value.ensures.idle;
      sized = s.left c.loop-field.invariant.sized;
      offsets = ap (λ n. c.add_value.new.self.offsets.items ++ field_pointers (value_words nodes) (value_pointers nodes) (next + n) rest) words ∙ offsets_on c.add_value.new.self.offsets.items c.loop-field.self.offsets.items (value_pointers nodes next f.kind.0) (field_pointers (value_words nodes) (value_pointers nodes) (next + value_words nodes f.kind.0) rest) (field_pointers (value_words nodes) (value_pointers nodes) next (drop c.loop-field.field-index c.args.fields.now)) _ c.in_ok-add_value.ensures.offsets s.pointers c.loop-field.invariant.offsets;
      after = omega (arith, s.words, c.loop-field.invariant.after, words);
    }
