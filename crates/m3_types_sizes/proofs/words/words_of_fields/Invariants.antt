use Rattle.std.proofs.Common.{◌≡◌, ◌+◌, ◌≤◌, drop}
use Rattle.m3_types_sizes.specs.Sizes.{most_words, field_words, known_words, EachField, Known}
use Rattle.m3_types_sizes.proofs.words.words_of_fields.Given as goal

-- the sum so far and that of the fields that are left are that of all
abbrev pub invariant-loop-field : goal.invariant-loop-field
invariant-loop-field l = record {
  sum : l.sum + field_words (known_words l.table) (drop l.field-index l.fields) ≡ field_words (known_words l.table) l.fields;
  low : l.sum ≤ most_words;
  known : EachField (Known l.table) (drop l.field-index l.fields) → EachField (Known l.table) l.fields;
  left : EachField (Known l.table) l.fields → EachField (Known l.table) (drop l.field-index l.fields);
}
