-- The members that a range in the code stands for.
use Rattle.m3_types_subtype.specs.declared.assigning.Range.{Range}
use Rattle.m3_types_subtype.specs.Assignments.{Members}

abbrev pub members : Range → Members
members r = record { base = r.base; first = r.first; last = r.last }
