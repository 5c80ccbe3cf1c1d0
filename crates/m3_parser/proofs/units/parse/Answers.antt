use Rattle.std.proofs.Common.{sym, ◌∙◌}
use Rattle.m3_read_cursor.proofs.Rests.{still, still_within}
use Rattle.m3_read_cursor.proofs.PlaceLaws.{all_left}
use Rattle.m3_parser.proofs.units.parse.Goals as goal

pub returns-clause-places : goal.returns-clause-places
returns-clause-places c =
    let heading = c.unit_heading-heading.ensures in
    let kind = c.unit_kind-kind.ensures in
    let imports = c.own_imports-imports.ensures in
    let block = c.own_block-block.ensures in
    let closing = c.closing_name-closing.ensures in
    let file = all_left _ _ c.new-reader.ensures in
    let going = sym c.stop.ensures ∙ c.in_default.is in
    let going_at_block = still closing.follows going in
    let going_at_imports = still block going_at_block in
    let going_at_kind = still imports going_at_imports in
    let going_at_heading = still kind going_at_kind in
    let rest = still_within block _ (still_within imports _ (still_within kind _ (still_within heading.follows _ file))) in
    record {
      first = heading.first _ file going_at_heading;
      named = heading.named _ file going_at_heading;
      closed = closing.place _ rest going;
    }
