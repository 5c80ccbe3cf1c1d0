use Rattle.std.proofs.Common.{◌*◌, Some, sym, ap, ◌∙◌, arith}
use Rattle.std.proofs.lemmas.List.{take_rest}
use Rattle.m3_image_sections.specs.Fields.{long_in}
use Rattle.m3_image_sections.proofs.ListLemmas.{each_at, each_past}
use Rattle.m3_image_sections.proofs.lists.Longs.get.Goals as goal

pub returns-then-place-self : goal.returns-then-place-self
returns-then-place-self c = sym (each_past 8 long_in c.args.self.now.count c.args.self.now.bytes.now c.args.place (omega arith))

pub returns : goal.returns
returns c =
    let bytes = c.args.self.now.bytes.now in
    ap Some (c.long.ensures ∙ ap long_in (take_rest bytes (8 * c.args.place)))
    ∙ sym (each_at 8 long_in c.args.self.now.count bytes c.args.place (omega arith))
