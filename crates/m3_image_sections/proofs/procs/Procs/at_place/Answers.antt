use Rattle.std.proofs.Common.{◌*◌, Some, sym, ap, ◌∙◌}
use Rattle.std.proofs.lemmas.List.{take_rest}
use Rattle.m3_image_sections.specs.Parts.{proc_in}
use Rattle.m3_image_sections.proofs.ListLemmas.{each_at}
use Rattle.m3_image_sections.proofs.procs.Procs.at_place.Goals as goal

pub returns : goal.returns
returns c =
    let bytes = c.args.self.now.bytes.now in
    ap Some (c.of.ensures ∙ ap proc_in (take_rest bytes (16 * c.args.number)))
    ∙ sym (each_at 16 proc_in c.args.self.now.count bytes c.args.number c.requires)
