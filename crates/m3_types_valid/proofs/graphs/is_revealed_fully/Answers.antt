use Rattle.std.proofs.Common.{◌≡◌, ◌&&◌, ◌==◌, sym, ◌∙◌, ap, is_some}
use Rattle.std.specs.List.{list_any}
use Rattle.m3_types.specs.Reveals.{full_reveal}
use Rattle.m3_types_valid.proofs.FormLemmas.{any_reveals_fully}
use Rattle.m3_types_valid.proofs.graphs.is_revealed_fully.Goals as goal

pub returns-in-Err : goal.returns-in-Err
returns-in-Err c =
    let same : c.has_full_reveal.result ≡ is_some (full_reveal c.args.graph.now.reveals.items c.args.place) =
    (c.has_full_reveal.ensures ∙ ap (list_any (λ r. r.full && (r.opaque.0 == c.args.place))) c.deref.ensures.value)
    ∙ any_reveals_fully c.args.place c.args.graph.now.reveals.items in
    (λ yes. sym same ∙ yes, λ is. same ∙ is)
