use Rattle.std.proofs.Common.{Bor, ◌∙◌, ℕ, List, ap, inr, map}
use Rattle.m3c_source_commands.specs.Judging.{names_in, texts_in}
use Rattle.m3c_source_commands.specs.Texts.{names_of, texts_of}
use Rattle.m3c_source_commands.proofs.OrderLemmas.{accepted_as, files_refused_if, if_ok}
use Rattle.m3c_source_commands.proofs.imaging.compile_files.Goals as goal

pub returns-in-Ok-views_of-clause-ok : goal.returns-in-Ok-views_of-clause-ok
returns-in-Ok-views_of-clause-ok g c = λ h.
    let views = c.deref-in-Err-NotBuilt-2.result.now in
    let same = c.deref-in-Err-NotBuilt-2.ensures.value in
    let accepted = accepted_as g.C.Checks.judges (names_of c.args.sources.now) (names_in views) (texts_of c.args.sources.now) (texts_in views) (ap names_in same ∙ c.in-Ok-views_of.ensures.names) (ap texts_in same ∙ c.in-Ok-views_of.ensures.texts)
    (if_ok c.compile_into.result h c.compile_into.ensures.accepted) in
    inr (c.in-Err-NotBuilt.ensures.not_built (cc), accepted, if_ok c.compile_into.result h c.compile_into.ensures.ok)

pub returns-in-Ok-views_of-clause-err : goal.returns-in-Ok-views_of-clause-err
returns-in-Ok-views_of-clause-err g c =
    let views = c.deref-in-Err-NotBuilt-2.result.now in
    let same = c.deref-in-Err-NotBuilt-2.ensures.value in
    files_refused_if g.C.Checks.judges (names_of c.args.sources.now) (map (λ n. n.now) c.deref-in-Err-NotBuilt.result.now) (names_in views) (texts_of c.args.sources.now) (texts_in views) c.args.switches.now c.compile_into.result
    (ap (λ (names : List (Bor (List ℕ))). map (λ n. n.now) names) c.deref-in-Err-NotBuilt.ensures.value) (ap names_in same ∙ c.in-Ok-views_of.ensures.names) (ap texts_in same ∙ c.in-Ok-views_of.ensures.texts) (c.in-Err-NotBuilt.ensures.not_built (cc)) c.compile_into.ensures.err
