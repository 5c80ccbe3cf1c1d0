use Rattle.std.specs.Prelude.{◌≡◌, ◌+◌, Some}
use Rattle.std.proofs.Common.{sym, rules}
use Rattle.m3_base.specs.Words.{add_words}
use Rattle.m3_image_sections.specs.Ranges.{containing}
use Rattle.m3_image_decoded.specs.Ready.{image_of}
use Rattle.m3_run_meaning.proofs.Calling.{method_refused}
use Rattle.m3_run_meaning.proofs.near.called_method.Goals as goal

pub returns-in-Err : goal.returns-in-Err
returns-in-Err g c =
    let p = (image_of c.args.image.now).program in
    let memory = g.W.Words.holds c.args.memory.now in
    let caller = c.in-Some.caller.now in
    let loaded : memory (add_words c.args.at.fp (caller.body + 3)) ≡ Some c.in-Some-load.cell = search rules in
    method_refused (containing p.procs c.args.at.pc) caller p.types c.args.number c.args.at memory c.in-Some-load.cell c.in-Err.outcome
    c.in-Some.ensures.value loaded (sym c.in-Err.ensures)
