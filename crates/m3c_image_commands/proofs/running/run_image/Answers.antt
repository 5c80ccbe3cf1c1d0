use Rattle.std.proofs.Common.{◌∙◌, refl}
use Rattle.m3c_image_commands.proofs.RunLemmas.{runs_fetched, runs_unfetched, is_some_named}
use Rattle.m3c_image_commands.proofs.running.run_image.Goals as goal

pub returns : goal.returns
returns g c =
    let files = c.in-Ok.ensures in
    runs_fetched _ _ c.args.name.now _ _ _ _ c.run_fetched.result c.deref-2.result.now c.deref-3.result.now c.in-Ok.files.switches.items c.deref.result.now c.in-Ok.files.input.items c.is_some.result
    c.deref-2.ensures.value c.deref-3.ensures.value c.deref.ensures.value (c.is_some.ensures ∙ is_some_named _ c.args.options.switches) files.fetches.held files.image files.switches files.input c.run_fetched.ensures

pub returns-in-Err : goal.returns-in-Err
returns-in-Err g c = runs_unfetched _ _ c.args.name.now _ _ _ _ c.in-Err.refusal c.in-Err.ensures.fetches.held c.in-Err.ensures.fetches.unfetched refl
