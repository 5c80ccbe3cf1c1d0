use Rattle.std.proofs.Common.{◌∙◌}
use Rattle.m3c_image_commands.proofs.RunLemmas.{is_some_named}
use Rattle.m3c_inspect_command.proofs.InspectLemmas.{inspects_fetched}
use Rattle.m3c_inspect_command.proofs.inspecting.inspect_image.Goals as goal

pub returns : goal.returns
returns g c =
    let files = c.in-Ok.ensures in
    inspects_fetched _ _ c.args.name.now _ _ _ _ c.inspect_fetched.result c.deref-2.result.now c.deref-3.result.now c.in-Ok.files.switches.items c.deref.result.now c.in-Ok.files.input.items c.is_some.result
    c.deref-2.ensures.value c.deref-3.ensures.value c.deref.ensures.value (c.is_some.ensures ∙ is_some_named _ c.args.options.switches) files.fetches.held files.image files.switches files.input c.inspect_fetched.ensures
