use Rattle.std.proofs.Common.{refl, subst, sym}
use Rattle.m3_image.specs.Views.{image_view}
use Rattle.m3_image_dump.specs.Texts.{IsDump}
use Rattle.m3c_image_commands.specs.ImageCommands.{not_put}
use Rattle.m3c_image_commands.proofs.RunLemmas.{dumps_text, front_taken}
use Rattle.m3c_image_commands.proofs.dumping.dump_view.Goals as goal

pub returns-in-Ok-put : goal.returns-in-Ok-put
returns-in-Ok-put g c =
    let image = image_view c.args.image in
    let whole : IsDump image c.in-Ok-dump.text.items = subst (λ i. IsDump i c.in-Ok-dump.text.items) c.in-Ok.ensures c.in-Ok-dump.ensures in
    let told : IsDump image c.deref.result.now = subst (λ text. IsDump image text) (sym c.deref.ensures.value) whole in
    λ bytes same. dumps_text bytes _ _ _ _ _ c.silent.ensures.status c.silent.ensures.line same told c.in-Ok-put.ensures.ok

pub returns : goal.returns
returns g c =
    let image = image_view c.args.image in
    let whole : IsDump image c.in-Ok-dump.text.items = subst (λ i. IsDump i c.in-Ok-dump.text.items) c.in-Ok.ensures c.in-Ok-dump.ensures in
    let told : IsDump image c.deref.result.now = subst (λ text. IsDump image text) (sym c.deref.ensures.value) whole in
    let failed = c.in-Err.ensures.failed in
    λ bytes same. not_put image c.deref.result.now same told (record { status = refl; front = refl; name = refl }) failed.0 (front_taken _ _ _ c.deref.result.now failed.1)
