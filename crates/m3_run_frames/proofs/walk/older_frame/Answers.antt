use Rattle.std.proofs.Common.{◌≡◌, ◌+◌, ◌-◌, ◌<◌, length, get_or, true, arith}
use Rattle.std.proofs.lemmas.Option.{slice_get-get_or}
use Rattle.m3_image.specs.Views.{image_view}
use Rattle.m3_run_frames.specs.Frames.{is_call_at}
use Rattle.m3_run_frames.proofs.FrameLemmas.{older_found}
use Rattle.m3_run_frames.proofs.walk.older_frame.Goals as goal

pub returns : goal.returns
returns c =
    let program = (image_view c.args.image.now.image).program in
    let stack = c.args.stack.now in
    let newer = c.args.newer.now in
    let back = get_or stack newer.first 0 in
    let start = get_or stack (newer.first + 1) 0 in
    let there : newer.first < length stack = omega (arith, c.if-newer-stack.false) in
    let next : newer.first + 1 < length stack = omega (arith, c.if-newer-stack.false, c.if-stack-newer-lt2.false) in
    let some : back ≡ (back - 1) + 1 = omega (arith, c.if-back-eq0.false) in
    let above : start ≡ c.args.base + (start - c.args.base) = omega (arith, c.if-start-base.false) in
    let below : start - c.args.base < newer.first = omega (arith, c.if-first-newer.false) in
    let call : is_call_at program (back - 1) ≡ true = cc (c.is_call_at.ensures, c.if-not-is_call_at.false, c.if-not-is_call_at.ensures) in
    older_found program c.args.base stack newer (start - c.args.base) (back - 1) back start c.frame_at.result (slice_get-get_or stack newer.first 0 there) (slice_get-get_or stack (newer.first + 1) 0 next) some above below call c.frame_at.ensures
