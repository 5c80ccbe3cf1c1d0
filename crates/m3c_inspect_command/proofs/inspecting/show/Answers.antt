use Rattle.std.proofs.Common.{rules, ◌≡◌, ℕ, List, ◌++◌, codes, refl, ap, ◌∙◌}
use Rattle.m3_image.specs.Views.{image_view}
use Rattle.m3_image_decoded.specs.Ready.{image_of}
use Rattle.m3_run_state.specs.Seen.{state_of}
use Rattle.m3c_image_commands.specs.Reports.{counted}
use Rattle.m3c_inspect_command.proofs.InspectLemmas.{text_shown, frame_told, unframed_of}
use Rattle.m3c_inspect_command.proofs.inspecting.show.Goals as goal

pub returns-in-Ok : goal.returns-in-Ok
returns-in-Ok g c =
    let m = c.args.machine.now.parts in
    let to = state_of m in
    let begun : c.extend_from_slice.new.self.items ≡ codes "inspected" = search rules in
    let line = c.counted_answer-answer.ensures.line ∙ ap (λ (xs : List ℕ). counted g.S.FirstHeap.young c.args.tells xs to) begun in
    text_shown (image_view c.args.image.now) (image_of m.image) g.S.FirstHeap.young c.args.tells to _ c.counted_answer-answer.result c.in-Ok.view c.put_view.result c.requires.image c.in-Ok.ensures c.counted_answer-answer.ensures.status line c.put_view.ensures

pub returns-in-Err-Frame : goal.returns-in-Err-Frame
returns-in-Err-Frame g c =
    let m = c.args.machine.now.parts in
    let to = state_of m in
    let none = unframed_of (image_of m.image) to.all c.in-Err-Frame.field-0 c.in-Err-Frame.field-0-0 c.in-Err-Frame.field-0-is c.in-Err-Frame.ensures in
    frame_told (image_view c.args.image.now) (image_of m.image) g.S.FirstHeap.young c.args.tells to _ c.answer_of.result.status c.answer_of.result.line.items c.in-Err-Frame.field-0-0 c.requires.image none c.answer_of.ensures.status c.answer_of.ensures.line refl
