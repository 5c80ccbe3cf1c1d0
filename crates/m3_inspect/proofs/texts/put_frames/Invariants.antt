use Rattle.std.proofs.Common.{◌≡◌, ◌++◌, drop, flat_map, map}
use Rattle.m3_image.specs.Views.{image_view}
use Rattle.m3_inspect.specs.Shown.{shown_frame}
use Rattle.m3_inspect.specs.Texts.{frame_text}
use Rattle.m3_inspect.proofs.texts.put_frames.Given as goal

abbrev pub invariant-frames : goal.invariant-frames
invariant-frames l =
    l.text.items ++ flat_map (frame_text (image_view l.fn.image)) (map shown_frame (drop l.frame-index l.fn.frames)) ≡ l.fn.text.items ++ flat_map (frame_text (image_view l.fn.image)) (map shown_frame l.fn.frames)
