use Rattle.std.proofs.Common.{◌≡◌, ◌++◌, drop, map}
use Rattle.m3_image.specs.Views.{image_view}
use Rattle.m3_roots.specs.RowMeaning.{HaveRows}
use Rattle.m3_inspect.specs.Shown.{shown_frame, shown_frames, cells_after_frames}
use Rattle.m3_inspect.proofs.frames.frame_views.Given as goal

abbrev pub invariant-loop-frame : goal.invariant-loop-frame
invariant-loop-frame l =
    let i = image_view l.fn.image in
    let words = l.fn.regs ++ l.fn.stack in
    let rest = drop l.frame-index l.fn.frames in
    HaveRows i.program l.fn.frames
    → (map shown_frame l.views.items ++ shown_frames i words l.cells.keys rest ≡ shown_frames i words l.fn.cells.keys l.fn.frames)
    × (cells_after_frames i words l.cells.keys rest ≡ cells_after_frames i words l.fn.cells.keys l.fn.frames)
