use Rattle.std.specs.Prelude.{◌+◌, ◌≤◌, length, vec_capacity}
use Rattle.m3_image_decoded.specs.Ready.{image_of}
use Rattle.m3_roots.proofs.FrameLemmas.{Listed}
use Rattle.m3_roots.proofs.walk.list_frames.Given as goal

abbrev pub invariant-loop-newer : goal.invariant-loop-newer
invariant-loop-newer l = record {
  listed : Listed (image_of l.image).program l.base l.stack l.regs.fp l.regs.pc l.frames.items l.newer;
  few : length l.frames.items + l.newer.first ≤ length l.stack;
  room : vec_capacity l.initial.frames ≤ vec_capacity l.frames;
}

abbrev pub decreases-loop-newer : goal.decreases-loop-newer
decreases-loop-newer l = l.newer.first
