use Rattle.m3_image_decoded.specs.Ready.{image_of}
use Rattle.m3_roots.proofs.FrameLemmas.{Listed}
use Rattle.m3_inspect.proofs.frames.frames_of.Given as goal

abbrev pub invariant-loop-newer : goal.invariant-loop-newer
invariant-loop-newer l = Listed (image_of l.fn.image).program l.fn.base l.fn.stack l.fn.regs.fp l.fn.regs.pc l.frames.items l.newer

abbrev pub decreases-loop-newer : goal.decreases-loop-newer
decreases-loop-newer l = l.newer.first
