use Rattle.std.proofs.Common.{◌≤◌, ◌-◌}
use Rattle.m3_image_decoded.specs.Ready.{image_of}
use Rattle.m3_image_dump.specs.Texts.{Adds, CodeText}
use Rattle.m3_image_dump.proofs.lines.put_code.Given as goal

abbrev pub invariant-code : goal.invariant-code
invariant-code l = (l.proc.first ≤ l.pc) × Adds (CodeText (image_of l.image).program l.proc.first (l.pc - l.proc.first)) l.fn.text.items l.text.items
