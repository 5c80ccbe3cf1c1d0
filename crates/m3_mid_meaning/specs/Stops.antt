-- Where an activation stands: before some code, at a point, or at its end.
use Rattle.std.specs.Prelude.{List, [], ◌∷◌}
use Rattle.m3_mid.specs.declared.procs.Block.{Block}
use Rattle.m3_mid.specs.declared.procs.End.{End}
use Rattle.m3_mid.specs.declared.ops.MidOp.{MidOp}
use Rattle.m3_mid_meaning.specs.States.{Ending, Next}
use Rattle.m3_mid_meaning.specs.Points.{Event, Answer}

-- what is left of a block
pub record Code : Type 0 where
  pub ops : List MidOp
  pub end : End

abbrev pub code_of : Block → Code
code_of block = record { ops = block.ops.now; end = block.end }

abbrev pub bare : End → Code
bare end = record { ops = []; end = end }

-- an operation in front
abbrev pub before : MidOp → Code → Code
before op rest = record { ops = op ∷ rest.ops; end = rest.end }

-- An activation stops at a point, where it tells an event, goes on by an answer, and has this code
-- before it; or it has ended.
pub data Stop : Type 0 where
  AtPoint : Event → (Answer → Next) → Code → Stop
  AtEnd : Ending → Stop
