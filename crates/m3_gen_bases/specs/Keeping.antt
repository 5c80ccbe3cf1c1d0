-- WHAT KEEPS BASES is only added to a procedure.
use Rattle.std.specs.Prelude.{ℕ, List, [], ◌∷◌, ◌++◌, length}
use Rattle.m3_mid.specs.declared.procs.Proc.{Proc}
use Rattle.m3_mid.specs.declared.ops.MidOp.{MidOp}
use Rattle.m3_mid_additions.specs.Additions.{AreWithAdded}

-- operations of a procedure, and the same with others added
abbrev pub HasAdded : Proc → List MidOp → List MidOp → Type 0
HasAdded p first second = AreWithAdded (length p.temps.now) p.formals first second

-- more was added at the end
abbrev pub OnlyAdds : Proc → List MidOp → List MidOp → Type 0
OnlyAdds p before after = (first : List MidOp) → HasAdded p first before → HasAdded p first after

-- an operation of the procedure was put at the end, and more was added around it
abbrev pub AddsWith : Proc → MidOp → List MidOp → List MidOp → Type 0
AddsWith p op before after =
    (first : List MidOp) → HasAdded p first before → HasAdded p (first ++ op ∷ []) after
