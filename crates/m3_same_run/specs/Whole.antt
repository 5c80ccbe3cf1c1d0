-- The check of two procedures, with the slots of the frames as they are given.
use Rattle.std.specs.Prelude.{ℕ, ◌&&◌, Bool, true, false, List, [], ◌∷◌, Option, Some, slice_get}
use Rattle.m3_mid.specs.declared.procs.Slot.{Slot}
use Rattle.m3_mid.specs.declared.procs.Proc.{Proc}
use Rattle.m3_mid.specs.declared.procs.Block.{Block}
use Rattle.m3_same_forms.specs.Forms.{Pair}
use Rattle.m3_same_run.specs.Check.{steps, ends_so, old_both, old_knowns, standing_at, starts, same_frame}

abbrev pub blocks_with : List Slot → List Bool → Proc → ℕ → List Pair → Pair → Option Block → Option Block → Bool
blocks_with slots common q jumps proof pair (Some block) (Some block') =
    ends_so slots common proof block.end
    (steps slots common q jumps block.ops.now (standing_at pair block'))
blocks_with slots common q jumps proof pair _ _ = false

abbrev pub pair_with : List Slot → List Bool → Proc → Proc → ℕ → List Pair → Pair → Bool
pair_with slots common p q jumps proof pair =
    old_both pair && old_knowns pair.knowns
    && blocks_with slots common q jumps proof pair (slice_get p.blocks.now pair.left) (slice_get q.blocks.now pair.right)

abbrev pub pairs_with : List Slot → List Bool → Proc → Proc → ℕ → List Pair → List Pair → Bool
pairs_with slots common p q jumps proof [] = true
pairs_with slots common p q jumps proof (pair ∷ pairs) =
    pair_with slots common p q jumps proof pair && pairs_with slots common p q jumps proof pairs

abbrev pub run_with : List Slot → List Bool → Proc → Proc → ℕ → List Pair → Bool
run_with slots common p q jumps proof =
    same_frame p q && starts proof p.start q.start
    && pairs_with slots common p q jumps proof proof
