-- The check with what is given is the check.
use Rattle.std.proofs.Common.{◌≡◌, ℕ, Bool, true, List, [], ◌∷◌, Option, Some, None, refl, sym, ap, ◌∙◌}
use Rattle.std.specs.Prelude.{◌&&◌, slice_get}
use Rattle.m3_mid.specs.declared.procs.Proc.{Proc}
use Rattle.m3_mid.specs.declared.procs.Block.{Block}
use Rattle.m3_mid_meaning.specs.Runs.{FollowsRun}
use Rattle.m3_same_forms.specs.Forms.{Pair}
use Rattle.m3_same_run.specs.Check.{blocks_so, pair_so, pairs_so, old_both, old_knowns, starts, same_frame}
use Rattle.m3_same_run.specs.Whole.{blocks_with, pair_with, pairs_with, run_with}
use Rattle.m3_same_run.proofs.Blocks.{follows}

module _ (common : List Bool) (p q : Proc) (jumps : ℕ) (proof : List Pair) where
  blocks_same : (pair : Pair) (x y : Option Block) → blocks_with p.slots.now common q jumps proof pair x y ≡ blocks_so common p q jumps proof pair x y
  blocks_same pair None y = refl
  blocks_same pair (Some block) None = refl
  blocks_same pair (Some block) (Some block') = refl

  pair_same : (pair : Pair) → pair_with p.slots.now common p q jumps proof pair ≡ pair_so common p q jumps proof pair
  pair_same pair =
      ap (λ b. old_both pair && old_knowns pair.knowns && b) (blocks_same pair (slice_get p.blocks.now pair.left) (slice_get q.blocks.now pair.right))

  pairs_same : (pairs : List Pair) → pairs_with p.slots.now common p q jumps proof pairs ≡ pairs_so common p q jumps proof pairs
  pairs_same [] = refl
  pairs_same (pair ∷ pairs) =
      ap (λ b. b && pairs_with p.slots.now common p q jumps proof pairs) (pair_same pair) ∙ ap (λ b. pair_so common p q jumps proof pair && b) (pairs_same pairs)

  pub whole : run_with p.slots.now common p q jumps proof ≡ true → FollowsRun p q
  whole h =
      follows common p q jumps proof (ap (λ b. same_frame p q && starts proof p.start q.start && b) (sym (pairs_same proof)) ∙ h)
