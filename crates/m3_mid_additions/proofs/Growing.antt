-- Operations and blocks put behind others.
use Rattle.std.proofs.Common.{◌≡◌, ℕ, List, [], ◌∷◌, ◌++◌, refl}
use Rattle.m3_mid.specs.declared.procs.Block.{Block}
use Rattle.m3_mid.specs.declared.ops.MidOp.{MidOp}
use Rattle.m3_mid_additions.specs.Additions.{IsAdded, AreWithAdded, none, same, added, AreBlocksWithAdded, block}

module _ (temps formals : ℕ) where
  pub nothing_added : (ops : List MidOp) → AreWithAdded temps formals ops ops
  nothing_added [] = none
  nothing_added (op ∷ ops) = same op ops ops (nothing_added ops)

  pub added_behind : (op : MidOp) (first second : List MidOp) → IsAdded temps formals op → AreWithAdded temps formals first second → AreWithAdded temps formals first (second ++ op ∷ [])
  added_behind op _ _ is none = added op [] [] is none
  added_behind op _ _ is (same o first second h) = same o first (second ++ op ∷ []) (added_behind op first second is h)
  added_behind op first _ is (added o _ second is' h) = added o first (second ++ op ∷ []) is' (added_behind op first second is h)

  pub same_behind : (op : MidOp) (first second : List MidOp) → AreWithAdded temps formals first second → AreWithAdded temps formals (first ++ op ∷ []) (second ++ op ∷ [])
  same_behind op _ _ none = same op [] [] none
  same_behind op _ _ (same o first second h) = same o (first ++ op ∷ []) (second ++ op ∷ []) (same_behind op first second h)
  same_behind op first _ (added o _ second is h) = added o (first ++ op ∷ []) (second ++ op ∷ []) is (same_behind op first second h)

  pub same_blocks : (bs : List Block) → AreBlocksWithAdded temps formals bs bs
  same_blocks [] = none
  same_blocks (b ∷ bs) = block b b bs bs (nothing_added b.ops.now) refl (same_blocks bs)

  pub block_behind : (a b : Block) (first second : List Block) → AreWithAdded temps formals a.ops.now b.ops.now → b.end ≡ a.end → AreBlocksWithAdded temps formals first second → AreBlocksWithAdded temps formals (first ++ a ∷ []) (second ++ b ∷ [])
  block_behind a b _ _ ops end none = block a b [] [] ops end none
  block_behind a b _ _ ops end (block c d first second ops' end' h) =
      block c d (first ++ a ∷ []) (second ++ b ∷ []) ops' end' (block_behind a b first second ops end h)
