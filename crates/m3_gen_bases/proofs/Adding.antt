-- How what is added grows, operation by operation and block by block.
use Rattle.std.proofs.Common.{◌≡◌, ℕ, ◌+◌, ◌<◌, List, [], ◌∷◌, ◌++◌, length, take, get_or, sym, ap, ◌∙◌, subst, take-suc, add-one, Bor}
use Rattle.m3_mid.specs.declared.procs.Proc.{Proc}
use Rattle.m3_mid.specs.declared.ops.MidOp.{MidOp}
use Rattle.m3_mid.specs.declared.procs.Block.{Block}
use Rattle.m3_mid_additions.specs.Additions.{AreBlocksWithAdded}
use Rattle.m3_mid_additions.proofs.Growing.{same_behind, block_behind}
use Rattle.m3_gen_bases.specs.Keeping.{HasAdded, OnlyAdds, AddsWith}

module _ (p : Proc) where
  pub pushed : (op : MidOp) (before after : List MidOp) → after ≡ before ++ op ∷ [] → AddsWith p op before after
  pushed op before after e first h =
      subst (λ z. HasAdded p (first ++ op ∷ []) z) (sym e) (same_behind (length p.temps.now) p.formals op first before h)

  pub then_adds : (op : MidOp) (a b c : List MidOp) → AddsWith p op a b → OnlyAdds p b c → AddsWith p op a c
  then_adds op a b c x y first h = y (first ++ op ∷ []) (x first h)

  pub adds_then : (op : MidOp) (a b c : List MidOp) → OnlyAdds p a b → AddsWith p op b c → AddsWith p op a c
  adds_then op a b c x y first h = y first (x first h)

-- one operation more of the procedure is there
pub carried : (p r : Bor Proc) (ops : List MidOp) (i : ℕ) (d : MidOp) (before after now : List MidOp) → now ≡ after → r ≡ p → i < length ops → HasAdded p.now (take i ops) before → AddsWith r.now (get_or ops i d) before after → HasAdded p.now (take (i + 1) ops) now
carried p r ops i d before after now e same there h adds =
    let here = subst (λ z. AddsWith z.now (get_or ops i d) before after) same adds in
    let more : HasAdded p.now (take (i + 1) ops) after = subst (λ z. HasAdded p.now z after) (sym (ap (λ k. take k ops) (add-one i) ∙ take-suc ops i d there)) (here (take i ops) h) in
    subst (λ z. HasAdded p.now (take (i + 1) ops) z) (sym e) more

-- and one block more
pub carried_block : (p r : Proc) (bs : List Block) (i : ℕ) (d b : Block) (before now : List Block) → now ≡ before ++ b ∷ [] → r ≡ p → i < length bs → HasAdded r (get_or bs i d).ops.now b.ops.now → b.end ≡ (get_or bs i d).end → AreBlocksWithAdded (length p.temps.now) p.formals (take i bs) before → AreBlocksWithAdded (length p.temps.now) p.formals (take (i + 1) bs) now
carried_block p r bs i d b before now e same there ops end h =
    let temps = length p.temps.now in
    let here = subst (λ z. HasAdded z (get_or bs i d).ops.now b.ops.now) same ops in
    let more = block_behind temps p.formals (get_or bs i d) b (take i bs) before here end h in
    let all : AreBlocksWithAdded temps p.formals (take (i + 1) bs) (before ++ b ∷ []) = subst (λ z. AreBlocksWithAdded temps p.formals z (before ++ b ∷ [])) (sym (ap (λ k. take k bs) (add-one i) ∙ take-suc bs i d there)) more in
    subst (λ z. AreBlocksWithAdded temps p.formals (take (i + 1) bs) z) (sym e) all
