-- OPERATIONS THAT ARE ADDED TO A PROCEDURE and only set temporaries that it hasn't.
use Rattle.std.specs.Prelude.{◌≡◌, ◌<◌, ◌≤◌, ℕ, ℤ, List, [], ◌∷◌, length}
use Rattle.m3_mid.specs.declared.procs.Proc.{Proc}
use Rattle.m3_mid.specs.declared.procs.Block.{Block}
use Rattle.m3_mid.specs.declared.ops.MidOp.{MidOp}
use Rattle.m3_mid.specs.declared.ops.MidOp.TheVariants as ops
use Rattle.m3_mid.specs.declared.ops.MemoryWord.TheVariants as places

-- in a procedure with so many temporaries, and so many slots that hold formals
module _ (temps formals : ℕ) where
  -- what is added sets a temporary behind those of the procedure: to a number, to what another one
  -- holds, or to a word of a formal
  pub data IsAdded : MidOp → Type 0 where
    number : (to : ℕ) (value : ℤ) → temps ≤ to → IsAdded (ops.Number to value)
    moved : (to from : ℕ) → temps ≤ to → IsAdded (ops.Move to from)
    formal : (to slot : ℕ) → temps ≤ to → slot < formals
        → IsAdded (ops.Load to (places.Slot slot))

  -- the second are the first, in their order, with others added among them
  pub data AreWithAdded : List MidOp → List MidOp → Type 0 where
    none : AreWithAdded [] []
    same : (op : MidOp) (first second : List MidOp) → AreWithAdded first second
        → AreWithAdded (op ∷ first) (op ∷ second)
    added : (op : MidOp) (first second : List MidOp) → IsAdded op → AreWithAdded first second
        → AreWithAdded first (op ∷ second)

  pub data AreBlocksWithAdded : List Block → List Block → Type 0 where
    none : AreBlocksWithAdded [] []
    block : (a b : Block) (first second : List Block) → AreWithAdded a.ops.now b.ops.now
        → b.end ≡ a.end → AreBlocksWithAdded first second
        → AreBlocksWithAdded (a ∷ first) (b ∷ second)

-- THE SECOND PROCEDURE IS THE FIRST, with such operations added
pub record IsWithAdded (p q : Proc) : Type 0 where
  pub slots : q.slots.now ≡ p.slots.now
  pub formals : q.formals ≡ p.formals
  pub start : q.start ≡ p.start
  pub blocks : AreBlocksWithAdded (length p.temps.now) p.formals p.blocks.now q.blocks.now
