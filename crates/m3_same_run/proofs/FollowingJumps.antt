-- A jump of the right procedure.
use Rattle.std.proofs.Common.{◌≡◌, ℕ, true, List, [], ◌∷◌, length, Some, None, refl, sym, ap, ◌∙◌, arith}
use Rattle.std.specs.Prelude.{◌==◌, slice_get}
use Rattle.std.proofs.lemmas.Bool.Decides.{nat_tests}
use Rattle.m3_mid.specs.declared.ops.MidOp.{MidOp}
use Rattle.m3_mid.specs.declared.procs.End.TheVariants.{Goto}
use Rattle.m3_mid.specs.declared.procs.Block.{Block}
use Rattle.m3_mid.specs.declared.procs.Proc.{Proc}
use Rattle.m3_same_run.specs.Check.{Standing, follow, in_block}

none_left : (n : ℕ) → true ≡ (n == 0) → n ≡ 0
none_left n e = grind (arith, nat_tests)

pub empty_so : (xs : List MidOp) → true ≡ (length xs == 0) → xs ≡ []
empty_so [] e = refl
empty_so (x ∷ xs) e = absurd (let bad = none_left (length (x ∷ xs)) e in omega (arith, bad))

pub followed : (q : Proc) (b : ℕ) (block : Block) (st : Standing) (next : Standing → Standing) → st.ops ≡ [] → st.end ≡ Goto b → Some block ≡ slice_get q.blocks.now b →
    next (record st { ops = block.ops.now; end = block.end }) ≡ follow q st.ops st.end st next
followed q b block st next eo ee e =
    sym (ap (λ z. follow q z st.end st next) eo ∙ ap (λ z. follow q [] z st next) ee ∙ ap (λ z. in_block z st next) (sym e))

pub stayed : (q : Proc) (b : ℕ) (st : Standing) (next : Standing → Standing) → st.ops ≡ [] → st.end ≡ Goto b → None ≡ slice_get q.blocks.now b → st ≡ follow q st.ops st.end st next
stayed q b st next eo ee e =
    sym (ap (λ z. follow q z st.end st next) eo ∙ ap (λ z. follow q [] z st next) ee ∙ ap (λ z. in_block z st next) (sym e))
