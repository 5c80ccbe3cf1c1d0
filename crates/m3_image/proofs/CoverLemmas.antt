-- The procedures have all of the code.
use Rattle.std.proofs.Common.{◌≡◌, ℕ, ◌+◌, ◌≤◌, Bool, true, false, ◌&&◌, List, [], ◌∷◌, length, Option, Some, None, ◌⊎◌, inl, inr, refl, sym, arith}
use Rattle.std.specs.Prelude.{◌==◌, nat_lt, IfNone}
use Rattle.std.proofs.lemmas.Bool.Decides.{nat_tests}
use Rattle.m3_image_sections.specs.declared.procs.ProcPart.{ProcPart}
use Rattle.m3_image_sections.specs.Parts.{Program}
use Rattle.m3_image_sections.specs.Ranges.{containing, end_from}
use Rattle.m3_image.specs.Programs.{begins_with_point, procs_suit, fault_of}

choice : (b : Bool) → (b ≡ true) ⊎ (b ≡ false)
choice true = inl refl
choice false = inr refl

and_first : (a b : Bool) → (a && b) ≡ true → a ≡ true
and_first true b e = refl
and_first false b e = cc

-- what is in none of some procedures lies behind the last
pub covered_from : (start : ℕ) (ps : List ProcPart) (pc : ℕ) → start ≤ pc → containing ps pc ≡ None → end_from start ps ≤ pc
covered_from start [] pc le e = le
covered_from start (p ∷ ps) pc le e =
    elim (choice (nat_lt pc (p.first + p.count))) [
      | inl inside ↦ (let found : containing (p ∷ ps) pc ≡ Some p = rw inside refl in absurd cc)
      | inr behind ↦ (
          let later : p.first + p.count ≤ pc = grind (arith, nat_tests, behind) in
          let others : containing (p ∷ ps) pc ≡ containing ps pc = rw behind refl in
          covered_from (p.first + p.count) ps pc later (cc (others)))
    ]

pub suits : (p : Program) → fault_of p ≡ None → procs_suit p ≡ true
unfolding fault_of
suits p e =
    elim (choice (procs_suit p)) [
      | inl good ↦ good
      | inr bad ↦ (let h = rw bad at e in absurd cc)
    ]

-- an instruction of a sound program is in a procedure
pub all_contained : (p : Program) (pc : ℕ) → fault_of p ≡ None → containing p.procs pc ≡ None → length p.code ≤ pc
unfolding procs_suit
all_contained p pc sound e =
    let good : procs_suit p ≡ true = suits p sound in
    let same = and_first (end_from 0 p.procs == length p.code) (begins_with_point p 0 && begins_with_point p 1) good in
    let ends : end_from 0 p.procs ≡ length p.code = grind (arith, nat_tests, same) in
    let covered = covered_from 0 p.procs pc (omega arith) e in
    omega arith

pub none_past : (p : Program) (pc : ℕ) (o : Option ProcPart) → fault_of p ≡ None → o ≡ containing p.procs pc → IfNone o (length p.code ≤ pc)
none_past p pc None sound e = all_contained p pc sound (sym e)
none_past p pc (Some q) sound e = tt
