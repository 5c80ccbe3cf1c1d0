-- Procedures that follow each other, and which of them an instruction is in.
use Rattle.std.proofs.Common.{◌≡◌, ℕ, zero, suc, ◌+◌, ◌<◌, ◌≤◌, Bool, true, false, ◌&&◌, List, [], ◌∷◌, length, Some, None, refl, arith}
use Rattle.std.specs.Prelude.{◌==◌}
use Rattle.std.specs.List.{slice_get}
use Rattle.std.specs.Option.{option_map_or}
use Rattle.std.proofs.lemmas.Bool.{lt-ltb, le-ltb}
use Rattle.std.proofs.lemmas.Bool.Decides.{nat_tests}
use Rattle.m3_image_sections.specs.declared.procs.ProcPart.{ProcPart}
use Rattle.m3_image_sections.specs.Forms.{proc_fits, follow_from, second_fits, procs_fit}
use Rattle.m3_image_sections.specs.Ranges.{containing}

-- where a procedure ends, by its number
abbrev pub end_at : List ProcPart → ℕ → ℕ
end_at ps k = option_map_or (λ p. p.first + p.count) (slice_get ps k) 0

and_parts : (a b : Bool) → (a && b) ≡ true → (a ≡ true) × (b ≡ true)
and_parts true b e = (refl, e)
and_parts false b e = absurd cc

follow_parts : (start : ℕ) (p : ProcPart) (ps : List ProcPart) → follow_from start (p ∷ ps) ≡ true → (p.first ≡ start) × (follow_from (p.first + p.count) ps ≡ true)
follow_parts start p ps e =
    let parts = and_parts (p.first == start && proc_fits p) (follow_from (p.first + p.count) ps) e in
    let first = (and_parts (p.first == start) (proc_fits p) parts.0).0 in
    (grind (arith, nat_tests, first), parts.1)

ends_from : (start : ℕ) (ps : List ProcPart) → follow_from start ps ≡ true → (k : ℕ) → k < length ps → start ≤ end_at ps k
ends_from start [] e k lt = absurd (omega arith)
ends_from start (p ∷ ps) e zero lt = let f = follow_parts start p ps e in omega (arith, f.0)
ends_from start (p ∷ ps) e (suc k) lt =
    let f = follow_parts start p ps e in
    let later = ends_from (p.first + p.count) ps f.1 k (omega arith) in
    omega (arith, f.0, later)

-- the ends rise
pub ends_rise : (start : ℕ) (ps : List ProcPart) → follow_from start ps ≡ true → (i j : ℕ) → i ≤ j → j < length ps → end_at ps i ≤ end_at ps j
ends_rise start [] e i j le lt = absurd (omega arith)
ends_rise start (p ∷ ps) e zero zero le lt = omega arith
ends_rise start (p ∷ ps) e zero (suc j) le lt = let f = follow_parts start p ps e in ends_from (p.first + p.count) ps f.1 j (omega arith)
ends_rise start (p ∷ ps) e (suc i) zero le lt = absurd (omega arith)
ends_rise start (p ∷ ps) e (suc i) (suc j) le lt = let f = follow_parts start p ps e in ends_rise (p.first + p.count) ps f.1 i j (omega arith) (omega arith)

-- an instruction is in the first procedure that ends behind it
pub containing_at : (ps : List ProcPart) (pc low : ℕ) → ((k : ℕ) → k < low → end_at ps k ≤ pc) → low < length ps → pc < end_at ps low → containing ps pc ≡ slice_get ps low
containing_at [] pc low before lt behind = absurd (omega arith)
containing_at (p ∷ ps) pc zero before lt behind = let t = lt-ltb pc (p.first + p.count) behind in rw t refl
containing_at (p ∷ ps) pc (suc low) before lt behind =
    let t = le-ltb pc (p.first + p.count) (before 0 (omega arith)) in
    rw t (containing_at ps pc low (λ k less. before (suc k) (omega arith)) (omega arith) behind)

pub containing_none : (ps : List ProcPart) (pc : ℕ) → ((k : ℕ) → k < length ps → end_at ps k ≤ pc) → containing ps pc ≡ None
containing_none [] pc before = refl
containing_none (p ∷ ps) pc before =
    let t = le-ltb pc (p.first + p.count) (before 0 (omega arith)) in
    rw t (containing_none ps pc (λ k less. before (suc k) (omega arith)))

-- ---- halving

pub end_known : (ps : List ProcPart) (k : ℕ) (p : ProcPart) → Some p ≡ slice_get ps k → end_at ps k ≡ p.first + p.count
end_known ps k p e = rw (← e) refl

pub halve_up : (ps : List ProcPart) (middle pc : ℕ) → follow_from 0 ps ≡ true → middle < length ps → end_at ps middle ≤ pc → (k : ℕ) → k < middle + 1 → end_at ps k ≤ pc
halve_up ps middle pc f lt h k less = let r = ends_rise 0 ps f k middle (omega arith) lt in omega (arith, r, h)

pub halve_down : (ps : List ProcPart) (middle pc : ℕ) → follow_from 0 ps ≡ true → pc < end_at ps middle → (k : ℕ) → middle ≤ k → k < length ps → pc < end_at ps k
halve_down ps middle pc f h k le lt = let r = ends_rise 0 ps f middle k le lt in omega (arith, r, h)

pub fit_follows : (ps : List ProcPart) → procs_fit ps ≡ true → follow_from 0 ps ≡ true
fit_follows ps e = (and_parts (follow_from 0 ps) (second_fits ps) e).0
