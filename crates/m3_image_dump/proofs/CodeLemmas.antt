-- The instructions of a procedure are in the code, and texts that grow.
use Rattle.std.proofs.Common.{◌≡◌, ℕ, suc, ◌+◌, ◌-◌, ◌<◌, ◌≤◌, Bool, true, false, ◌&&◌, List, [], ◌∷◌, ◌++◌, length, Option, Some, None, inl, inr, refl, sym, subst, arith, rules}
use Rattle.std.specs.Prelude.{◌==◌, IsTrue}
use Rattle.std.specs.List.{slice_get}
use Rattle.std.proofs.lemmas.List.{append_assoc}
use Rattle.std.proofs.lemmas.Option.{slice_get_cases}
use Rattle.std.proofs.lemmas.Bool.Decides.{nat_tests}
use Rattle.m3_isa.specs.declared.instructions.Instr.{Instr}
use Rattle.m3_image_sections.specs.declared.procs.ProcPart.{ProcPart}
use Rattle.m3_image_sections.specs.Forms.{proc_fits, follow_from, procs_fit}
use Rattle.m3_image_sections.specs.Parts.{Program}
use Rattle.m3_image_sections.specs.Ranges.{end_from}
use Rattle.m3_image_sections.proofs.ProcLemmas.{fit_follows}
use Rattle.m3_image.specs.Programs.{begins_with_point, procs_suit, fault_of}
use Rattle.m3_image.proofs.CoverLemmas.{suits}
use Rattle.m3_image_dump.specs.Texts.{instruction_line, RowText, CodeText, code}

and_parts : (a b : Bool) → (a && b) ≡ true → (a ≡ true) × (b ≡ true)
and_parts true b e = (refl, e)
and_parts false b e = absurd cc

follow_parts : (start : ℕ) (p : ProcPart) (ps : List ProcPart) → follow_from start (p ∷ ps) ≡ true → (p.first ≡ start) × (follow_from (p.first + p.count) ps ≡ true)
follow_parts start p ps e =
    let parts = and_parts (p.first == start && proc_fits p) (follow_from (p.first + p.count) ps) e in
    let first = (and_parts (p.first == start) (proc_fits p) parts.0).0 in
    (grind (arith, nat_tests, first), parts.1)

-- procedures that follow each other end behind where they begin
ends_behind : (start : ℕ) (ps : List ProcPart) → follow_from start ps ≡ true → start ≤ end_from start ps
ends_behind start [] e = omega arith
ends_behind start (p ∷ ps) e =
    let f = follow_parts start p ps e in
    let later = ends_behind (p.first + p.count) ps f.1 in
    omega (arith, f.0, later)

ends_within : (start : ℕ) (before : List ProcPart) (p : ProcPart) (after : List ProcPart)
    → follow_from start (before ++ p ∷ after) ≡ true → p.first + p.count ≤ end_from start (before ++ p ∷ after)
ends_within start [] p after e = ends_behind (p.first + p.count) after (follow_parts start p after e).1
ends_within start (q ∷ qs) p after e = ends_within (q.first + q.count) qs p after (follow_parts start q (qs ++ p ∷ after) e).1

-- a procedure of a sound program ends in its code
pub ends_in_code : (i : Program) (before : List ProcPart) (p : ProcPart) (after : List ProcPart)
    → IsTrue (procs_fit i.procs) → fault_of i ≡ None → before ++ p ∷ after ≡ i.procs → p.first + p.count ≤ length i.code
unfolding procs_suit
ends_in_code i before p after fit sound same =
    let good : procs_suit i ≡ true = suits i sound in
    let whole = (and_parts (end_from 0 i.procs == length i.code) (begins_with_point i 0 && begins_with_point i 1) good).0 in
    let ends : end_from 0 i.procs ≡ length i.code = grind (arith, nat_tests, whole) in
    let follows : follow_from 0 (before ++ p ∷ after) ≡ true = subst (λ ps. follow_from 0 ps ≡ true) (sym same) (fit_follows i.procs fit) in
    let within = ends_within 0 before p after follows in
    let there : p.first + p.count ≤ end_from 0 i.procs = subst (λ ps. p.first + p.count ≤ end_from 0 ps) same within in
    omega (arith, ends, there)

-- one more instruction
pub more_code : (p : Program) (first pc : ℕ) (i : Instr) (before row : List ℕ) → first ≤ pc → CodeText p first (pc - first) before → Some i ≡ slice_get p.code pc
    → RowText p.tables pc row → CodeText p first ((pc + 1) - first) (before ++ instruction_line pc i ++ row)
more_code p first pc i before row le done there r =
    let at : first + (pc - first) ≡ pc = omega (arith, le) in
    let next : suc (pc - first) ≡ (pc + 1) - first = omega (arith, le) in
    let here : slice_get p.code (first + (pc - first)) ≡ Some i = subst (λ n. slice_get p.code n ≡ Some i) (sym at) (sym there) in
    let its : RowText p.tables (first + (pc - first)) row = subst (λ n. RowText p.tables n row) (sym at) r in
    subst (λ k. CodeText p first k (before ++ instruction_line pc i ++ row)) next
    (subst (λ n. CodeText p first (suc (pc - first)) (before ++ instruction_line n i ++ row)) at (code (pc - first) i before row done here its))

-- an instruction that isn't there lies past the code
pub past_code : (xs : List Instr) (n : ℕ) → None ≡ slice_get xs n → length xs ≤ n
past_code xs n e =
    elim (slice_get_cases xs n).1 [
      | inl found ↦ absurd (cc (e, found.2))
      | inr past ↦ past.0
    ]

-- three parts added one after the other
pub joined : (e a b c x y z : List ℕ) → x ≡ e ++ a → y ≡ x ++ b → z ≡ y ++ c → z ≡ e ++ (a ++ b ++ c)
joined e a b c x y z h1 h2 h3 = rw (h3, h2, h1, append_assoc e a b, append_assoc e (a ++ b) c) refl
