-- What every image has that a machine rests on.
use Rattle.std.specs.Prelude.{ℕ, zero, suc, ◌≡◌, ◌≤◌, ◌+◌, ◌&&◌, ◌==◌, if◌then◌else◌, Bool, true, false, List, [], ◌∷◌, length, slice_get, Option, None, Some, ◌⊎◌}
use Rattle.std.specs.Option.{option_map_or}
use Rattle.std.proofs.Common.{refl, sym, ap, subst, ◌∙◌, arith, inl, inr}
use Rattle.std.proofs.lemmas.Bool.{and_parts, eqb-true}
use Rattle.m3_image_sections.specs.declared.refusal.ImageRefusal.{ImageRefusal}
use Rattle.m3_image_sections.specs.declared.procs.ProcPart.{ProcPart}
use Rattle.m3_image_sections.specs.Parts.{Program, CellType}
use Rattle.m3_image_sections.specs.Forms.{follow_from, proc_fits, second_fits, procs_fit}
use Rattle.m3_image_sections.specs.Ranges.{is_point_at, end_from}
use Rattle.m3_image.specs.Programs.{fault_of, procs_suit, begins_with_point}
use Rattle.m3_run_laws.specs.Standing.{BeginsAtPoints}

suits-at : (b : Bool) (x : Option ImageRefusal) (r : ImageRefusal) → (if b then x else Some r) ≡ None → b ≡ true
suits-at true x r e = refl
suits-at false x r e = absurd cc

suits : (p : Program) → fault_of p ≡ None → procs_suit p ≡ true
unfolding fault_of
suits p e = suits-at (procs_suit p) _ _ e

begins : (p : Program) → procs_suit p ≡ true → (begins_with_point p 0 ≡ true) × (begins_with_point p 1 ≡ true)
unfolding procs_suit
begins p e = and_parts (begins_with_point p 0) (begins_with_point p 1) (and_parts (end_from 0 p.procs == length p.code) (begins_with_point p 0 && begins_with_point p 1) e).1

some-proc : (p : Program) (o : Option ProcPart) → option_map_or (λ q. is_point_at p.code q.first) o false ≡ true → (q : ProcPart) × (o ≡ Some q) × (is_point_at p.code q.first ≡ true)
some-proc p None e = absurd cc
some-proc p (Some q) e = (q, refl, e)

-- the threads of an image begin with points
pub begins_at_points : (p : Program) (constants : List ℕ) → fault_of p ≡ None → BeginsAtPoints (record p { constants = constants })
begins_at_points p constants e =
    let found = some-proc p (slice_get p.procs 1) (begins p (suits p e)).1 in
    record { first = found.0; there = found.1; point = found.2 }

-- ---- the dimensions of types

abbrev pub IsAhead : ℕ → List CellType → CellType → Type 0
IsAhead most rest form = (form.dims ≤ most) ⊎ ((m : ℕ) × (slice_get rest m ≡ Some form))

ahead-at : (most next : ℕ) (first : CellType) (rest : List CellType) (form : CellType) (m : ℕ) → first.dims ≤ next → slice_get (first ∷ rest) m ≡ Some form → IsAhead next rest form
ahead-at most next first rest form zero h e =
    let same : first ≡ form = cc in
    inl (subst (λ (x : CellType). x.dims ≤ next) same h)
ahead-at most next first rest form (suc m) h e = inr (m, e)

pub still_ahead : (most next : ℕ) (all rest : List CellType) (first form : CellType) → all ≡ first ∷ rest → most ≤ next → first.dims ≤ next → IsAhead most all form → IsAhead next rest form
still_ahead most next all rest first form is grows h (inl low) = inl (omega (arith, low, grows))
still_ahead most next all rest first form is grows h (inr there) = ahead-at most next first rest form there.0 h (ap (λ (ts : List CellType). slice_get ts there.0) (sym is) ∙ there.1)

pub none_ahead : (most : ℕ) (rest : List CellType) (form : CellType) → rest ≡ [] → IsAhead most rest form → form.dims ≤ most
none_ahead most rest form is (inl low) = low
none_ahead most rest form is (inr there) = absurd (nothing-at there.0 form (ap (λ (ts : List CellType). slice_get ts there.0) (sym is) ∙ there.1))
  where
    nothing-at : (n : ℕ) (form : CellType) → slice_get [] n ≡ Some form → ⊥
    nothing-at zero form e = cc
    nothing-at (suc n) form e = cc

-- ---- the first instruction

first-of : (ps : List ProcPart) (q : ProcPart) → follow_from 0 ps ≡ true → slice_get ps 0 ≡ Some q → q.first ≡ 0
first-of [] q h e = absurd cc
first-of (p ∷ ps) q h e =
    let same : p ≡ q = cc in
    let both = and_parts (p.first == 0 && proc_fits p) (follow_from (p.first + p.count) ps) h in
    subst (λ (x : ProcPart). x.first ≡ 0) same (eqb-true p.first 0 (and_parts (p.first == 0) (proc_fits p) both.0).0)

-- it is a point
pub main_at_point : (p : Program) → procs_fit p.procs ≡ true → fault_of p ≡ None → is_point_at p.code 0 ≡ true
main_at_point p fit e =
    let found = some-proc p (slice_get p.procs 0) (begins p (suits p e)).0 in
    let zero-first = first-of p.procs found.0 (and_parts (follow_from 0 p.procs) (second_fits p.procs) fit).0 found.1 in
    subst (λ (n : ℕ). is_point_at p.code n ≡ true) zero-first found.2
