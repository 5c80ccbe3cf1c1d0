-- The directory of the tables has a row for each point instruction, and no other.
use Rattle.std.proofs.Common.{◌≡◌, ℕ, zero, suc, ◌+◌, ◌<◌, true, List, [], ◌∷◌, Some, None, inl, inr, refl, sym, ◌∙◌, arith}
use Rattle.std.specs.List.{slice_get}
use Rattle.std.proofs.lemmas.Bool.{cases_lt, lt-ltb, le-ltb}
use Rattle.std.proofs.lemmas.Slice.Eq.{bytes_eq-Decides}
use Rattle.m3_tables.specs.Numbers.{word_in}
use Rattle.m3_tables.specs.Sections.{directory_fault, listed_in, instruction_in as row_instruction}
use Rattle.m3_tables.proofs.KeepingLemmas.{choice}
use Rattle.m3_isa.specs.declared.instructions.Instr.{Instr}
use Rattle.m3_isa.specs.Instructions.{is_point}
use Rattle.m3_image_sections.specs.Parts.{Program}
use Rattle.m3_image_sections.specs.Ranges.{is_point_at, points_from}
use Rattle.m3_image.specs.Programs.{lists_points}
use Rattle.m3_image.proofs.RowLemmas.{listed, listed_get}

-- a point has a place in the list of points
point_place : (n : ℕ) (code : List Instr) (k : ℕ) → is_point_at code k ≡ true → (row : ℕ) × (slice_get (points_from n code) row ≡ Some (n + k))
point_place n [] k e = absurd cc
point_place n (i ∷ code) zero e = let here : n + 0 ≡ n = omega arith in (0, rw (e, here) refl)
point_place n (i ∷ code) (suc k) e =
    let later : suc n + k ≡ n + suc k = omega arith in
    let found = point_place (suc n) code k e in
    elim (choice (is_point i.op)) [
      | inl point ↦ (suc found.0, rw (point, ← later) found.1)
      | inr other ↦ (found.0, rw (other, ← later) found.1)
    ]

-- and what has a place there is a point
place_point : (n : ℕ) (code : List Instr) (row pc : ℕ) → slice_get (points_from n code) row ≡ Some pc → (k : ℕ) × (pc ≡ n + k) × (is_point_at code k ≡ true)
place_point n [] row pc e = absurd cc
place_point n (i ∷ code) row pc e =
    elim (choice (is_point i.op)) [
      | inl point ↦
          (elim row as (λ (r : ℕ). slice_get (n ∷ points_from (suc n) code) r ≡ Some pc → (k : ℕ) × (pc ≡ n + k) × (is_point_at (i ∷ code) k ≡ true)) [
            | zero ↦ λ h. (let same : n ≡ pc = cc in (0, omega arith, point))
            | suc r ↦ λ h. (let found = place_point (suc n) code r pc h in (suc found.0, omega (arith, found.1), found.2))
          ]) (rw point at e)
      | inr other ↦ (
          let found = place_point (suc n) code row pc (rw other at e) in
          (suc found.0, omega (arith, found.1), found.2))
    ]

-- ---- the directory

same_points : (p : Program) → lists_points p ≡ true → listed p.tables ≡ points_from 0 p.code
unfolding lists_points
same_points p e = (bytes_eq-Decides (listed p.tables) (points_from 0 p.code)).0 e

listed_row : (section : List ℕ) (row pc : ℕ) → directory_fault section ≡ None → listed_in section row ≡ Some pc → (row < word_in section) × (row_instruction section row ≡ pc)
listed_row section row pc sound e =
    elim (cases_lt row (word_in section)) [
      | inl less ↦ (
          let t = lt-ltb row (word_in section) less in
          let h = rw (sound, t) at e in
          let same : row_instruction section row ≡ pc = cc in (less, same))
      | inr more ↦ (let t = le-ltb row (word_in section) more in let h = rw (sound, t) at e in absurd cc)
    ]

row_listed : (section : List ℕ) (row : ℕ) → directory_fault section ≡ None → row < word_in section → listed_in section row ≡ Some (row_instruction section row)
row_listed section row sound less = let t = lt-ltb row (word_in section) less in rw (sound, t) refl

pub each_point : (p : Program) → directory_fault p.tables ≡ None → lists_points p ≡ true → (pc : ℕ) → is_point_at p.code pc ≡ true → (row : ℕ) × (row < word_in p.tables) × (row_instruction p.tables row ≡ pc)
each_point p sound lists pc point =
    let found = point_place 0 p.code pc point in
    let here : 0 + pc ≡ pc = omega arith in
    let at : slice_get (listed p.tables) found.0 ≡ Some pc = rw (same_points p lists) (rw here at found.1) in
    let row = listed_row p.tables found.0 pc sound (listed_get p.tables found.0 sound ∙ at) in
    (found.0, row.0, row.1)

pub only_points : (p : Program) → directory_fault p.tables ≡ None → lists_points p ≡ true → (row : ℕ) → row < word_in p.tables → is_point_at p.code (row_instruction p.tables row) ≡ true
only_points p sound lists row less =
    let at : slice_get (listed p.tables) row ≡ Some (row_instruction p.tables row) = sym (listed_get p.tables row sound) ∙ row_listed p.tables row sound less in
    let found = place_point 0 p.code row (row_instruction p.tables row) (rw (same_points p lists) at at) in
    let here : row_instruction p.tables row ≡ found.0 = omega (arith, found.1) in
    rw here found.2
