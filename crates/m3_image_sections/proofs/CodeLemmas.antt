-- The code of an image, by the numbers of its instructions.
use Rattle.std.proofs.Common.{◌≡◌, ℕ, zero, suc, ◌*◌, ◌/◌, ◌<◌, ◌≤◌, true, false, List, [], ◌∷◌, length, take, drop, Option, Some, None, ◌⊎◌, inl, inr, refl, ap, ◌∙◌, arith}
use Rattle.std.specs.Prelude.{is_some}
use Rattle.std.specs.Option.{option_flatten}
use Rattle.std.specs.List.{slice_get}
use Rattle.std.proofs.lemmas.Option.{slice_get_past}
use Rattle.m3_isa.specs.declared.instructions.Instr.{Instr}
use Rattle.m3_isa.specs.Instructions.{is_point}
use Rattle.m3_isa.specs.CodeBytes.{instruction_in}
use Rattle.m3_image_sections.specs.Fields.{each}
use Rattle.m3_image_sections.specs.Ranges.{first_failing, is_point_at, points_from}
use Rattle.m3_image_sections.specs.Reading.{somes, code_in, instruction_at}
use Rattle.m3_image_sections.proofs.ListLemmas.{length_each, each_at}
use Rattle.m3_image_sections.proofs.FirstLemmas.{first_none}

-- only the first eight bytes count
pub instruction_take : (bytes : List ℕ) → 8 ≤ length bytes → instruction_in (take 8 bytes) ≡ instruction_in bytes
unfolding instruction_in
instruction_take (a ∷ b ∷ c ∷ d ∷ e ∷ f ∷ g ∷ h ∷ rest) l = refl
instruction_take _ l = absurd (omega arith)

-- ---- lists in which each is there

AreThere : {A : Type 0} → List (Option A) → Type 0
AreThere xs = (k : ℕ) → k < length xs → is_some (option_flatten (slice_get xs k)) ≡ true

somes_get : {A : Type 0} (xs : List (Option A)) → AreThere xs → (k : ℕ) → slice_get (somes xs) k ≡ option_flatten (slice_get xs k)
unfolding AreThere
somes_get [] h k = refl
somes_get (None ∷ xs) h k = let no = h 0 (omega arith) in absurd cc
somes_get ((Some x) ∷ xs) h zero = refl
somes_get ((Some x) ∷ xs) h (suc k) = somes_get xs (λ j lt. h (suc j) (omega arith)) k

length-somes : {A : Type 0} (xs : List (Option A)) → AreThere xs → length (somes xs) ≡ length xs
unfolding AreThere
length-somes [] h = refl
length-somes (None ∷ xs) h = let no = h 0 (omega arith) in absurd cc
length-somes ((Some x) ∷ xs) h = ap suc (length-somes xs (λ j lt. h (suc j) (omega arith)))

-- ---- code whose instructions are all good

abbrev pub IsSound : List ℕ → Type 0
IsSound bytes = first_failing (λ n. is_some (instruction_at bytes n)) (length bytes / 8) ≡ None

code_there : (bytes : List ℕ) → IsSound bytes → AreThere (each 8 instruction_in (length bytes / 8) bytes)
unfolding AreThere
code_there bytes s k lt =
    let l = length_each 8 instruction_in (length bytes / 8) bytes in
    let at = each_at 8 instruction_in (length bytes / 8) bytes k (omega arith) in
    rw at (first_none (λ n. is_some (instruction_at bytes n)) (length bytes / 8) s k (omega arith))

pub length_code : (bytes : List ℕ) → IsSound bytes → length (code_in bytes) ≡ length bytes / 8
length_code bytes s = length-somes (each 8 instruction_in (length bytes / 8) bytes) (code_there bytes s) ∙ length_each 8 instruction_in (length bytes / 8) bytes

pub code_at : (bytes : List ℕ) (k : ℕ) → IsSound bytes → k < length bytes / 8 → slice_get (code_in bytes) k ≡ instruction_in (drop (8 * k) bytes)
code_at bytes k s lt =
    somes_get (each 8 instruction_in (length bytes / 8) bytes) (code_there bytes s) k ∙ ap option_flatten (each_at 8 instruction_in (length bytes / 8) bytes k lt)

pub code_past : (bytes : List ℕ) (k : ℕ) → IsSound bytes → length bytes / 8 ≤ k → slice_get (code_in bytes) k ≡ None
code_past bytes k s le = let l = length_code bytes s in slice_get_past (code_in bytes) k (omega arith)

-- ---- the points of a list of instructions

pub drop_at : {A : Type 0} (xs : List A) (k : ℕ) (x : A) → slice_get xs k ≡ Some x → drop k xs ≡ x ∷ drop (suc k) xs
drop_at [] k x e = absurd cc
drop_at (y ∷ xs) zero x e = let same : y ≡ x = cc in ap (λ z. z ∷ xs) same
drop_at (y ∷ xs) (suc k) x e = drop_at xs k x e

pub drop_past : {A : Type 0} (xs : List A) (k : ℕ) → slice_get xs k ≡ None → drop k xs ≡ []
drop_past [] zero e = refl
drop_past [] (suc k) e = refl
drop_past (y ∷ xs) zero e = absurd cc
drop_past (y ∷ xs) (suc k) e = drop_past xs k e

drop_past_more : {A : Type 0} (xs : List A) (k : ℕ) → slice_get xs k ≡ None → drop (suc k) xs ≡ []
drop_past_more [] k e = refl
drop_past_more (y ∷ xs) zero e = absurd cc
drop_past_more (y ∷ xs) (suc k) e = drop_past_more xs k e

instr_known : (o : Option Instr) → (o ≡ None) ⊎ ((i : Instr) × (o ≡ Some i))
instr_known None = inl refl
instr_known (Some i) = inr (i, refl)

points_at_yes : (n : ℕ) (i : Instr) (is : List Instr) → is_point i.op ≡ true → points_from n (i ∷ is) ≡ n ∷ points_from (suc n) is
points_at_yes n i is e = rw e refl

points_at_no : (n : ℕ) (i : Instr) (is : List Instr) → is_point i.op ≡ false → points_from n (i ∷ is) ≡ points_from (suc n) is
points_at_no n i is e = rw e refl

pub points_yes : (code : List Instr) (pc : ℕ) → is_point_at code pc ≡ true → points_from pc (drop pc code) ≡ pc ∷ points_from (suc pc) (drop (suc pc) code)
points_yes code pc e =
    elim (instr_known (slice_get code pc)) [
      | inl none ↦ (let no = rw none at e in absurd cc)
      | inr some ↦ (let yes = rw some.1 at e in rw (drop_at code pc some.0 some.1) (points_at_yes pc some.0 (drop (suc pc) code) yes))
    ]

pub points_no : (code : List Instr) (pc : ℕ) → pc < length code → is_point_at code pc ≡ false → points_from pc (drop pc code) ≡ points_from (suc pc) (drop (suc pc) code)
points_no code pc lt e =
    elim (instr_known (slice_get code pc)) [
      | inl none ↦ rw (drop_past code pc none, drop_past_more code pc none) refl
      | inr some ↦ (let no = rw some.1 at e in rw (drop_at code pc some.0 some.1) (points_at_no pc some.0 (drop (suc pc) code) no))
    ]
