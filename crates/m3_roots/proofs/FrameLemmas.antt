-- The frames of a thread are the only ones.
use Rattle.std.proofs.Common.{◌≡◌, ◌⊎◌, ℕ, suc, ◌+◌, ◌-◌, ◌<◌, true, List, [], ◌∷◌, ◌++◌, length, Option, Some, None, inl, inr, refl, sym, ap, ◌∙◌, subst, arith}
use Rattle.std.specs.Option.{option_map}
use Rattle.std.proofs.lemmas.Bool.{cases_lt}
use Rattle.m3_tables.specs.Numbers.{word_in}
use Rattle.m3_tables.specs.Sections.{directory_fault, end_fault, is_good, instruction_in}
use Rattle.m3_tables.proofs.KeepingLemmas.{choice, and_parts}
use Rattle.m3_tables.proofs.SectionLemmas.{instructions_before}
use Rattle.m3_image_sections.specs.declared.procs.ProcPart.{ProcPart}
use Rattle.m3_image_sections.specs.declared.refusal.ImageRefusal.TheVariants as refusal
use Rattle.m3_image_sections.specs.Parts.{Program}
use Rattle.m3_image_sections.specs.Ranges.{or_else, first_failing}
use Rattle.m3_image_sections.proofs.FirstLemmas.{first_none}
use Rattle.m3_image.specs.Programs.{target_fits, lists_points, row_suits, row_fits, tables_fault, procs_suit, fault_of}
use Rattle.m3_image.proofs.CoverLemmas.{suits}
use Rattle.m3_run_frames.specs.declared.frame.Frame.{Frame}
use Rattle.m3_run_frames.specs.Frames.{IsFrame, IsOlder}
use Rattle.m3_roots.specs.RowMeaning.{AreBelow, AreFramesAt}

-- ---- no two rows have one instruction

or_nothing : {A : Type 0} (a b : Option A) → or_else a b ≡ None → (a ≡ None) × (b ≡ None)
or_nothing (Some x) b e = absurd cc
or_nothing None b e = (refl, e)

map_nothing : {A B : Type 0} (f : A → B) (o : Option A) → option_map f o ≡ None → o ≡ None
map_nothing f None e = refl
map_nothing f (Some x) e = absurd cc

tables_good : (p : Program) → fault_of p ≡ None → tables_fault p ≡ None
unfolding fault_of
tables_good p e =
    let good : procs_suit p ≡ true = suits p e in
    let rest = rw good at e in
    let parts = or_nothing (option_map refusal.Target (first_failing (target_fits p) (length p.code))) (option_map refusal.Table (tables_fault p)) rest in
    map_nothing refusal.Table (tables_fault p) parts.1

rows_good : (p : Program) → tables_fault p ≡ None → first_failing (row_fits p) (word_in p.tables) ≡ None
unfolding tables_fault
rows_good p e =
    let parts = or_nothing (directory_fault p.tables) _ e in
    elim (choice (lists_points p)) [
      | inl listed ↦ (or_nothing (first_failing (row_fits p) (word_in p.tables)) (end_fault p.tables) (rw listed at parts.1)).0
      | inr missing ↦ (let h = rw missing at parts.1 in absurd cc)
    ]

good_row : (p : Program) → fault_of p ≡ None → (k : ℕ) → k < word_in p.tables → is_good p.tables k ≡ true
good_row p sound k lt = (and_parts (is_good p.tables k) (row_suits p k) (first_none (row_fits p) (word_in p.tables) (rows_good p (tables_good p sound)) k lt)).0

rises_to : (p : Program) → fault_of p ≡ None → (i j : ℕ) → i < j → j < word_in p.tables → instruction_in p.tables i < instruction_in p.tables j
rises_to p sound i j less lt =
    let e : i + suc (j - suc i) ≡ j = omega arith in
    let within : i + suc (j - suc i) < word_in p.tables = omega arith in
    subst (λ (m : ℕ). instruction_in p.tables i < instruction_in p.tables m) e (instructions_before p.tables (word_in p.tables) (good_row p sound) i (j - suc i) within)

row_once : (p : Program) → fault_of p ≡ None → (i j : ℕ) → i < word_in p.tables → j < word_in p.tables → instruction_in p.tables i ≡ instruction_in p.tables j → i ≡ j
row_once p sound i j a b e = elim (cases_lt i j) [
  | inl less ↦ (let lt = rises_to p sound i j less b in absurd (omega arith))
  | inr more ↦ (elim (cases_lt j i) [
    | inl less ↦ (let lt = rises_to p sound j i less a in absurd (omega arith))
    | inr same ↦ omega arith
  ])
]

-- ---- frames

abbrev frame_of : ℕ → ℕ → ℕ → Frame
frame_of first words row = record { first = first; words = words; row = row }

frame_same : (f g : Frame) → f.first ≡ g.first → f.words ≡ g.words → f.row ≡ g.row → f ≡ g
frame_same f g a b c = ap (λ (n : ℕ). frame_of n f.words f.row) a ∙ ap (λ (n : ℕ). frame_of g.first n f.row) b ∙ ap (λ (n : ℕ). frame_of g.first g.words n) c

pub frame_once : (p : Program) → fault_of p ≡ None → (stack : List ℕ) (first instr : ℕ) (f g : Frame) → IsFrame p stack first instr f → IsFrame p stack first instr g → f ≡ g
frame_once p sound stack first instr f g h k =
    let row : f.row ≡ g.row = row_once p sound f.row g.row h.row k.row (h.named ∙ sym k.named) in
    let homes = h.housed in
    let others = k.housed in
    let home : h.home ≡ k.home = cc in
    let words : f.words ≡ g.words = h.words ∙ ap (λ (q : ProcPart). q.frame) home ∙ sym k.words in
    let begins : f.first ≡ g.first = h.begins ∙ sym k.begins in
    frame_same f g begins words row

pub older_once : (p : Program) → fault_of p ≡ None → (base : ℕ) (stack : List ℕ) (newer f g : Frame) → IsOlder p base stack newer f → IsOlder p base stack newer g → f ≡ g
older_once p sound base stack newer f g h k =
    let a = h.back in
    let b = k.back in
    let c = h.start in
    let d = k.start in
    let back : h.instr + 1 ≡ k.instr + 1 = cc in
    let start : base + f.first ≡ base + g.first = cc in
    let instr : k.instr ≡ h.instr = omega arith in
    let first : g.first ≡ f.first = omega arith in
    frame_once p sound stack f.first h.instr f g h.frame (subst (λ (n : ℕ). IsFrame p stack n h.instr g) first (subst (λ (n : ℕ). IsFrame p stack g.first n g) instr k.frame))

pub below_once : (p : Program) → fault_of p ≡ None → (base : ℕ) (stack : List ℕ) (newer : Frame) (fs gs : List Frame) → AreBelow p base stack newer fs → AreBelow p base stack newer gs → fs ≡ gs
below_once p sound base stack newer [] [] h k = refl
below_once p sound base stack newer [] (g ∷ gs) h k = let b = k.0.below in absurd (omega arith)
below_once p sound base stack newer (f ∷ fs) [] h k = let b = h.0.below in absurd (omega arith)
below_once p sound base stack newer (f ∷ fs) (g ∷ gs) h k =
    let first : f ≡ g = older_once p sound base stack newer f g h.0 k.0 in
    let rest = below_once p sound base stack f fs gs h.1 (subst (λ (x : Frame). AreBelow p base stack x gs) (sym first) k.1) in
    cc

pub frames_once : (p : Program) → fault_of p ≡ None → (base : ℕ) (stack : List ℕ) (fp pc : ℕ) (fs gs : List Frame) → AreFramesAt p base stack fp pc fs → AreFramesAt p base stack fp pc gs → fs ≡ gs
frames_once p sound base stack fp pc [] gs h k = elim h [ ]
frames_once p sound base stack fp pc (f ∷ fs) [] h k = elim k [ ]
frames_once p sound base stack fp pc (f ∷ fs) (g ∷ gs) h k =
    let a = h.0 in
    let b = k.0 in
    let begins : g.first ≡ f.first = omega arith in
    let first : f ≡ g = frame_once p sound stack f.first pc f g h.1 (subst (λ (n : ℕ). IsFrame p stack n pc g) begins k.1) in
    let rest = below_once p sound base stack f fs gs h.2 (subst (λ (x : Frame). AreBelow p base stack x gs) (sym first) k.2) in
    cc

-- ---- frames that were listed so far

pub record Listed (p : Program) (base : ℕ) (stack : List ℕ) (fp pc : ℕ) (front : List Frame) (newer : Frame) : Type 0 where
  pub all : (rest : List Frame) → AreBelow p base stack newer rest → AreFramesAt p base stack fp pc (front ++ newer ∷ rest)
  pub only : (fs : List Frame) → AreFramesAt p base stack fp pc fs → (rest : List Frame) × (fs ≡ front ++ newer ∷ rest) × AreBelow p base stack newer rest

only_first : (p : Program) → fault_of p ≡ None → (base : ℕ) (stack : List ℕ) (fp pc : ℕ) (f : Frame) → fp ≡ base + f.first → IsFrame p stack f.first pc f → (fs : List Frame) → AreFramesAt p base stack fp pc fs → (rest : List Frame) × (fs ≡ f ∷ rest) × AreBelow p base stack f rest
only_first p sound base stack fp pc f at h [] k = elim k [ ]
only_first p sound base stack fp pc f at h (g ∷ gs) k =
    let b = k.0 in
    let begins : g.first ≡ f.first = omega arith in
    let first : g ≡ f = frame_once p sound stack f.first pc g f (subst (λ (n : ℕ). IsFrame p stack n pc g) begins k.1) h in
    (gs, ap (λ (x : Frame). x ∷ gs) first, subst (λ (x : Frame). AreBelow p base stack x gs) first k.2)

pub listed_first : (p : Program) → fault_of p ≡ None → (base : ℕ) (stack : List ℕ) (fp pc first : ℕ) (f : Frame) → fp ≡ base + first → IsFrame p stack first pc f → Listed p base stack fp pc [] f
listed_first p sound base stack fp pc first f at h =
    let begins = h.begins in
    let fp_is : fp ≡ base + f.first = omega arith in
    let here : IsFrame p stack f.first pc f = subst (λ (n : ℕ). IsFrame p stack n pc f) (sym begins) h in
    record { all = λ rest below. (fp_is, here, below); only = λ fs k. only_first p sound base stack fp pc f fp_is here fs k }

push_more : (front : List Frame) (f : Frame) (rest : List Frame) → (front ++ f ∷ []) ++ rest ≡ front ++ f ∷ rest
push_more [] f rest = refl
push_more (x ∷ front) f rest = ap (λ (xs : List Frame). x ∷ xs) (push_more front f rest)

only_more : (p : Program) → fault_of p ≡ None → (base : ℕ) (stack : List ℕ) (front : List Frame) (newer older : Frame) → 0 < newer.first → IsOlder p base stack newer older → (fs rest : List Frame) → fs ≡ front ++ newer ∷ rest → AreBelow p base stack newer rest
    → (more : List Frame) × (fs ≡ (front ++ newer ∷ []) ++ older ∷ more) × AreBelow p base stack older more
only_more p sound base stack front newer older more h fs [] e below = absurd (omega arith)
only_more p sound base stack front newer older more h fs (g ∷ gs) e below =
    let same : g ≡ older = older_once p sound base stack newer g older below.0 h in
    (gs, e ∙ ap (λ (x : Frame). front ++ newer ∷ x ∷ gs) same ∙ sym (push_more front newer (older ∷ gs)), subst (λ (x : Frame). AreBelow p base stack x gs) same below.1)

pub listed_more : (p : Program) → fault_of p ≡ None → (base : ℕ) (stack : List ℕ) (fp pc : ℕ) (front : List Frame) (newer older : Frame) → Listed p base stack fp pc front newer → 0 < newer.first → IsOlder p base stack newer older → Listed p base stack fp pc (front ++ newer ∷ []) older
listed_more p sound base stack fp pc front newer older listed more h = record {
  all = λ rest below. subst (λ (xs : List Frame). AreFramesAt p base stack fp pc xs) (sym (push_more front newer (older ∷ rest))) (listed.all (older ∷ rest) (h, below));
  only = λ fs k. (let found = listed.only fs k in only_more p sound base stack front newer older more h fs found.0 found.1 found.2);
}

stop_in : (p : Program) (base : ℕ) (stack : List ℕ) (newer : Frame) → 0 < newer.first → ((older : Frame) → IsOlder p base stack newer older → ⊥) → (rest : List Frame) → AreBelow p base stack newer rest → ⊥
stop_in p base stack newer more none [] below = omega arith
stop_in p base stack newer more none (g ∷ gs) below = none g below.0

-- none is older
pub listed_stop : (p : Program) (base : ℕ) (stack : List ℕ) (fp pc : ℕ) (front : List Frame) (newer : Frame) → Listed p base stack fp pc front newer → 0 < newer.first → ((older : Frame) → IsOlder p base stack newer older → ⊥) → (fs : List Frame) → AreFramesAt p base stack fp pc fs → ⊥
listed_stop p base stack fp pc front newer listed more none fs k = let found = listed.only fs k in stop_in p base stack newer more none found.0 found.2

-- the frame at fp isn't in the stack
pub none_outside : (p : Program) (base : ℕ) (stack : List ℕ) (fp pc : ℕ) → (fp < base) ⊎ (base + length stack < fp) → (fs : List Frame) → AreFramesAt p base stack fp pc fs → ⊥
none_outside p base stack fp pc out [] k = k
none_outside p base stack fp pc (inl low) (g ∷ gs) k = let a = k.0 in omega arith
none_outside p base stack fp pc (inr high) (g ∷ gs) k = let a = k.0 in let b = k.1.within in omega arith

pub none_first : (p : Program) (base : ℕ) (stack : List ℕ) (fp pc first : ℕ) → fp ≡ base + first → ((f : Frame) → IsFrame p stack first pc f → ⊥) → (fs : List Frame) → AreFramesAt p base stack fp pc fs → ⊥
none_first p base stack fp pc first at none [] k = k
none_first p base stack fp pc first at none (g ∷ gs) k =
    let a = k.0 in
    let begins : g.first ≡ first = omega arith in
    none g (subst (λ (n : ℕ). IsFrame p stack n pc g) begins k.1)
