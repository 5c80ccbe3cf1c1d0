-- FILEs that are read one after the other.
use Rattle.std.proofs.Common.{◌≡◌, ℕ, zero, suc, ◌+◌, ◌-◌, min, List, [], ◌∷◌, ◌++◌, length, take, map, Option, Some, refl, sym, ap, ◌∙◌, subst, arith, length-append, add-one}
use Rattle.std.specs.Prelude.{Result, Ok, Err, slice_get}
use Rattle.std.specs.Option.{option_map}
use Rattle.std.proofs.lemmas.Option.{slice_get-map}
use Rattle.std.proofs.Common.{Bor}
use Rattle.std.proofs.lemmas.Option.{none-some, same_Some}
use Rattle.m3_ports.specs.Files.{Files}
use Rattle.m3c_image_commands.specs.declared.answers.Refusal.{Refusal}
use Rattle.m3c_image_commands.specs.Statuses.{Shelving, Only, IsRead, Fetches}
use Rattle.m3c_image_commands.proofs.FetchLemmas.{Rises, Among, Follows, joined, rises, fetches_on, fails_as}
use Rattle.m3c_source_commands.specs.Texts.{IsNext}
use Rattle.m3c_source_commands.specs.SourceCommands.{sources_cap, source_cap, total, AreRead, AreTextsOf, OfFiles}

-- so many files were read, and so many bytes are left for the others
pub record Reading (shelf : Shelving) (files names texts : List (List ℕ)) (k left : ℕ) : Type 0 where
  pub kept : Rises shelf
  pub read : AreRead shelf.held.0 sources_cap files texts
  pub named : names ≡ take k files
  pub count : length texts ≡ k
  pub rest : left ≡ sources_cap - total texts

read_as : (held : Option Files) (name name' : List ℕ) (cap cap' : ℕ) (text : List ℕ) → name ≡ name' → cap ≡ cap' → IsRead held name cap text → IsRead held name' cap' text
read_as held name name' cap cap' text n c h = subst (λ (x : List ℕ). IsRead held x cap' text) n (subst (λ (x : ℕ). IsRead held name x text) c h)

at_start : (left : ℕ) → min (left - total []) source_cap ≡ min left source_cap
at_start left = omega arith

at_later : (left n m : ℕ) → min (left - (n + m)) source_cap ≡ min (left - n - m) source_cap
at_later left n m = omega arith

-- one file more was read behind those
pub read_more : (held : Option Files) (left : ℕ) (files texts : List (List ℕ)) (name text : List ℕ) → AreRead held left files texts → slice_get files (length texts) ≡ Some name → IsRead held name (min (left - total texts) source_cap) text → AreRead held left files (texts ++ text ∷ [])
read_more held left [] [] name text h e r = absurd (none-some name e)
read_more held left [] (t ∷ texts) name text h e r = h
read_more held left (f ∷ files) [] name text h e r = (read_as held name f (min (left - total []) source_cap) (min left source_cap) text (sym (same_Some f name e)) (at_start left) r, tt)
read_more held left (f ∷ files) (t ∷ texts) name text h e r =
    (h.0, read_more held (left - length t) files texts name text h.1 e (read_as held name name (min (left - (length t + total texts)) source_cap) (min (left - length t - total texts) source_cap) text refl (at_later left (length t) (total texts)) r))

take_more : (files : List (List ℕ)) (k : ℕ) (name : List ℕ) → slice_get files k ≡ Some name → take (suc k) files ≡ take k files ++ name ∷ []
take_more [] k name e = absurd (none-some name e)
take_more (f ∷ files) zero name e = ap (λ (x : List ℕ). x ∷ []) (same_Some f name e)
take_more (f ∷ files) (suc k) name e = ap (λ (xs : List (List ℕ)). f ∷ xs) (take_more files k name e)

named_more : (files before after : List (List ℕ)) (k : ℕ) (name : List ℕ) → before ≡ take k files → slice_get files k ≡ Some name → after ≡ before ++ name ∷ [] → after ≡ take (k + 1) files
named_more files before after k name b e a =
    a ∙ ap (λ (xs : List (List ℕ)). xs ++ name ∷ []) b ∙ sym (take_more files k name e) ∙ ap (λ (n : ℕ). take n files) (sym (add-one k))

total_more : (texts : List (List ℕ)) (text : List ℕ) → total (texts ++ text ∷ []) ≡ total texts + length text
total_more [] text = omega arith
total_more (t ∷ texts) text = let h : total (texts ++ text ∷ []) ≡ total texts + length text = total_more texts text in omega arith

pub left_more : (texts : List (List ℕ)) (text : List ℕ) (left : ℕ) → left ≡ sources_cap - total texts → left - length text ≡ sources_cap - total (texts ++ text ∷ [])
left_more texts text left e = let h : total (texts ++ text ∷ []) ≡ total texts + length text = total_more texts text in omega arith

pub count_more : (texts : List (List ℕ)) (text : List ℕ) (k : ℕ) → length texts ≡ k → length (texts ++ text ∷ []) ≡ k + 1
count_more texts text k e = let h : length (texts ++ text ∷ []) ≡ length texts + 1 = length-append texts (text ∷ []) in omega arith

-- the file that comes next
pub next_of : (held : Option Files) (files texts : List (List ℕ)) (name : List ℕ) (left : ℕ) → AreRead held sources_cap files texts → slice_get files (length texts) ≡ Some name → left ≡ sources_cap - total texts → Among (Only name (min left source_cap)) (OfFiles held files)
next_of held files texts name left r e l n k o = record {
  texts = texts;
  read = r;
  next = e ∙ ap (λ (x : List ℕ). Some x) (sym o.0);
  left = o.1 ∙ ap (λ (x : ℕ). min x source_cap) l;
}

read_now : (a b : Option Files) (name text : List ℕ) (left left' : ℕ) → a ≡ b → left ≡ left' → IsRead a name (min left source_cap) text → IsRead b name (min left' source_cap) text
read_now a b name text left left' e l h = subst (λ (n : ℕ). IsRead b name (min n source_cap) text) l (subst (λ o. IsRead o name (min left source_cap) text) e h)

-- one more was read
pub reading_more : {A : Type 0} (a b : Shelving) (files names named texts after : List (List ℕ)) (name : List ℕ) (k left rest : ℕ) (result : Result A Refusal) → Reading a files names texts k left → Follows a b → Fetches b (Only name (min left source_cap)) result → slice_get files k ≡ Some name → IsNext b.held.0 name left texts after rest → named ≡ names ++ name ∷ [] → Reading (joined a b) files named after (k + 1) rest
reading_more a b files names named texts after name k left rest result r f g e n m =
    let at : slice_get files (length texts) ≡ Some name = ap (λ (x : ℕ). slice_get files x) r.count ∙ e in
    let before : b.held.0 ≡ a.held.0 = sym f.held ∙ r.kept.held in
    record {
      kept = rises (fetches_on a b f r.kept (Only name (min left source_cap)) result g);
      read = subst (λ (ts : List (List ℕ)). AreRead a.held.0 sources_cap files ts) (sym n.added) (read_more a.held.0 sources_cap files texts name n.text r.read at (read_now b.held.0 a.held.0 name n.text left (sources_cap - total texts) before r.rest n.read));
      named = named_more files names named k name r.named e m;
      count = ap (λ (ts : List (List ℕ)). length ts) n.added ∙ count_more texts n.text k r.count;
      rest = n.taken ∙ left_more texts n.text left r.rest ∙ ap (λ (ts : List (List ℕ)). sources_cap - total ts) (sym n.added);
    }

-- the next can't be read
pub reading_failed : {A B : Type 0} (a b : Shelving) (files names texts : List (List ℕ)) (name : List ℕ) (k left : ℕ) (r : Refusal) → Reading a files names texts k left → Follows a b → Fetches {A = A} b (Only name (min left source_cap)) (Err r) → slice_get files k ≡ Some name → Fetches {A = B} (joined a b) (OfFiles a.held.0 files) (Err r)
reading_failed {A} {B} a b files names texts name k left refusal r f g e =
    let at : slice_get files (length texts) ≡ Some name = ap (λ (x : ℕ). slice_get files x) r.count ∙ e in
    let whole : Fetches {A = A} (joined a b) (Only name (min left source_cap)) (Err refusal) = fetches_on a b f r.kept (Only name (min left source_cap)) (Err refusal) g in
    fails_as (next_of a.held.0 files texts name left r.read at r.rest) whole

-- all were read
pub reading_done : {A : Type 0} (a : Shelving) (files names texts : List (List ℕ)) (k left : ℕ) (R : List ℕ → ℕ → Type 0) (x : A) → Reading a files names texts k left → Fetches a R (Ok x)
reading_done a files names texts k left R x r = record {
  held = r.kept.held;
  faults = r.kept.faults;
  store_faults = r.kept.store_faults;
  absences = r.kept.absences;
  excesses = r.kept.excesses;
  unfetched = tt;
}

pub all_read : (a : Shelving) (files names texts : List (List ℕ)) (k left : ℕ) → Reading a files names texts k left → k ≡ length files → AreTextsOf a.held.0 files texts
all_read a files names texts k left r e = (r.read, r.count ∙ e)

take_all : (files : List (List ℕ)) → take (length files) files ≡ files
take_all [] = refl
take_all (f ∷ files) = ap (λ (xs : List (List ℕ)). f ∷ xs) (take_all files)

pub all_named : (a : Shelving) (files names texts : List (List ℕ)) (k left : ℕ) → Reading a files names texts k left → k ≡ length files → names ≡ files
all_named a files names texts k left r e = r.named ∙ ap (λ (n : ℕ). take n files) e ∙ take_all files

-- each has a text
pub all_even : (a : Shelving) (files names texts : List (List ℕ)) (k left : ℕ) → Reading a files names texts k left → k ≡ length files → length texts ≡ length names
all_even a files names texts k left r e = r.count ∙ e ∙ ap (λ (ns : List (List ℕ)). length ns) (sym (all_named a files names texts k left r e))

-- none was read yet
pub reading_start : (a : Shelving) (files names texts : List (List ℕ)) → names ≡ [] → texts ≡ [] → Rises a → Reading a files names texts 0 sources_cap
reading_start a files names texts n e k =
    subst (λ (ns : List (List ℕ)). Reading a files ns texts 0 sources_cap) (sym n)
    (subst (λ (ts : List (List ℕ)). Reading a files [] ts 0 sources_cap) (sym e) (record { kept = k; read = tt; named = refl; count = refl; rest = refl }))

-- a name among the FILEs
pub named_at : (files : List (Bor (List ℕ))) (k : ℕ) (name : Bor (List ℕ)) → slice_get files k ≡ Some name → slice_get (map (λ (n : Bor (List ℕ)). n.now) files) k ≡ Some name.now
named_at files k name e =
    slice_get-map (λ (n : Bor (List ℕ)). n.now) files k ∙ ap (λ (o : Option (Bor (List ℕ))). option_map (λ (n : Bor (List ℕ)). n.now) o) e
