-- One frame more is taken apart, put together, marked or visited, by its row.
use Rattle.std.proofs.Common.{◌≡◌, ℕ, zero, suc, ◌+◌, ◌<◌, List, [], ◌∷◌, ◌++◌, length, get_or, take, drop, subst, arith, ◌≤◌, Option, None, Some, refl, sym, ap, ◌∙◌}
use Rattle.std.specs.Prelude.{Bool, true, false, if◌then◌else◌}
use Rattle.std.specs.Option.{option_and_then}
use Rattle.std.specs.List.{AllByRecursion}
use Rattle.std.proofs.lemmas.List.{take_more}
use Rattle.m3_tables.specs.declared.row.Row.{Row}
use Rattle.m3_tables.specs.Sections.{contents_in}
use Rattle.m3_tables.specs.Tables.{section_of_row, number_of_row, arguments_in as row_arguments, derived_in as row_derived}
use Rattle.m3_image_sections.specs.Parts.{Program}
use Rattle.m3_run_frames.specs.declared.frame.Frame.{Frame}
use Rattle.m3_roots.specs.ThreadWords.{places_from, Derived, derived_from}
use Rattle.m3_roots.specs.RowMeaning.{arguments_of_frame, newest_arguments, derived_of_frame, derived_words}
use Rattle.m3_roots.specs.TakingApart.{apart, together}
use Rattle.m3_roots.proofs.TogetherLemmas.{apart_append, together_append}

-- a row has a frame's number in a program's tables
pub record IsRowOf (p : Program) (f : Frame) (row : Row) : Type 0 where
  pub section : section_of_row row ≡ p.tables
  pub number : number_of_row row ≡ f.row

pub derived_of : (p : Program) (f : Frame) (row : Row) → IsRowOf p f row → derived_from f.first (row_derived row) ≡ derived_of_frame p f
derived_of p f row is = ap (λ (s : List ℕ). derived_from f.first (contents_in s (number_of_row row)).derived) is.section ∙ ap (λ (n : ℕ). derived_from f.first (contents_in p.tables n).derived) is.number

pub arguments_of : (p : Program) (f : Frame) (row : Row) → IsRowOf p f row → places_from f.first (row_arguments row) ≡ arguments_of_frame p f
arguments_of p f row is = ap (λ (s : List ℕ). places_from f.first (contents_in s (number_of_row row)).arguments) is.section ∙ ap (λ (n : ℕ). places_from f.first (contents_in p.tables n).arguments) is.number

-- ---- taken apart

apart_first : (p : Program) (f : Frame) (fs : List Frame) (row : Row) (w : List ℕ) → IsRowOf p f row → apart (derived_words p (f ∷ fs)) w ≡ option_and_then (apart (derived_words p fs)) (apart (derived_from f.first (row_derived row)) w)
apart_first p f fs row w is = apart_append (derived_of_frame p f) (derived_words p fs) w ∙ ap (λ (ds : List Derived). option_and_then (apart (derived_words p fs)) (apart ds w)) (sym (derived_of p f row is))

pub apart_more : (p : Program) (f : Frame) (fs : List Frame) (row : Row) (w v : List ℕ) → IsRowOf p f row → apart (derived_from f.first (row_derived row)) w ≡ Some v → apart (derived_words p fs) v ≡ apart (derived_words p (f ∷ fs)) w
apart_more p f fs row w v is e = sym (apart_first p f fs row w is ∙ ap (λ (o : Option (List ℕ)). option_and_then (apart (derived_words p fs)) o) e)

pub apart_stop : (p : Program) (f : Frame) (fs : List Frame) (row : Row) (w : List ℕ) → IsRowOf p f row → apart (derived_from f.first (row_derived row)) w ≡ None → apart (derived_words p (f ∷ fs)) w ≡ None
apart_stop p f fs row w is e = apart_first p f fs row w is ∙ ap (λ (o : Option (List ℕ)). option_and_then (apart (derived_words p fs)) o) e

-- ---- put together

pub together_more : (p : Program) (f : Frame) (fs : List Frame) (row : Row) (w v : List ℕ) (o : Option (List ℕ)) → IsRowOf p f row → together (derived_words p fs) w ≡ Some v → together (derived_from f.first (row_derived row)) v ≡ o → together (derived_words p (f ∷ fs)) w ≡ o
together_more p f fs row w v o is e h =
    together_append (derived_of_frame p f) (derived_words p fs) w ∙ ap (λ (x : Option (List ℕ)). option_and_then (together (derived_of_frame p f)) x) e ∙ ap (λ (ds : List Derived). together ds v) (sym (derived_of p f row is)) ∙ h

pub together_stop : (p : Program) (fs : List Frame) (k : ℕ) (w : List ℕ) → together (derived_words p (drop k fs)) w ≡ None → together (derived_words p fs) w ≡ None
together_stop p fs zero w e = e
together_stop p [] (suc k) w e = e
together_stop p (f ∷ fs) (suc k) w e = together_append (derived_of_frame p f) (derived_words p fs) w ∙ ap (λ (x : Option (List ℕ)). option_and_then (together (derived_of_frame p f)) x) (together_stop p fs k w e)

-- ---- the frames of a list

-- what stands past the last
abbrev pub no_frame : Frame
no_frame = record { first = 0; words = 0; row = 0 }

pub each_at : (P : Frame → Type 0) (fs : List Frame) (i : ℕ) (d : Frame) → i < length fs → AllByRecursion P fs → P (get_or fs i d)
each_at P [] i d lt h = absurd (omega arith)
each_at P (g ∷ gs) zero d lt h = h.0
each_at P (g ∷ gs) (suc i) d lt h = each_at P gs i d (omega arith) h.1

-- the newest frame is the first of the list
pub newest_is : (p : Program) (fs : List Frame) (d : Frame) → 0 < length fs → newest_arguments p fs ≡ arguments_of_frame p (get_or fs 0 d)
newest_is p [] d some = absurd (omega arith)
newest_is p (g ∷ gs) d some = refl

-- ---- ends

abbrev pub EndsBy : ℕ → Frame → Type 0
EndsBy end f = f.first + f.words ≤ end

ends_push : (end later : ℕ) (fs : List Frame) (f : Frame) → end ≤ later → EndsBy later f → AllByRecursion (EndsBy end) fs → AllByRecursion (EndsBy later) (fs ++ f ∷ [])
ends_push end later [] f le here h = (here, tt)
ends_push end later (g ∷ gs) f le here h = let k = h.0 in (omega arith, ends_push end later gs f le here h.1)

pub ends_more : (end later : ℕ) (fs : List Frame) (i : ℕ) (d : Frame) → i < length fs → end ≤ later → EndsBy later (get_or fs i d) → AllByRecursion (EndsBy end) (take i fs) → AllByRecursion (EndsBy later) (take (i + 1) fs)
ends_more end later fs i d lt le here h = subst (AllByRecursion (EndsBy later)) (sym (take_more fs i d lt)) (ends_push end later (take i fs) (get_or fs i d) le here h)

-- ---- a frame pushed

pub pushed : (b : Bool) (xs ys zs : List Frame) → b ≡ true → xs ≡ (if b then ys else zs) → xs ≡ ys
pushed true xs ys zs e h = h
pushed false xs ys zs e h = absurd cc
