-- The marks for the rows go together exactly where the lists of the rows fit.
use Rattle.std.proofs.Common.{◌≡◌, ℕ, Bool, true, false, ◌||◌, List, [], ◌∷◌, ◌++◌, map, refl, sym, ap, ◌∙◌, inl, inr}
use Rattle.std.specs.Prelude.{◌==◌}
use Rattle.std.specs.List.{flat_map}
use Rattle.std.proofs.lemmas.List.{append-nil, append_assoc}
use Rattle.m3_tables.specs.Numbers.{has}
use Rattle.m3_tables.proofs.SectionLemmas.{has_append}
use Rattle.m3_image_sections.specs.Parts.{Program}
use Rattle.m3_run_frames.specs.declared.frame.Frame.{Frame}
use Rattle.m3_roots.specs.ThreadWords.{place_from, Derived, path_places, base_places}
use Rattle.m3_roots.specs.RowMeaning.{tidy_of_frame, newest_arguments, derived_of_frame}
use Rattle.m3_roots.specs.RowLists.{derived_places, listed_below, listed_places, barred_in, barred_places, bases_in, BasesArePlain, ListsFit}
use Rattle.m3_roots.specs.Marking.{Act, Lists, Derives, Bars, Uses, nothing_marked, all_go}
use Rattle.m3_roots.specs.BarActs.{bar_acts}
use Rattle.m3_roots.specs.RowActs.{frame_acts, acts_below, acts_of}
use Rattle.m3_roots.proofs.WordLemmas.{has_first, has_more}
use Rattle.m3_roots.proofs.MarkLemmas.{listed_of, barred_of, UsesArePlain, has_cases, together_from, together_go}

-- ---- which places are listed and barred

listed_append : (xs ys : List Act) → listed_of (xs ++ ys) ≡ listed_of xs ++ listed_of ys
listed_append [] ys = refl
listed_append (Lists q ∷ xs) ys = ap (λ (l : List ℕ). q ∷ l) (listed_append xs ys)
listed_append (Derives q ∷ xs) ys = ap (λ (l : List ℕ). q ∷ l) (listed_append xs ys)
listed_append (Bars q ∷ xs) ys = listed_append xs ys
listed_append (Uses q ∷ xs) ys = listed_append xs ys

barred_append : (xs ys : List Act) → barred_of (xs ++ ys) ≡ barred_of xs ++ barred_of ys
barred_append [] ys = refl
barred_append (Lists q ∷ xs) ys = barred_append xs ys
barred_append (Derives q ∷ xs) ys = barred_append xs ys
barred_append (Bars q ∷ xs) ys = ap (λ (l : List ℕ). q ∷ l) (barred_append xs ys)
barred_append (Uses q ∷ xs) ys = barred_append xs ys

listed_lists : (xs : List ℕ) → listed_of (map Lists xs) ≡ xs
listed_lists [] = refl
listed_lists (x ∷ xs) = ap (λ (l : List ℕ). x ∷ l) (listed_lists xs)

listed_derives : (xs : List ℕ) → listed_of (map Derives xs) ≡ xs
listed_derives [] = refl
listed_derives (x ∷ xs) = ap (λ (l : List ℕ). x ∷ l) (listed_derives xs)

listed_bars : (xs : List ℕ) → listed_of (map Bars xs) ≡ []
listed_bars [] = refl
listed_bars (x ∷ xs) = listed_bars xs

listed_uses : (xs : List ℕ) → listed_of (map Uses xs) ≡ []
listed_uses [] = refl
listed_uses (x ∷ xs) = listed_uses xs

barred_lists : (xs : List ℕ) → barred_of (map Lists xs) ≡ []
barred_lists [] = refl
barred_lists (x ∷ xs) = barred_lists xs

barred_derives : (xs : List ℕ) → barred_of (map Derives xs) ≡ []
barred_derives [] = refl
barred_derives (x ∷ xs) = barred_derives xs

barred_bars : (xs : List ℕ) → barred_of (map Bars xs) ≡ xs
barred_bars [] = refl
barred_bars (x ∷ xs) = ap (λ (l : List ℕ). x ∷ l) (barred_bars xs)

barred_uses : (xs : List ℕ) → barred_of (map Uses xs) ≡ []
barred_uses [] = refl
barred_uses (x ∷ xs) = barred_uses xs

listed_bar : (first : ℕ) (ds : List Derived) → listed_of (bar_acts first ds) ≡ []
listed_bar first ds = rw (listed_append (map Bars (flat_map path_places ds)) (map Uses (flat_map base_places ds)), listed_bars (flat_map path_places ds), listed_uses (flat_map base_places ds)) refl

barred_bar : (first : ℕ) (ds : List Derived) → barred_of (bar_acts first ds) ≡ place_from first 16 ∷ place_from first 17 ∷ flat_map path_places ds
barred_bar first ds =
    rw (barred_append (map Bars (flat_map path_places ds)) (map Uses (flat_map base_places ds)), barred_bars (flat_map path_places ds), barred_uses (flat_map base_places ds), append-nil (flat_map path_places ds)) refl

listed_frame : (p : Program) (f : Frame) → listed_of (frame_acts p f) ≡ tidy_of_frame p f ++ derived_places p f
listed_frame p f =
    listed_append (bar_acts f.first (derived_of_frame p f)) (map Lists (tidy_of_frame p f) ++ map Derives (derived_places p f)) ∙ ap (λ (l : List ℕ). l ++ listed_of (map Lists (tidy_of_frame p f) ++ map Derives (derived_places p f))) (listed_bar f.first (derived_of_frame p f))
    ∙ listed_append (map Lists (tidy_of_frame p f)) (map Derives (derived_places p f)) ∙ ap (λ (l : List ℕ). l ++ listed_of (map Derives (derived_places p f))) (listed_lists (tidy_of_frame p f)) ∙ ap (λ (l : List ℕ). tidy_of_frame p f ++ l) (listed_derives (derived_places p f))

barred_frame : (p : Program) (f : Frame) → barred_of (frame_acts p f) ≡ barred_in p f
barred_frame p f =
    barred_append (bar_acts f.first (derived_of_frame p f)) (map Lists (tidy_of_frame p f) ++ map Derives (derived_places p f)) ∙ ap (λ (l : List ℕ). l ++ barred_of (map Lists (tidy_of_frame p f) ++ map Derives (derived_places p f))) (barred_bar f.first (derived_of_frame p f))
    ∙ ap (λ (l : List ℕ). barred_in p f ++ l) (barred_append (map Lists (tidy_of_frame p f)) (map Derives (derived_places p f)) ∙ ap (λ (l : List ℕ). l ++ barred_of (map Derives (derived_places p f))) (barred_lists (tidy_of_frame p f)) ∙ barred_derives (derived_places p f))
    ∙ append-nil (barred_in p f)

listed_frames : (p : Program) (fs : List Frame) → listed_of (acts_below p fs) ≡ listed_below p fs
listed_frames p [] = refl
listed_frames p (f ∷ fs) =
    listed_append (frame_acts p f) (acts_below p fs) ∙ ap (λ (l : List ℕ). l ++ listed_of (acts_below p fs)) (listed_frame p f) ∙ ap (λ (l : List ℕ). (tidy_of_frame p f ++ derived_places p f) ++ l) (listed_frames p fs)
    ∙ append_assoc (tidy_of_frame p f) (derived_places p f) (listed_below p fs)

barred_frames : (p : Program) (fs : List Frame) → barred_of (acts_below p fs) ≡ barred_places p fs
barred_frames p [] = refl
barred_frames p (f ∷ fs) =
    barred_append (frame_acts p f) (acts_below p fs) ∙ ap (λ (l : List ℕ). l ++ barred_of (acts_below p fs)) (barred_frame p f) ∙ ap (λ (l : List ℕ). barred_in p f ++ l) (barred_frames p fs)

pub listed_all : (p : Program) (fs : List Frame) → listed_of (acts_of p fs) ≡ listed_places p fs
listed_all p fs =
    listed_append (map Lists (newest_arguments p fs)) (acts_below p fs) ∙ ap (λ (l : List ℕ). l ++ listed_of (acts_below p fs)) (listed_lists (newest_arguments p fs)) ∙ ap (λ (l : List ℕ). newest_arguments p fs ++ l) (listed_frames p fs)

pub barred_all : (p : Program) (fs : List Frame) → barred_of (acts_of p fs) ≡ barred_places p fs
barred_all p fs =
    barred_append (map Lists (newest_arguments p fs)) (acts_below p fs) ∙ ap (λ (l : List ℕ). l ++ barred_of (acts_below p fs)) (barred_lists (newest_arguments p fs)) ∙ barred_frames p fs

-- ---- which bases are plain

alike : (m n : ℕ → Bool) (acts : List Act) → ((q : ℕ) → m q ≡ n q) → UsesArePlain m acts → UsesArePlain n acts
alike m n [] same h = tt
alike m n (Lists q ∷ acts) same h = alike m n acts same h
alike m n (Derives q ∷ acts) same h = alike (λ k. q == k || m k) (λ k. q == k || n k) acts (λ k. ap (λ (b : Bool). q == k || b) (same k)) h
alike m n (Bars q ∷ acts) same h = alike m n acts same h
alike m n (Uses q ∷ acts) same h = (sym (same q) ∙ h.0, alike m n acts same h.1)

lists_out : (n : ℕ → Bool) (xs : List ℕ) (acts : List Act) → UsesArePlain n (map Lists xs ++ acts) → UsesArePlain n acts
lists_out n [] acts h = h
lists_out n (x ∷ xs) acts h = lists_out n xs acts h

lists_in : (n : ℕ → Bool) (xs : List ℕ) (acts : List Act) → UsesArePlain n acts → UsesArePlain n (map Lists xs ++ acts)
lists_in n [] acts h = h
lists_in n (x ∷ xs) acts h = lists_in n xs acts h

bars_out : (n : ℕ → Bool) (xs : List ℕ) (acts : List Act) → UsesArePlain n (map Bars xs ++ acts) → UsesArePlain n acts
bars_out n [] acts h = h
bars_out n (x ∷ xs) acts h = bars_out n xs acts h

bars_in : (n : ℕ → Bool) (xs : List ℕ) (acts : List Act) → UsesArePlain n acts → UsesArePlain n (map Bars xs ++ acts)
bars_in n [] acts h = h
bars_in n (x ∷ xs) acts h = bars_in n xs acts h

uses_out : (n : ℕ → Bool) (xs : List ℕ) (acts : List Act) → UsesArePlain n (map Uses xs ++ acts) → ((q : ℕ) → has xs q ≡ true → n q ≡ false) × UsesArePlain n acts
uses_out n [] acts h = (λ q k. absurd cc, h)
uses_out n (x ∷ xs) acts h =
    let rest = uses_out n xs acts h.1 in
    (λ q k. elim (has_cases x q xs k) [ inl same ↦ rw (← same) h.0 | inr more ↦ rest.0 q more ], rest.1)

uses_in : (n : ℕ → Bool) (xs : List ℕ) (acts : List Act) → ((q : ℕ) → has xs q ≡ true → n q ≡ false) → UsesArePlain n acts → UsesArePlain n (map Uses xs ++ acts)
uses_in n [] acts h k = k
uses_in n (x ∷ xs) acts h k = (h x (has_first x xs), uses_in n xs acts (λ q there. h q (has_more x q xs there)) k)

or_moves : (a b c : Bool) → (b || (a || c)) ≡ ((a || b) || c)
or_moves true true c = refl
or_moves true false c = refl
or_moves false true c = refl
or_moves false false c = refl

derives_out : (n : ℕ → Bool) (xs : List ℕ) (acts : List Act) → UsesArePlain n (map Derives xs ++ acts) → UsesArePlain (λ q. has xs q || n q) acts
derives_out n [] acts h = h
derives_out n (x ∷ xs) acts h = alike (λ q. has xs q || (x == q || n q)) (λ q. has (x ∷ xs) q || n q) acts (λ q. or_moves (x == q) (has xs q) (n q)) (derives_out (λ q. x == q || n q) xs acts h)

derives_in : (n : ℕ → Bool) (xs : List ℕ) (acts : List Act) → UsesArePlain (λ q. has xs q || n q) acts → UsesArePlain n (map Derives xs ++ acts)
derives_in n [] acts h = h
derives_in n (x ∷ xs) acts h = derives_in (λ q. x == q || n q) xs acts (alike (λ q. has (x ∷ xs) q || n q) (λ q. has xs q || (x == q || n q)) acts (λ q. sym (or_moves (x == q) (has xs q) (n q))) h)

-- the acts of a frame, one list after another
frame_parts : (p : Program) (f : Frame) (acts : List Act)
    → frame_acts p f ++ acts ≡ Bars (place_from f.first 16) ∷ (Bars (place_from f.first 17) ∷ (map Bars (flat_map path_places (derived_of_frame p f)) ++ (map Uses (bases_in p f) ++ (map Lists (tidy_of_frame p f) ++ (map Derives (derived_places p f) ++ acts)))))
frame_parts p f acts =
    let paths = map Bars (flat_map path_places (derived_of_frame p f)) in
    let bases = map Uses (bases_in p f) in
    let tidy = map Lists (tidy_of_frame p f) in
    let derived = map Derives (derived_places p f) in
    ap (λ (l : List Act). Bars (place_from f.first 16) ∷ (Bars (place_from f.first 17) ∷ l))
    (append_assoc (paths ++ bases) (tidy ++ derived) acts ∙ append_assoc paths bases ((tidy ++ derived) ++ acts) ∙ ap (λ (l : List Act). paths ++ (bases ++ l)) (append_assoc tidy derived acts))

plain_out : (p : Program) (fs : List Frame) (newer : List ℕ) (n : ℕ → Bool) → ((q : ℕ) → n q ≡ has newer q) → UsesArePlain n (acts_below p fs) → BasesArePlain p newer fs
plain_out p [] newer n same h = tt
plain_out p (f ∷ fs) newer n same h =
    let rest = acts_below p fs in
    let parts = rw (frame_parts p f rest) at h in
    let bases = uses_out n (bases_in p f) (map Lists (tidy_of_frame p f) ++ (map Derives (derived_places p f) ++ rest)) (bars_out n (flat_map path_places (derived_of_frame p f)) _ parts) in
    let later = derives_out n (derived_places p f) rest (lists_out n (tidy_of_frame p f) _ bases.1) in
    (λ base k. sym (same base) ∙ bases.0 base k, plain_out p fs (derived_places p f ++ newer) (λ q. has (derived_places p f) q || n q) (λ q. ap (λ (b : Bool). has (derived_places p f) q || b) (same q) ∙ sym (has_append (derived_places p f) newer q)) later)

plain_in : (p : Program) (fs : List Frame) (newer : List ℕ) (n : ℕ → Bool) → ((q : ℕ) → n q ≡ has newer q) → BasesArePlain p newer fs → UsesArePlain n (acts_below p fs)
plain_in p [] newer n same h = tt
plain_in p (f ∷ fs) newer n same h =
    let rest = acts_below p fs in
    let later = plain_in p fs (derived_places p f ++ newer) (λ q. has (derived_places p f) q || n q) (λ q. ap (λ (b : Bool). has (derived_places p f) q || b) (same q) ∙ sym (has_append (derived_places p f) newer q)) h.1 in
    rw (frame_parts p f rest)
    (bars_in n (flat_map path_places (derived_of_frame p f)) _ (uses_in n (bases_in p f) _ (λ q k. same q ∙ h.0 q k) (lists_in n (tidy_of_frame p f) _ (derives_in n (derived_places p f) rest later))))

-- ---- all of them

pub fits_from : (p : Program) (fs : List Frame) → all_go nothing_marked (acts_of p fs) ≡ true → ListsFit p fs
fits_from p fs e =
    let go = together_from nothing_marked (acts_of p fs) e in
    record {
      once = rw (← listed_all p fs) go.once;
      free = λ q h. rw (← barred_all p fs) (go.free q (rw (listed_all p fs) h)).0;
      plain = plain_out p fs [] (has []) (λ q. refl) (lists_out (has []) (newest_arguments p fs) (acts_below p fs) go.plain);
    }

pub go_from : (p : Program) (fs : List Frame) → ListsFit p fs → all_go nothing_marked (acts_of p fs) ≡ true
go_from p fs h = together_go nothing_marked (acts_of p fs) (record {
  once = rw (listed_all p fs) h.once;
  fresh = λ q k. refl;
  free = λ q k. (rw (barred_all p fs) (h.free q (rw (← listed_all p fs) k)), refl);
  unlisted = λ q k. refl;
  plain = lists_in (has []) (newest_arguments p fs) (acts_below p fs) (plain_in p fs [] (has []) (λ q. refl) h.plain);
})
