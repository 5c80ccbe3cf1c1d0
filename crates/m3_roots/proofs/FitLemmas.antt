-- Where the lists of the rows fit, derived words don't disturb each other, and no tidy word is a derived one.
use Rattle.std.proofs.Common.{◌≡◌, ◌⊎◌, ℕ, suc, ◌+◌, Bool, true, false, not, ◌||◌, List, [], ◌∷◌, ◌++◌, map, drop, Some, refl, inl, inr, arith}
use Rattle.std.specs.Prelude.{◌==◌}
use Rattle.std.specs.List.{slice_get, flat_map, AllByRecursion}
use Rattle.std.proofs.lemmas.List.{map-append}
use Rattle.m3_tables.specs.Numbers.{has, is_once}
use Rattle.m3_tables.specs.Rows.{Bases, Entry}
use Rattle.m3_tables.specs.Keeping.{EntryKept, RowKept}
use Rattle.m3_tables.specs.Sections.{is_tidy, contents_in, is_listed, is_derived}
use Rattle.m3_tables.proofs.KeepingLemmas.{and_parts, not_true}
use Rattle.m3_image_sections.specs.Parts.{Program}
use Rattle.m3_run_frames.specs.declared.frame.Frame.{Frame}
use Rattle.m3_roots.specs.ThreadWords.{place_from, Derived, derived_at, derived_from, place_of, path_places, bases_in_way, base_places}
use Rattle.m3_roots.specs.RowMeaning.{tidy_of_frame, tidy_below, newest_arguments, tidy_places, derived_of_frame, derived_words}
use Rattle.m3_roots.specs.RowLists.{derived_places, listed_below, listed_places, barred_in, barred_places, BasesArePlain, ListsFit}
use Rattle.m3_roots.proofs.WordLemmas.{has_first, has_more, has_left, has_right}
use Rattle.m3_roots.proofs.MarkLemmas.{false_if, clash, or_parts, gone}
use Rattle.m3_roots.proofs.ApartLemmas.{each_weaker, Spares, AreApart, PathsAreFree}
use Rattle.m3_roots.proofs.OnceLemmas.{in_either, in_neither, neither_in, once_parts, once_join, place_once, has_place, flat_append}

-- ---- bases of a derived word

-- a base of a way of it
pub record IsBase (d : Derived) (q : ℕ) : Type 0 where
  pub number : ℕ
  pub place : place_from d.first number ≡ q
  pub n : ℕ
  pub way : Bases
  pub found : slice_get d.entry.ways n ≡ Some way
  pub among : has (bases_in_way way) number ≡ true

in_ways : (ways : List Bases) (l : ℕ) → has (flat_map bases_in_way ways) l ≡ true → (n : ℕ) × (way : Bases) × (slice_get ways n ≡ Some way) × (has (bases_in_way way) l ≡ true)
in_ways [] l h = absurd cc
in_ways (w ∷ ws) l h = elim (in_either (bases_in_way w) (flat_map bases_in_way ws) l h) [
  | inl here ↦ (0, w, refl, here)
  | inr later ↦ (let found = in_ways ws l later in (suc found.0, found.1, found.2, found.3))
]

pub base_is : (d : Derived) (q : ℕ) → has (base_places d) q ≡ true → IsBase d q
base_is d q h =
    let place = has_place d.first (flat_map bases_in_way d.entry.ways) q h in
    let way = in_ways d.entry.ways place.0 place.2 in
    record { number = place.0; place = place.1; n = way.0; way = way.1; found = way.2; among = way.3 }

-- each entry of a list keeps what entries keep
abbrev pub KeepEntries : (ℕ → Bool) → List Entry → List Entry → Type 0
KeepEntries listed all es = (n : ℕ) (e : Entry) → slice_get es n ≡ Some e → EntryKept listed all (drop (n + 1) es) e

pub keep_first : (listed : ℕ → Bool) (all : List Entry) (x : Entry) (xs : List Entry) → KeepEntries listed all (x ∷ xs) → EntryKept listed all xs x
keep_first listed all x xs h = h 0 x refl

pub keep_later : (listed : ℕ → Bool) (all : List Entry) (x : Entry) (xs : List Entry) → KeepEntries listed all (x ∷ xs) → KeepEntries listed all xs
keep_later listed all x xs h = λ n e found. (let k = h (suc n) e found in let one : suc n + 1 ≡ suc (n + 1) = omega arith in rw one at k)

-- a base is listed, or a later derived word
pub base_known : (listed : ℕ → Bool) (all later : List Entry) (first : ℕ) (e : Entry) (q : ℕ) → EntryKept listed all later e → (base : IsBase (derived_at first e) q) → (listed base.number || is_derived later base.number) ≡ true
base_known listed all later first e q kept base =
    let known = kept.bases base.n base.way base.found in
    elim (in_either base.way.added base.way.subtracted base.number base.among) [
      | inl added ↦ known.added base.number added
      | inr subtracted ↦ known.subtracted base.number subtracted
    ]

-- a place of no listed word and of no later derived one is no base
no_base : (listed : ℕ → Bool) (all later : List Entry) (first : ℕ) (e : Entry) (l : ℕ) → EntryKept listed all later e → listed l ≡ false → is_derived later l ≡ false → has (base_places (derived_at first e)) (place_from first l) ≡ false
no_base listed all later first e l kept unlisted underived = false_if (has (base_places (derived_at first e)) (place_from first l)) (λ h.
    (let base = base_is (derived_at first e) (place_from first l) h in
    let known = base_known listed all later first e (place_from first l) kept base in
    let same : base.number ≡ l = place_once first base.number l base.place in
    let none : (listed base.number || is_derived later base.number) ≡ false = rw (same, unlisted, underived) refl in
    clash (listed base.number || is_derived later base.number) known none))

-- ---- bases that are no earlier derived words

abbrev pub BasesAreLater : List Derived → Type 0
BasesAreLater [] = Unit {0}
BasesAreLater (d ∷ ds) = (has (base_places d) (place_of d) ≡ false) × AllByRecursion (λ e. has (base_places e) (place_of d) ≡ false) ds × BasesAreLater ds

no_later_base : (listed : ℕ → Bool) (all : List Entry) (first l : ℕ) (es : List Entry) → listed l ≡ false → is_derived es l ≡ false → KeepEntries listed all es → AllByRecursion (λ e. has (base_places e) (place_from first l) ≡ false) (derived_from first es)
no_later_base listed all first l [] unlisted underived kept = tt
no_later_base listed all first l (x ∷ xs) unlisted underived kept =
    let rest = or_parts (x.location == l) (is_derived xs l) underived in
    (no_base listed all xs first x l (keep_first listed all x xs kept) unlisted rest.1, no_later_base listed all first l xs unlisted rest.1 (keep_later listed all x xs kept))

row_bases : (listed : ℕ → Bool) (all : List Entry) (first : ℕ) (es : List Entry) → KeepEntries listed all es → BasesAreLater (derived_from first es)
row_bases listed all first [] kept = tt
row_bases listed all first (x ∷ xs) kept =
    let here = keep_first listed all x xs kept in
    let rest = keep_later listed all x xs kept in
    (no_base listed all xs first x x.location here here.apart here.once, no_later_base listed all first x.location xs here.apart here.once rest, row_bases listed all first xs rest)

each_append : (P : Derived → Type 0) (xs ys : List Derived) → AllByRecursion P xs → AllByRecursion P ys → AllByRecursion P (xs ++ ys)
each_append P [] ys h k = k
each_append P (x ∷ xs) ys h k = (h.0, each_append P xs ys h.1 k)

later_append : (xs ys : List Derived) → BasesAreLater xs → BasesAreLater ys → AllByRecursion (λ d. AllByRecursion (λ e. has (base_places e) (place_of d) ≡ false) ys) xs → BasesAreLater (xs ++ ys)
later_append [] ys h k cross = k
later_append (x ∷ xs) ys h k cross = (h.0, each_append (λ e. has (base_places e) (place_of x) ≡ false) xs ys h.1 cross.0, later_append xs ys h.2 k cross.1)

-- none of them has a base among some places
abbrev pub NoBaseIn : List ℕ → List Derived → Type 0
NoBaseIn places ds = AllByRecursion (λ e. (q : ℕ) → has places q ≡ true → has (base_places e) q ≡ false) ds

in_flat : (f : Derived → List ℕ) (ds : List Derived) → AllByRecursion (λ d. (q : ℕ) → has (f d) q ≡ true → has (flat_map f ds) q ≡ true) ds
in_flat f [] = tt
in_flat f (d ∷ ds) =
    (λ q h. has_left (f d) (flat_map f ds) q h, each_weaker (λ e. (q : ℕ) → has (f e) q ≡ true → has (flat_map f ds) q ≡ true) (λ e. (q : ℕ) → has (f e) q ≡ true → has (f d ++ flat_map f ds) q ≡ true) (λ e h q k. has_right (f d) (flat_map f ds) q (h q k)) ds (in_flat f ds))

plain_bases : (newer : List ℕ) (ds : List Derived) → ((base : ℕ) → has (flat_map base_places ds) base ≡ true → has newer base ≡ false) → NoBaseIn newer ds
plain_bases newer ds plain =
    each_weaker (λ d. (q : ℕ) → has (base_places d) q ≡ true → has (flat_map base_places ds) q ≡ true) (λ e. (q : ℕ) → has newer q ≡ true → has (base_places e) q ≡ false)
    (λ e among q there. false_if (has (base_places e) q) (λ h. clash (has newer q) there (plain q (among q h)))) ds (in_flat base_places ds)

no_base_append : (places : List ℕ) (xs ys : List Derived) → NoBaseIn places xs → NoBaseIn places ys → NoBaseIn places (xs ++ ys)
no_base_append places [] ys h k = k
no_base_append places (x ∷ xs) ys h k = (h.0, no_base_append places xs ys h.1 k)

cross_over : (xs ys : List Derived) (more : List ℕ) → NoBaseIn (map place_of xs ++ more) ys → AllByRecursion (λ d. AllByRecursion (λ e. has (base_places e) (place_of d) ≡ false) ys) xs
cross_over [] ys more h = tt
cross_over (x ∷ xs) ys more h = (
  each_weaker (λ e. (q : ℕ) → has (map place_of (x ∷ xs) ++ more) q ≡ true → has (base_places e) q ≡ false) (λ e. has (base_places e) (place_of x) ≡ false) (λ e k. k (place_of x) (has_first (place_of x) (map place_of xs ++ more))) ys h,
  cross_over xs ys more (each_weaker (λ e. (q : ℕ) → has (map place_of (x ∷ xs) ++ more) q ≡ true → has (base_places e) q ≡ false) (λ e. (q : ℕ) → has (map place_of xs ++ more) q ≡ true → has (base_places e) q ≡ false) (λ e k q there. k q (has_more (place_of x) q (map place_of xs ++ more) there)) ys h),
)

abbrev pub RowsKept : Program → List Frame → Type 0
RowsKept p fs = AllByRecursion (λ f. RowKept p.tables f.row) fs

frames_bases : (p : Program) (fs : List Frame) (newer : List ℕ) → RowsKept p fs → BasesArePlain p newer fs → BasesAreLater (derived_words p fs) × NoBaseIn newer (derived_words p fs)
frames_bases p [] newer kept plain = (tt, tt)
frames_bases p (f ∷ fs) newer kept plain =
    let ds = derived_of_frame p f in
    let rest = derived_words p fs in
    let later = frames_bases p fs (derived_places p f ++ newer) kept.1 plain.1 in
    let here = row_bases (is_listed (is_tidy p.tables f.row) (contents_in p.tables f.row)) (contents_in p.tables f.row).derived f.first (contents_in p.tables f.row).derived kept.0.entries in (
      later_append ds rest here later.0 (cross_over ds rest newer later.1),
      no_base_append newer ds rest (plain_bases newer ds plain.0)
          (each_weaker (λ e. (q : ℕ) → has (derived_places p f ++ newer) q ≡ true → has (base_places e) q ≡ false) (λ e. (q : ℕ) → has newer q ≡ true → has (base_places e) q ≡ false) (λ e k q there. k q (has_right (derived_places p f) newer q there)) rest later.1),
    )

-- ---- derived words that don't disturb each other

spares_all : (d : Derived) (es : List Derived) → has (map place_of es) (place_of d) ≡ false → has (flat_map path_places es) (place_of d) ≡ false → AllByRecursion (λ e. has (base_places e) (place_of d) ≡ false) es
    → ((q : ℕ) → has (map place_of es) q ≡ true → has (path_places d) q ≡ false) → AllByRecursion (Spares d) es
spares_all d [] apart paths bases own = tt
spares_all d (e ∷ es) apart paths bases own =
    let away = gone (place_of e) (place_of d) (map place_of es) apart in
    let ways = in_neither (path_places e) (flat_map path_places es) (place_of d) paths in (
      record { place = away.0; way = ways.0; bases = bases.0; path = own (place_of e) (has_first (place_of e) (map place_of es)) },
      spares_all d es away.1 ways.1 bases.1 (λ q h. own q (has_more (place_of e) q (map place_of es) h)),
    )

pub apart_from : (ds : List Derived) → is_once (map place_of ds) ≡ true → ((q : ℕ) → has (map place_of ds) q ≡ true → has (flat_map path_places ds) q ≡ false) → BasesAreLater ds → AreApart ds
apart_from [] once paths bases = tt
apart_from (d ∷ ds) once paths bases =
    let parts = and_parts (not (has (map place_of ds) (place_of d))) (is_once (map place_of ds)) once in
    let here = in_neither (path_places d) (flat_map path_places ds) (place_of d) (paths (place_of d) (has_first (place_of d) (map place_of ds))) in (
      here.0,
      bases.0,
      spares_all d ds (not_true (has (map place_of ds) (place_of d)) parts.0) here.1 bases.1 (λ q h. (in_neither (path_places d) (flat_map path_places ds) q (paths q (has_more (place_of d) q (map place_of ds) h))).0),
      apart_from ds parts.1 (λ q h. (in_neither (path_places d) (flat_map path_places ds) q (paths q (has_more (place_of d) q (map place_of ds) h))).1) bases.2,
    )

-- ---- tidy and derived places

pub derived_split : (p : Program) (f : Frame) (fs : List Frame) → map place_of (derived_words p (f ∷ fs)) ≡ derived_places p f ++ map place_of (derived_words p fs)
derived_split p f fs = map-append place_of (derived_of_frame p f) (derived_words p fs)

pub below_has : (p : Program) (fs : List Frame) (q : ℕ) → (has (tidy_below p fs) q ≡ true) ⊎ (has (map place_of (derived_words p fs)) q ≡ true) → has (listed_below p fs) q ≡ true
below_has p [] q (inl h) = absurd cc
below_has p [] q (inr h) = absurd cc
below_has p (f ∷ fs) q (inl h) = elim (in_either (tidy_of_frame p f) (tidy_below p fs) q h) [
  | inl here ↦ has_left (tidy_of_frame p f) (derived_places p f ++ listed_below p fs) q here
  | inr later ↦ has_right (tidy_of_frame p f) (derived_places p f ++ listed_below p fs) q (has_right (derived_places p f) (listed_below p fs) q (below_has p fs q (inl later)))
]
below_has p (f ∷ fs) q (inr h) = elim (in_either (derived_places p f) (map place_of (derived_words p fs)) q (rw (← derived_split p f fs) h)) [
  | inl here ↦ has_right (tidy_of_frame p f) (derived_places p f ++ listed_below p fs) q (has_left (derived_places p f) (listed_below p fs) q here)
  | inr later ↦ has_right (tidy_of_frame p f) (derived_places p f ++ listed_below p fs) q (has_right (derived_places p f) (listed_below p fs) q (below_has p fs q (inr later)))
]

-- a place that isn't listed is neither tidy nor derived
unlisted_tidy : (p : Program) (fs : List Frame) (q : ℕ) → has (listed_below p fs) q ≡ false → has (tidy_below p fs) q ≡ false
unlisted_tidy p fs q h = false_if (has (tidy_below p fs) q) (λ k. clash (has (listed_below p fs) q) (below_has p fs q (inl k)) h)

unlisted_derived : (p : Program) (fs : List Frame) (q : ℕ) → has (listed_below p fs) q ≡ false → has (map place_of (derived_words p fs)) q ≡ false
unlisted_derived p fs q h = false_if (has (map place_of (derived_words p fs)) q) (λ k. clash (has (listed_below p fs) q) (below_has p fs q (inr k)) h)

pub record TidyApart (tidy derived : List ℕ) : Type 0 where
  pub tidy_once : is_once tidy ≡ true
  pub derived_once : is_once derived ≡ true
  pub apart : (q : ℕ) → has tidy q ≡ true → has derived q ≡ false

below_apart : (p : Program) (fs : List Frame) → is_once (listed_below p fs) ≡ true → TidyApart (tidy_below p fs) (map place_of (derived_words p fs))
below_apart p [] once = record { tidy_once = refl; derived_once = refl; apart = λ q h. refl }
below_apart p (f ∷ fs) once =
    let t = tidy_of_frame p f in
    let d = derived_places p f in
    let l = listed_below p fs in
    let outer = once_parts t (d ++ l) once in
    let inner = once_parts d l outer.second in
    let rest = below_apart p fs inner.second in
    let split = derived_split p f fs in
    record {
      tidy_once = once_join t (tidy_below p fs) (record { first = outer.first; second = rest.tidy_once; apart = λ q h. unlisted_tidy p fs q (in_neither d l q (outer.apart q h)).1 });
      derived_once = rw split (once_join d (map place_of (derived_words p fs)) (record { first = inner.first; second = rest.derived_once; apart = λ q h. unlisted_derived p fs q (inner.apart q h) }));
      apart = λ q h. rw split (elim (in_either t (tidy_below p fs) q h) [
        | inl here ↦ (let away = in_neither d l q (outer.apart q here) in neither_in d (map place_of (derived_words p fs)) q away.0 (unlisted_derived p fs q away.1))
        | inr later ↦ neither_in d (map place_of (derived_words p fs)) q (false_if (has d q) (λ k. clash (has l q) (below_has p fs q (inl later)) (inner.apart q k))) (rest.apart q later)
      ]);
    }

pub all_apart : (p : Program) (fs : List Frame) → is_once (listed_places p fs) ≡ true → TidyApart (tidy_places p fs) (map place_of (derived_words p fs))
all_apart p fs once =
    let outer = once_parts (newest_arguments p fs) (listed_below p fs) once in
    let rest = below_apart p fs outer.second in
    record {
      tidy_once = once_join (newest_arguments p fs) (tidy_below p fs) (record { first = outer.first; second = rest.tidy_once; apart = λ q h. unlisted_tidy p fs q (outer.apart q h) });
      derived_once = rest.derived_once;
      apart = λ q h. elim (in_either (newest_arguments p fs) (tidy_below p fs) q h) [ inl newest ↦ unlisted_derived p fs q (outer.apart q newest) | inr below ↦ rest.apart q below ];
    }

-- ---- paths

pub path_barred : (p : Program) (fs : List Frame) (q : ℕ) → has (flat_map path_places (derived_words p fs)) q ≡ true → has (barred_places p fs) q ≡ true
path_barred p [] q h = absurd cc
path_barred p (f ∷ fs) q h = elim (in_either (flat_map path_places (derived_of_frame p f)) (flat_map path_places (derived_words p fs)) q (rw (flat_append path_places (derived_of_frame p f) (derived_words p fs)) at h)) [
  | inl here ↦ has_left (barred_in p f) (barred_places p fs) q (has_more (place_from f.first 16) q (place_from f.first 17 ∷ flat_map path_places (derived_of_frame p f)) (has_more (place_from f.first 17) q (flat_map path_places (derived_of_frame p f)) here))
  | inr later ↦ has_right (barred_in p f) (barred_places p fs) q (path_barred p fs q later)
]

-- what is tidy or derived is no path
pub listed_if : (p : Program) (fs : List Frame) (q : ℕ) → (has (tidy_places p fs) q ≡ true) ⊎ (has (map place_of (derived_words p fs)) q ≡ true) → has (listed_places p fs) q ≡ true
listed_if p fs q (inl tidy) = elim (in_either (newest_arguments p fs) (tidy_below p fs) q tidy) [
  | inl newest ↦ has_left (newest_arguments p fs) (listed_below p fs) q newest
  | inr below ↦ has_right (newest_arguments p fs) (listed_below p fs) q (below_has p fs q (inl below))
]
listed_if p fs q (inr derived) = has_right (newest_arguments p fs) (listed_below p fs) q (below_has p fs q (inr derived))

no_path : (p : Program) (fs : List Frame) (q : ℕ) → ListsFit p fs → (has (tidy_places p fs) q ≡ true) ⊎ (has (map place_of (derived_words p fs)) q ≡ true) → has (flat_map path_places (derived_words p fs)) q ≡ false
no_path p fs q fit h = false_if (has (flat_map path_places (derived_words p fs)) q) (λ path. clash (has (barred_places p fs) q) (path_barred p fs q path) (fit.free q (listed_if p fs q h)))

pub paths_free : (p : Program) (fs : List Frame) → ListsFit p fs → PathsAreFree (derived_words p fs) (tidy_places p fs) (derived_words p fs)
paths_free p fs fit =
    let ds = derived_words p fs in
    each_weaker (λ d. (q : ℕ) → has (path_places d) q ≡ true → has (flat_map path_places ds) q ≡ true) (λ d. (q : ℕ) → has (path_places d) q ≡ true → (has (map place_of ds) q ≡ false) × (has (tidy_places p fs) q ≡ false))
    (λ d among q h. (
      false_if (has (map place_of ds) q) (λ k. clash (has (flat_map path_places ds) q) (among q h) (no_path p fs q fit (inr k))),
      false_if (has (tidy_places p fs) q) (λ k. clash (has (flat_map path_places ds) q) (among q h) (no_path p fs q fit (inl k))),
    )) ds (in_flat path_places ds)

pub derived_apart : (p : Program) (fs : List Frame) → RowsKept p fs → ListsFit p fs → AreApart (derived_words p fs)
derived_apart p fs kept fit =
    apart_from (derived_words p fs) (all_apart p fs fit.once).derived_once (λ q h. no_path p fs q fit (inr h)) (frames_bases p fs [] kept fit.plain).0
