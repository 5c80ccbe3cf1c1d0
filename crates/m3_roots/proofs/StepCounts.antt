-- Steps counted over rows: words that are visited, and bases that are subtracted or added.
use Rattle.std.proofs.Common.{ℕ, zero, suc, Bool, true, false, cond, eqb, ◌||◌, ◌≡◌, ◌+◌, ◌<◌, ◌≤◌, List, [], ◌∷◌, ◌++◌, length, take, drop, ◌-◌, Some, refl, sym, ap, subst, ◌∙◌, arith}
use Rattle.std.specs.List.{slice_get, flat_map}
use Rattle.std.proofs.lemmas.List.{length-map, length-append, map-append, take_all, take_more, append_assoc}
use Rattle.std.proofs.lemmas.Option.{slice_get_within}
use Rattle.std.proofs.lemmas.Bool.{eq-eqb}
use Rattle.m3_tables.specs.Rows.{Bases, Entry}
use Rattle.m3_heap.specs.Cells.{Cell, words_from}
use Rattle.m3_heap.specs.Moves.{Move, staying, kept_words, kept_pointers}
use Rattle.m3_heap.specs.Shapes.{Shape, is_listed, is_pointer_word, pointers_from, pointer_words}
use Rattle.m3_heap.specs.Heap.{Heap, CostsTrace}
use Rattle.m3_tables.specs.declared.row.Row.{Row}
use Rattle.m3_tables.specs.Tables.{derived_in as row_derived}
use Rattle.m3_image_sections.specs.Parts.{Program}
use Rattle.m3_run_frames.specs.declared.frame.Frame.{Frame}
use Rattle.m3_threads.specs.declared.status.Thread.{Thread}
use Rattle.m3_threads.specs.All.{Everyone, base_of, words_of}
use Rattle.m3_roots.specs.RowMeaning.{AreFramesAt, tidy_places, derived_of_frame, derived_words}
use Rattle.m3_roots.specs.Collected.{AreFrames, frames_at, AllFramed}
use Rattle.m3_roots.specs.ThreadsGathered.{Gathered, opened}
use Rattle.m3_roots.specs.Gathering.{GoesOn}
use Rattle.m3_roots.proofs.VisitLemmas.{Grew}
use Rattle.m3_roots.proofs.TogetherLemmas.{take_parts}
use Rattle.m3_roots.proofs.StepLemmas.{IsRowOf, derived_of}
use Rattle.m3_roots.specs.ThreadWords.{Derived, derived_at, derived_from, place_from, bases_in_way, base_places, way_number, way_at}
use Rattle.m3_roots.specs.Visiting.{KeepsHeap}
use Rattle.m3_roots.specs.Steps.{VisitCosts, derived_listed, rows_list, all_list, StepsAtMost}

-- ---- visits

-- some of the words that are left were visited
pub cost_more : (first before after : Heap) (start s t n left rest all : ℕ) → KeepsHeap first before → VisitCosts before after s t n → left ≡ n + rest
    → s + kept_words first.cells first.moves + left ≤ start + all + kept_words first.cells before.moves → t + kept_words first.cells first.moves + rest ≤ start + all + kept_words first.cells after.moves
cost_more first before after start s t n left rest all keeps cost parts so_far =
    let cells : before.cells ≡ first.cells = ap (λ (h : Heap). h.cells) keeps in
    let was : kept_words before.cells before.moves ≡ kept_words first.cells before.moves = ap (λ (cs : List Cell). kept_words cs before.moves) cells in
    let is : kept_words before.cells after.moves ≡ kept_words first.cells after.moves = ap (λ (cs : List Cell). kept_words cs after.moves) cells in
    omega (arith, cost, parts, so_far, was, is)

-- one visit behind another
pub cost_then : (first mid last : Heap) (s t u m n : ℕ) → KeepsHeap first mid → VisitCosts first mid s t m → VisitCosts mid last t u n → VisitCosts first last s u (m + n)
cost_then first mid last s t u m n keeps one two =
    let cells : mid.cells ≡ first.cells = ap (λ (h : Heap). h.cells) keeps in
    let was : kept_words mid.cells mid.moves ≡ kept_words first.cells mid.moves = ap (λ (cs : List Cell). kept_words cs mid.moves) cells in
    let is : kept_words mid.cells last.moves ≡ kept_words first.cells last.moves = ap (λ (cs : List Cell). kept_words cs last.moves) cells in
    omega (arith, one, two, was, is)

pub cost_less : (first last : Heap) (s t m n : ℕ) → VisitCosts first last s t m → VisitCosts first last s t (m + n)
cost_less first last s t m n h = omega (arith, h)

-- two lists of places, and the first of two
pub cost_both : (first mid last : Heap) (s t u : ℕ) (ms ns : List ℕ) → KeepsHeap first mid → VisitCosts first mid s t (length ms) → VisitCosts mid last t u (length ns) → VisitCosts first last s u (length (ms ++ ns))
cost_both first mid last s t u ms ns keeps one two =
    let all = cost_then first mid last s t u (length ms) (length ns) keeps one two in
    let long = length-append ms ns in
    omega (arith, all, long)

pub cost_first : (first last : Heap) (s t : ℕ) (ms ns : List ℕ) → VisitCosts first last s t (length ms) → VisitCosts first last s t (length (ms ++ ns))
cost_first first last s t ms ns one = let long = length-append ms ns in omega (arith, one, long)

-- ---- bases

-- the bases of a way are among those of all ways
way_in : (ways : List Bases) (n : ℕ) (way : Bases) → slice_get ways n ≡ Some way → length (bases_in_way way) ≤ length (flat_map bases_in_way ways)
way_in [] n way e = absurd cc
way_in (w ∷ ways) zero way e =
    let same : w ≡ way = cc in
    let long = length-append (bases_in_way w) (flat_map bases_in_way ways) in
    let is = ap (λ (x : Bases). length (bases_in_way x)) same in
    omega (arith, long, is)
way_in (w ∷ ways) (suc n) way e =
    let long = length-append (bases_in_way w) (flat_map bases_in_way ways) in
    let rest = way_in ways n way e in
    omega (arith, long, rest)

pub way_listed : (first : ℕ) (entry : Entry) (n : ℕ) (way : Bases) → slice_get entry.ways n ≡ Some way → length way.added + length way.subtracted ≤ length (base_places (derived_at first entry))
way_listed first entry n way e =
    let all = way_in entry.ways n way e in
    let both = length-append way.added way.subtracted in
    let places = length-map (flat_map bases_in_way entry.ways) (place_from first) in
    omega (arith, all, both, places)

-- the way that an entry takes
pub listed_by : (first : ℕ) (entry : Entry) (words : List ℕ) (way : Bases) → Some way ≡ way_at words (derived_at first entry) → length way.added + length way.subtracted ≤ length (base_places (derived_at first entry))
listed_by first entry words way e = way_listed first entry (way_number words first entry.path) way (sym e)

-- ---- derived words

pub listed_append : (xs ys : List Derived) → derived_listed (xs ++ ys) ≡ derived_listed xs + derived_listed ys
listed_append [] ys = omega arith
listed_append (x ∷ xs) ys = let rest = listed_append xs ys in omega (arith, rest)

-- by halves
pub listed_parts : (first half count : ℕ) (es back : List Entry) → half ≤ count → back ≡ drop half es
    → derived_listed (derived_from first (take count es)) ≡ derived_listed (derived_from first (take half es)) + derived_listed (derived_from first (take (count - half) back))
listed_parts first half count es back h is =
    ap (λ (xs : List Entry). derived_listed (derived_from first xs)) (take_parts half count es h)
    ∙ ap (λ (ds : List Derived). derived_listed ds) (map-append (derived_at first) (take half es) (take (count - half) (drop half es)))
    ∙ listed_append (derived_from first (take half es)) (derived_from first (take (count - half) (drop half es)))
    ∙ ap (λ (xs : List Entry). derived_listed (derived_from first (take half es)) + derived_listed (derived_from first (take (count - half) xs))) (sym is)

pub listed_all : (first count : ℕ) (es all : List Entry) → es ≡ all → count ≡ length all → derived_listed (derived_from first (take count es)) ≡ derived_listed (derived_from first all)
listed_all first count es all same size =
    ap (λ (xs : List Entry). derived_listed (derived_from first xs)) (ap (take count) same ∙ (ap (λ (n : ℕ). take n all) size ∙ take_all (length all) all (omega arith)))

-- a frame and those below it, by its row
pub listed_frame : (p : Program) (f : Frame) (fs : List Frame) (row : Row) → IsRowOf p f row → derived_listed (derived_words p (f ∷ fs)) ≡ derived_listed (derived_from f.first (row_derived row)) + derived_listed (derived_words p fs)
listed_frame p f fs row is =
    listed_append (derived_of_frame p f) (derived_words p fs) ∙ ap (λ (ds : List Derived). derived_listed ds + derived_listed (derived_words p fs)) (sym (derived_of p f row is))

-- the frames from one on list no more than all
pub listed_from : (p : Program) (k : ℕ) (fs : List Frame) → derived_listed (derived_words p (drop k fs)) ≤ derived_listed (derived_words p fs)
listed_from p zero fs = omega arith
listed_from p (suc k) [] = omega arith
listed_from p (suc k) (f ∷ fs) =
    let rest = listed_from p k fs in
    let both = listed_append (derived_of_frame p f) (derived_words p fs) in
    omega (arith, rest, both)

-- ---- a thread

pub bases_cost : (first : Heap) (s t : ℕ) (p : Program) (frames : List Frame) → t ≤ s + derived_listed (derived_words p frames) → VisitCosts first first s t (rows_list p frames)
bases_cost first s t p frames h = omega (arith, h)

pub rows_cost : (first last : Heap) (s t u : ℕ) (p : Program) (frames : List Frame) → t ≤ s + derived_listed (derived_words p frames) → VisitCosts first last t u (length (tidy_places p frames)) → VisitCosts first last s u (rows_list p frames)
rows_cost first last s t u p frames one two = omega (arith, one, two)

-- ---- all threads

all_append : (p : Program) (xs ys : List (List Frame)) → all_list p (xs ++ ys) ≡ all_list p xs + all_list p ys
all_append p [] ys = omega arith
all_append p (x ∷ xs) ys = let rest = all_append p xs ys in omega (arith, rest)

-- one thread more
pub all_more : (p : Program) (ws : List (List Frame)) (n : ℕ) → n < length ws → all_list p (take (n + 1) ws) ≡ all_list p (take n ws) + rows_list p (frames_at ws n)
all_more p ws n lt =
    let one = all_append p (take n ws) (frames_at ws n ∷ []) in
    ap (all_list p) (take_more ws n [] lt) ∙ (omega (arith, one))

pub all_taken : (p : Program) (n : ℕ) (ws : List (List Frame)) → all_list p (take n ws) ≤ all_list p ws
all_taken p zero ws = omega arith
all_taken p (suc n) [] = omega arith
all_taken p (suc n) (w ∷ ws) = let rest = all_taken p n ws in omega (arith, rest)

-- a visit behind others
pub cost_add : (first before after : Heap) (start s t m n : ℕ) → KeepsHeap first before → VisitCosts before after s t n → VisitCosts first before start s m → VisitCosts first after start t (m + n)
cost_add first before after start s t m n keeps cost so_far = cost_then first before after start s t m n keeps so_far cost

-- a thread that wasn't looked at yet has its frames
pub frames_still : (p : Program) (cells : List Cell) (first now : Everyone) (start moves : List Move) (n : ℕ) (walks ws : List (List Frame)) (t : Thread) → Gathered p cells first now start moves n walks → AllFramed p first ws → slice_get now.threads n ≡ Some t
    → AreFrames p now t (frames_at ws n) × (n < length ws)
frames_still p cells first now start moves n walks ws t g h at =
    let was : slice_get first.threads n ≡ Some t = sym (g.rest n (omega arith)) ∙ at in
    let words : words_of now t ≡ words_of first t = g.rest_words n t (omega arith) was in
    let lt = slice_get_within first.threads n t was in
    (subst (λ (stack : List ℕ). AreFramesAt p (base_of t) stack t.regs.fp t.regs.pc (frames_at ws n)) (sym words) (h.each n t was), omega (arith, lt, h.count))

-- ---- the end

kept_append : (cells : List Cell) (ms ns : List Move) → kept_words cells (ms ++ ns) ≡ kept_words cells ms + kept_words cells ns
kept_append cells [] ns = omega arith
kept_append cells (m ∷ ms) ns = let rest = kept_append cells ms ns in omega (arith, rest)

pointers_append : (shapes : List Shape) (cells : List Cell) (tenured : List ℕ) (ms ns : List Move) → kept_pointers shapes cells tenured (ms ++ ns) ≡ kept_pointers shapes cells tenured ms + kept_pointers shapes cells tenured ns
pointers_append shapes cells tenured [] ns = omega arith
pointers_append shapes cells tenured (m ∷ ms) ns = let rest = pointers_append shapes cells tenured ms ns in omega (arith, rest)

few_pointers : (p : ℕ → Bool) (at : ℕ) (ws : List ℕ) → pointers_from p at ws ≤ length ws
few_pointers p at [] = omega arith
few_pointers p at (w ∷ ws) =
    let rest = few_pointers p (at + 1) ws in
    let one = at_most_one (p at) in
    omega (arith, rest, one)
  where
    at_most_one : (b : Bool) → cond b 1 0 ≤ 1
    at_most_one true = omega arith
    at_most_one false = omega arith

-- a cell has no more pointers than words
pointers_kept : (shapes : List Shape) (cells : List Cell) (tenured : List ℕ) (ms : List Move) → kept_pointers shapes cells tenured ms ≤ kept_words cells ms
pointers_kept shapes cells tenured [] = omega arith
pointers_kept shapes cells tenured (m ∷ ms) =
    let words = words_from cells m.from in
    let rest = pointers_kept shapes cells tenured ms in
    let one = none_or (is_listed tenured m.from) (pointer_words shapes words) (length words) (few_pointers (is_pointer_word shapes words) 0 words) in
    omega (arith, rest, one)
  where
    none_or : (b : Bool) (n m : ℕ) → n ≤ m → cond b 0 n ≤ m
    none_or true n m h = omega arith
    none_or false n m h = h

listed_there : (front : List ℕ) (x : ℕ) (back : List ℕ) → is_listed (front ++ x ∷ back) x ≡ true
listed_there [] x back = ap (λ b. b || is_listed back x) (eq-eqb x x refl)
listed_there (y ∷ front) x back = ap (λ b. eqb y x || b) (listed_there front x back) ∙ or_true (eqb y x)
  where
    or_true : (b : Bool) → (b || true) ≡ true
    or_true true = refl
    or_true false = refl

-- those of the cells that are kept unasked aren't looked at
unasked_none : (shapes : List Shape) (cells : List Cell) (front back : List ℕ) → kept_pointers shapes cells (front ++ back) (staying back) ≡ 0
unasked_none shapes cells front [] = refl
unasked_none shapes cells front (x ∷ back) =
    let here = ap (λ b. cond b 0 (pointer_words shapes (words_from cells x)) + kept_pointers shapes cells (front ++ x ∷ back) (staying back)) (listed_there front x back) in
    let rest = ap (λ (xs : List ℕ). kept_pointers shapes cells xs (staying back)) (sym (append_assoc front (x ∷ []) back)) ∙ unasked_none shapes cells (front ++ x ∷ []) back in
    omega (arith, here, rest)

-- all steps of a collection: those of the visits, of its end, and of the bases that are added again
pub all_steps : (p : Program) (shapes : List Shape) (walks : List (List Frame)) (old new : Heap) (m3 : List Move) (s t u v : ℕ) → Grew (staying old.tenured) m3 → GoesOn m3 new.moves
    → VisitCosts (opened old (staying old.tenured)) (opened old m3) s t (all_list p walks + length p.globals.pointers) → CostsTrace shapes (opened old m3) new t u → v ≤ u + all_list p walks → StepsAtMost p walks old new s v
all_steps p shapes walks old new m3 s t u v grew on visits ends mends =
    let first = staying old.tenured in
    let more = grew.more ++ on.0 in
    let is : new.moves ≡ first ++ more = on.1 ∙ ap (λ (ms : List Move). ms ++ on.0) grew.is ∙ append_assoc first grew.more on.0 in
    let words : kept_words old.cells new.moves ≡ kept_words old.cells first + kept_words old.cells more = ap (λ (ms : List Move). kept_words old.cells ms) is ∙ kept_append old.cells first more in
    let pointers : kept_pointers shapes old.cells old.tenured new.moves ≡ kept_pointers shapes old.cells old.tenured more =
    ap (λ (ms : List Move). kept_pointers shapes old.cells old.tenured ms) is ∙ pointers_append shapes old.cells old.tenured first more
    ∙ ap (λ n. n + kept_pointers shapes old.cells old.tenured more) (unasked_none shapes old.cells [] old.tenured) ∙ (omega arith) in
    let few = pointers_kept shapes old.cells old.tenured more in
    omega (arith, visits, ends, mends, words, pointers, few)
