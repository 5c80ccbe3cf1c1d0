-- The tenured cells among the copies of a minor collection, and their pointers.
use Rattle.std.proofs.Common.{◌≡◌, ◌≢◌, ℕ, ◌+◌, ◌-◌, Bool, true, false, cond, eqb, ltb, List, [], ◌∷◌, ◌++◌, length, map, Option, Some, is_some, refl, sym, ap, subst, ◌∙◌, arith, inl, inr, ◌⊎◌, ⊎_elim}
use Rattle.std.specs.List.{AllByRecursion}
use Rattle.std.proofs.lemmas.Bool.{cond-true, cond-false, eq-eqb, ne_eqb, lt-ltb, or_left, or_right, or_from}
use Rattle.std.proofs.lemmas.List.{map-append}
use Rattle.m3_heap.specs.Cells.{Cell, cell_from, is_start, words_from, layout, total_words}
use Rattle.m3_heap.specs.Shapes.{Shape, is_pointer_word, pointer_words, is_listed}
use Rattle.m3_heap.specs.Moves.{kept_pointers}
use Rattle.m3_heap.specs.Heap.{nursery_base, old_starts}
use Rattle.m3_heap.specs.CollectorSpace.{AreLaid}
use Rattle.m3_heap.specs.CollectorTracing.{old_cells, copies, moves, moves_from, placed, IsCopy, AreDistinct, IsTracing}
use Rattle.m3_heap.specs.CollectorScanning.{IsBoundary, pointers_met, met}
use Rattle.m3_heap.proofs.SpaceLemmas.{start-fits}
use Rattle.m3_heap.proofs.ScanLemmas.{copied_from, all-met, met-low}
use Rattle.m3_heap.proofs.WordLemmas.{kept-laid}
use Rattle.m3_heap.proofs.FinalLemmas.{done-met}
use Rattle.m3_generational.specs.Collecting.{stayed, minor_left, IsKeeping, IsSplit, tenured_pointers}
use Rattle.m3_generational.specs.declared.spaces.Spaces.{Spaces}
use Rattle.m3_generational.proofs.HeapLemmas.{same-olds, same-total}
use Rattle.m3_generational.proofs.BeginLemmas.{standing-layout, no-old, all-second}
use Rattle.m3_heap.proofs.TracingLemmas.{all_map, all_zip}
use Rattle.m3_generational.proofs.ForwardLemmas.{split-minor, stayed-layout}
use Rattle.m3_generational.proofs.MinorLemmas.{tenured}

abbrev pub starts_of : List Cell → List ℕ
starts_of cells = map (λ (cell : Cell). cell.start) cells

first-of : List (ℕ × ℕ) → ℕ × ℕ
first-of [] = (0, 0)
first-of (x ∷ xs) = x

rest-of : List (ℕ × ℕ) → List (ℕ × ℕ)
rest-of [] = []
rest-of (x ∷ xs) = xs

-- ---- where the copies begin

front-boundary : (a : ℕ) (cs ds : List Cell) (rest : List (ℕ × ℕ)) → layout ds ≡ layout cs ++ rest → AreLaid a ds → (is_start ds (a + total_words cs) ≡ true) ⊎ (a + total_words cs ≡ a + total_words ds)
unfolding first-of rest-of
front-boundary a [] [] rest e h = inr refl
front-boundary a [] (d ∷ ds) rest e h = inl (ap is_some (cond-true (eqb d.start (a + 0)) (Some d) (cell_from ds (a + 0)) (eq-eqb d.start (a + 0) (omega (arith, h.0)))))
front-boundary a (c ∷ cs) [] rest e h = absurd (cc)
front-boundary a (c ∷ cs) (d ∷ ds) rest e h =
    let long : length d.words ≡ length c.words = ap (λ l. (first-of l).1) e in
    let P : ℕ → Type 0 = λ n. (is_start (d ∷ ds) n ≡ true) ⊎ (n ≡ a + total_words (d ∷ ds)) in
    let sum : a + length d.words + total_words cs ≡ a + total_words (c ∷ cs) = omega (arith, long) in
    subst P sum (⊎_elim
    (λ (on : is_start ds (a + length d.words + total_words cs) ≡ true). inl (either (eqb d.start (a + length d.words + total_words cs)) d (cell_from ds (a + length d.words + total_words cs)) on))
    (λ (end : a + length d.words + total_words cs ≡ a + length d.words + total_words ds). inr (omega (arith, end)))
    (front-boundary (a + length d.words) cs ds rest (ap rest-of e) h.2))
  where
    either : (b : Bool) (c : Cell) (o : Option Cell) → is_some o ≡ true → is_some (cond b (Some c) o) ≡ true
    either true c o e = refl
    either false c o e = e

pub tenured-boundary : (s : Spaces) (from : ℕ) → s.is_minor ≡ true → IsTracing (minor_left s) s.here → IsKeeping s → from ≡ s.here.base + s.tenured → IsBoundary s.here from
tenured-boundary s from m t k is =
    let h = k.minor m in
    let laid = kept-laid (minor_left s) s.here t in
    let P : ℕ → Type 0 = λ n. IsBoundary s.here n in
    let same : s.here.base + total_words s.found.value.cells ≡ from = omega (arith, is, h.tenured) in
    subst P same (front-boundary s.here.base s.found.value.cells s.here.cells h.first.0 h.first.1 laid)

-- ---- the first copies are those of the tenured cells

-- each copy of a front of cells that lie behind one another, where each is its own copy
pub record IsFront (cs : List Cell) (b : ℕ) (f ks : List Cell) (rest : List (ℕ × ℕ)) : Type 0 where
  pub laid : AreLaid b f
  pub copied : AllByRecursion (IsCopy cs) ks
  pub first : layout (placed b ks) ≡ layout f ++ rest
  pub own : (w : ℕ) → is_start f w ≡ true → copied_from b ks w ≡ w

record IsFirst (b : ℕ) (c k : Cell) : Type 0 where
  at : c.start ≡ b
  long : length k.words ≡ length c.words
  from : k.start ≡ c.start

first-told : (cs : List Cell) (b : ℕ) (c : Cell) (f : List Cell) (k : Cell) (ks : List Cell) (rest : List (ℕ × ℕ)) → IsFront cs b (c ∷ f) (k ∷ ks) rest → IsFirst b c k
unfolding first-of
first-told cs b c f k ks rest h =
    let at : b ≡ c.start = ap (λ l. (first-of l).0) h.first in
    let on : is_start (c ∷ f) c.start ≡ true = ap is_some (cond-true (eqb c.start c.start) (Some c) (cell_from f c.start) (eq-eqb c.start c.start refl)) in
    record {
      at = sym at;
      long = ap (λ l. (first-of l).1) h.first;
      from = sym (cond-true (eqb b c.start) k.start (copied_from (b + length k.words) ks c.start) (eq-eqb b c.start at)) ∙ h.own c.start on;
    }

front-rest : (cs : List Cell) (b : ℕ) (c : Cell) (f : List Cell) (k : Cell) (ks : List Cell) (rest : List (ℕ × ℕ)) → IsFront cs b (c ∷ f) (k ∷ ks) rest → IsFront cs (b + length k.words) f ks rest
unfolding rest-of
front-rest cs b c f k ks rest h =
    let one = first-told cs b c f k ks rest h in
    let P : ℕ → Type 0 = λ n. AreLaid (b + n) f in
    record {
      laid = subst P (sym one.long) h.laid.2;
      copied = h.copied.1;
      first = ap rest-of h.first;
      own = λ w on.
          let fits = start-fits (b + length c.words) w f h.laid.2 on in
          let later : is_start (c ∷ f) w ≡ true = ap is_some (cond-false (eqb c.start w) (Some c) (cell_from f w) (ne_eqb c.start w (λ e. omega (arith, e, fits.0, h.laid.0, h.laid.1)))) ∙ on in
          sym (cond-false (eqb b w) k.start (copied_from (b + length k.words) ks w) (ne_eqb b w (λ e. omega (arith, e, fits.0, h.laid.1)))) ∙ h.own w later;
    }

pub front-met : (shapes : List Shape) (cs : List Cell) (limit b : ℕ) (f ks : List Cell) (rest : List (ℕ × ℕ)) → IsFront cs b f ks rest → limit ≡ b + total_words f → pointers_met shapes cs limit b ks ≡ tenured_pointers shapes cs f
front-met shapes cs limit b [] ks rest h end = met-low shapes cs limit b ks (omega (arith, end))
front-met shapes cs limit b (c ∷ f) [] rest h end = absurd (let e = h.first in cc)
front-met shapes cs limit b (c ∷ f) (k ∷ ks) rest h end =
    let one = first-told cs b c f k ks rest h in
    let all = all-met (is_pointer_word shapes (words_from cs k.start)) (limit - b) 0 (words_from cs k.start) (omega (arith, end, h.copied.0.same_length, one.long)) in
    let more = front-met shapes cs limit (b + length k.words) f ks rest (front-rest cs b c f k ks rest h) (omega (arith, end, one.long)) in
    ap (λ n. n + pointers_met shapes cs limit (b + length k.words) ks) (all ∙ ap (λ n. pointer_words shapes (words_from cs n)) one.from) ∙ ap (λ n. pointer_words shapes (words_from cs c.start) + n) more

-- the copies behind them
pub front-split : (cs : List Cell) (b : ℕ) (f ks : List Cell) (rest : List (ℕ × ℕ)) → IsFront cs b f ks rest → (x : List Cell) × (r : List Cell) × (ks ≡ x ++ r) × (starts_of x ≡ starts_of f)
front-split cs b [] ks rest h = ([], ks, refl, refl)
front-split cs b (c ∷ f) [] rest h = absurd (let e = h.first in cc)
front-split cs b (c ∷ f) (k ∷ ks) rest h =
    let one = first-told cs b c f k ks rest h in
    let more = front-split cs (b + length k.words) f ks rest (front-rest cs b c f k ks rest h) in
    (k ∷ more.0, more.1, ap (λ l. k ∷ l) more.2, ap (λ n. n ∷ starts_of more.0) one.from ∙ ap (λ l. c.start ∷ l) more.3)

-- ---- pointers that are counted, and those that aren't

none-listed : (ts : List ℕ) (at : ℕ) → AllByRecursion (λ (t : ℕ). t ≢ at) ts → is_listed ts at ≡ false
none-listed [] at h = refl
none-listed (t ∷ ts) at h = or_from (eqb t at) (is_listed ts at) (ne_eqb t at h.0) (none-listed ts at h.1)

all-nothing : (r : List Cell) → AllByRecursion (λ (k : Cell). AllByRecursion (λ (t : ℕ). t ≢ k.start) []) r
all-nothing [] = tt
all-nothing (k ∷ r) = (tt, all-nothing r)

apart-all : (x r : List Cell) → AreDistinct (x ++ r) → AllByRecursion (λ (k : Cell). AllByRecursion (λ (t : ℕ). t ≢ k.start) (starts_of x)) r
apart-all [] r d = all-nothing r
apart-all (c ∷ x) r d =
    all_zip (λ (k : Cell). c.start ≢ k.start) (λ (k : Cell). AllByRecursion (λ (t : ℕ). t ≢ k.start) (starts_of x)) r (all-second (λ (k : Cell). c.start ≢ k.start) x r d.0) (apart-all x r d.1)

distinct-rest : (x r : List Cell) → AreDistinct (x ++ r) → AllByRecursion (λ (k : Cell). is_listed (starts_of x) k.start ≡ false) r
distinct-rest x r d = all_map (λ (k : Cell). AllByRecursion (λ (t : ℕ). t ≢ k.start) (starts_of x)) (λ (k : Cell). is_listed (starts_of x) k.start ≡ false) (λ k h. none-listed (starts_of x) k.start h) r (apart-all x r d)

self-listed : (x : List Cell) → AllByRecursion (λ (k : Cell). is_listed (starts_of x) k.start ≡ true) x
self-listed [] = tt
self-listed (c ∷ x) = (
  or_left (eqb c.start c.start) (is_listed (starts_of x) c.start) (eq-eqb c.start c.start refl),
  all_map (λ (k : Cell). is_listed (starts_of x) k.start ≡ true) (λ (k : Cell). is_listed (starts_of (c ∷ x)) k.start ≡ true) (λ k h. or_right (eqb c.start k.start) (is_listed (starts_of x) k.start) h) x (self-listed x),
)

kept-rest : (shapes : List Shape) (cs : List Cell) (ts : List ℕ) (b : ℕ) (r : List Cell) → AllByRecursion (λ (k : Cell). is_listed ts k.start ≡ false) r → kept_pointers shapes cs [] (moves_from b r) ≡ kept_pointers shapes cs ts (moves_from b r)
kept-rest shapes cs ts b [] h = refl
kept-rest shapes cs ts b (k ∷ r) h =
    ap (λ n. pointer_words shapes (words_from cs k.start) + n) (kept-rest shapes cs ts (b + length k.words) r h.1)
    ∙ ap (λ n. n + kept_pointers shapes cs ts (moves_from (b + length k.words) r)) (sym (cond-false (is_listed ts k.start) 0 (pointer_words shapes (words_from cs k.start)) h.0))

kept-front : (shapes : List Shape) (cs : List Cell) (ts : List ℕ) (b : ℕ) (x r : List Cell) → AllByRecursion (λ (k : Cell). is_listed ts k.start ≡ true) x → AllByRecursion (λ (k : Cell). is_listed ts k.start ≡ false) r
    → kept_pointers shapes cs [] (moves_from b (x ++ r)) ≡ tenured_pointers shapes cs x + kept_pointers shapes cs ts (moves_from b (x ++ r))
kept-front shapes cs ts b [] r hx hr = kept-rest shapes cs ts b r hr ∙ (let sum : kept_pointers shapes cs ts (moves_from b r) ≡ 0 + kept_pointers shapes cs ts (moves_from b r) = omega arith in sum)
kept-front shapes cs ts b (k ∷ x) r hx hr =
    let ih = kept-front shapes cs ts (b + length k.words) x r hx.1 hr in
    let none = cond-true (is_listed ts k.start) 0 (pointer_words shapes (words_from cs k.start)) hx.0 in
    sums (pointer_words shapes (words_from cs k.start)) _ _ _ _ ih none
  where
    sums : (p a t r z : ℕ) → a ≡ t + r → z ≡ 0 → p + a ≡ p + t + (z + r)
    sums p a t r z e n = omega arith

pub by-starts : (shapes : List Shape) (cs x f : List Cell) → starts_of x ≡ starts_of f → tenured_pointers shapes cs x ≡ tenured_pointers shapes cs f
by-starts shapes cs [] [] e = refl
by-starts shapes cs [] (c ∷ f) e = absurd (cc)
by-starts shapes cs (k ∷ x) [] e = absurd (cc)
by-starts shapes cs (k ∷ x) (c ∷ f) e =
    let first : k.start ≡ c.start = ap head-of e in
    ap (λ n. pointer_words shapes (words_from cs n) + tenured_pointers shapes cs x) first ∙ ap (λ n. pointer_words shapes (words_from cs c.start) + n) (by-starts shapes cs x f (ap tail-of e))
  where
    head-of : List ℕ → ℕ
    head-of [] = 0
    head-of (n ∷ ns) = n

    tail-of : List ℕ → List ℕ
    tail-of [] = []
    tail-of (n ∷ ns) = ns

-- ---- of a minor collection

pub tenured-front : (s : Spaces) (m : s.is_minor ≡ true) (t : IsTracing (minor_left s) s.here) (k : IsKeeping s) → IsFront (old_cells (minor_left s) s.here) s.here.base s.found.value.cells (copies (minor_left s) s.here) (k.minor m).first.0
tenured-front s m t k =
    let h = k.minor m in
    record { laid = h.found; copied = t.are_copies; first = ap layout (sym t.is_placed) ∙ h.first.1; own = λ w on. (tenured s w m t k on).origin }

pub tenured-met : (shapes : List Shape) (s : Spaces) (from : ℕ) → s.is_minor ≡ true → IsTracing (minor_left s) s.here → IsKeeping s → from ≡ s.here.base + s.tenured → met shapes (minor_left s) s.here from ≡ tenured_pointers shapes (old_cells (minor_left s) s.here) s.found.value.cells
tenured-met shapes s from m t k is =
    front-met shapes (old_cells (minor_left s) s.here) from s.here.base s.found.value.cells (copies (minor_left s) s.here) (k.minor m).first.0 (tenured-front s m t k) (omega (arith, is, (k.minor m).tenured))

pub tenured-counted : (shapes : List Shape) (s : Spaces) → s.is_minor ≡ true → IsTracing (minor_left s) s.here → IsKeeping s
    → met shapes (minor_left s) s.here (s.here.base + total_words s.here.cells) ≡ tenured_pointers shapes (old_cells (minor_left s) s.here) s.found.value.cells + kept_pointers shapes (old_cells (minor_left s) s.here) (starts_of s.found.value.cells) (moves (minor_left s) s.here)
tenured-counted shapes s m t k =
    let l = minor_left s in
    let cs = old_cells l s.here in
    let b = s.here.base in
    let parts = front-split cs b s.found.value.cells (copies l s.here) (k.minor m).first.0 (tenured-front s m t k) in
    let x = parts.0 in
    let r = parts.1 in
    let same = parts.3 in
    let P : List Cell → Type 0 = λ ks. AreDistinct ks in
    let apart = distinct-rest x r (subst P parts.2 t.distinct) in
    done-met shapes l s.here t
    ∙ ap (λ ks. kept_pointers shapes cs [] (moves_from b ks)) parts.2
    ∙ kept-front shapes cs (starts_of x) b x r (self-listed x) apart
    ∙ ap (λ n. n + kept_pointers shapes cs (starts_of x) (moves_from b (x ++ r))) (by-starts shapes cs x s.found.value.cells same)
    ∙ ap (λ ts. tenured_pointers shapes cs s.found.value.cells + kept_pointers shapes cs ts (moves_from b (x ++ r))) same
    ∙ ap (λ ks. tenured_pointers shapes cs s.found.value.cells + kept_pointers shapes cs (starts_of s.found.value.cells) (moves_from b ks)) (sym parts.2)

olds-split : (a : ℕ) (x y : List Cell) → IsSplit a x y → old_starts (x ++ y) ≡ starts_of x
olds-split a [] y s = no-old nursery_base y (omega arith) s.young
olds-split a (c ∷ cs) y s =
    let rest = olds-split (a + length c.words) cs y (record { old = s.old.2; below = omega (arith, s.below); young = s.young }) in
    cond-true (ltb c.start nursery_base) (c.start ∷ old_starts (cs ++ y)) (old_starts (cs ++ y)) (lt-ltb c.start nursery_base (omega (arith, s.old.0, s.old.1, s.below))) ∙ ap (λ l. c.start ∷ l) rest

pub tenured-starts : (s : Spaces) → s.is_minor ≡ true → IsKeeping s → old_starts (old_cells (minor_left s) s.here) ≡ starts_of s.found.value.cells
tenured-starts s m k =
    let T = s.here.cells in
    let f = s.found.value.cells in
    let y = s.nursery.cells in
    let sp = split-minor s m k in
    let g : Cell → ℕ × ℕ = λ c. (c.start, length c.words) in
    let lay : layout (old_cells (minor_left s) s.here) ≡ layout (f ++ y) = standing-layout T (stayed f ++ y) ∙ map-append g (stayed f) y ∙ ap (λ l. l ++ layout y) (stayed-layout f) ∙ sym (map-append g f y) in
    let total = same-total f (stayed f) (stayed-layout f) in
    same-olds (f ++ y) (old_cells (minor_left s) s.here) lay ∙ olds-split s.here.base f y (record { old = (k.minor m).found; below = omega (arith, total, sp.below); young = sp.young })
