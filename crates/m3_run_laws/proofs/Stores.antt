-- A store keeps its laws while words are set, cells are made and the heap is collected.
use Rattle.std.specs.Prelude.{ℕ, ◌≡◌, ◌+◌, ◌-◌, ◌==◌, ◌&&◌, ◌||◌, nat_lt, nat_le, min, true, false, List, [], ◌∷◌, length, Option, None, Some}
use Rattle.std.specs.List.{AllByRecursion}
use Rattle.std.proofs.Common.{refl, sym, ap, subst, ◌∙◌, arith, cond}
use Rattle.m3_heap.specs.Cells.{Cell, layout, total_words, AreApart, AllApart}
use Rattle.m3_heap.specs.Heap.{Heap, nursery_base, lies_in, old_starts, KeepsLaws, SameSizes, Allots, HasOtherWords as KeepsHeap}
use Rattle.m3_run_laws.specs.Stores.{StaysLawful}

-- ---- where cells lie tells these

abbrev extent : List (ℕ × ℕ) → ℕ
extent [] = 0
extent (c ∷ cs) = c.1 + extent cs

total-by : (cs : List Cell) → total_words cs ≡ extent (layout cs)
total-by [] = refl
total-by (c ∷ cs) = ap (λ n. length c.words + n) (total-by cs)

abbrev starts_by : List (ℕ × ℕ) → List ℕ
starts_by [] = []
starts_by (c ∷ cs) = cond (nat_lt c.0 nursery_base) (c.0 ∷ starts_by cs) (starts_by cs)

starts-by : (cs : List Cell) → old_starts cs ≡ starts_by (layout cs)
starts-by [] = refl
starts-by (c ∷ cs) = ap (λ ss. cond (nat_lt c.start nursery_base) (c.start ∷ ss) ss) (starts-by cs)

abbrev covered : ℕ × ℕ → ℕ → Type 0
covered c at = (nat_le c.0 at && nat_lt at (c.0 + c.1)) ≡ true

abbrev uncovered : ℕ × ℕ → ℕ → Type 0
uncovered c at = (nat_le c.0 at && nat_lt at (c.0 + c.1)) ≡ false

abbrev ApartAt : ℕ × ℕ → ℕ × ℕ → Type 0
ApartAt a b = (at : ℕ) → covered a at → uncovered b at

abbrev AllApartAt : List (ℕ × ℕ) → Type 0
AllApartAt [] = Unit {0}
AllApartAt (c ∷ cs) = AllByRecursion (ApartAt c) cs × AllApartAt cs

one-told : (c : Cell) (cs : List Cell) → AllByRecursion (AreApart c) cs → AllByRecursion (ApartAt (c.start, length c.words)) (layout cs)
one-told c [] h = tt
one-told c (d ∷ cs) h = (λ at e. h.0 at e, one-told c cs h.1)

one-back : (c : Cell) (cs : List Cell) → AllByRecursion (ApartAt (c.start, length c.words)) (layout cs) → AllByRecursion (AreApart c) cs
one-back c [] h = tt
one-back c (d ∷ cs) h = (λ at e. h.0 at e, one-back c cs h.1)

apart-told : (cs : List Cell) → AllApart cs → AllApartAt (layout cs)
apart-told [] h = tt
apart-told (c ∷ cs) h = (one-told c cs h.0, apart-told cs h.1)

apart-back : (cs : List Cell) → AllApartAt (layout cs) → AllApart cs
apart-back [] h = tt
apart-back (c ∷ cs) h = (one-back c cs h.0, apart-back cs h.1)

-- ---- words are set

with-words : Heap → List Cell → ℕ → Heap
with-words heap cells watched = record heap { cells = cells; watched = watched }

laws-with : (h : Heap) (cs : List Cell) (w : ℕ) → layout cs ≡ layout h.cells → (h.nursery ≡ 0 → w ≡ h.watched) → KeepsLaws h → KeepsLaws (with-words h cs w)
unfolding with-words
laws-with h cs w same watched k =
    let total : total_words cs ≡ total_words h.cells = total-by cs ∙ ap extent same ∙ sym (total-by h.cells) in
    let starts : old_starts cs ≡ old_starts h.cells = starts-by cs ∙ ap starts_by same ∙ sym (starts-by h.cells) in
    let P : ℕ → List (ℕ × ℕ) → Type 0 = λ n l. AllByRecursion (λ (cell : ℕ × ℕ). (lies_in h.base (n - h.young) cell || lies_in nursery_base h.young cell) ≡ true) l in
    let free : ℕ → ℕ = λ n. cond (h.young == 0) (h.size - n) (min (h.nursery - h.young) (h.size - n)) in
    let unasked : ℕ → List ℕ → List ℕ = λ n ss. cond (nat_lt 0 h.nursery && nat_le (h.asked + n) h.size) ss [] in
    record {
      half = k.half;
      young = k.young;
      some = omega (arith, total, k.some);
      room = omega (arith, total, k.room);
      placed = subst (λ (n : ℕ). P n (layout cs)) (sym total) (subst (λ (l : List (ℕ × ℕ)). P (total_words h.cells) l) (sym same) k.placed);
      apart = apart-back cs (subst AllApartAt (sym same) (apart-told h.cells k.apart));
      free = k.free ∙ ap free (sym total);
      tenured = k.tenured ∙ ap (λ n. unasked n (old_starts h.cells)) (sym total) ∙ ap (λ ss. unasked (total_words cs) ss) (sym starts);
      watched = λ e. watched e ∙ k.watched e;
      minors = k.minors;
    }

pub words_lawful : (h k : Heap) → KeepsHeap h k → StaysLawful h k
unfolding with-words
words_lawful h k o = λ x. (
  record {
    laws = subst KeepsLaws (sym o.rest) (laws-with h k.cells k.watched o.same_layout o.watched x.laws);
    closed = ap (λ (y : Heap). y.is_open) o.rest ∙ x.closed;
  },
  record { size = ap (λ (y : Heap). y.size) o.rest; nursery = ap (λ (y : Heap). y.nursery) o.rest },
)

-- ---- one after another

pub lawful_itself : (h : Heap) → StaysLawful h h
lawful_itself h = λ x. (x, record { size = refl; nursery = refl })

pub lawful_on : (a b c : Heap) → StaysLawful a b → StaysLawful b c → StaysLawful a c
lawful_on a b c p q = λ x.
    let one = p x in
    let two = q one.0 in
    (two.0, record { size = two.1.size ∙ one.1.size; nursery = two.1.nursery ∙ one.1.nursery })

-- a request
pub request_lawful : (h k : Heap) (kind words : ℕ) (o : Option ℕ) → Allots h kind words o k → KeepsLaws k → StaysLawful h k
request_lawful h k kind words None a laws = λ x. (
  record { laws = laws; closed = ap (λ (y : Heap). y.is_open) a.1 ∙ x.closed },
  record { size = ap (λ (y : Heap). y.size) a.1; nursery = ap (λ (y : Heap). y.nursery) a.1 },
)
request_lawful h k kind words (Some start) a laws = λ x. (
  record { laws = laws; closed = ap (λ (y : Heap). y.is_open) a.2 ∙ x.closed },
  record { size = ap (λ (y : Heap). y.size) a.2; nursery = ap (λ (y : Heap). y.nursery) a.2 },
)

-- a collection
pub collection_lawful : (h k : Heap) → KeepsLaws k → SameSizes h k → k.is_open ≡ false → StaysLawful h k
collection_lawful h k laws sizes closed = λ x. (record { laws = laws; closed = closed }, sizes)
