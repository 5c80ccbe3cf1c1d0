-- One word that is forwarded.
use Rattle.std.proofs.Common.{◌≡◌, ℕ, ◌+◌, ◌/◌, ◌<◌, ◌≤◌, Bool, true, false, cond, eqb, List, [], ◌∷◌, ◌++◌, length, Option, Some, None, is_some, refl, sym, ap, subst, ◌∙◌, arith, inl, inr, ◌⊎◌, ⊎_elim, append_assoc}
use Rattle.std.proofs.lemmas.Bool.{cases_Bool, cond-true, cond-false, false≢true, eqb-true}
use Rattle.std.proofs.lemmas.List.{map-append}
use Rattle.m3_heap.specs.Cells.{Cell, heap_base, header, cell_from, is_start, words_from, with_word, layout, total_words}
use Rattle.m3_heap.specs.CellWords.{layout_stays}
use Rattle.m3_heap.specs.Heap.{nursery_base}
use Rattle.m3_heap.specs.CollectorSpace.{Space, AreLaid}
use Rattle.m3_heap.specs.CollectorTracing.{IsTracing, marked_words}
use Rattle.m3_heap.proofs.SpaceLemmas.{is_start-outside}
use Rattle.m3_heap.specs.CollectorMoving.{CanMove, MovesCell, no_cell, moved_before, moves_now, Forwards as ForwardsIn}
use Rattle.m3_heap.proofs.MovingLemmas.{is-low, is-refused, is-kept, can-move, is-fresh}
use Rattle.m3_heap.proofs.WordLemmas.{kept-laid}
use Rattle.m3_generational.specs.Collecting.{stayed, old_left, minor_left, full_left, left_of, kept_of, IsSplit, IsKeeping, Forwards}
use Rattle.m3_generational.specs.declared.spaces.Spaces.{Spaces}
use Rattle.m3_generational.proofs.PartLemmas.{start-first, start-second, words-first, words-second, low, high, set-first, set-second}
use Rattle.m3_generational.proofs.HeapLemmas.{still-placed, same-total}

-- ---- of a minor collection and of a full one

pub left-minor : (s : Spaces) → s.is_minor ≡ true → left_of s ≡ minor_left s
left-minor s m = ap (λ b. let l : Space = record { base = s.here.base; size = s.here.size; cells = cond b (stayed s.found.value.cells) s.here.cells ++ s.nursery.cells } in l) m

pub kept-minor : (s : Spaces) → s.is_minor ≡ true → kept_of s ≡ s.here
kept-minor s m = ap (λ b. cond b s.here s.there) m

pub left-full : (s : Spaces) → s.is_minor ≡ false → left_of s ≡ full_left s
left-full s m = ap (λ b. let l : Space = record { base = s.here.base; size = s.here.size; cells = cond b (stayed s.found.value.cells) s.here.cells ++ s.nursery.cells } in l) m

pub kept-full : (s : Spaces) → s.is_minor ≡ false → kept_of s ≡ s.there
kept-full s m = ap (λ b. cond b s.here s.there) m

over : (l l' k k' m m' j j' : Space) (w : ℕ) (r : Option ℕ) (before after : ℕ) → l ≡ m → k ≡ j → l' ≡ m' → k' ≡ j' → ForwardsIn m j m' j' w r before after → ForwardsIn l k l' k' w r before after
over l l' k k' m m' j j' w r before after el ek el' ek' f =
    let A : Space → Type 0 = λ x. ForwardsIn x j m' j' w r before after in
    let B : Space → Type 0 = λ x. ForwardsIn l x m' j' w r before after in
    let C : Space → Type 0 = λ x. ForwardsIn l k x j' w r before after in
    let D : Space → Type 0 = λ x. ForwardsIn l k l' x w r before after in
    subst D (sym ek') (subst C (sym el') (subst B (sym ek) (subst A (sym el) f)))

pub in-minor : (s s' : Spaces) (w : ℕ) (r : Option ℕ) (before after : ℕ) → s.is_minor ≡ true → s'.is_minor ≡ true → ForwardsIn (minor_left s) s.here (minor_left s') s'.here w r before after → ForwardsIn (left_of s) (kept_of s) (left_of s') (kept_of s') w r before after
in-minor s s' w r before after m m' f = over _ _ _ _ _ _ _ _ w r before after (left-minor s m) (kept-minor s m) (left-minor s' m') (kept-minor s' m') f

pub in-full : (s s' : Spaces) (w : ℕ) (r : Option ℕ) (before after : ℕ) → s.is_minor ≡ false → s'.is_minor ≡ false → ForwardsIn (full_left s) s.there (full_left s') s'.there w r before after → ForwardsIn (left_of s) (kept_of s) (left_of s') (kept_of s') w r before after
in-full s s' w r before after m m' f = over _ _ _ _ _ _ _ _ w r before after (left-full s m) (kept-full s m) (left-full s' m') (kept-full s' m') f

pub traces-minor : (s : Spaces) → s.is_minor ≡ true → IsTracing (left_of s) (kept_of s) → IsTracing (minor_left s) s.here
traces-minor s m t =
    let A : Space → Type 0 = λ x. IsTracing x (kept_of s) in
    let B : Space → Type 0 = λ x. IsTracing (minor_left s) x in
    subst B (kept-minor s m) (subst A (left-minor s m) t)

pub traces-full : (s : Spaces) → s.is_minor ≡ false → IsTracing (left_of s) (kept_of s) → IsTracing (full_left s) s.there
traces-full s m t =
    let A : Space → Type 0 = λ x. IsTracing x (kept_of s) in
    let B : Space → Type 0 = λ x. IsTracing (full_left s) x in
    subst B (kept-full s m) (subst A (left-full s m) t)

old-minor : (s : Spaces) → s.is_minor ≡ true → old_left s ≡ stayed s.found.value.cells
old-minor s m = ap (λ b. cond b (stayed s.found.value.cells) s.here.cells) m

old-full : (s : Spaces) → s.is_minor ≡ false → old_left s ≡ s.here.cells
old-full s m = ap (λ b. cond b (stayed s.found.value.cells) s.here.cells) m

pub split-minor : (s : Spaces) → s.is_minor ≡ true → IsKeeping s → IsSplit s.here.base (stayed s.found.value.cells) s.nursery.cells
split-minor s m k = let P : List Cell → Type 0 = λ l. IsSplit s.here.base l s.nursery.cells in subst P (old-minor s m) k.split

pub split-full : (s : Spaces) → s.is_minor ≡ false → IsKeeping s → IsSplit s.here.base s.here.cells s.nursery.cells
split-full s m k = let P : List Cell → Type 0 = λ l. IsSplit s.here.base l s.nursery.cells in subst P (old-full s m) k.split

-- ---- cells that lie where others lay

first-of : List (ℕ × ℕ) → ℕ × ℕ
first-of [] = (0, 0)
first-of (x ∷ xs) = x

rest-of : List (ℕ × ℕ) → List (ℕ × ℕ)
rest-of [] = []
rest-of (x ∷ xs) = xs

pub laid-same : (a : ℕ) (cs ds : List Cell) → layout ds ≡ layout cs → AreLaid a cs → AreLaid a ds
unfolding first-of rest-of
laid-same a [] [] e h = tt
laid-same a [] (d ∷ ds) e h = absurd (cc)
laid-same a (c ∷ cs) [] e h = absurd (cc)
laid-same a (c ∷ cs) (d ∷ ds) e h =
    let start : d.start ≡ c.start = ap (λ l. (first-of l).0) e in
    let long : length d.words ≡ length c.words = ap (λ l. (first-of l).1) e in
    let P : ℕ → Type 0 = λ n. AreLaid (a + n) ds in
    (start ∙ h.0, omega (arith, long, h.1), subst P (sym long) (laid-same (a + length c.words) cs ds (ap rest-of e) h.2))

pub starts-same : (cs ds : List Cell) (at : ℕ) → layout ds ≡ layout cs → is_start ds at ≡ is_start cs at
unfolding first-of rest-of
starts-same [] [] at e = refl
starts-same [] (d ∷ ds) at e = absurd (cc)
starts-same (c ∷ cs) [] at e = absurd (cc)
starts-same (c ∷ cs) (d ∷ ds) at e =
    let start : d.start ≡ c.start = ap (λ l. (first-of l).0) e in
    let ih = starts-same cs ds at (ap rest-of e) in
    ap (λ n. is_some (cond (eqb n at) (Some d) (cell_from ds at))) start ∙ either (eqb c.start at) d c (cell_from ds at) (cell_from cs at) ih
  where
    either : (b : Bool) (d c : Cell) (o p : Option Cell) → is_some o ≡ is_some p → is_some (cond b (Some d) o) ≡ is_some (cond b (Some c) p)
    either true d c o p e = refl
    either false d c o p e = e

-- those of a front of the list
pub starts-front : (a : ℕ) (cs ds : List Cell) (rest : List (ℕ × ℕ)) (at : ℕ) → layout ds ≡ layout cs ++ rest → AreLaid a ds → at < a + total_words cs → is_start ds at ≡ is_start cs at
unfolding first-of rest-of
starts-front a [] ds rest at e h below = is_start-outside a at ds h (inl (omega arith))
starts-front a (c ∷ cs) [] rest at e h below = absurd (cc)
starts-front a (c ∷ cs) (d ∷ ds) rest at e h below =
    let start : d.start ≡ c.start = ap (λ l. (first-of l).0) e in
    let long : length d.words ≡ length c.words = ap (λ l. (first-of l).1) e in
    let ih = starts-front (a + length d.words) cs ds rest at (ap rest-of e) h.2 (omega (arith, long)) in
    ap (λ n. is_some (cond (eqb n at) (Some d) (cell_from ds at))) start ∙ either (eqb c.start at) d c (cell_from ds at) (cell_from cs at) ih
  where
    either : (b : Bool) (d c : Cell) (o p : Option Cell) → is_some o ≡ is_some p → is_some (cond b (Some d) o) ≡ is_some (cond b (Some c) p)
    either true d c o p e = refl
    either false d c o p e = e

-- ---- cells that stay

marked-length : (at : ℕ) (ws : List ℕ) → length (marked_words (Some at) ws) ≡ length ws
marked-length at [] = refl
marked-length at (w ∷ ws) = refl

pub stayed-layout : (cs : List Cell) → layout (stayed cs) ≡ layout cs
stayed-layout [] = refl
stayed-layout (c ∷ cs) = ap (λ n. (c.start, n) ∷ layout (stayed cs)) (marked-length c.start c.words) ∙ ap (λ l. (c.start, length c.words) ∷ l) (stayed-layout cs)

marked-head : (at : ℕ) (ws : List ℕ) → 1 ≤ length ws → header (marked_words (Some at) ws) ≡ at
marked-head at [] some = absurd (omega arith)
marked-head at (w ∷ ws) some = refl

pub stayed-header : (a : ℕ) (cs : List Cell) (at : ℕ) → AreLaid a cs → is_start cs at ≡ true → header (words_from (stayed cs) at) ≡ at
stayed-header a [] at h on = absurd (false≢true on)
stayed-header a (c ∷ cs) at h on = ⊎_elim
    (λ (hit : eqb c.start at ≡ true).
    ap header (cond-true (eqb c.start at) (marked_words (Some c.start) c.words) (words_from (stayed cs) at) hit) ∙ marked-head c.start c.words h.1 ∙ eqb-true c.start at hit)
    (λ (miss : eqb c.start at ≡ false).
    ap header (cond-false (eqb c.start at) (marked_words (Some c.start) c.words) (words_from (stayed cs) at) miss)
    ∙ stayed-header (a + length c.words) cs at h.2 (sym (ap is_some (cond-false (eqb c.start at) (Some c) (cell_from cs at) miss)) ∙ on))
    (cases_Bool (eqb c.start at))

-- ---- a tenured cell

-- whether it is one: the half holds it, before the copies
pub tenured-found : (s : Spaces) (w : ℕ) → s.is_minor ≡ true → IsTracing (left_of s) (kept_of s) → IsKeeping s → w < s.here.base + s.tenured → is_start s.here.cells w ≡ is_start (stayed s.found.value.cells) w
tenured-found s w m t k below =
    let h = k.minor m in
    let laid = kept-laid (minor_left s) s.here (traces-minor s m t) in
    starts-front s.here.base s.found.value.cells s.here.cells h.first.0 w h.first.1 laid (omega (arith, h.tenured)) ∙ sym (starts-same s.found.value.cells (stayed s.found.value.cells) w (stayed-layout s.found.value.cells))

pub tenured-stays : (s : Spaces) (w n : ℕ) → s.is_minor ≡ true → IsTracing (left_of s) (kept_of s) → IsKeeping s → heap_base ≤ w → w < nursery_base → w < s.here.base + s.tenured → is_start s.here.cells w ≡ true → Forwards s s w (Some w) n n
tenured-stays s w n m t k up down below on =
    let x = stayed s.found.value.cells in
    let y = s.nursery.cells in
    let sp = split-minor s m k in
    let there : is_start x w ≡ true = sym (tenured-found s w m t k below) ∙ on in
    let found : is_start s.found.value.cells w ≡ true = sym (starts-same s.found.value.cells x w (stayed-layout s.found.value.cells)) ∙ there in
    let both : is_start (x ++ y) w ≡ true = start-first x y w (low s.here.base x y w sp down).no_start ∙ there in
    let head : w ≡ header (words_from (x ++ y) w) = sym (ap header (words-first x y w there) ∙ stayed-header s.here.base s.found.value.cells w (k.minor m).found found) in
    record { forwards = in-minor s s w (Some w) n n m m (is-kept (minor_left s) s.here w w n (traces-minor s m t) up both head up); keeping = k; mode = refl; tenured = refl; found = refl; young = refl }

pub not-tenured : (s : Spaces) (w n : ℕ) → s.is_minor ≡ true → IsTracing (left_of s) (kept_of s) → IsKeeping s → heap_base ≤ w → w < nursery_base → is_start (stayed s.found.value.cells) w ≡ false → Forwards s s w None n n
not-tenured s w n m t k up down off =
    let x = stayed s.found.value.cells in
    let y = s.nursery.cells in
    let sp = split-minor s m k in
    record { forwards = in-minor s s w None n n m m (is-refused (minor_left s) s.here w n (traces-minor s m t) up (start-first x y w (low s.here.base x y w sp down).no_start ∙ off)); keeping = k; mode = refl; tenured = refl; found = refl; young = refl }

pub outside-tenured : (s : Spaces) (w : ℕ) → s.is_minor ≡ true → IsKeeping s → (w < s.here.base) ⊎ (s.here.base + s.tenured ≤ w) → is_start (stayed s.found.value.cells) w ≡ false
outside-tenured s w m k out =
    let h = k.minor m in
    starts-same s.found.value.cells (stayed s.found.value.cells) w (stayed-layout s.found.value.cells)
    ∙ is_start-outside s.here.base w s.found.value.cells h.found
    (⊎_elim (λ (a : w < s.here.base). inl a) (λ (b : s.here.base + s.tenured ≤ w). inr (omega (arith, b, h.tenured))) out)

-- ---- what the parts keep

false-true : (b : Bool) → b ≡ false → b ≡ true → ⊥
false-true b f t = false≢true (sym f ∙ t)

abbrev pub promoted : Spaces → Space → Space → Spaces
promoted s here nursery = record s { here = here; nursery = nursery }

pub promoted-keeps : (s : Spaces) (here nursery : Space) (w to : ℕ) (k : Cell) → s.is_minor ≡ true → IsKeeping s → here.base ≡ s.here.base → here.size ≡ s.here.size → here.cells ≡ s.here.cells ++ k ∷ []
    → nursery.base ≡ s.nursery.base → nursery.size ≡ s.nursery.size → nursery.cells ≡ with_word s.nursery.cells w to → IsKeeping (promoted s here nursery)
promoted-keeps s here nursery w to k m h hb hs hc nb ns nc =
    let sp = split-minor s m h in
    let ten = h.minor m in
    let A : List Cell → Type 0 = λ l. IsSplit here.base l nursery.cells in
    let B : ℕ → Type 0 = λ n. AreLaid n (stayed s.found.value.cells) in
    let C : ℕ → Type 0 = λ n. AreLaid n s.found.value.cells in
    let f : Cell → ℕ × ℕ = λ c. (c.start, length c.words) in
    let young : layout nursery.cells ≡ layout s.nursery.cells = ap layout nc ∙ layout_stays s.nursery.cells w to in
    record {
      placed = still-placed s (promoted s here nursery) (record { here_base = hb; here_size = hs; nursery_base = nb; nursery_size = ns; there_base = refl; there_size = refl }) h.placed;
      split = subst A (sym (old-minor (promoted s here nursery) m)) (record { old = subst B (sym hb) sp.old; below = omega (arith, hb, sp.below); young = laid-same nursery_base s.nursery.cells nursery.cells young sp.young });
      young = omega (arith, same-total s.nursery.cells nursery.cells young, ns, h.young);
      minor = λ _. record {
        found = subst C (sym hb) ten.found;
        first = (ten.first.0 ++ f k ∷ [], ap layout hc ∙ map-append f s.here.cells (k ∷ []) ∙ ap (λ l. l ++ f k ∷ []) ten.first.1 ∙ append_assoc (layout s.found.value.cells) ten.first.0 (f k ∷ []));
        tenured = ten.tenured;
      };
    }

abbrev pub moved_young : Spaces → Space → Space → Spaces
moved_young s there nursery = record s { there = there; nursery = nursery }

pub moved-young-keeps : (s : Spaces) (there nursery : Space) (w to : ℕ) → s.is_minor ≡ false → IsKeeping s → there.base ≡ s.there.base → there.size ≡ s.there.size → nursery.base ≡ s.nursery.base → nursery.size ≡ s.nursery.size
    → nursery.cells ≡ with_word s.nursery.cells w to → IsKeeping (moved_young s there nursery)
moved-young-keeps s there nursery w to m h tb ts nb ns nc =
    let sp = split-full s m h in
    let A : List Cell → Type 0 = λ l. IsSplit s.here.base l nursery.cells in
    let young : layout nursery.cells ≡ layout s.nursery.cells = ap layout nc ∙ layout_stays s.nursery.cells w to in
    record {
      placed = still-placed s (moved_young s there nursery) (record { here_base = refl; here_size = refl; nursery_base = nb; nursery_size = ns; there_base = tb; there_size = ts }) h.placed;
      split = subst A (sym (old-full (moved_young s there nursery) m)) (record { old = sp.old; below = sp.below; young = laid-same nursery_base s.nursery.cells nursery.cells young sp.young });
      young = omega (arith, same-total s.nursery.cells nursery.cells young, ns, h.young);
      minor = λ yes. absurd (false-true s.is_minor m yes);
    }

abbrev pub moved_old : Spaces → Space → Space → Spaces
moved_old s here there = record s { here = here; there = there }

pub moved-old-keeps : (s : Spaces) (here there : Space) (w to : ℕ) → s.is_minor ≡ false → IsKeeping s → there.base ≡ s.there.base → there.size ≡ s.there.size → here.base ≡ s.here.base → here.size ≡ s.here.size
    → here.cells ≡ with_word s.here.cells w to → IsKeeping (moved_old s here there)
moved-old-keeps s here there w to m h tb ts hb hs hc =
    let sp = split-full s m h in
    let A : List Cell → Type 0 = λ l. IsSplit here.base l s.nursery.cells in
    let B : ℕ → Type 0 = λ n. AreLaid n here.cells in
    let lay : layout here.cells ≡ layout s.here.cells = ap layout hc ∙ layout_stays s.here.cells w to in
    let total = same-total s.here.cells here.cells lay in
    record {
      placed = still-placed s (moved_old s here there) (record { here_base = hb; here_size = hs; nursery_base = refl; nursery_size = refl; there_base = tb; there_size = ts }) h.placed;
      split = subst A (sym (old-full (moved_old s here there) m)) (record { old = subst B (sym hb) (laid-same s.here.base s.here.cells here.cells lay sp.old); below = omega (arith, hb, total, sp.below); young = sp.young });
      young = h.young;
      minor = λ yes. absurd (false-true s.is_minor m yes);
    }

-- ---- a cell found by its address

pub record IsYoung (x y : List Cell) (w : ℕ) : Type 0 where
  pub starts : is_start (x ++ y) w ≡ is_start y w
  pub words : words_from (x ++ y) w ≡ words_from y w

pub is-young : (a : ℕ) (x y : List Cell) (w : ℕ) → IsSplit a x y → nursery_base ≤ w → IsYoung x y w
is-young a x y w s up = let off = (high a x y w s up).no_start in record { starts = start-second x y w off; words = words-second x y w off }

pub record IsOld (x y : List Cell) (w : ℕ) : Type 0 where
  pub starts : is_start (x ++ y) w ≡ is_start x w
  pub words : is_start x w ≡ true → words_from (x ++ y) w ≡ words_from x w

pub is-old : (a : ℕ) (x y : List Cell) (w : ℕ) → IsSplit a x y → w < nursery_base → IsOld x y w
is-old a x y w s down = record { starts = start-first x y w (low a x y w s down).no_start; words = words-first x y w }

-- what a cell needs, seen in its part
moves-alike : (part left kept : Space) (w : ℕ) → words_from left.cells w ≡ words_from part.cells w
    → (length (words_from left.cells w) ≡ header (words_from left.cells w) / 4294967296) × (total_words kept.cells + length (words_from left.cells w) ≤ kept.size)
    → (length (words_from part.cells w) ≡ header (words_from part.cells w) / 4294967296) × (total_words kept.cells + length (words_from part.cells w) ≤ kept.size)
moves-alike part left kept w same needs =
    subst (λ (ws : List ℕ). (length ws ≡ header ws / 4294967296) × (total_words kept.cells + length ws ≤ kept.size)) same needs

-- ---- a young cell in a minor collection

pub young-refused : (s : Spaces) (w n : ℕ) → s.is_minor ≡ true → IsTracing (left_of s) (kept_of s) → IsKeeping s → nursery_base ≤ w → is_start s.nursery.cells w ≡ false → Forwards s s w None n n
young-refused s w n m t k up off =
    let here = is-young s.here.base (stayed s.found.value.cells) s.nursery.cells w (split-minor s m k) up in
    record { forwards = in-minor s s w None n n m m (is-refused (minor_left s) s.here w n (traces-minor s m t) (omega (arith, up)) (here.starts ∙ off)); keeping = k; mode = refl; tenured = refl; found = refl; young = refl }

pub young-kept : (s : Spaces) (w h n : ℕ) → s.is_minor ≡ true → IsTracing (left_of s) (kept_of s) → IsKeeping s → nursery_base ≤ w → is_start s.nursery.cells w ≡ true → h ≡ header (words_from s.nursery.cells w) → heap_base ≤ h → Forwards s s w (Some h) n n
young-kept s w h n m t k up on head there =
    let here = is-young s.here.base (stayed s.found.value.cells) s.nursery.cells w (split-minor s m k) up in
    record { forwards = in-minor s s w (Some h) n n m m (is-kept (minor_left s) s.here w h n (traces-minor s m t) (omega (arith, up)) (here.starts ∙ on) (head ∙ ap header (sym here.words)) there); keeping = k; mode = refl; tenured = refl; found = refl; young = refl }

pub young-needs : (s : Spaces) (w : ℕ) → s.is_minor ≡ true → IsTracing (left_of s) (kept_of s) → IsKeeping s → nursery_base ≤ w → CanMove s.nursery s.here w
young-needs s w m t k up = λ on short.
    let here = is-young s.here.base (stayed s.found.value.cells) s.nursery.cells w (split-minor s m k) up in
    let needs = can-move (minor_left s) s.here w (traces-minor s m t) (here.starts ∙ on) (omega (arith, ap header here.words, short)) in
    moves-alike s.nursery (minor_left s) s.here w here.words needs

pub young-promoted : (s : Spaces) (here nursery : Space) (w start before after : ℕ) → s.is_minor ≡ true → IsTracing (left_of s) (kept_of s) → IsKeeping s → nursery_base ≤ w → is_start s.nursery.cells w ≡ true → header (words_from s.nursery.cells w) < heap_base
    → here.base ≡ s.here.base → here.size ≡ s.here.size → here.cells ≡ s.here.cells ++ record { start = start; words = words_from s.nursery.cells w } ∷ [] → nursery.base ≡ s.nursery.base → nursery.size ≡ s.nursery.size → nursery.cells ≡ with_word s.nursery.cells w start
    → start ≡ s.here.base + total_words s.here.cells → after ≡ before + length (words_from s.nursery.cells w) → Forwards s (promoted s here nursery) w (Some start) before after
young-promoted s here nursery w start before after m t k up on short hb hs hc nb ns nc at steps =
    let sp = split-minor s m k in
    let x = stayed s.found.value.cells in
    let y = s.nursery.cells in
    let young = is-young s.here.base x y w sp up in
    record {
      forwards = in-minor s (promoted s here nursery) w (Some start) before after m m
          (is-fresh (minor_left s) s.here (minor_left (promoted s here nursery)) here w start before after (traces-minor s m t) (omega (arith, up)) (young.starts ∙ on) (omega (arith, ap header young.words, short)) hb hb hs hs at
          (ap (λ l. x ++ l) nc ∙ set-second s.here.base x y w start true sp up)
          (hc ∙ ap (λ ws. s.here.cells ++ record { start = start; words = ws } ∷ []) (sym young.words)) (steps ∙ ap (λ (ws : List ℕ). before + length ws) (sym young.words)));
      keeping = promoted-keeps s here nursery w start (record { start = start; words = words_from y w }) m k hb hs hc nb ns nc;
      mode = refl;
      tenured = refl;
      found = refl;
      young = ap layout nc ∙ layout_stays y w start;
    }

-- ---- a young cell in a full collection

pub young-refused-full : (s : Spaces) (w n : ℕ) → s.is_minor ≡ false → IsTracing (left_of s) (kept_of s) → IsKeeping s → nursery_base ≤ w → is_start s.nursery.cells w ≡ false → Forwards s s w None n n
young-refused-full s w n m t k up off =
    let there = is-young s.here.base s.here.cells s.nursery.cells w (split-full s m k) up in
    record { forwards = in-full s s w None n n m m (is-refused (full_left s) s.there w n (traces-full s m t) (omega (arith, up)) (there.starts ∙ off)); keeping = k; mode = refl; tenured = refl; found = refl; young = refl }

pub young-kept-full : (s : Spaces) (w h n : ℕ) → s.is_minor ≡ false → IsTracing (left_of s) (kept_of s) → IsKeeping s → nursery_base ≤ w → is_start s.nursery.cells w ≡ true → h ≡ header (words_from s.nursery.cells w) → heap_base ≤ h → Forwards s s w (Some h) n n
young-kept-full s w h n m t k up on head far =
    let there = is-young s.here.base s.here.cells s.nursery.cells w (split-full s m k) up in
    record { forwards = in-full s s w (Some h) n n m m (is-kept (full_left s) s.there w h n (traces-full s m t) (omega (arith, up)) (there.starts ∙ on) (head ∙ ap header (sym there.words)) far); keeping = k; mode = refl; tenured = refl; found = refl; young = refl }

pub young-needs-full : (s : Spaces) (w : ℕ) → s.is_minor ≡ false → IsTracing (left_of s) (kept_of s) → IsKeeping s → nursery_base ≤ w → CanMove s.nursery s.there w
young-needs-full s w m t k up = λ on short.
    let there = is-young s.here.base s.here.cells s.nursery.cells w (split-full s m k) up in
    let needs = can-move (full_left s) s.there w (traces-full s m t) (there.starts ∙ on) (omega (arith, ap header there.words, short)) in
    moves-alike s.nursery (full_left s) s.there w there.words needs

pub young-moved : (s : Spaces) (there nursery : Space) (w start before after : ℕ) → s.is_minor ≡ false → IsTracing (left_of s) (kept_of s) → IsKeeping s → nursery_base ≤ w → is_start s.nursery.cells w ≡ true → header (words_from s.nursery.cells w) < heap_base
    → there.base ≡ s.there.base → there.size ≡ s.there.size → there.cells ≡ s.there.cells ++ record { start = start; words = words_from s.nursery.cells w } ∷ [] → nursery.base ≡ s.nursery.base → nursery.size ≡ s.nursery.size → nursery.cells ≡ with_word s.nursery.cells w start
    → start ≡ s.there.base + total_words s.there.cells → after ≡ before + length (words_from s.nursery.cells w) → Forwards s (moved_young s there nursery) w (Some start) before after
young-moved s there nursery w start before after m t k up on short tb ts tc nb ns nc at steps =
    let sp = split-full s m k in
    let x = s.here.cells in
    let y = s.nursery.cells in
    let young = is-young s.here.base x y w sp up in
    record {
      forwards = in-full s (moved_young s there nursery) w (Some start) before after m m
          (is-fresh (full_left s) s.there (full_left (moved_young s there nursery)) there w start before after (traces-full s m t) (omega (arith, up)) (young.starts ∙ on) (omega (arith, ap header young.words, short)) refl tb refl ts at
          (ap (λ l. x ++ l) nc ∙ set-second s.here.base x y w start true sp up)
          (tc ∙ ap (λ ws. s.there.cells ++ record { start = start; words = ws } ∷ []) (sym young.words)) (steps ∙ ap (λ (ws : List ℕ). before + length ws) (sym young.words)));
      keeping = moved-young-keeps s there nursery w start m k tb ts nb ns nc;
      mode = refl;
      tenured = refl;
      found = refl;
      young = ap layout nc ∙ layout_stays y w start;
    }

-- ---- an old cell in a full collection

pub old-refused : (s : Spaces) (w n : ℕ) → s.is_minor ≡ false → IsTracing (left_of s) (kept_of s) → IsKeeping s → heap_base ≤ w → w < nursery_base → is_start s.here.cells w ≡ false → Forwards s s w None n n
old-refused s w n m t k up down off =
    let old = is-old s.here.base s.here.cells s.nursery.cells w (split-full s m k) down in
    record { forwards = in-full s s w None n n m m (is-refused (full_left s) s.there w n (traces-full s m t) up (old.starts ∙ off)); keeping = k; mode = refl; tenured = refl; found = refl; young = refl }

pub old-kept : (s : Spaces) (w h n : ℕ) → s.is_minor ≡ false → IsTracing (left_of s) (kept_of s) → IsKeeping s → heap_base ≤ w → w < nursery_base → is_start s.here.cells w ≡ true → h ≡ header (words_from s.here.cells w) → heap_base ≤ h → Forwards s s w (Some h) n n
old-kept s w h n m t k up down on head far =
    let old = is-old s.here.base s.here.cells s.nursery.cells w (split-full s m k) down in
    record { forwards = in-full s s w (Some h) n n m m (is-kept (full_left s) s.there w h n (traces-full s m t) up (old.starts ∙ on) (head ∙ ap header (sym (old.words on))) far); keeping = k; mode = refl; tenured = refl; found = refl; young = refl }

pub old-needs : (s : Spaces) (w : ℕ) → s.is_minor ≡ false → IsTracing (left_of s) (kept_of s) → IsKeeping s → w < nursery_base → CanMove s.here s.there w
old-needs s w m t k down = λ on short.
    let old = is-old s.here.base s.here.cells s.nursery.cells w (split-full s m k) down in
    let needs = can-move (full_left s) s.there w (traces-full s m t) (old.starts ∙ on) (omega (arith, ap header (old.words on), short)) in
    moves-alike s.here (full_left s) s.there w (old.words on) needs

pub old-moved : (s : Spaces) (here there : Space) (w start before after : ℕ) → s.is_minor ≡ false → IsTracing (left_of s) (kept_of s) → IsKeeping s → heap_base ≤ w → w < nursery_base → is_start s.here.cells w ≡ true → header (words_from s.here.cells w) < heap_base
    → there.base ≡ s.there.base → there.size ≡ s.there.size → there.cells ≡ s.there.cells ++ record { start = start; words = words_from s.here.cells w } ∷ [] → here.base ≡ s.here.base → here.size ≡ s.here.size → here.cells ≡ with_word s.here.cells w start
    → start ≡ s.there.base + total_words s.there.cells → after ≡ before + length (words_from s.here.cells w) → Forwards s (moved_old s here there) w (Some start) before after
old-moved s here there w start before after m t k up down on short tb ts tc hb hs hc at steps =
    let sp = split-full s m k in
    let x = s.here.cells in
    let y = s.nursery.cells in
    let old = is-old s.here.base x y w sp down in
    record {
      forwards = in-full s (moved_old s here there) w (Some start) before after m m
          (is-fresh (full_left s) s.there (full_left (moved_old s here there)) there w start before after (traces-full s m t) up (old.starts ∙ on) (omega (arith, ap header (old.words on), short)) hb tb hs ts at
          (ap (λ l. l ++ y) hc ∙ set-first s.here.base x y w start true sp down)
          (tc ∙ ap (λ ws. s.there.cells ++ record { start = start; words = ws } ∷ []) (sym (old.words on))) (steps ∙ ap (λ (ws : List ℕ). before + length ws) (sym (old.words on))));
      keeping = moved-old-keeps s here there w start m k tb ts hb hs hc;
      mode = refl;
      tenured = refl;
      found = refl;
      young = refl;
    }

-- ---- where a cell moves, its word is forwarded

pub young-forwarded : (s : Spaces) (nursery here : Space) (w before after : ℕ) (o : Option ℕ) → s.is_minor ≡ true → IsTracing (left_of s) (kept_of s) → IsKeeping s → nursery_base ≤ w
    → MovesCell s.nursery s.here w before o nursery here after → Forwards s (promoted s here nursery) w o before after
young-forwarded s l k w before n o m t h up (no_cell off) = young-refused s w before m t h up off
young-forwarded s l k w before n o m t h up (moved_before to on head far) = young-kept s w to before m t h up on head far
young-forwarded s l k w before n o m t h up (moves_now to after nursery here on short at lb ls lc kb ks kc steps) =
    young-promoted s here nursery w to before after m t h up on short kb ks kc lb ls lc at steps

pub young-forwarded-full : (s : Spaces) (nursery there : Space) (w before after : ℕ) (o : Option ℕ) → s.is_minor ≡ false → IsTracing (left_of s) (kept_of s) → IsKeeping s → nursery_base ≤ w
    → MovesCell s.nursery s.there w before o nursery there after → Forwards s (moved_young s there nursery) w o before after
young-forwarded-full s l k w before n o m t h up (no_cell off) = young-refused-full s w before m t h up off
young-forwarded-full s l k w before n o m t h up (moved_before to on head far) = young-kept-full s w to before m t h up on head far
young-forwarded-full s l k w before n o m t h up (moves_now to after nursery there on short at lb ls lc kb ks kc steps) =
    young-moved s there nursery w to before after m t h up on short kb ks kc lb ls lc at steps

pub old-forwarded : (s : Spaces) (here there : Space) (w before after : ℕ) (o : Option ℕ) → s.is_minor ≡ false → IsTracing (left_of s) (kept_of s) → IsKeeping s → heap_base ≤ w → w < nursery_base
    → MovesCell s.here s.there w before o here there after → Forwards s (moved_old s here there) w o before after
old-forwarded s l k w before n o m t h up down (no_cell off) = old-refused s w before m t h up down off
old-forwarded s l k w before n o m t h up down (moved_before to on head far) = old-kept s w to before m t h up down on head far
old-forwarded s l k w before n o m t h up down (moves_now to after here there on short at lb ls lc kb ks kc steps) =
    old-moved s here there w to before after m t h up down on short kb ks kc lb ls lc at steps

pub low-stays : (s : Spaces) (w n : ℕ) → IsTracing (left_of s) (kept_of s) → IsKeeping s → w < heap_base → Forwards s s w (Some w) n n
low-stays s w n t k low = record { forwards = is-low (left_of s) (kept_of s) w n t low; keeping = k; mode = refl; tenured = refl; found = refl; young = refl }

-- ---- a word of a copy is set

pub set-keeps : (s : Spaces) (here : Space) (at w : ℕ) → s.is_minor ≡ true → IsKeeping s → here.base ≡ s.here.base → here.size ≡ s.here.size → here.cells ≡ with_word s.here.cells at w → IsKeeping (record s { here = here })
set-keeps s here at w m k hb hs hc =
    let s' : Spaces = record s { here = here } in
    let sp = split-minor s m k in
    let ten = k.minor m in
    let A : List Cell → Type 0 = λ l. IsSplit here.base l s.nursery.cells in
    let B : ℕ → Type 0 = λ n. IsSplit n (stayed s.found.value.cells) s.nursery.cells in
    let C : ℕ → Type 0 = λ n. AreLaid n s.found.value.cells in
    record {
      placed = still-placed s s' (record { here_base = hb; here_size = hs; nursery_base = refl; nursery_size = refl; there_base = refl; there_size = refl }) k.placed;
      split = subst A (sym (old-minor s' m)) (subst B (sym hb) sp);
      young = k.young;
      minor = λ _. record {
        found = subst C (sym hb) ten.found;
        first = (ten.first.0, ap layout hc ∙ layout_stays s.here.cells at w ∙ ten.first.1);
        tenured = ten.tenured;
      };
    }

pub minor-in : (s s' : Spaces) (w : ℕ) (r : Option ℕ) (before after : ℕ) → s.is_minor ≡ true → Forwards s s' w r before after → ForwardsIn (minor_left s) s.here (minor_left s') s'.here w r before after
minor-in s s' w r before after m f =
    let m' = f.mode ∙ m in
    over _ _ _ _ _ _ _ _ w r before after (sym (left-minor s m)) (sym (kept-minor s m)) (sym (left-minor s' m')) (sym (kept-minor s' m')) f.forwards

pub traces-back : (s : Spaces) → s.is_minor ≡ true → IsTracing (minor_left s) s.here → IsTracing (left_of s) (kept_of s)
traces-back s m t =
    let A : Space → Type 0 = λ x. IsTracing x s.here in
    let B : Space → Type 0 = λ x. IsTracing (left_of s) x in
    subst B (sym (kept-minor s m)) (subst A (sym (left-minor s m)) t)

-- a fact of what is left and of what is kept, in a minor collection
pub back-minor : (P : Space → Space → Type 0) (s : Spaces) → s.is_minor ≡ true → P (minor_left s) s.here → P (left_of s) (kept_of s)
back-minor P s m h =
    let A : Space → Type 0 = λ x. P x s.here in
    let B : Space → Type 0 = λ x. P (left_of s) x in
    subst B (sym (kept-minor s m)) (subst A (sym (left-minor s m)) h)

pub fore-minor : (P : Space → Space → Type 0) (s : Spaces) → s.is_minor ≡ true → P (left_of s) (kept_of s) → P (minor_left s) s.here
fore-minor P s m h =
    let A : Space → Type 0 = λ x. P x (kept_of s) in
    let B : Space → Type 0 = λ x. P (minor_left s) x in
    subst B (kept-minor s m) (subst A (left-minor s m) h)
