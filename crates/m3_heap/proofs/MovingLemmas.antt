-- A word that is forwarded, of any cells that are left and kept.
use Rattle.std.proofs.Common.{◌≡◌, ℕ, ◌+◌, ◌<◌, ◌≤◌, true, false, List, [], ◌∷◌, ◌++◌, length, Option, Some, None, refl, sym, ap, ◌∙◌, arith}
use Rattle.std.proofs.lemmas.Bool.{false≢true}
use Rattle.m3_heap.specs.Cells.{heap_base, header, is_start, words_from, with_word, total_words}
use Rattle.m3_heap.specs.CollectorSpace.{Space}
use Rattle.m3_heap.specs.CollectorTracing.{old_cells, copies, moves, IsTracing}
use Rattle.m3_heap.specs.CollectorMoving.{CanMove, MovesCell, no_cell, moved_before, moves_now, Forwards}
use Rattle.m3_heap.proofs.TracingLemmas.{total-append}
use Rattle.m3_heap.proofs.CopyLemmas.{is_start-left, fresh-header, kept-header, copy-room, forwarded-kept, forwarded-low, keeps-kept, keeps-low, keeps-fresh, fresh-start}

pub is-low : (left kept : Space) (w n : ℕ) → IsTracing left kept → w < heap_base → Forwards left kept left kept w (Some w) n n
is-low left kept w n t low = record {
  none = (λ e. absurd (false≢true (sym e)), λ bad. absurd (omega (arith, bad.0, low)));
  value = forwarded-low (moves left kept) w low;
  keeps = keeps-low left kept w t low;
  left_stays = tt;
  kept_stays = tt;
  cost = refl;
}

pub is-refused : (left kept : Space) (w n : ℕ) → IsTracing left kept → heap_base ≤ w → is_start left.cells w ≡ false → Forwards left kept left kept w None n n
is-refused left kept w n t high off = record {
  none = (λ _. (high, sym (is_start-left left kept _ _ w t) ∙ off), λ _. refl);
  value = tt;
  keeps = tt;
  left_stays = refl;
  kept_stays = refl;
  cost = refl;
}

pub is-kept : (left kept : Space) (w h n : ℕ) → IsTracing left kept → heap_base ≤ w → is_start left.cells w ≡ true → h ≡ header (words_from left.cells w) → heap_base ≤ h → Forwards left kept left kept w (Some h) n n
is-kept left kept w h n t high on head there =
    let starts = sym (is_start-left left kept _ _ w t) ∙ on in
    let far : heap_base ≤ header (words_from left.cells w) = omega (arith, head) in
    record {
      none = (λ e. absurd (false≢true (sym e)), λ bad. absurd (false≢true (sym bad.1 ∙ starts)));
      value = forwarded-kept (moves left kept) w h high (kept-header left kept _ _ w t starts far ∙ ap (λ k. Some k) (sym head));
      keeps = keeps-kept left kept w t on far;
      left_stays = tt;
      kept_stays = tt;
      cost = refl;
    }

-- a cell that isn't kept yet may move
pub can-move : (left kept : Space) (w : ℕ) → IsTracing left kept → CanMove left kept w
can-move left kept w t = λ on short.
    let starts = sym (is_start-left left kept _ _ w t) ∙ on in
    let fresh = fresh-header left kept _ _ w t starts short in
    let room = copy-room left kept (old_cells left kept) (copies left kept) w t starts fresh.0 in
    let long = ap (λ (ws : List ℕ). length ws) fresh.1 in
    (long ∙ sym fresh.2, omega (arith, long, room))

pub is-fresh : (left kept left' kept' : Space) (w start before after : ℕ) → IsTracing left kept → heap_base ≤ w → is_start left.cells w ≡ true → header (words_from left.cells w) < heap_base
    → left'.base ≡ left.base → kept'.base ≡ kept.base → left'.size ≡ left.size → kept'.size ≡ kept.size → start ≡ kept.base + total_words kept.cells → left'.cells ≡ with_word left.cells w start
    → kept'.cells ≡ kept.cells ++ record { start = start; words = words_from left.cells w } ∷ [] → after ≡ before + length (words_from left.cells w) → Forwards left kept left' kept' w (Some start) before after
is-fresh left kept left' kept' w start before after t high on short lb kb ls ks at lc kc steps =
    let starts = sym (is_start-left left kept _ _ w t) ∙ on in
    let keeps = keeps-fresh left kept left' kept' w t high on short lb kb ls ks (lc ∙ ap (λ n. with_word left.cells w n) at) (kc ∙ ap (λ n. kept.cells ++ record { start = n; words = words_from left.cells w } ∷ []) at) in
    let total = ap total_words kc ∙ total-append kept.cells (record { start = start; words = words_from left.cells w } ∷ []) in
    record {
      none = (λ e. absurd (false≢true (sym e)), λ bad. absurd (false≢true (sym bad.1 ∙ starts)));
      value = at ∙ fresh-start left kept left' kept' w t high on short keeps;
      keeps = keeps;
      left_stays = tt;
      kept_stays = tt;
      cost = omega (arith, steps, total);
    }

-- a word is forwarded where its cell moves
pub forwards : (left kept left' kept' : Space) (w before after : ℕ) (o : Option ℕ) → IsTracing left kept → heap_base ≤ w → MovesCell left kept w before o left' kept' after → Forwards left kept left' kept' w o before after
forwards left kept l k w before n o t high (no_cell off) = is-refused left kept w before t high off
forwards left kept l k w before n o t high (moved_before to on head far) = is-kept left kept w to before t high on head far
forwards left kept l k w before n o t high (moves_now to after left' kept' on short at lb ls lc kb ks kc steps) = is-fresh left kept left' kept' w to before after t high on short lb kb ls ks at lc kc steps
