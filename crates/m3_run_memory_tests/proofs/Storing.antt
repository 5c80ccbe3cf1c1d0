-- A word that is set in one part.
use Rattle.std.proofs.Common.{◌≡◌, ℕ, true, false, cond, List, Some, sym, ap, ◌∙◌, ⊎_elim}
use Rattle.std.specs.Prelude.{◌==◌, ◌-◌, ◌^◌, slice_index}
use Rattle.std.proofs.lemmas.Bool.{cases_Bool, ne_eqb, false≢true}
use Rattle.m3_heap.specs.Cells.{Cell, cell_word_at}
use Rattle.m3_run_memory_tests.specs.Held.{is_global, holds_in}

pub stored_in : (globals : List ℕ) (cells new : List Cell) (at w x : ℕ) → is_global at ≡ false → ((y : ℕ) → cell_word_at new y ≡ cond (y == at) (Some w) (cell_word_at cells y)) → holds_in globals new x ≡ cond (x == at) (Some w) (holds_in globals cells x)
stored_in globals cells new at w x out h =
    let word = slice_index globals (x - 2 ^ 32) in
    ⊎_elim
    (λ (hit : is_global x ≡ true).
    let other : (x == at) ≡ false = ne_eqb x at (λ e. false≢true (sym out ∙ sym (ap is_global e) ∙ hit)) in
    ap (λ b. cond b (Some word) (cell_word_at new x)) hit ∙ sym (ap (λ b. cond b (Some w) (holds_in globals cells x)) other ∙ ap (λ b. cond b (Some word) (cell_word_at cells x)) hit))
    (λ (miss : is_global x ≡ false).
    ap (λ b. cond b (Some word) (cell_word_at new x)) miss ∙ h x ∙ ap (λ b. cond (x == at) (Some w) (cond b (Some word) (cell_word_at cells x))) (sym miss))
    (cases_Bool (is_global x))
