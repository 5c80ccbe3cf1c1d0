-- Rows of different lengths differ.
use Rattle.std.proofs.Common.{◌≡◌, ◌≢◌, suc, Bool, true, false, List, [], ◌∷◌, length, refl, sym, ap, ◌∙◌}
use Rattle.std.specs.Prelude.{◌&&◌}
use Rattle.m3_mid.specs.declared.procs.Slot.{Slot}
use Rattle.std.specs.Prelude.{ℕ}
use Rattle.m3_mid.specs.declared.calls.Actual.{Actual}
use Rattle.m3_mid.specs.declared.marks.Shown.{Shown}
use Rattle.m3_mid.specs.declared.ops.Operand.{Operand}
use Rattle.m3_same_forms.specs.Forms.{Form}
use Rattle.m3_same_forms.specs.Same.{same_slot, same_slots, same_operand, same_operands, same_actual, same_actuals, same_shown, same_showns}

pub and_false : (b : Bool) → (b && false) ≡ false
and_false true = refl
and_false false = refl

pub slots_differ : (as' bs : List Slot) → length as' ≢ length bs → false ≡ same_slots as' bs
slots_differ [] [] h = absurd (h refl)
slots_differ [] (b ∷ bs) h = refl
slots_differ (a ∷ as') [] h = refl
slots_differ (a ∷ as') (b ∷ bs) h =
    sym (ap (λ z. same_slot a b && z) (sym (slots_differ as' bs (λ e. h (ap suc e)))) ∙ and_false (same_slot a b))

pub operands_differ : (f f' : ℕ → Form) (as' bs : List Operand) → length as' ≢ length bs → false ≡ same_operands f f' as' bs
operands_differ f f' [] [] h = absurd (h refl)
operands_differ f f' [] (b ∷ bs) h = refl
operands_differ f f' (a ∷ as') [] h = refl
operands_differ f f' (a ∷ as') (b ∷ bs) h =
    sym (ap (λ z. same_operand f f' a b && z) (sym (operands_differ f f' as' bs (λ e. h (ap suc e)))) ∙ and_false (same_operand f f' a b))

pub actuals_differ : (f f' : ℕ → Form) (as' bs : List Actual) → length as' ≢ length bs → false ≡ same_actuals f f' as' bs
actuals_differ f f' [] [] h = absurd (h refl)
actuals_differ f f' [] (b ∷ bs) h = refl
actuals_differ f f' (a ∷ as') [] h = refl
actuals_differ f f' (a ∷ as') (b ∷ bs) h =
    sym (ap (λ z. same_actual f f' a b && z) (sym (actuals_differ f f' as' bs (λ e. h (ap suc e)))) ∙ and_false (same_actual f f' a b))

pub showns_differ : (f f' : ℕ → Form) (as' bs : List Shown) → length as' ≢ length bs → false ≡ same_showns f f' as' bs
showns_differ f f' [] [] h = absurd (h refl)
showns_differ f f' [] (b ∷ bs) h = refl
showns_differ f f' (a ∷ as') [] h = refl
showns_differ f f' (a ∷ as') (b ∷ bs) h =
    sym (ap (λ z. same_shown f f' a b && z) (sym (showns_differ f f' as' bs (λ e. h (ap suc e)))) ∙ and_false (same_shown f f' a b))
