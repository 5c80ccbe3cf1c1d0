-- Points that are the same have the same events.
use Rattle.std.proofs.Common.{◌≡◌, ℕ, zero, suc, true, false, List, [], ◌∷◌, refl, sym, ap, ◌∙◌}
use Rattle.std.specs.Prelude.{map, if◌then◌else◌, Option, Some, None}
use Rattle.std.specs.Option.{option_map}
use Rattle.m3_mid.specs.declared.calls.Actual.{Actual}
use Rattle.m3_mid.specs.declared.calls.Actual.TheVariants as actuals
use Rattle.m3_mid.specs.declared.calls.Callee.{Callee}
use Rattle.m3_mid.specs.declared.calls.Callee.TheVariants as callees
use Rattle.m3_mid.specs.declared.calls.Service.{Service}
use Rattle.m3_mid.specs.declared.marks.Held.{Held}
use Rattle.m3_mid.specs.declared.marks.Held.TheVariants as held
use Rattle.m3_mid.specs.declared.marks.Shown.{Shown}
use Rattle.m3_mid.specs.declared.procs.Slot.{Slot}
use Rattle.m3_mid.specs.declared.ops.Operand.{Operand}
use Rattle.m3_mid_meaning.specs.Words.{Word, ◌>>=◌, number_of}
use Rattle.m3_mid_meaning.specs.Memory.{Memory, Around}
use Rattle.m3_mid_meaning.specs.Operations.{method_of}
use Rattle.m3_mid_meaning.specs.States.{State, operand, slot_word, slot_words}
use Rattle.m3_mid_meaning.specs.Actions.{Action, Calls, Makes, Serves, each_of, joined, actual_words, formal_words, call_of, method_call, called, call_action, are_sizes, sizes_in, make_action, serve_action, held_word, shown_word}
use Rattle.m3_mid_meaning.specs.Points.{Event, event_of}
use Rattle.m3_same_forms.specs.declared.forms.Symbol.{Symbol}
use Rattle.m3_same_forms.specs.Forms.{Form}
use Rattle.m3_same_forms.specs.Seen.{operand_form}
use Rattle.m3_same_forms.specs.Same.{same_temps, same_operand, same_operands, same_actual, same_actuals, same_callee, same_held, same_shown, same_showns}
use Rattle.m3_same_forms.specs.Meaning.{AllMean, IsWords}
use Rattle.m3_same_forms.proofs.Codes.{both, same_number}
use Rattle.m3_same_forms.proofs.Sums.{same_eval}
use Rattle.m3_same_forms.proofs.Seeing.{operand_means}

abbrev pub with_temps : State → (ℕ → Word) → State
with_temps s temps = record s { temps = temps }

no : {P : Type 0} → false ≡ true → P
no e = absurd (let bad : false ≡ true = e in cc)

module _ (slots : List Slot) (around : Around) (v : Symbol → Word) (n : ℕ) (ws : IsWords around v) (f f' : ℕ → Form) (s s' : State)
    (h : AllMean v n f s.temps) (h' : AllMean v n f' s'.temps) (rest : s' ≡ with_temps s s'.temps) where
  pub temp_same : (t t' : ℕ) → same_temps f f' t t' ≡ true → s'.temps t' ≡ s.temps t
  temp_same t t' e = (h' t').1 ∙ sym (same_eval v (f t) (f' t') e) ∙ sym (h t).1

  pub operand_same : (a b : Operand) → same_operand f f' a b ≡ true → operand s' b ≡ operand s a
  operand_same a b e =
      (operand_means [] around v n ws f' s' h' b).1 ∙ sym (same_eval v (operand_form f a) (operand_form f' b) e) ∙ sym (operand_means [] around v n ws f s h a).1

  operands_same : (as' bs : List Operand) → same_operands f f' as' bs ≡ true → map (operand s') bs ≡ map (operand s) as'
  operands_same [] [] e = refl
  operands_same (a ∷ as') (b ∷ bs) e =
      let p = both _ _ e in
      ap (λ w. w ∷ map (operand s') bs) (operand_same a b p.0) ∙ ap (λ ws. operand s a ∷ ws) (operands_same as' bs p.1)
  operands_same [] (b ∷ bs) e = no e
  operands_same (a ∷ as') [] e = no e

  slot_same : (slot : ℕ) → slot_word slots around s' slot ≡ slot_word slots around s slot
  slot_same slot = ap (λ z. slot_word slots around z slot) rest

  slots_same : (first count : ℕ) → slot_words slots around s' first count ≡ slot_words slots around s first count
  slots_same first zero = refl
  slots_same first (suc count) =
      ap (λ w. w >>= λ x. option_map (λ ws. x ∷ ws) (slot_words slots around s' (suc first) count)) (slot_same first)
      ∙ ap (λ r. slot_word slots around s first >>= λ x. option_map (λ ws. x ∷ ws) r) (slots_same (suc first) count)

  actual_same : (a b : Actual) → same_actual f f' a b ≡ true → actual_words slots around s' b ≡ actual_words slots around s a
  actual_same (actuals.Word a) (actuals.Word b) e = ap (λ w. Some (w ∷ [])) (operand_same a b e)
  actual_same (actuals.Slots first count) (actuals.Slots first' count') e =
      let p = both _ _ e in
      slots_same first' count' ∙ ap (λ z. slot_words slots around s z count') (sym (same_number first first' p.0)) ∙ ap (λ z. slot_words slots around s first z) (sym (same_number count count' p.1))
  actual_same (actuals.Reference address base) (actuals.Reference address' base') e =
      let p = both _ _ e in
      ap (λ w. Some (w ∷ operand s' base' ∷ [])) (temp_same address address' p.0) ∙ ap (λ w. Some (s.temps address ∷ w ∷ [])) (operand_same base base' p.1)
  actual_same (actuals.Word a) (actuals.Slots first count) e = no e
  actual_same (actuals.Word a) (actuals.Reference address base) e = no e
  actual_same (actuals.Slots first count) (actuals.Word a) e = no e
  actual_same (actuals.Slots first count) (actuals.Reference address base) e = no e
  actual_same (actuals.Reference address base) (actuals.Word a) e = no e
  actual_same (actuals.Reference address base) (actuals.Slots first count) e = no e

  actuals_same : (as' bs : List Actual) → same_actuals f f' as' bs ≡ true → each_of (actual_words slots around s') bs ≡ each_of (actual_words slots around s) as'
  actuals_same [] [] e = refl
  actuals_same (a ∷ as') (b ∷ bs) e =
      let p = both _ _ e in
      ap (λ w. w >>= λ x. option_map (λ ws. x ∷ ws) (each_of (actual_words slots around s') bs)) (actual_same a b p.0)
      ∙ ap (λ r. actual_words slots around s a >>= λ x. option_map (λ ws. x ∷ ws) r) (actuals_same as' bs p.1)
  actuals_same [] (b ∷ bs) e = no e
  actuals_same (a ∷ as') [] e = no e

  method_same : (method : ℕ) (formals : List Word) → method_call around s' method formals ≡ method_call around s method formals
  method_same method [] = refl
  method_same method (object ∷ more) = ap (λ z. call_of (object ∷ more) None (method_of around z.memory object method)) rest

  called_same : (a b : Callee) (formals : List Word) → same_callee f f' a b ≡ true → called around s' b formals ≡ called around s a formals
  called_same (callees.Outermost m) (callees.Outermost m') formals e = ap (λ z. Some (Calls z None formals)) (sym (same_number m m' e))
  called_same (callees.Inner m environment) (callees.Inner m' environment') formals e =
      let p = both _ _ e in
      ap (λ z. Some (Calls z (Some (s'.temps environment')) formals)) (sym (same_number m m' p.0)) ∙ ap (λ w. Some (Calls m (Some w) formals)) (temp_same environment environment' p.1)
  called_same (callees.Value code environment) (callees.Value code' environment') formals e =
      let p = both _ _ e in
      ap (λ w. call_of formals (Some (s'.temps environment')) (number_of w)) (temp_same code code' p.0)
      ∙ ap (λ w. call_of formals (Some w) (number_of (s.temps code))) (temp_same environment environment' p.1)
  called_same (callees.Method m) (callees.Method m') formals e =
      method_same m' formals ∙ ap (λ z. method_call around s z formals) (sym (same_number m m' e))
  called_same (callees.Outermost m) (callees.Inner m' x) formals e = no e
  called_same (callees.Outermost m) (callees.Value x y) formals e = no e
  called_same (callees.Outermost m) (callees.Method m') formals e = no e
  called_same (callees.Inner m x) (callees.Outermost m') formals e = no e
  called_same (callees.Inner m x) (callees.Value y z) formals e = no e
  called_same (callees.Inner m x) (callees.Method m') formals e = no e
  called_same (callees.Value x y) (callees.Outermost m') formals e = no e
  called_same (callees.Value x y) (callees.Inner m' z) formals e = no e
  called_same (callees.Value x y) (callees.Method m') formals e = no e
  called_same (callees.Method m) (callees.Outermost m') formals e = no e
  called_same (callees.Method m) (callees.Inner m' x) formals e = no e
  called_same (callees.Method m) (callees.Value x y) formals e = no e

  then_called : (a b : Callee) (formals : Option (List Word)) → same_callee f f' a b ≡ true → (formals >>= called around s' b) ≡ (formals >>= called around s a)
  then_called a b None e = refl
  then_called a b (Some formals) e = called_same a b formals e

  pub call_same : (a b : Callee) (as' bs : List Actual) → same_callee f f' a b ≡ true → same_actuals f f' as' bs ≡ true → call_action slots around s' b bs ≡ call_action slots around s a as'
  call_same a b as' bs e e' =
      ap (λ r. option_map joined r >>= called around s' b) (actuals_same as' bs e') ∙ then_called a b (formal_words slots around s as') e

  sizes_same : (cell : ℕ) (sizes : Option ℕ) → sizes_in slots around s' cell sizes ≡ sizes_in slots around s cell sizes
  sizes_same cell None = refl
  sizes_same cell (Some first) = slots_same first (around.dimensions cell)

  pub make_same : (cell cell' : ℕ) (sizes sizes' : Option ℕ) → cell ≡ cell' → sizes ≡ sizes' → make_action slots around s' cell' sizes' ≡ make_action slots around s cell sizes
  make_same cell cell' sizes sizes' e e' =
      ap (λ r. r >>= λ ws. if are_sizes ws then Some (Makes cell' ws) else None) (sizes_same cell' sizes')
      ∙ ap (λ z. make_action slots around s z sizes') (sym e) ∙ ap (make_action slots around s cell) (sym e')

  pub serve_same : (service service' : Service) (as' bs : List Operand) → service ≡ service' → same_operands f f' as' bs ≡ true → serve_action s' service' bs ≡ serve_action s service as'
  serve_same service service' as' bs e e' =
      ap (λ ws. Some (Serves service' ws)) (operands_same as' bs e') ∙ ap (λ z. Some (Serves z (map (operand s) as'))) (sym e)

  -- ---- what is shown

  held_same : (a b : Held) → same_held f f' a b ≡ true → held_word slots around s' b ≡ held_word slots around s a
  held_same (held.Temp t) (held.Temp t') e = ap (λ w. Some w) (temp_same t t' e)
  held_same (held.Slot slot) (held.Slot slot') e = slot_same slot' ∙ ap (slot_word slots around s) (sym (same_number slot slot' e))
  held_same (held.Temp t) (held.Slot slot') e = no e
  held_same (held.Slot slot) (held.Temp t') e = no e

  shown_same : (a b : Shown) → same_shown f f' a b ≡ true → shown_word slots around s' b ≡ shown_word slots around s a
  shown_same a b e =
      let p = both _ _ e in
      ap (λ z. option_map (λ w. (z, w)) (held_word slots around s' b.at)) (sym (same_number a.var b.var p.0)) ∙ ap (option_map (λ w. (a.var, w))) (held_same a.at b.at p.1)

  showns_same : (as' bs : List Shown) → same_showns f f' as' bs ≡ true → each_of (shown_word slots around s') bs ≡ each_of (shown_word slots around s) as'
  showns_same [] [] e = refl
  showns_same (a ∷ as') (b ∷ bs) e =
      let p = both _ _ e in
      ap (λ w. w >>= λ x. option_map (λ ws. x ∷ ws) (each_of (shown_word slots around s') bs)) (shown_same a b p.0)
      ∙ ap (λ r. shown_word slots around s a >>= λ x. option_map (λ ws. x ∷ ws) r) (showns_same as' bs p.1)
  showns_same [] (b ∷ bs) e = no e
  showns_same (a ∷ as') [] e = no e

  abbrev event_with : Option Action → Option (List (ℕ × Word)) → Memory → Option Event
  event_with action values memory = action >>= λ a. values >>= λ vs. Some (record { action = a; shown = vs; memory = memory })

  pub event_same : (as' bs : List Shown) (action action' : Option Action) → action' ≡ action → same_showns f f' as' bs ≡ true → event_of slots around s' bs action' ≡ event_of slots around s as' action
  event_same as' bs action action' e e' =
      ap (λ a. event_with a (each_of (shown_word slots around s') bs) s'.memory) e ∙ ap (λ r. event_with action r s'.memory) (showns_same as' bs e')
      ∙ ap (λ z. event_with action (each_of (shown_word slots around s) as') z.memory) rest
