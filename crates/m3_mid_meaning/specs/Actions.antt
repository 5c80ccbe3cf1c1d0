-- The actions at points, and the variables that are shown there.
use Rattle.std.specs.Prelude.{ℕ, ◌-◌, ◌^◌, ◌&&◌, nat_lt, List, [], ◌∷◌, ◌++◌, map, Bool, true, false, Option, Some, None, if◌then◌else◌}
use Rattle.std.specs.Option.{option_map}
use Rattle.m3_mid.specs.declared.calls.Actual.{Actual}
use Rattle.m3_mid.specs.declared.calls.Actual.TheVariants as actuals
use Rattle.m3_mid.specs.declared.calls.Callee.{Callee}
use Rattle.m3_mid.specs.declared.calls.Callee.TheVariants as callees
use Rattle.m3_mid.specs.declared.calls.Service.{Service}
use Rattle.m3_mid.specs.declared.procs.Slot.{Slot}
use Rattle.m3_mid.specs.declared.ops.Operand.{Operand}
use Rattle.m3_mid.specs.declared.marks.Held.{Held}
use Rattle.m3_mid.specs.declared.marks.Held.TheVariants as held
use Rattle.m3_mid.specs.declared.marks.Shown.{Shown}
use Rattle.m3_mid_meaning.specs.Words.{Word, ◌>>=◌, number_of}
use Rattle.m3_mid_meaning.specs.Memory.{Around}
use Rattle.m3_mid_meaning.specs.States.{State, operand, slot_word, slot_words}
use Rattle.m3_mid_meaning.specs.Operations.{method_of}

-- What is done at a point: a procedure is called by its number in the program, with the words of its
-- formals and with an environment, which is left open where the callee takes none; a cell of a type is made, with the sizes of its open
-- dimensions; a service of the machine is carried out; or nothing.
pub data Action : Type 0 where
  Calls : (procedure : ℕ) (environment : Option Word) (formals : List Word) → Action
  Makes : (cell : ℕ) (sizes : List Word) → Action
  Serves : Service → (values : List Word) → Action
  Passes : Action

-- ---- the words that are passed

-- what each member of a row gives, where all give something
abbrev pub each_of : {A B : Type 0} → (A → Option B) → List A → Option (List B)
each_of f [] = Some []
each_of f (x ∷ xs) = f x >>= λ y. option_map (λ ys. y ∷ ys) (each_of f xs)

abbrev pub joined : {A : Type 0} → List (List A) → List A
joined [] = []
joined (xs ∷ rows) = xs ++ joined rows

-- the words that an actual becomes
abbrev pub actual_words : List Slot → Around → State → Actual → Option (List Word)
actual_words slots around s (actuals.Word word) = Some (operand s word ∷ [])
actual_words slots around s (actuals.Slots first count) = slot_words slots around s first count
actual_words slots around s (actuals.Reference address base) =
    Some (s.temps address ∷ operand s base ∷ [])

abbrev pub formal_words : List Slot → Around → State → List Actual → Option (List Word)
formal_words slots around s passed =
    option_map joined (each_of (actual_words slots around s) passed)

-- the procedure that a word of a procedure value names: its number in the image is 2 more, and 1
-- more stands there
abbrev pub procedure_of : ℕ → Option ℕ
procedure_of code = if nat_lt code 3 then None else Some (code - 3)

-- the action of a call of a procedure that is named so
abbrev pub call_of : List Word → Option Word → Option ℕ → Option Action
call_of formals environment code =
    code >>= procedure_of >>= λ procedure. Some (Calls procedure environment formals)

-- a method of the object that is the first of the words
abbrev pub method_call : Around → State → ℕ → List Word → Option Action
method_call around s method [] = None
method_call around s method (object ∷ rest) =
    call_of (object ∷ rest) None (method_of around s.memory object method)

abbrev pub called : Around → State → Callee → List Word → Option Action
called around s (callees.Outermost procedure) formals = Some (Calls procedure None formals)
called around s (callees.Inner procedure environment) formals =
    Some (Calls procedure (Some (s.temps environment)) formals)
called around s (callees.Value code environment) formals =
    call_of formals (Some (s.temps environment)) (number_of (s.temps code))
called around s (callees.Method method) formals = method_call around s method formals

abbrev pub call_action : List Slot → Around → State → Callee → List Actual → Option Action
call_action slots around s callee passed =
    formal_words slots around s passed >>= called around s callee

-- a size is a number, and not below 0
abbrev pub is_size : Option ℕ → Bool
is_size None = false
is_size (Some n) = nat_lt n (2 ^ 63)

abbrev pub are_sizes : List Word → Bool
are_sizes [] = true
are_sizes (w ∷ ws) = is_size (number_of w) && are_sizes ws

abbrev pub sizes_in : List Slot → Around → State → ℕ → Option ℕ → Option (List Word)
sizes_in slots around s cell None = Some []
sizes_in slots around s cell (Some first) =
    slot_words slots around s first (around.dimensions cell)

abbrev pub make_action : List Slot → Around → State → ℕ → Option ℕ → Option Action
make_action slots around s cell sizes =
    sizes_in slots around s cell sizes >>= λ ws. if are_sizes ws then Some (Makes cell ws) else None

abbrev pub serve_action : State → Service → List Operand → Option Action
serve_action s service row = Some (Serves service (map (operand s) row))

-- ---- what is shown

abbrev pub held_word : List Slot → Around → State → Held → Option Word
held_word slots around s (held.Temp t) = Some (s.temps t)
held_word slots around s (held.Slot slot) = slot_word slots around s slot

abbrev pub shown_word : List Slot → Around → State → Shown → Option (ℕ × Word)
shown_word slots around s shown =
    option_map (λ w. (shown.var, w)) (held_word slots around s shown.at)
