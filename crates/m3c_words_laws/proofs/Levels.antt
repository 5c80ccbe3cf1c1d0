-- From a whole command line to the words behind its command, and back.
use Rattle.std.proofs.Common.{◌≡◌, ◌∙◌, ◌||◌, Bool, cond, List, [], ◌∷◌, ◌++◌, None, Some, true, false, refl, sym, ap, ap₂}
use Rattle.std.specs.Prelude.{fold, is_some, option_and_then}
use Rattle.std.specs.List.{AllByRecursion}
use Rattle.std.proofs.lemmas.List.{append_assoc, append-nil}
use Rattle.clap.specs.Kinds.{Kinds, or_else}
use Rattle.clap.specs.Faults.{check_fault, default_fault, defaults_fault, entered_fault, fault_of, given_default_fault, level_fault, settle_fault, turn_fault, walk_fault}
use Rattle.clap.specs.Simple.{Shape, built, entered, names_of, rows_at, subcommand_of}
use Rattle.clap.specs.Walk.{Names, Row, Rule, Text, Walk, finished, has_row, idle, is_empty, nothing_held, rows_after, settled, walk, walk_from, walked, with_default}
use Rattle.clap.specs.declared.error.kind.ErrorKind.{ErrorKind}
use Rattle.m3c_words.specs.Orders.{Order}
use Rattle.m3c_words.specs.Grammar.{grammar}
use Rattle.m3c_words.specs.Asked.{asked, order_in, parsed}
use Rattle.m3c_words.proofs.Behind.{HasNoDefault, no_defaults}
use Rattle.m3c_words.proofs.Named.{asked_none}
use Rattle.m3c_words_laws.proofs.Steps.{both_nil, leaf_of, nil_behind, second_nil, state}

-- ---- a command below the top

no_kind : (x : ErrorKind) (kinds : Kinds) → x ∷ kinds ≡ [] → ⊥
no_kind x kinds e = cc

or_true : (b x : Bool) → x ≡ true → (b || x) ≡ true
or_true true x e = refl
or_true false x e = e

no_default_fault : (rows : List Row) (a : Rule) → HasNoDefault a → default_fault rows a ≡ []
no_default_fault rows a e = ap (λ (t : Bool). cond t [] (given_default_fault a a.defaults)) (or_true (has_row a.id rows) (is_empty a.defaults) (rw e refl))

no_defaults_fault : (c : List Rule) → AllByRecursion HasNoDefault c → (rows : List Row) → defaults_fault rows c ≡ []
unfolding defaults_fault
no_defaults_fault [] h rows = refl
no_defaults_fault (a ∷ c) h rows = both_nil (default_fault rows a) (defaults_fault (with_default rows a) c) (no_default_fault rows a h.0) (no_defaults_fault c h.1 (with_default rows a))

module _ (title : Text) (c : List Rule) (plain : AllByRecursion HasNoDefault c) (words : List Text) where
  abbrev last : Walk
  last = fold (walked c []) (state nothing_held idle 1 false) words

  abbrev pub whole_fault : Kinds
  whole_fault = or_else (walk_fault (leaf_of title c) [] (state nothing_held idle 1 false) words) (settle_fault c false last.held)

  abbrev pub end_rows : List Row
  end_rows = (settled c last.held).rows

  abbrev pub leaf_fault : Kinds
  leaf_fault = level_fault (leaf_of title c) [] nothing_held words false []

  rows_finished : finished c last.held ≡ end_rows
  rows_finished = no_defaults c plain end_rows

  parts : (w s d k : Kinds) → or_else w (or_else [] (or_else s (or_else d k))) ≡ [] → (or_else w s ≡ []) × (k ≡ [])
  parts [] [] d k e = (refl, second_nil d k e)
  parts [] (x ∷ s) d k e = cc
  parts (x ∷ w) s d k e = cc

  whole : (w s d k : Kinds) → or_else w s ≡ [] → d ≡ [] → k ≡ [] → or_else w (or_else [] (or_else s (or_else d k))) ≡ []
  whole [] [] d k e n f = both_nil d k n f
  whole [] (x ∷ s) d k e n f = absurd (no_kind x s e)
  whole (x ∷ w) s d k e n f = absurd (no_kind x w e)

  pub leaf_passed : leaf_fault ≡ [] → (whole_fault ≡ []) × (check_fault (leaf_of title c) end_rows false ≡ [])
  leaf_passed e =
      let p = parts (walk_fault (leaf_of title c) [] (state nothing_held idle 1 false) words) (settle_fault c false last.held) (defaults_fault end_rows c) (check_fault (leaf_of title c) (finished c last.held) false) e in
      (p.0, ap (λ (rows : List Row). check_fault (leaf_of title c) rows false) (sym rows_finished) ∙ p.1)

  pub leaf_passes : whole_fault ≡ [] → check_fault (leaf_of title c) end_rows false ≡ [] → leaf_fault ≡ []
  leaf_passes e k =
      whole (walk_fault (leaf_of title c) [] (state nothing_held idle 1 false) words) (settle_fault c false last.held) (defaults_fault end_rows c) (check_fault (leaf_of title c) (finished c last.held) false) e (no_defaults_fault c plain end_rows)
      (ap (λ (rows : List Row). check_fault (leaf_of title c) rows false) rows_finished ∙ k)

  pub leaf_rows : rows_after c [] words ≡ end_rows
  leaf_rows = rows_finished

-- ---- the top

abbrev pub stopped : Text → List Text → Walk
stopped name words = record { held = nothing_held; waiting = idle; position = 1; is_trailing = false; stopped = Some (name, words) }

abbrev pub top : Shape
top = (built grammar).top

abbrev pub commands : Names
commands = names_of (built grammar)

then_all : (before : List Text) (word : Text) (words : List Text) → (before ++ word ∷ []) ++ words ≡ before ++ word ∷ words
then_all before word words = append_assoc before (word ∷ []) words

stopped_walk : (c : List Rule) (names : Names) (name : Text) (before words : List Text) → fold (walked c names) (stopped name before) words ≡ stopped name (before ++ words)
unfolding walked
stopped_walk c names name before [] = ap (stopped name) (sym (append-nil before))
stopped_walk c names name before (word ∷ words) = stopped_walk c names name (before ++ word ∷ []) words ∙ ap (stopped name) (then_all before word words)

stopped_faults : (s : Shape) (names : Names) (name : Text) (before words : List Text) → walk_fault s names (stopped name before) words ≡ []
unfolding walk_fault walked
stopped_faults s names name before [] = refl
stopped_faults s names name before (word ∷ words) = stopped_faults s names name (before ++ word ∷ []) words

-- the faults of a command line, by those of its words and where the walk over them ends
abbrev line_fault : Kinds → Walk → Kinds
line_fault w last =
    or_else w (or_else (entered_fault (built grammar) last.stopped) (or_else (settle_fault top.rules top.args_override_self last.held)
    (or_else (defaults_fault (settled top.rules last.held).rows top.rules) (check_fault top (finished top.rules last.held) (is_some (entered (built grammar) last.stopped))))))

line_of : (words : List Text) → fault_of grammar words ≡ line_fault (walk_fault top commands (walk_from nothing_held) words) (walk top.rules commands nothing_held words)
unfolding grammar
line_of words = refl

module _ (name : Text) (leaf : Shape) (starts : walked top.rules commands (walk_from nothing_held) name ≡ stopped name []) (passes : turn_fault top commands (walk_from nothing_held) name ≡ [])
    (enters : (words : List Text) → entered_fault (built grammar) (Some (name, words)) ≡ level_fault leaf [] nothing_held words false []) (finds : (words : List Text) → entered (built grammar) (Some (name, words)) ≡ Some (rows_at leaf words)) where
  ends : (words : List Text) → walk top.rules commands nothing_held (name ∷ words) ≡ stopped name words
  ends words = ap (λ (w : Walk). fold (walked top.rules commands) w words) starts ∙ stopped_walk top.rules commands name [] words

  first_faults : (words : List Text) → walk_fault top commands (walk_from nothing_held) (name ∷ words) ≡ []
  unfolding walk_fault
  first_faults words = both_nil _ _ passes (ap (λ (w : Walk). walk_fault top commands w words) starts ∙ stopped_faults top commands name [] words)

  last_faults : (words : List Text) → line_fault [] (stopped name words) ≡ level_fault leaf [] nothing_held words false []
  unfolding grammar defaults_fault
  last_faults words = rw (finds words) (nil_behind (entered_fault (built grammar) (Some (name, words)))) ∙ enters words

  pub line_fault_is : (words : List Text) → fault_of grammar (name ∷ words) ≡ level_fault leaf [] nothing_held words false []
  line_fault_is words = line_of (name ∷ words) ∙ ap₂ line_fault (first_faults words) (ends words) ∙ last_faults words

  pub rows_found : (words : List Text) → subcommand_of grammar (name ∷ words) ≡ Some (rows_at leaf words)
  unfolding grammar
  rows_found words = ap (λ (w : Walk). entered (built grammar) w.stopped) (ends words) ∙ finds words

  -- what the words ask for
  asked_of : (words : List Text) → fault_of grammar (name ∷ words) ≡ [] → asked (name ∷ words) ≡ order_in leaf.name (rows_after leaf.rules [] words)
  unfolding parsed
  asked_of words e = ap (λ (kinds : Kinds). option_and_then (λ (found : Text × List Row). order_in found.0 found.1) (cond (is_empty kinds) (subcommand_of grammar (name ∷ words)) None)) e
      ∙ ap (option_and_then (λ (found : Text × List Row). order_in found.0 found.1)) (rows_found words)

  pub asked_passes : (words : List Text) (order : Order) → asked (name ∷ words) ≡ Some order → (level_fault leaf [] nothing_held words false [] ≡ []) × (order_in leaf.name (rows_after leaf.rules [] words) ≡ Some order)
  asked_passes words order e =
      let none = asked_none (name ∷ words) order e in
      (sym (line_fault_is words) ∙ none, sym (asked_of words none) ∙ e)

  pub passes_asked : (words : List Text) → level_fault leaf [] nothing_held words false [] ≡ [] → asked (name ∷ words) ≡ order_in leaf.name (rows_after leaf.rules [] words)
  passes_asked words e = asked_of words (line_fault_is words ∙ e)
