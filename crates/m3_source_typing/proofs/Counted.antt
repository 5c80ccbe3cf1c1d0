-- FOR is defined.
use Rattle.std.proofs.Common.{◌≡◌, ℕ, ℤ, zero, suc, pos, ◌+ℤ◌, ◌≤◌, ◌<◌, Bool, true, false, List, [], ◌∷◌, length, Option, Some, None, refl, sym, ap, ◌∙◌, subst, arith}
use Rattle.std.specs.Prelude.{nat_lt, int_le, int_lt}
use Rattle.std.specs.Borrow.{Bor}
use Rattle.std.specs.Option.{option_map}
use Rattle.std.proofs.lemmas.Int.{ints}
use Rattle.m3_core.specs.declared.exprs.CoreExpr.{CoreExpr}
use Rattle.m3_values.specs.Values as value
use Rattle.m3_values.specs.Values.{Value}
use Rattle.m3_values.specs.Programs.{Program}
use Rattle.m3_values.specs.Types.{Bounds, bounds}
use Rattle.m3_values.specs.Places.{Is}
use Rattle.m3_values.specs.Store.{Store}
use Rattle.m3_source_meaning.specs.Meanings.{Told, Around, Now, Exits, Acts, done, holding, in_scope, ◌>>=◌}
use Rattle.m3_source_meaning.specs.Phrases.{Here, Expression}
use Rattle.m3_source_meaning.specs.Loops.{body_turn, is_further, for_turn, counting, counted, step_of, for}
use Rattle.m3_source_meaning.specs.Expressions.{expression}
use Rattle.m3_source_laws.proofs.Turns.{Counts, for_takes, counting_again}
use Rattle.m3_source_typing.specs.ValueTypes.{class_of, IsNumberOf}
use Rattle.m3_source_typing.specs.Stores.{IsLater}
use Rattle.m3_source_typing.specs.Sound.{Scope, Leaving, IsDefined, IsSound, IsGood, Gives, IsOfType, AreSoundFor, Does}
use Rattle.m3_source_typing.specs.Operators as rule
use Rattle.m3_source_typing.specs.Statements.{inside, and_variable, IsAmount, IsNew}
use Rattle.m3_source_typing.proofs.Combining.{holding_sound}
use Rattle.m3_source_typing.proofs.Operands.{left_true, right_true, both_true, at_most, number_of, numbers_is}
use Rattle.m3_source_typing.proofs.Operating.{Typed}
use Rattle.m3_source_typing.proofs.Leaving.{same_so_far, Nothing, DoesAll, gives_does, does_bind, does_in_scope}
use Rattle.m3_source_typing.proofs.Making.{giving_bound}
use Rattle.m3_source_typing.proofs.Turning.{body_sound}
use Rattle.m3_source_typing.proofs.Assigning.{IsAnyNumber, amount_sound}
use Rattle.m3_source_typing.proofs.Repeating.{or_any, is_less, below}

-- ---- the values of the variable

-- they go from the first one up or down, as the step says
pub record IsOnWay (step first z : ℤ) : Type 0 where
  pub down : int_lt step (pos 0) ≡ true → int_le z first ≡ true
  pub up : int_lt step (pos 0) ≡ false → int_le first z ≡ true

less_again : (z first step : ℤ) → int_le z first ≡ true → int_lt step (pos 0) ≡ true → int_le (z +ℤ step) first ≡ true
less_again z first step h g = grind (arith, ints)

more_again : (z first step : ℤ) → int_le first z ≡ true → int_lt step (pos 0) ≡ false → int_le first (z +ℤ step) ≡ true
more_again z first step h g = grind (arith, ints)

at_first : (step first : ℤ) → IsOnWay step first first
at_first step first = record { down = λ h. grind (arith, ints); up = λ h. grind (arith, ints) }

next_on_way : (step first z : ℤ) → IsOnWay step first z → IsOnWay step first (z +ℤ step)
next_on_way step first z h = record { down = λ e. less_again z first step (h.down e) e; up = λ e. more_again z first step (h.up e) e }

-- as long as there are further turns they lie between the first one and the last one
in_type : (o : Option Bounds) (step first last z : ℤ) → IsNumberOf first o → IsNumberOf last o → IsOnWay step first z → is_further step last z ≡ true → IsNumberOf z o
in_type None step first last z h g way further = absurd h
in_type (Some b) step first last z h g way further = at (int_lt step (pos 0)) refl further
  where
    at : (x : Bool) → int_lt step (pos 0) ≡ x → (elim x as (λ y. Bool) [ true ↦ int_le last z | false ↦ int_le z last ]) ≡ true → IsNumberOf z (Some b)
    at true e f = both_true (int_le b.first z) (int_le z b.last) (at_most b.first last z (left_true (int_le b.first last) (int_le last b.last) g) f) (at_most z first b.last (way.down e) (right_true (int_le b.first first) (int_le first b.last) h))
    at false e f = both_true (int_le b.first z) (int_le z b.last) (at_most b.first first z (left_true (int_le b.first first) (int_le first b.last) h) (way.up e)) (at_most z last b.last f (right_true (int_le b.first last) (int_le last b.last) g))

-- ---- turns

module _ (p : Program) (own : Scope) (here : Here) (a : Leaving) (x t : ℕ) (step first last : ℤ) (body : Acts) (counts : Counts body) (new : IsNew p here own x) (numbers : rule.is_ordinal p t ≡ true) (starts : IsNumberOf first (bounds p t)) (stops : IsNumberOf last (bounds p t)) (does : DoesAll p (and_variable x t own) (inside a) body) where
  abbrev from : ℤ → Acts
  from z around now exits = counting p here (suc (length now.answers)) x step last z body around now exits

  abbrev AnyTruth : Store → Bool → Type 0
  AnyTruth s b = Unit {0}

  turn_sound : (z : ℤ) → IsNumberOf z (bounds p t) → (s : Store) → Does p own a s AnyTruth (for_turn p here x z body)
  turn_sound z h s = giving_bound p here own a s AnyTruth x t (value.Ordinal z) (in_scope (x ∷ []) (body_turn body)) new (numbers_is (class_of p t) numbers, h)
      (λ u l. does_in_scope p (and_variable x t own) a u AnyTruth (x ∷ []) (body_turn body) (body_sound p (and_variable x t own) here a body does u))

  abbrev next_exits : ℕ → ℤ → Around → Exits (Unit {0}) → Exits Bool
  next_exits n z around exits = record {
    gives = λ b later. (elim b as (λ x. Acts) [ true ↦ (λ around now exits. or_any (nat_lt (length now.answers) n) (from z around now exits)) | false ↦ done ]) around later exits;
    raised = exits.raised;
    exit = exits.exit;
    return = exits.return;
  }

  abbrev behind_turn : ℕ → ℤ → Around → Exits (Unit {0}) → Exits Bool
  behind_turn n z around exits = record {
    gives = λ b later. (elim b as (λ c. Acts) [ true ↦ counting p here n x step last z body | false ↦ done ]) around later exits;
    raised = exits.raised;
    exit = exits.exit;
    return = exits.return;
  }

  -- a turn and what follows it
  one_turn : (z : ℤ) (around : Around) (now : Now) (exits : Exits (Unit {0})) → is_further step last z ≡ true → (answers : List Told) → length answers ≤ length now.answers →
      from z around (record now { answers = answers }) exits ≡ for_turn p here x z body around (record now { answers = answers }) (next_exits (length now.answers) (z +ℤ step) around exits)
  one_turn z around now exits further answers le =
      ap (λ b. (elim b as (λ c. Acts) [ true ↦ (for_turn p here x z body >>= (λ ends. elim ends as (λ c. Acts) [ true ↦ counting p here (length answers) x step last (z +ℤ step) body | false ↦ done ])) | false ↦ done ]) around (record now { answers = answers }) exits) further
      ∙ (for_takes p here x z body counts).ends around (record now { answers = answers }) (behind_turn (length answers) (z +ℤ step) around exits) (next_exits (length now.answers) (z +ℤ step) around exits)
      (λ later less. let within : length later.answers < length now.answers = omega arith in
      counting_again p here (length answers) (suc (length later.answers)) x step last (z +ℤ step) body counts around later exits less (omega arith)
      ∙ sym (ap (λ b. or_any b (from (z +ℤ step) around later exits)) (is_less (length later.answers) (length now.answers) within)))
      (λ later l. refl)
      (record { raised = λ r later l. refl; exit = λ later l. refl; return = λ v later l. refl })

  abbrev IsSoundFrom : ℤ → Around → Exits (Unit {0}) → Now → Type 0
  IsSoundFrom z around exits now = IsSound p (λ later. from z around later exits) now

  cut_sound : (z : ℤ) (around : Around) (exits : Exits (Unit {0})) (n : ℕ) (later : Now) (b : Bool) → nat_lt (length later.answers) n ≡ b → (b ≡ true → IsSoundFrom z around exits later) →
      IsSound p (λ now. or_any (nat_lt (length now.answers) n) (from z around now exits)) later
  cut_sound z around exits n later true is h =
      let less : length later.answers < n = below (length later.answers) n is in
      same_so_far p (λ now. or_any (nat_lt (length now.answers) n) (from z around now exits)) (λ now. from z around now exits) later
      (λ answers fewer. let within : length answers < n = omega arith in ap (λ b. or_any b (from z around (record later { answers = answers }) exits)) (is_less (length answers) n within))
      (h refl)
  cut_sound z around exits n later false is h = λ fit. subst (λ b. IsDefined p (or_any b (from z around later exits))) (sym is) tt

  abbrev Follows : ℤ → Now → Around → Exits (Unit {0}) → Store → Type 0
  Follows z now around exits s = (later : Now) → length later.answers < length now.answers → IsLater s later.memory.store → IsGood p own later.memory → IsSoundFrom z around exits later

  follows : (z : ℤ) (s : Store) (around : Around) (now : Now) (exits : Exits (Unit {0})) → Follows z now around exits s → AreSoundFor p own a s (Nothing p own a) exits → (c : Bool) (later : Now) → IsLater s later.memory.store → IsGood p own later.memory → IsSound p ((next_exits (length now.answers) z around exits).gives c) later
  follows z s around now exits fewer b true later k fine = cut_sound z around exits (length now.answers) later (nat_lt (length later.answers) (length now.answers)) refl (λ is. fewer later (below (length later.answers) (length now.answers) is) k fine)
  follows z s around now exits fewer b false later k fine = b.after.gives tt later k fine tt

  turns_sound : (n : ℕ) (z : ℤ) (s : Store) (around : Around) (now : Now) (exits : Exits (Unit {0})) → length now.answers < n → IsOnWay step first z → IsLater s now.memory.store → IsGood p own now.memory → AreSoundFor p own a s (Nothing p own a) exits → IsSoundFrom z around exits now
  turns_sound zero z s around now exits less way l good b = absurd (omega arith)
  turns_sound (suc n) z s around now exits less way l good b =
      at (is_further step last z) refl (λ later fewer m fine. turns_sound n (z +ℤ step) s around later exits (omega arith) (next_on_way step first z way) m fine b)
    where
      at : (y : Bool) → is_further step last z ≡ y → Follows (z +ℤ step) now around exits s → IsSoundFrom z around exits now
      at false e more =
          same_so_far p (λ later. from z around later exits) (λ later. exits.gives tt later) now
          (λ answers le. ap (λ b. (elim b as (λ c. Acts) [ true ↦ (for_turn p here x z body >>= (λ ends. elim ends as (λ c. Acts) [ true ↦ counting p here (length answers) x step last (z +ℤ step) body | false ↦ done ])) | false ↦ done ]) around (record now { answers = answers }) exits) e)
          (b.after.gives tt now l good tt)
      at true e more =
          same_so_far p (λ later. from z around later exits) (λ later. for_turn p here x z body around later (next_exits (length now.answers) (z +ℤ step) around exits)) now
          (one_turn z around now exits e)
          ((turn_sound z (in_type (bounds p t) step first last z starts stops way e) s).ends around now (next_exits (length now.answers) (z +ℤ step) around exits) l good (record {
            after = record {
              gives = λ c later k fine q. follows (z +ℤ step) s around now exits more b c later k fine;
              raised = b.after.raised;
            };
            exit = b.exit;
            return = b.return;
          }))

  counted_sound : (s : Store) → Does p own a s (Nothing p own a) (counted p here x (value.Ordinal first) (value.Ordinal last) (value.Ordinal step) body)
  counted_sound s = record { ends = λ around now exits l good b. turns_sound (suc (length now.answers)) first s around now exits (omega arith) (at_first step first) l good b }

module _ (p : Program) (own : Scope) (here : Here) (a : Leaving) where
  step_sound : (e : Option (Bor CoreExpr)) → IsAmount p here own e → (s : Store) → Gives p own s (IsAnyNumber p own here a) (step_of (option_map (λ (e : Bor CoreExpr). expression p here e.now) e))
  step_sound None h s = amount_sound p own here a None h s
  step_sound (Some e) h s = amount_sound p own here a (Some e) h s

  pub for_sound : (x t : ℕ) (first last : Expression) (step : Option (Bor CoreExpr)) (body : Acts) → IsOfType p own first t → IsOfType p own last t → rule.is_ordinal p t ≡ true → IsAmount p here own step → IsNew p here own x → Counts body → DoesAll p (and_variable x t own) (inside a) body →
      DoesAll p own a (for p here x first last (option_map (λ (e : Bor CoreExpr). expression p here e.now) step) body)
  for_sound x t first last step body one two numbers is new counts does s =
      does_bind p own a s (Typed p t) (Nothing p own a) first.value _ (gives_does p own a s (Typed p t) first.value (one.value s))
      (λ v u l q. does_bind p own a u (Typed p t) (Nothing p own a) (holding (Is v) last.value) _ (gives_does p own a u (Typed p t) _ (holding_sound p own u (Typed p t) (Is v) last.value (two.value u)))
      (λ w k m f. does_bind p own a k (IsAnyNumber p own here a) (Nothing p own a) (holding (Is v) (holding (Is w) (step_of (option_map (λ (e : Bor CoreExpr). expression p here e.now) step)))) _
      (gives_does p own a k _ _ (holding_sound p own k (IsAnyNumber p own here a) (Is v) (holding (Is w) (step_of (option_map (λ (e : Bor CoreExpr). expression p here e.now) step))) (holding_sound p own k (IsAnyNumber p own here a) (Is w) (step_of (option_map (λ (e : Bor CoreExpr). expression p here e.now) step)) (step_sound step is k))))
      (λ n d c g.
      let y = number_of p u v t numbers q in
      let z = number_of p k w t numbers f in
      subst (λ i. Does p own a d (Nothing p own a) (counted p here x i w n body)) (sym y.1)
      (subst (λ i. Does p own a d (Nothing p own a) (counted p here x (value.Ordinal y.0) i n body)) (sym z.1)
      (subst (λ i. Does p own a d (Nothing p own a) (counted p here x (value.Ordinal y.0) (value.Ordinal z.0) i body)) (sym g.1)
      (counted_sound p own here a x t g.0 y.0 z.0 body counts new numbers y.2 z.2 does d))))))
