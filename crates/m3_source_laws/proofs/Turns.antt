-- Loops end by themselves.
use Rattle.std.proofs.Common.{◌≡◌, ℕ, ℤ, zero, suc, Bool, true, false, List, [], ◌∷◌, ◌++◌, Option, refl, arith}
use Rattle.std.specs.Prelude.{◌≤◌, ◌<◌, ◌+ℤ◌, not, length}
use Rattle.m3_core.specs.declared.exprs.CoreExpr.{CoreExpr}
use Rattle.m3_core.specs.declared.stmts.CoreStmt.{CoreStmt}
use Rattle.m3_values.specs.Values as value
use Rattle.m3_values.specs.Values.{Value}
use Rattle.m3_values.specs.Programs.{Program}
use Rattle.m3_values.specs.Places.{Is}
use Rattle.m3_values.specs.Store.{Memory}
use Rattle.m3_source_meaning.specs.Meanings.{Told, Raised, Around, Now, Exits, Evaluates, Acts, done, given, in_scope, ◌>>=◌, ◌>>◌}
use Rattle.m3_source_meaning.specs.Phrases.{Here, Expression}
use Rattle.m3_source_meaning.specs.Expressions.{expression}
use Rattle.m3_source_meaning.specs.Statements.{statements}
use Rattle.m3_source_meaning.specs.Loops.{again, repeatedly, body_turn, test, passing, is_further, for_turn, counting}
use Rattle.m3_source_laws.specs.Limits.{while_turn, repeat_turn, turns_or, repeatedly_or, counting_or, AreSame, then_again, AnswersFall, LoopsEnd, LoopsGoOn}
use Rattle.m3_source_laws.proofs.Safe.{Invariant, Within, Safe}
use Rattle.m3_source_laws.proofs.SafeTrees.{safe_expression}
use Rattle.m3_source_laws.proofs.SafeStatements.{safe_in_turn, safe_statements, safe_test, safe_bound}
use Rattle.m3_source_laws.proofs.Everywhere.{all_may}

-- ---- no phrase hands on more answers than it was given

abbrev pub counted : ℕ → Invariant
counted n = record {
  holds = λ now. length now.answers ≤ n;
  compares = λ e f. e ≡ f;
  out = λ t. Unit {0};
  rooted = λ r t. Unit {0};
  may = λ u. Unit {0};
  faults = λ kind at. refl;
  undefined = refl;
  waits = λ action around now h g. refl;
  told = λ m told answers g. let h : suc (length answers) ≤ n = g in omega arith;
  written = λ now m to v e g. g;
  filled = λ now m c v e g. g;
  value = λ v. tt;
  new = λ v. tt;
  cell = λ c. tt;
  global = λ g. tt;
  of_any = λ r t h. tt;
  further = λ r to s h. tt;
  taken = λ r t h g. tt;
}

within : (n : ℕ) (p : Program) (here : Here) → Within p here (counted n)
within n p here = record {
  bound = λ now x thing h g. g;
  own = λ level x now v own g is. tt;
  alias = λ x now to g is. tt;
  shared = λ a x now thing g is. tt;
}

same_number : (n : ℕ) → n ≤ n
same_number n = omega arith

abbrev pub Counts : {A : Type 0} → Evaluates A → Type 0
Counts e = (n : ℕ) → Safe (counted n) e

-- ---- a turn that isn't the last takes an answer

pub record SameLeaving (n : ℕ) (exits others : Exits Bool) : Type 0 where
  pub raised : (r : Raised) (later : Now) → length later.answers ≤ n → exits.raised r later ≡ others.raised r later
  pub exit : (later : Now) → length later.answers ≤ n → exits.exit later ≡ others.exit later
  pub return : (v : Option Value) (later : Now) → length later.answers ≤ n → exits.return v later ≡ others.return v later

abbrev pub GoesOnSame : ℕ → Exits Bool → Exits Bool → Type 0
GoesOnSame n exits others = (later : Now) → length later.answers < n → exits.gives true later ≡ others.gives true later

abbrev pub EndsSame : ℕ → Exits Bool → Exits Bool → Type 0
EndsSame n exits others = (later : Now) → length later.answers ≤ n → exits.gives false later ≡ others.gives false later

pub record Takes (turn : Evaluates Bool) : Type 0 where
  pub ends : (around : Around) (now : Now) (exits others : Exits Bool) → GoesOnSame (length now.answers) exits others → EndsSame (length now.answers) exits others → SameLeaving (length now.answers) exits others → turn around now exits ≡ turn around now others

fewer : (n : ℕ) (exits others : Exits Bool) (m : ℕ) → m ≤ n → SameLeaving n exits others → SameLeaving m exits others
fewer n exits others m le s = record {
  raised = λ r later l. s.raised r later (omega arith);
  exit = λ later l. s.exit later (omega arith);
  return = λ v later l. s.return v later (omega arith);
}

passes : (around : Around) (m : Memory) (answers : List Told) (exits others : Exits Bool) → GoesOnSame (length answers) exits others → (passing >> given true) around (record { memory = m; answers = answers }) exits ≡ (passing >> given true) around (record { memory = m; answers = answers }) others
passes around m [] exits others h = refl
passes around m (told ∷ answers) exits others h = h (record { memory = record m { store = told.store }; answers = answers }) (omega arith)

pub body_takes : (body : Acts) → Counts body → Takes (body_turn body)
body_takes body c = record {
  ends = λ around now exits others h f s. (c (length now.answers)).ends around now _ _ (same_number _) (record {
    gives = λ u later q l. passes around later.memory later.answers exits others (λ after less. h after (omega arith));
    raised = s.raised;
    exit = f;
    return = s.return;
  });
}

-- what follows a condition
while_next : (body : Acts) → Counts body → (n : ℕ) (b : Bool) (around : Around) (later : Now) (exits others : Exits Bool) → length later.answers ≤ n → GoesOnSame n exits others → EndsSame n exits others → SameLeaving n exits others →
    (elim b as (λ x. Evaluates Bool) [ true ↦ body_turn body | false ↦ given false ]) around later exits ≡ (elim b as (λ x. Evaluates Bool) [ true ↦ body_turn body | false ↦ given false ]) around later others
while_next body c n true around later exits others l h f s = (body_takes body c).ends around later exits others (λ after less. h after (omega arith)) (λ after le. f after (omega arith)) (fewer n exits others _ l s)
while_next body c n false around later exits others l h f s = f later l

pub while_takes : (e : Expression) (body : Acts) → Counts (test e) → Counts body → Takes (while_turn e body)
while_takes e body t c = record {
  ends = λ around now exits others h f s. (t (length now.answers)).ends around now _ _ (same_number _) (record {
    gives = λ b later q l. while_next body c (length now.answers) b around later exits others l h f s;
    raised = s.raised;
    exit = s.exit;
    return = s.return;
  });
}

-- behind the point
told_next : (n : ℕ) (b : Bool) (after : Now) (exits others : Exits Bool) → length after.answers < n → GoesOnSame n exits others → EndsSame n exits others → exits.gives b after ≡ others.gives b after
told_next n true after exits others l h f = h after l
told_next n false after exits others l h f = f after (omega arith)

abbrev repeat_exits : Expression → Around → Exits Bool → Exits Bool
repeat_exits e around exits = record {
  gives = λ b later. (elim b as (λ x. Evaluates Bool) [ true ↦ (test e >>= (λ holds. given (not holds))) | false ↦ given false ]) around later exits;
  raised = exits.raised;
  exit = exits.exit;
  return = exits.return;
}

pub repeat_takes : (body : Acts) (e : Expression) → Counts body → Counts (test e) → Takes (repeat_turn body e)
repeat_takes body e c t = record {
  ends = λ around now exits others h f s. (body_takes body c).ends around now (repeat_exits e around exits) (repeat_exits e around others)
      (λ later less. (t (length later.answers)).ends around later _ _ (same_number _) (record {
        gives = λ b after q l. told_next (length now.answers) (not b) after exits others (omega arith) h f;
        raised = λ r after l. s.raised r after (omega arith);
        exit = λ after l. s.exit after (omega arith);
        return = λ v after l. s.return v after (omega arith);
      }))
      f (record { raised = s.raised; exit = s.exit; return = s.return });
}

abbrev for_exits : ℕ → Acts → Around → Exits Bool → Exits (Unit {0})
for_exits x body around exits = record {
  gives = λ u later. in_scope (x ∷ []) (body_turn body) around later exits;
  raised = exits.raised;
  exit = exits.exit;
  return = exits.return;
}

pub for_takes : (p : Program) (here : Here) (x : ℕ) (z : ℤ) (body : Acts) → Counts body → Takes (for_turn p here x z body)
for_takes p here x z body c = record {
  ends = λ around now exits others h f s. (safe_bound (counted (length now.answers)) p here (within _ p here) x (Is (value.Ordinal z)) tt).ends around now (for_exits x body around exits) (for_exits x body around others) (same_number _) (record {
    gives = λ u later q l. (body_takes body c).ends (record around { scope = around.scope ++ x ∷ [] }) later exits others (λ after less. h after (omega arith)) (λ after le. f after (omega arith)) (fewer (length now.answers) exits others _ l s);
    raised = s.raised;
    exit = s.exit;
    return = s.return;
  });
}

-- ---- turns

abbrev behind : Acts → Around → Exits (Unit {0}) → Exits Bool
behind e around exits = record {
  gives = λ b later. (elim b as (λ x. Acts) [ true ↦ e | false ↦ done ]) around later exits;
  raised = exits.raised;
  exit = exits.exit;
  return = exits.return;
}

-- what comes behind a turn that isn't the last has fewer answers
then_same : (turn : Evaluates Bool) → Takes turn → (e f : Acts) (around : Around) (now : Now) (exits : Exits (Unit {0})) → ((later : Now) → length later.answers < length now.answers → e around later exits ≡ f around later exits) → then_again turn e around now exits ≡ then_again turn f around now exits
then_same turn t e f around now exits h =
    t.ends around now (behind e around exits) (behind f around exits) h (λ later le. refl)
    (record { raised = λ r later le. refl; exit = λ later le. refl; return = λ v later le. refl })

again_or : (n : ℕ) (other : Acts) (turn : Evaluates Bool) → Takes turn → (around : Around) (now : Now) (exits : Exits (Unit {0})) → length now.answers < n → again n turn around now exits ≡ turns_or other n turn around now exits
again_or zero other turn t around now exits l = absurd (omega arith)
again_or (suc n) other turn t around now exits l =
    then_same turn t (again n turn) (turns_or other n turn) around now exits (λ later less. again_or n other turn t around later exits (omega arith))

pub never_met : (turn : Evaluates Bool) → Takes turn → (other : Acts) → AreSame (repeatedly turn) (repeatedly_or other turn)
never_met turn t other around now exits = again_or (suc (length now.answers)) other turn t around now exits (omega arith)

again_same : (n m : ℕ) (turn : Evaluates Bool) → Takes turn → (around : Around) (now : Now) (exits : Exits (Unit {0})) → length now.answers < n → length now.answers < m → again n turn around now exits ≡ again m turn around now exits
again_same zero m turn t around now exits l k = absurd (omega arith)
again_same (suc n) zero turn t around now exits l k = absurd (omega arith)
again_same (suc n) (suc m) turn t around now exits l k =
    then_same turn t (again n turn) (again m turn) around now exits (λ later less. again_same n m turn t around later exits (omega arith) (omega arith))

pub goes_on : (turn : Evaluates Bool) → Takes turn → AreSame (repeatedly turn) (then_again turn (repeatedly turn))
goes_on turn t around now exits =
    then_same turn t (again (length now.answers) turn) (repeatedly turn) around now exits (λ later less. again_same (length now.answers) (suc (length later.answers)) turn t around later exits less (omega arith))

same_choice : (b : Bool) (e f g : Acts) (around : Around) (now : Now) (exits : Exits (Unit {0})) → e around now exits ≡ f around now exits →
    (elim b as (λ x. Acts) [ true ↦ e | false ↦ g ]) around now exits ≡ (elim b as (λ x. Acts) [ true ↦ f | false ↦ g ]) around now exits
same_choice true e f g around now exits h = h
same_choice false e f g around now exits h = refl

module _ (p : Program) (here : Here) where
  -- how many turns there may be doesn't matter where there are fewer answers
  pub counting_again : (n m : ℕ) (x : ℕ) (step last z : ℤ) (body : Acts) → Counts body → (around : Around) (now : Now) (exits : Exits (Unit {0})) → length now.answers < n → length now.answers < m → counting p here n x step last z body around now exits ≡ counting p here m x step last z body around now exits
  counting_again zero m x step last z body c around now exits l k = absurd (omega arith)
  counting_again (suc n) zero x step last z body c around now exits l k = absurd (omega arith)
  counting_again (suc n) (suc m) x step last z body c around now exits l k =
      same_choice (is_further step last z) _ _ done around now exits
      (then_same (for_turn p here x z body) (for_takes p here x z body c) (counting p here n x step last (z +ℤ step) body) (counting p here m x step last (z +ℤ step) body) around now exits
      (λ later less. counting_again n m x step last (z +ℤ step) body c around later exits (omega arith) (omega arith)))

  counting_same : (n : ℕ) (other : Acts) (x : ℕ) (step last z : ℤ) (body : Acts) → Counts body → (around : Around) (now : Now) (exits : Exits (Unit {0})) → length now.answers < n → counting p here n x step last z body around now exits ≡ counting_or p here other n x step last z body around now exits
  counting_same zero other x step last z body c around now exits l = absurd (omega arith)
  counting_same (suc n) other x step last z body c around now exits l =
      same_choice (is_further step last z) _ _ done around now exits
      (then_same (for_turn p here x z body) (for_takes p here x z body c) (counting p here n x step last (z +ℤ step) body) (counting_or p here other n x step last (z +ℤ step) body) around now exits
      (λ later less. counting_same n other x step last (z +ℤ step) body c around later exits (omega arith)))

  -- ---- loops of a program

  pub body_counts : (ss : List CoreStmt) → Counts (statements p here ss)
  body_counts ss n = safe_in_turn _ (safe_statements (counted n) p here (within n p here) ss (all_may _ (λ u. tt) _))

  pub test_counts : (e : CoreExpr) → Counts (test (expression p here e))
  test_counts e n = safe_test (counted n) p here (within n p here) _ (safe_expression (counted n) p here (within n p here) e (all_may _ (λ u. tt) _))

pub loops_end : LoopsEnd
loops_end p here condition body other =
    let e : Expression = expression p here condition in
    let s : Acts = statements p here body in
    record {
      loops = never_met (body_turn s) (body_takes s (body_counts p here body)) other;
      while_loops = never_met (while_turn e s) (while_takes e s (test_counts p here condition) (body_counts p here body)) other;
      repeat_loops = never_met (repeat_turn s e) (repeat_takes s e (body_counts p here body) (test_counts p here condition)) other;
      for_loops = λ x step last first around now exits. counting_same p here (suc (length now.answers)) other x step last first s (body_counts p here body) around now exits (omega arith);
    }

pub loops_go_on : LoopsGoOn
loops_go_on p here condition body =
    let e : Expression = expression p here condition in
    let s : Acts = statements p here body in
    record {
      loops = goes_on (body_turn s) (body_takes s (body_counts p here body));
      while_loops = goes_on (while_turn e s) (while_takes e s (test_counts p here condition) (body_counts p here body));
      repeat_loops = goes_on (repeat_turn s e) (repeat_takes s e (body_counts p here body) (test_counts p here condition));
    }

pub answers_fall : AnswersFall
answers_fall p here body around now exits others a =
    (body_counts p here body (length now.answers)).ends around now exits others (same_number _) (record {
      gives = λ u later q l. a.gives later l;
      raised = a.raised;
      exit = a.exit;
      return = a.return;
    })
