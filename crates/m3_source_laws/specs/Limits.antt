-- LOOPS END BY THEMSELVES. A meaning gives a loop as many turns as there are answers, and one.
-- These suffice: whatever stood where the turns come to that limit, the loop would mean the same.
use Rattle.std.specs.Prelude.{◌≡◌, ◌≤◌, ℕ, ℤ, zero, suc, ◌+ℤ◌, Bool, true, false, not, List, length, Option}
use Rattle.m3_core.specs.declared.exprs.CoreExpr.{CoreExpr}
use Rattle.m3_core.specs.declared.stmts.CoreStmt.{CoreStmt}
use Rattle.m3_values.specs.Values.{Value}
use Rattle.m3_values.specs.Programs.{Program}
use Rattle.m3_source_meaning.specs.Meanings.{Raised, Around, Now, Exits, Evaluates, Acts, done, given, ◌>>=◌}
use Rattle.m3_source_meaning.specs.Phrases.{Here, Expression}
use Rattle.m3_source_meaning.specs.Expressions.{expression}
use Rattle.m3_source_meaning.specs.Statements.{statements}
use Rattle.m3_source_meaning.specs.Loops.{body_turn, test, loop, while, repeat, is_further, for_turn, counting}

-- the turn of WHILE, and that of REPEAT
abbrev pub while_turn : Expression → Acts → Evaluates Bool
while_turn condition body = do
  holds ← test condition
  elim holds [ true ↦ body_turn body | false ↦ given false ]

abbrev pub repeat_turn : Acts → Expression → Evaluates Bool
repeat_turn body condition = do
  ends ← body_turn body
  elim ends [ true ↦ (test condition >>= (λ holds. given (not holds))) | false ↦ given false ]

-- so many turns, and where none was the last, something else
abbrev pub turns_or : (other : Acts) → (limit : ℕ) → Evaluates Bool → Acts
turns_or other zero turn = other
turns_or other (suc limit) turn =
    turn >>= (λ goes_on. elim goes_on [ true ↦ turns_or other limit turn | false ↦ done ])

abbrev pub repeatedly_or : Acts → Evaluates Bool → Acts
repeatedly_or other turn around now =
    turns_or other (suc (length now.answers)) turn around now

module _ (p : Program) (here : Here) where
  -- the same of FOR
  abbrev pub counting_or : (other : Acts) → (limit : ℕ) → (variable : ℕ) → (step last value : ℤ)
      → Acts → Acts
  counting_or other zero x step last z body = other
  counting_or other (suc limit) x step last z body = elim (is_further step last z) [
    | true ↦ (for_turn p here x z body >>= (λ ends. elim ends [
      | true ↦ counting_or other limit x step last (z +ℤ step) body
      | false ↦ done
    ]))
    | false ↦ done
  ]

-- two phrases that lead to the same end, whatever is around them and follows
abbrev pub AreSame : {A : Type 0} → Evaluates A → Evaluates A → Type 0
AreSame {A} e f = (around : Around) (now : Now) (exits : Exits A) →
    e around now exits ≡ f around now exits

-- two ways to go on that are the same where no more than so many answers are left
pub record AgreeUpTo (n : ℕ) (exits others : Exits (Unit {0})) : Type 0 where
  pub gives : (later : Now) → length later.answers ≤ n
      → exits.gives tt later ≡ others.gives tt later
  pub raised : (r : Raised) (later : Now) → length later.answers ≤ n
      → exits.raised r later ≡ others.raised r later
  pub exit : (later : Now) → length later.answers ≤ n → exits.exit later ≡ others.exit later
  pub return : (v : Option Value) (later : Now) → length later.answers ≤ n
      → exits.return v later ≡ others.return v later

-- Statements hand on no more answers than they were given: what follows matters only there.
abbrev pub AnswersFall : Type 0
AnswersFall =
    (p : Program) (here : Here) (body : List CoreStmt) (around : Around) (now : Now)
    (exits others : Exits (Unit {0})) → AgreeUpTo (length now.answers) exits others →
    statements p here body around now exits ≡ statements p here body around now others

-- THE LIMIT IS NEVER MET, by no loop of a program: whatever else stood there
pub record NeverMeetsLimit (p : Program) (here : Here) (condition : CoreExpr) (body : List CoreStmt)
    (other : Acts) : Type 0 where
  pub loops : AreSame (loop (statements p here body))
      (repeatedly_or other (body_turn (statements p here body)))
  pub while_loops : AreSame (while (expression p here condition) (statements p here body))
      (repeatedly_or other (while_turn (expression p here condition) (statements p here body)))
  pub repeat_loops : AreSame (repeat (statements p here body) (expression p here condition))
      (repeatedly_or other (repeat_turn (statements p here body) (expression p here condition)))
  pub for_loops : (x : ℕ) (step last first : ℤ) →
      AreSame (λ around now. counting p here (suc (length now.answers)) x step last first
      (statements p here body) around now)
      (λ around now. counting_or p here other (suc (length now.answers)) x step last first
      (statements p here body) around now)

abbrev pub LoopsEnd : Type 0
LoopsEnd = (p : Program) (here : Here) (condition : CoreExpr) (body : List CoreStmt) (other : Acts)
    → NeverMeetsLimit p here condition body other

-- So a loop is a turn, and where that wasn't its last the loop again: as the report has it, LOOP
-- S END is S; LOOP S END, and WHILE B DO S END is IF B THEN S; WHILE B DO S END END.
abbrev pub then_again : Evaluates Bool → Acts → Acts
then_again turn more = turn >>= (λ goes_on. elim goes_on [ true ↦ more | false ↦ done ])

pub record GoesOnAsItself (p : Program) (here : Here) (condition : CoreExpr) (body : List CoreStmt)
    : Type 0 where
  pub loops : AreSame (loop (statements p here body))
      (then_again (body_turn (statements p here body)) (loop (statements p here body)))
  pub while_loops : AreSame (while (expression p here condition) (statements p here body))
      (then_again (while_turn (expression p here condition) (statements p here body))
      (while (expression p here condition) (statements p here body)))
  pub repeat_loops : AreSame (repeat (statements p here body) (expression p here condition))
      (then_again (repeat_turn (statements p here body) (expression p here condition))
      (repeat (statements p here body) (expression p here condition)))

abbrev pub LoopsGoOn : Type 0
LoopsGoOn = (p : Program) (here : Here) (condition : CoreExpr) (body : List CoreStmt)
    → GoesOnAsItself p here condition body
