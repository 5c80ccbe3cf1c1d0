-- Laws of the meaning that tell most of its definitions, whatever the program.
use Rattle.std.specs.Prelude.{◌≡◌, ℕ, ◌≤◌, ◌<◌, true, false, List, [], ◌∷◌, ◌++◌, length, Option, Some, slice_get}
use Rattle.std.specs.Option.{option_map_or}
use Rattle.m3_base.specs.declared.outcomes.FaultKind.{FaultKind}
use Rattle.m3_base.specs.declared.places.Pos.{Pos}
use Rattle.m3_runs.specs.Languages.{Thread, Parts}
use Rattle.m3_runs.specs.States.{thread_at}
use Rattle.m3_values.specs.Values.{Value}
use Rattle.m3_values.specs.Programs.{Program}
use Rattle.m3_values.specs.Places.{Thing}
use Rattle.m3_values.specs.Store.{Store, cell_at}
use Rattle.m3_source_meaning.specs.Meanings.{Acts, Raised, done, fault, raising, holding_all, ◌>>◌}
use Rattle.m3_source_meaning.specs.Phrases.{Here, Expression, Operated}
use Rattle.m3_source_meaning.specs.Operators.{operations}
use Rattle.m3_source_meaning.specs.Branches.{Otherwise}
use Rattle.m3_source_meaning.specs.Loops.{loop, exit_loop}
use Rattle.m3_source_meaning.specs.Exceptions.{kept_value, returning, try_except, try_finally}
use Rattle.m3_source_meaning.specs.Programs.{Activation, Activity, Within}
use Rattle.m3_source_meaning.specs.Reach.{in_things, in_action, is_among, cell_words, words}

-- ---- expressions

-- The fault of a left operand comes before anything of the right one.
abbrev pub LeftFaultsFirst : Type 0
LeftFaultsFirst =
    (first : Expression) (o : Operated) (os : List Operated) (kind : FaultKind) (at : Pos) →
    first.value ≡ fault kind at → first.unread ≡ fault kind at →
    operations first (o ∷ os) ≡ fault kind at

-- ---- statements

-- Statements behind one another are in order, however they are put together.
abbrev pub IsAssociative : Type 0
IsAssociative = (r s t : Acts) → ((r >> s) >> t) ≡ (r >> (s >> t))

-- TRY S FINALLY END is S.
abbrev pub FinallyNothing : Type 0
FinallyNothing = (p : Program) (here : Here) (body : Acts) → try_finally p here body done ≡ body

-- The last part of TRY FINALLY comes before each of the four ways in which the body is left, and
-- then it is left so.
abbrev pub FinallyRuns : Type 0
FinallyRuns =
    (p : Program) (here : Here) (last : Acts) (v : Option Value) (r : Raised) →
    (try_finally p here done last ≡ last)
    × (try_finally p here (returning v) last ≡ (holding_all (kept_value v) last >> returning v))
    × (try_finally p here (raising r) last
    ≡ (holding_all (kept_value r.argument) last >> raising r))
    × (try_finally p here exit_loop last ≡ (last >> exit_loop))

-- A RETURN in the last part replaces every way in which the body was left.
abbrev pub FinallyReplaces : Type 0
FinallyReplaces =
    (p : Program) (here : Here) (v u : Option Value) (r : Raised) →
    (try_finally p here (returning v) (returning u) ≡ returning u)
    × (try_finally p here (raising r) (returning u) ≡ returning u)
    × (try_finally p here exit_loop (returning u) ≡ returning u)

-- Without handlers and ELSE a TRY EXCEPT is its body.
abbrev pub NothingHandled : Type 0
NothingHandled =
    (p : Program) (here : Here) (body nothing : Acts) →
    try_except p here body [] (record { is_written = false; body = nothing }) ≡ body

-- The ELSE handles RETURN and EXIT too.
abbrev pub ElseHandlesAll : Type 0
ElseHandlesAll =
    (p : Program) (here : Here) (other : Acts) (v : Option Value) (r : Raised) →
    let otherwise : Otherwise = record { is_written = true; body = other } in
    (try_except p here (returning v) [] otherwise ≡ other)
    × (try_except p here exit_loop [] otherwise ≡ other)
    × (try_except p here (raising r) [] otherwise ≡ other)

-- LOOP EXIT END does nothing.
abbrev pub ExitEndsLoop : Type 0
ExitEndsLoop = loop exit_loop ≡ done

-- ---- what a state needs

-- A cell counts that is named by a value or place which an activation holds for later, or by the
-- action at which its thread stands.
abbrev pub PendingCounts : Type 0
PendingCounts =
    (p : Program) (parts : Parts Activity Thing Store) (n i c : ℕ) (t : Thread Activity Thing)
    (a : Activation) →
    thread_at parts.threads n ≡ Some t → slice_get t.stack i ≡ Some (Within a) →
    is_among p c (in_action t.action ++ in_things a.standing.held) ≡ true →
    c < length parts.memory.cells →
    option_map_or (cell_words p) (cell_at parts.memory c) 0 ≤ words p parts
