-- The source takes no notice of the collections that a schedule asks for.
use Rattle.std.proofs.Common.{◌≡◌, ℕ, Bool, true, false, List, [], ◌∷◌, Some, refl, subst}
use Rattle.m3_base.specs.declared.outcomes.Entry.{Entry}
use Rattle.m3_runs.specs.Languages.{Parts}
use Rattle.m3_runs.specs.States.{Given, State}
use Rattle.m3_runs.specs.Choice.{choice}
use Rattle.m3_runs.specs.Runs as run
use Rattle.m3_runs.specs.Runs.{Result, Goes, Ends, Undefined, Turns, Runs, Collected_if, first_entry, later_entries}
use Rattle.m3_values.specs.Programs.{Program, program_of}
use Rattle.m3_values.specs.Places.{Thing}
use Rattle.m3_values.specs.Store.{Store}
use Rattle.m3_source_meaning.specs.Programs.{Activity, language}
use Rattle.m3_follows.specs.Settings.{named_by}
use Rattle.m3_follows.specs.Laws.{IgnoresCollections}

first_named : (schedule other : List Entry) → named_by schedule ≡ named_by other → (first_entry schedule).to ≡ (first_entry other).to
first_named [] [] q = refl
first_named [] (f ∷ fs) q = absurd (let no : ⊥ = cc in no)
first_named (e ∷ es) [] q = absurd (let no : ⊥ = cc in no)
first_named (e ∷ es) (f ∷ fs) q = let same : e.to ≡ f.to = cc in same

later_named : (schedule other : List Entry) → named_by schedule ≡ named_by other → named_by (later_entries schedule) ≡ named_by (later_entries other)
later_named [] [] q = refl
later_named [] (f ∷ fs) q = absurd (let no : ⊥ = cc in no)
later_named (e ∷ es) [] q = absurd (let no : ⊥ = cc in no)
later_named (e ∷ es) (f ∷ fs) q = let same : named_by es ≡ named_by fs = cc in same

module _ (p : Program) (given : Given) where
  left_as_they_are : (parts after : Parts Activity Thing Store) (collect : Bool) → Collected_if (language p) parts collect after → parts ≡ after
  left_as_they_are parts after collect run.left = refl
  left_as_they_are parts after collect (run.made _ h) = h

  collected : (parts after : Parts Activity Thing Store) (collect : Bool) → parts ≡ after → Collected_if (language p) parts collect after
  collected parts after false q = subst (Collected_if (language p) parts false) q run.left
  collected parts after true q = run.made after q

  turns_so : (s : State Activity Thing Store) (e f : Entry) (r : Result Activity Thing Store) → e.to ≡ f.to → Turns (language p) given s e r → Turns (language p) given s f r
  turns_so s e f r q (run.unknown h) = run.unknown h
  turns_so s e f r q (run.nobody h none) = run.nobody h none
  turns_so s e f r q (run.spent k h some used) = run.spent k h some used
  turns_so s e f r q (run.goes k n parts _ h some left c chosen carried) =
      run.goes k n parts r h some left (collected s.parts parts f.collect (left_as_they_are s.parts parts e.collect c))
      (subst (λ i. choice (language p) parts i s.running ≡ Some n) q chosen) carried

  runs_so : (s : State Activity Thing Store) (schedule other : List Entry) (turns : ℕ) (r : Result Activity Thing Store) → named_by schedule ≡ named_by other → Runs (language p) given s schedule turns r → Runs (language p) given s other turns r
  runs_so s schedule other turns r q (run.stays _ _) = run.stays s other
  runs_so s schedule other turns r q (run.turn _ u _ n _ turn runs) =
      run.turn s u other n r (turns_so s (first_entry schedule) (first_entry other) (Goes u) (first_named schedule other q) turn)
      (runs_so u (later_entries schedule) (later_entries other) n r (later_named schedule other q) runs)
  runs_so s schedule other turns r q (run.ends _ u _ n o turn) =
      run.ends s u other n o (turns_so s (first_entry schedule) (first_entry other) (Ends u o) (first_named schedule other q) turn)
  runs_so s schedule other turns r q (run.breaks_off _ _ n turn) =
      run.breaks_off s other n (turns_so s (first_entry schedule) (first_entry other) Undefined (first_named schedule other q) turn)

pub collections_ignored : IgnoresCollections
collections_ignored core given schedule other turns r q runs = runs_so (program_of core) given _ schedule other turns r q runs
