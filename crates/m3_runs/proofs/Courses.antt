-- A run of more turns goes on behind a run of fewer, and takes no more entries than it has turns.
use Rattle.std.proofs.Common.{◌≡◌, ℕ, zero, suc, ◌+◌, ◌≤◌, List, [], ◌∷◌, ◌++◌, length, refl, sym, ap, subst, arith}
use Rattle.m3_base.specs.declared.outcomes.Entry.{Entry}
use Rattle.m3_runs.specs.Languages.{Language}
use Rattle.m3_runs.specs.States.{Given, State}
use Rattle.m3_runs.specs.Runs as run
use Rattle.m3_runs.specs.Runs.{Result, Goes, Ends, Undefined, Turns, Runs, first_entry, later_entries, entries_after}
use Rattle.m3_runs.specs.Laws.{RunsFrom, GoesThrough, GoesOn, IgnoresLaterEntries}

module _ {S V M : Type 0} (L : Language S V M) (given : Given) where
  through : (s : State S V M) (schedule : List Entry) (turns more total : ℕ) (r : Result S V M) → total ≡ turns + more → Runs L given s schedule total r → GoesThrough L given s schedule turns more r
  through s schedule zero more total r e runs =
      let q : total ≡ more = omega (arith, e) in
      record { middle = Goes s; first = run.stays s schedule; rest = subst (λ i. Runs L given s schedule i r) q runs }
  through s schedule (suc n) more total r e (run.stays _ _) = absurd (omega (arith, e))
  through s schedule (suc n) more total r e (run.turn _ u _ t _ turn runs) =
      let k = through u (later_entries schedule) n more t r (omega (arith, e)) runs in
      record { middle = k.middle; first = run.turn s u schedule n k.middle turn k.first; rest = k.rest }
  through s schedule (suc n) more total r e (run.ends _ u _ t o turn) = record { middle = Ends u o; first = run.ends s u schedule n o turn; rest = refl }
  through s schedule (suc n) more total r e (run.breaks_off _ _ t turn) = record { middle = Undefined; first = run.breaks_off s schedule n turn; rest = refl }

  together : (s : State S V M) (schedule : List Entry) (turns more total : ℕ) (middle r : Result S V M) → total ≡ turns + more → Runs L given s schedule turns middle → RunsFrom L given middle (entries_after turns schedule) more r → Runs L given s schedule total r
  together s schedule turns more total middle r e (run.stays _ _) rest = let q : more ≡ total = omega (arith, e) in subst (λ i. Runs L given s schedule i r) q rest
  together s schedule turns more zero middle r e (run.turn _ u _ n _ turn runs) rest = absurd (omega (arith, e))
  together s schedule turns more (suc t) middle r e (run.turn _ u _ n _ turn runs) rest = run.turn s u schedule t r turn (together u (later_entries schedule) n more t middle r (omega (arith, e)) runs rest)
  together s schedule turns more zero middle r e (run.ends _ u _ n o turn) rest = absurd (omega (arith, e))
  together s schedule turns more (suc t) middle r e (run.ends _ u _ n o turn) rest = subst (λ i. Runs L given s schedule (suc t) i) (sym rest) (run.ends s u schedule t o turn)
  together s schedule turns more zero middle r e (run.breaks_off _ _ n turn) rest = absurd (omega (arith, e))
  together s schedule turns more (suc t) middle r e (run.breaks_off _ _ n turn) rest = subst (λ i. Runs L given s schedule (suc t) i) (sym rest) (run.breaks_off s schedule t turn)

  pub goes_on : GoesOn L given
  goes_on s schedule turns more r = (
    λ runs. through s schedule turns more (turns + more) r refl runs,
    λ h. together s schedule turns more (turns + more) h.middle r refl h.first h.rest,
  )

  -- ---- entries that aren't taken

  longer : (s : State S V M) (schedule later : List Entry) (turns : ℕ) (r : Result S V M) → turns ≤ length schedule → Runs L given s schedule turns r → Runs L given s (schedule ++ later) turns r
  longer s schedule later turns r fits (run.stays _ _) = run.stays s (schedule ++ later)
  longer s [] later turns r fits (run.turn _ u _ n _ turn runs) = absurd (omega (arith, fits))
  longer s (e ∷ es) later turns r fits (run.turn _ u _ n _ turn runs) = run.turn s u (e ∷ es ++ later) n r turn (longer u es later n r (omega (arith, fits)) runs)
  longer s [] later turns r fits (run.ends _ u _ n o turn) = absurd (omega (arith, fits))
  longer s (e ∷ es) later turns r fits (run.ends _ u _ n o turn) = run.ends s u (e ∷ es ++ later) n o turn
  longer s [] later turns r fits (run.breaks_off _ _ n turn) = absurd (omega (arith, fits))
  longer s (e ∷ es) later turns r fits (run.breaks_off _ _ n turn) = run.breaks_off s (e ∷ es ++ later) n turn

  first_same : (whole es later : List Entry) (e : Entry) → whole ≡ e ∷ es ++ later → first_entry whole ≡ e
  first_same whole es later e q = ap first_entry q

  shorter : (s : State S V M) (whole schedule later : List Entry) (turns : ℕ) (r : Result S V M) → whole ≡ schedule ++ later → turns ≤ length schedule → Runs L given s whole turns r → Runs L given s schedule turns r
  shorter s whole schedule later turns r q fits (run.stays _ _) = run.stays s schedule
  shorter s whole [] later turns r q fits (run.turn _ u _ n _ turn runs) = absurd (omega (arith, fits))
  shorter s whole (e ∷ es) later turns r q fits (run.turn _ u _ n _ turn runs) =
      run.turn s u (e ∷ es) n r (subst (λ i. Turns L given s i (Goes u)) (first_same whole es later e q) turn) (shorter u (later_entries whole) es later n r (ap later_entries q) (omega (arith, fits)) runs)
  shorter s whole [] later turns r q fits (run.ends _ u _ n o turn) = absurd (omega (arith, fits))
  shorter s whole (e ∷ es) later turns r q fits (run.ends _ u _ n o turn) = run.ends s u (e ∷ es) n o (subst (λ i. Turns L given s i (Ends u o)) (first_same whole es later e q) turn)
  shorter s whole [] later turns r q fits (run.breaks_off _ _ n turn) = absurd (omega (arith, fits))
  shorter s whole (e ∷ es) later turns r q fits (run.breaks_off _ _ n turn) = run.breaks_off s (e ∷ es) n (subst (λ i. Turns L given s i Undefined) (first_same whole es later e q) turn)

  pub ignores_later : IgnoresLaterEntries L given
  ignores_later s schedule later turns r fits = (longer s schedule later turns r fits, shorter s (schedule ++ later) schedule later turns r refl fits)
