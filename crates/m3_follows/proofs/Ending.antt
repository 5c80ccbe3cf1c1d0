-- Two runs that end as the source does end alike.
use Rattle.std.proofs.Common.{◌≡◌, ℕ, ◌+◌, ◌≤◌, List, Ok, refl, sym, ap, ◌∙◌, subst, arith}
use Rattle.std.specs.Prelude.{◌⊎◌, ◌<◌, ◌-◌}
use Rattle.std.proofs.Common.{inl, inr}
use Rattle.std.proofs.lemmas.Bool.{cases_lt}
use Rattle.m3_base.specs.declared.outcomes.Entry.{Entry}
use Rattle.m3_base.specs.declared.outcomes.Outcome.{Outcome}
use Rattle.m3_core.specs.declared.program.Core.{Core}
use Rattle.m3_image.specs.Images.{read_of}
use Rattle.m3_image_sections.specs.Parts.{Image}
use Rattle.m3_runs.specs.States.{Given, start}
use Rattle.m3_runs.specs.Runs.{Ends}
use Rattle.m3_runs.proofs.Once.{runs_once}
use Rattle.m3_runs.proofs.Courses.{goes_on}
use Rattle.m3_run_meaning.specs.Runs.{Config}
use Rattle.m3_values.specs.Programs.{program_of}
use Rattle.m3_source_meaning.specs.Programs.{SourceState, SourceRuns, core_language}
use Rattle.m3_source_meaning.proofs.Determined.{determined}
use Rattle.m3_follows.specs.Settings.{Setting, IsInRange, ImageRuns, DifferInRoom, given_by, points_of}
use Rattle.m3_follows.specs.Source.{EndedAfter}
use Rattle.m3_follows.specs.Follows.{EndsSo, Follows}
use Rattle.m3_follows.specs.Laws.{Ended, HasOneEnd}
use Rattle.m3_follows.proofs.Collections.{collections_ignored}

module _ (core : Core) (given : Given) (schedule : List Entry) where
  -- an outcome stays
  stays_over : (n more : ℕ) (u : SourceState) (o : Outcome) → SourceRuns core given schedule n (Ends u o) → SourceRuns core given schedule (n + more) (Ends u o)
  stays_over n more u o runs =
      (goes_on (core_language core) given (start (core_language core)) schedule n more (Ends u o)).1
      (record { middle = Ends u o; first = runs; rest = refl })

  -- so there is one
  pub record IsSame (u v : SourceState) (o p : Outcome) : Type 0 where
    pub state : u ≡ v
    pub outcome : o ≡ p

  same_end : (u v : SourceState) (o p : Outcome) → Ends u o ≡ Ends v p → IsSame u v o p
  same_end u v o p q = let su : u ≡ v = cc in let so : o ≡ p = cc in record { state = su; outcome = so }

  ends_within : (n m : ℕ) (u v : SourceState) (o p : Outcome) → n ≤ m → SourceRuns core given schedule n (Ends u o) → SourceRuns core given schedule m (Ends v p) → IsSame u v o p
  ends_within n m u v o p le runs others =
      let sum : n + (m - n) ≡ m = omega (arith, le) in
      let longer = subst (λ i. SourceRuns core given schedule i (Ends u o)) sum (stays_over n (m - n) u o runs) in
      same_end u v o p (runs_once (core_language core) (determined (program_of core)) given (start (core_language core)) schedule m (Ends u o) (Ends v p) longer others)

  turned : (u v : SourceState) (o p : Outcome) → IsSame v u p o → IsSame u v o p
  turned u v o p h = record { state = sym h.state; outcome = sym h.outcome }

  by_order : (n m : ℕ) (u v : SourceState) (o p : Outcome) → (n < m) ⊎ (m ≤ n) → SourceRuns core given schedule n (Ends u o) → SourceRuns core given schedule m (Ends v p) → IsSame u v o p
  by_order n m u v o p (inl lt) runs others = ends_within n m u v o p (omega (arith, lt)) runs others
  by_order n m u v o p (inr le) runs others = turned u v o p (ends_within m n v u p o le others runs)

  pub ends_once : (n m : ℕ) (u v : SourceState) (o p : Outcome) → SourceRuns core given schedule n (Ends u o) → SourceRuns core given schedule m (Ends v p) → IsSame u v o p
  ends_once n m u v o p runs others = by_order n m u v o p (cases_lt n m) runs others

same_image : (bytes : List ℕ) (i j : Image) → read_of bytes ≡ Ok i → read_of bytes ≡ Ok j → i ≡ j
same_image bytes i j h k = let q : Ok i ≡ Ok j = sym h ∙ k in let same : i ≡ j = cc in same

same_given : (s other : Setting) → DifferInRoom s other → given_by s ≡ given_by other
same_given s other h = cc

module _ (core : Core) (bytes : List ℕ) (s : Setting) where
  -- a run that has ended did as the source does
  ends_so : (o : Outcome) (c : Config) → Follows core bytes → IsInRange s → Ended bytes s o c → EndsSo core s c o
  ends_so o c follows within e =
      let image = same_image bytes e.image follows.image e.read follows.read in
      let runs = subst (λ i. ImageRuns i.program s e.instructions c) image e.runs in
      (follows.does_so s e.instructions c within runs).ends e.last o e.over e.known

  -- under what another setting gives and names
  so_given : (other : Setting) (turns : ℕ) (u : SourceState) (o : Outcome) → DifferInRoom s other → EndedAfter core s turns u o → (n : ℕ) × SourceRuns core (given_by other) other.schedule n (Ends u o)
  so_given other turns u o same e = (
    e.steps,
    subst (λ g. SourceRuns core g other.schedule e.steps (Ends u o)) (same_given s other same)
        (collections_ignored core (given_by s) s.schedule other.schedule e.steps (Ends u o) same.names e.runs),
  )

pub one_end : HasOneEnd
one_end core bytes s other o p c d follows same within within' e f =
    let so = ends_so core bytes s o c follows within e in
    let also = ends_so core bytes other p d follows within' f in
    let runs = so_given core bytes s other (points_of c) so.state o same so.ended in
    let one = ends_once core (given_by other) other.schedule runs.0 also.ended.steps so.state also.state o p runs.1 also.ended.runs in
    record {
      outcome = one.outcome;
      points = sym so.ended.after ∙ ap (λ u. u.points) one.state ∙ also.ended.after;
      output = sym so.output ∙ ap (λ u. u.output) one.state ∙ also.output;
    }
