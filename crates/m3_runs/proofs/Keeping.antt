-- What a language keeps holds behind every turn.
use Rattle.std.proofs.Common.{◌≡◌, ℕ, List, ◌∷◌, Some, refl, subst}
use Rattle.m3_runs.specs.Languages.{Move, Thread, Language}
use Rattle.m3_runs.specs.States.{Given, State, thread_at, with_memory, changing, come_to}
use Rattle.m3_runs.specs.Services.{Done}
use Rattle.m3_runs.specs.Runs as run
use Rattle.m3_runs.specs.Runs.{Settled, Stands, Over, Failed, Broken, Result, Goes, Ends, Undefined, Settles, Does, Finishes, Carries_out, Turns, settled}
use Rattle.m3_runs.specs.Follows.{Invariant, anything}
use Rattle.m3_runs.specs.Keeping.{Keeps, TurnsKeep}

module _ {S V M : Type 0} (L : Language S V M) (given : Given) (I : Invariant S V M) (A : Keeps L given I) where
  -- where the activations of a thread come, once they came to this move
  settle : (u after : State S V M) (n : ℕ) (rest : List S) (move : Move S V M) (to : Settled S V M) → I.within u n rest move → Settles L rest move to → settled L u n to ≡ Goes after → I.between after
  settle u after n rest move to known (run.stands _ action s m) e =
      let q : Goes (with_memory (changing (come_to action (s ∷ rest)) n u) m) ≡ Goes after = e in
      let same : with_memory (changing (come_to action (s ∷ rest)) n u) m ≡ after = cc in
      subst I.between same (A.stands u n s rest action m known)
  settle u after n rest move to known (run.over answer m) e = A.ends u after n answer m known e
  settle u after n rest move to known (run.back s ss answer m next _ going later) e = settle u after n ss next to (A.goes u n s ss answer m next known going) later e
  settle u after n rest move to known (run.faults _ kind file line) e = absurd (let bad : Ends u _ ≡ Goes after = e in cc)
  settle u after n rest move to known (run.breaks _) e = absurd (let bad : Undefined ≡ Goes after = e in cc)

  finish : (n : ℕ) (t : Thread S V) (s after : State S V M) (done : Done S V M) (r : Result S V M) → I.acting s n → thread_at s.parts.threads n ≡ Some t → Does L given n t s t.action done → Finishes L n done r → r ≡ Goes after → I.between after
  finish n t s after done r good there does (run.comes u stack move to settles) e = settle u after n stack move to (A.does n t s u stack move good there does) settles e
  finish n t s after done r good there does (run.rests u) e = let same : u ≡ after = cc in subst I.between same (A.rests n t s u good there does)
  finish n t s after done r good there does (run.stops u o) e = absurd (let bad : Ends u o ≡ Goes after = e in cc)

  carry : (n : ℕ) (s after : State S V M) → I.acting s n → Carries_out L given n s (Goes after) → I.between after
  carry n s after good (run.carries_out t done _ there does finishes) = finish n t s after done (Goes after) good there does finishes refl

  pub turns_keep : TurnsKeep L given I
  turns_keep s after entry good (run.goes k n parts _ known low few collected chosen carries) = carry n _ after (A.begins s entry n parts good few collected chosen) carries

-- where nothing is asked, each language keeps it
pub keeps_anything : {S V M : Type 0} (L : Language S V M) (given : Given) → Keeps L given anything
keeps_anything L given = record {
  begins = λ s entry n parts good few collected chosen. tt;
  does = λ n t s after stack move good there does. tt;
  goes = λ u n s rest answer m move known goes. tt;
  stands = λ u n s rest action m known. tt;
  ends = λ u after n answer m known over. tt;
  rests = λ n t s after good there does. tt;
}
