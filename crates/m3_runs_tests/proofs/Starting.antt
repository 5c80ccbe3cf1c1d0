-- Two programs start alike; and what follows of their runs.
use Rattle.std.proofs.Common.{◌≡◌, ℕ, [], ◌∷◌, Some, None, refl}
use Rattle.m3_runs.specs.States.{start, beginning}
use Rattle.m3_runs.specs.Follows as rel
use Rattle.m3_runs.specs.Follows.{Each, none, more, Both, both, anything, Shows}
use Rattle.m3_runs.proofs.Showing.{shown_so}
use Rattle.m3_runs_tests.specs.Code.{Code}
use Rattle.m3_runs_tests.specs.Meaning.{Plain, Lowest}
use Rattle.m3_runs_tests.specs.Named.{Number, named}
use Rattle.m3_runs_tests.specs.Moving.{Machine, moving}
use Rattle.m3_runs_tests.specs.Sound as sound
use Rattle.m3_runs_tests.specs.Sound.{Sound, World, standing, room}
use Rattle.m3_runs_tests.specs.Laws.{ProgramsMoveUnseen, ShowsTheSame}
use Rattle.m3_runs_tests.proofs.Going.{heap_there}
use Rattle.m3_runs_tests.proofs.Collecting.{follows, unseen}

module _ (c : Code) (k : Machine) (check : Sound c k.places k.limit) where
  abbrev Nowhere : World c k.places k.limit
  Nowhere e = None

  nowhere : (e a : ℕ) → Nowhere e ≡ Some a → ⊥
  nowhere e a h = let no : ⊥ = cc in no

  starts_so : Shows (standing c k.places k.limit) Nowhere (start (named c k.limit)) (start (moving c k))
  starts_so = record {
    parts = record {
      threads = more (Some (beginning (named c k.limit).main_cell (named c k.limit).main)) (Some (beginning (moving c k).main_cell (moving c k).main)) [] []
          (both _ _ (record {
            action = rel.calls 0 (Plain (Number 0)) (Plain 0) (Plain (Number 0) ∷ []) (Plain 0 ∷ []) (sound.plain 0) (more (Plain (Number 0)) (Plain 0) [] [] (sound.plain 0) none);
            status = rel.ready;
            alerted = refl;
            cell = sound.tidy (Number 0) 0 (refl, heap_there c k.places k.limit Nowhere check);
            stack = more Lowest Lowest [] [] sound.lowest none;
          })) none;
      memory = record {
        words = λ e a i v h. absurd (nowhere e a h);
        sized = λ e a h. absurd (nowhere e a h);
        fresh = λ e a h. absurd (nowhere e a h);
        one = λ d e a h. absurd (nowhere d a h);
        high = λ e a h. absurd (nowhere e a h);
        apart = λ a b i j n l h. absurd (let bad : None ≡ Some n = h in cc);
      };
    };
    counts = record { output = refl; taken = refl; points = refl; running = refl; waits = refl };
  }

pub program_unseen : ProgramsMoveUnseen
program_unseen c k given check schedule turns r' h = unseen c k given check (Nowhere c k check) (start (named c k.limit)) (start (moving c k)) schedule turns r' (starts_so c k check) h

pub shows_same : ShowsTheSame
shows_same c k check = shown_so (standing c k.places k.limit) (named c k.limit) (moving c k) anything anything (room c k.places k.limit k.depth) (follows c k check)
