-- The example's run over named cells, turn by turn.
use Rattle.std.proofs.Common.{◌<◌, refl, arith}
use Rattle.m3_runs.specs.Runs as run
use Rattle.m3_runs.specs.Runs.{Result, Goes, Ends, Runs}
use Rattle.m3_runs_tests.specs.Named as named
use Rattle.m3_runs_tests.specs.Named.{Named_state, named}
use Rattle.m3_runs_tests.specs.Example.{ExamplePutsOne}

within_none : 0 < 5
within_none = omega arith

within_one : 1 < 5
within_one = omega arith

within_two : 2 < 5
within_two = omega arith

within_three : 3 < 5
within_three = omega arith

within_four : 4 < 5
within_four = omega arith

pub puts_one : ExamplePutsOne
puts_one = record {
  state = _;
  runs =
      run.turn _ _ _ _ _ (run.goes 0 0 _ _ refl refl within_none run.left refl
      (run.carries_out _ _ _ refl (run.begins 0 _ _ _ (named.enters 1 _ refl)) (run.comes _ _ _ _ (run.stands _ _ _ _))))
      (run.turn _ _ _ _ _ (run.goes 0 0 _ _ refl refl within_one run.left refl
      (run.carries_out _ _ _ refl (run.makes _ _ _ _ (named.made 2 refl) refl) (run.comes _ _ _ _ (run.back _ _ _ _ _ _ (1, refl) (run.stands _ _ _ _)))))
      (run.turn _ _ _ _ _ (run.goes 0 0 _ _ refl refl within_two run.left refl
      (run.carries_out _ _ _ refl (run.makes _ _ _ _ (named.made 1 refl) refl) (run.comes _ _ _ _ (run.back _ _ _ _ _ _ (1, refl) (run.stands _ _ _ _)))))
      (run.turn _ _ _ _ _ (run.goes 0 0 _ _ refl refl within_three run.left refl
      (run.carries_out _ _ _ refl run.passes (run.comes _ _ _ _ (run.back _ _ _ _ _ _ (2, refl) (run.stands _ _ _ _)))))
      (run.ends _ _ _ _ _ (run.goes 0 0 _ _ refl refl within_four run.left refl
      (run.carries_out _ _ _ refl (run.served _) (run.comes _ _ _ _ (run.back _ _ _ _ _ _ (1, refl) (run.back _ _ _ _ _ _ (0, refl) (run.over _ _))))))))));
  output = refl;
}
