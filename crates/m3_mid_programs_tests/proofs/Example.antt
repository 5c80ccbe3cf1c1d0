-- The run of the example.
use Rattle.std.proofs.Common.{◌≡◌, ℕ, true, [], refl, arith}
use Rattle.std.specs.Prelude.{◌<◌, nat_lt}
use Rattle.m3_runs.specs.Runs as run
use Rattle.m3_mid_programs.specs.Activations as place
use Rattle.m3_mid_programs.specs.Activations.{Comes}
use Rattle.m3_mid_programs.specs.Moves as move
use Rattle.m3_mid_programs_tests.specs.Example.{ExamplePuts21}
use Rattle.m3_mid_programs_tests.specs.Raising.{ExamplePutsRaised}
use Rattle.m3_mid_programs_tests.specs.Texts.{ExamplePutsText}
use Rattle.m3_mid_programs.specs.Cells as cells
use Rattle.std.proofs.lemmas.Bool.Decides.{nat_tests}

within_none : 0 < 5
within_none = omega arith

within_one : 1 < 5
within_one = omega arith

within_two : 2 < 5
within_two = omega arith

few : (n : ℕ) → nat_lt n 9 ≡ true → n < 9
few n e = grind (arith, nat_tests)

pub puts_21 : ExamplePuts21
puts_21 = record {
  state = _;
  runs =
      run.turn _ _ _ _ _ (run.goes 0 0 _ _ refl refl within_none (run.left) refl
      (run.carries_out _ _ _ refl (run.begins 0 _ [] _ (move.begins _ _ refl refl
      (place.leads _ _ 0 _ _ refl refl (place.goes _ _ _ _ _ _ refl (place.stands _ _ _ _ _ _ refl)))))
      (run.comes _ _ _ _ (run.stands _ _ _ _))))
      (run.turn _ _ _ _ _ (run.goes 0 0 _ _ refl refl within_one (run.left) refl
      (run.carries_out _ _ _ refl (run.begins 1 _ _ _ (move.begins _ _ refl refl
      (place.leads _ _ 0 _ _ refl refl (place.goes _ _ _ _ _ _ refl (place.goes _ _ _ _ _ _ refl (place.goes _ _ _ _ _ _ refl
      (place.goes _ _ _ _ _ _ refl (place.goes _ _ _ _ _ _ refl (place.leaves _ _ _ refl)))))))))
      (run.comes _ _ _ _ (run.back _ _ _ _ _ _ (move.further _ _ _ _ _ refl refl (place.goes _ _ _ _ _ _ refl (place.stands _ _ _ _ _ _ refl))) (run.stands _ _ _ _)))))
      (run.ends _ _ _ _ _ (run.goes 0 0 _ _ refl refl within_two (run.left) refl
      (run.carries_out _ _ _ refl (run.served _)
      (run.comes _ _ _ _ (run.back _ _ _ _ _ _ (move.further _ _ _ _ _ refl refl (place.leaves _ _ _ refl))
      (run.back _ _ _ _ _ _ (move.next _ []) (run.over _ _))))))));
  output = refl;
}

pub puts_raised : ExamplePutsRaised
puts_raised = record {
  state = _;
  runs =
      run.turn _ _ _ _ _ (run.goes 0 0 _ _ refl refl (few 0 refl) (run.left) refl
      (run.carries_out _ _ _ refl (run.begins 0 _ [] _ (move.begins _ _ refl refl
      (place.leads _ _ 0 _ _ refl refl (place.goes _ _ _ _ _ _ refl (place.goes _ _ _ _ _ _ refl (place.stands _ _ _ _ _ _ refl))))))
      (run.comes _ _ _ _ (run.stands _ _ _ _))))
      (run.turn _ _ _ _ _ (run.goes 0 0 _ _ refl refl (few 1 refl) (run.left) refl
      (run.carries_out _ _ _ refl (run.begins 1 _ _ _ (move.begins _ _ refl refl
      (place.leads _ _ 0 _ _ refl refl (place.goes _ _ _ _ _ _ refl (place.goes _ _ _ _ _ _ refl (place.leaves _ _ _ refl))))))
      (run.comes _ _ _ _ (run.back _ _ _ _ _ _ (move.further _ _ _ _ _ refl refl (place.stands _ _ _ _ _ _ refl)) (run.stands _ _ _ _)))))
      (run.turn _ _ _ _ _ (run.goes 0 0 _ _ refl refl (few 2 refl) (run.left) refl
      (run.carries_out _ _ _ refl (run.served _)
      (run.comes _ _ _ _ (run.back _ _ _ _ _ _ (move.further _ _ _ _ _ refl refl (place.stands _ _ _ _ _ _ refl)) (run.stands _ _ _ _)))))
      (run.ends _ _ _ _ _ (run.goes 0 0 _ _ refl refl (few 3 refl) (run.left) refl
      (run.carries_out _ _ _ refl (run.served _)
      (run.comes _ _ _ _ (run.back _ _ _ _ _ _ (move.further _ _ _ _ _ refl refl (place.leaves _ _ _ refl))
      (run.back _ _ _ _ _ _ (move.next _ []) (run.over _ _)))))))));
  output = refl;
}

pub puts_text : ExamplePutsText
puts_text = record {
  state = _;
  runs =
      run.turn _ _ _ _ _ (run.goes 0 0 _ _ refl refl (few 0 refl) (run.left) refl
      (run.carries_out _ _ _ refl (run.begins 0 _ [] _ (move.begins _ _ refl refl
      (place.leads _ _ 0 _ _ refl refl (place.stands _ _ _ _ _ _ refl))))
      (run.comes _ _ _ _ (run.stands _ _ _ _))))
      (run.turn _ _ _ _ _ (run.goes 0 0 _ _ refl refl (few 1 refl) (run.left) refl
      (run.carries_out _ _ _ refl (run.makes _ _ _ _ (cells.makes _ refl) refl)
      (run.comes _ _ _ _ (run.back _ _ _ _ _ _ (move.further _ _ _ _ _ refl refl (place.stands _ _ _ _ _ _ refl)) (run.stands _ _ _ _)))))
      (run.turn _ _ _ _ _ (run.goes 0 0 _ _ refl refl (few 2 refl) (run.left) refl
      (run.carries_out _ _ _ refl (run.makes _ _ _ _ (cells.makes _ refl) refl)
      (run.comes _ _ _ _ (run.back _ _ _ _ _ _ (move.further _ _ _ _ _ refl refl (place.stands _ _ _ _ _ _ refl)) (run.stands _ _ _ _)))))
      (run.turn _ _ _ _ _ (run.goes 0 0 _ _ refl refl (few 3 refl) (run.left) refl
      (run.carries_out _ _ _ refl (run.makes _ _ _ _ (cells.makes _ refl) refl)
      (run.comes _ _ _ _ (run.back _ _ _ _ _ _ (move.further _ _ _ _ _ refl refl (place.stands _ _ _ _ _ _ refl)) (run.stands _ _ _ _)))))
      (run.ends _ _ _ _ _ (run.goes 0 0 _ _ refl refl (few 4 refl) (run.left) refl
      (run.carries_out _ _ _ refl (run.served _)
      (run.comes _ _ _ _ (run.back _ _ _ _ _ _ (move.further _ _ _ _ _ refl refl (place.leaves _ _ _ refl))
      (run.back _ _ _ _ _ _ (move.next _ []) (run.over _ _))))))))));
  output = refl;
}
