-- The commands: their options, their names, and where a walk over their words begins.
use Rattle.std.proofs.Common.{◌≡◌, ◌∙◌, ℕ, List, [], ◌∷◌, Some, true, false, refl, sym, subst, inl, inr, codes}
use Rattle.std.specs.Str.{bytes_eq}
use Rattle.clap.proofs.CutLemmas.{Lacks}
use Rattle.clap.specs.Simple.{Shape, filled_from}
use Rattle.clap.specs.Walk.{Row, Rule, Text, arg_by_id, arg_by_long, nothing_held, reading_by}
use Rattle.m3c_words.specs.Grammar.{bench_command, build_command, dump_command, exec_command, inspect_command, run_command}
use Rattle.m3c_words_laws.specs.Reads.{Given, IsOneOf, Spell, ended, behind, name, apart, joined, flag, takes_value, options_of_inspect, options_of_runs, options_with}
use Rattle.m3c_words_laws.proofs.Finding.{other_values, turned}
use Rattle.m3c_words_laws.proofs.Names.{HasFiles, HasImage, HasName, IsFirst, IsPlaceOf, file_id, image_and_files, image_id, one_name, some_files}
use Rattle.m3c_words_laws.proofs.Steps.{Knows, flagged, optioned}
use Rattle.m3c_words_laws.proofs.Walking.{Keeps, Stands, TakesNames}
use Rattle.m3c_words_laws.proofs.Words.{differs, false_true, lacks_equals}

-- the rules of each, as clap builds them
abbrev pub rules_of : Shape → List Rule
rules_of s = filled_from 1 s.rules

-- ---- options

every : (points : Text) (P : Text → Type 0) → P (codes "switches") → P points → P (codes "heap") → P (codes "stack") → P (codes "threads") → P (codes "input") → P (codes "young") → (o : Text) → IsOneOf o (options_with points) → P o
every points P a b c d e f g o (inl h) = subst P (sym h) a
every points P a b c d e f g o (inr (inl h)) = subst P (sym h) b
every points P a b c d e f g o (inr (inr (inl h))) = subst P (sym h) c
every points P a b c d e f g o (inr (inr (inr (inl h)))) = subst P (sym h) d
every points P a b c d e f g o (inr (inr (inr (inr (inl h))))) = subst P (sym h) e
every points P a b c d e f g o (inr (inr (inr (inr (inr (inl h)))))) = subst P (sym h) f
every points P a b c d e f g o (inr (inr (inr (inr (inr (inr (inl h))))))) = subst P (sym h) g
every points P a b c d e f g o (inr (inr (inr (inr (inr (inr (inr h))))))) = absurd h

-- each has a byte, and none has `=`
pub record AreLegible (options : List Text) : Type 0 where
  pub some : (o : Text) → IsOneOf o options → o ≡ [] → ⊥
  pub lacks : (o : Text) → IsOneOf o options → Lacks 61 o

legible : (points : Text) → (points ≡ [] → ⊥) → Lacks 61 points → AreLegible (options_with points)
legible points some lacks = record {
  some = every points (λ o. o ≡ [] → ⊥) (λ e. cc) some (λ e. cc) (λ e. cc) (λ e. cc) (λ e. cc) (λ e. cc);
  lacks = every points (Lacks 61) (lacks_equals (codes "switches") refl) lacks (lacks_equals (codes "heap") refl) (lacks_equals (codes "stack") refl) (lacks_equals (codes "threads") refl) (lacks_equals (codes "input") refl) (lacks_equals (codes "young") refl);
}

pub runs_legible : AreLegible options_of_runs
runs_legible = legible (codes "points") (λ e. cc) (lacks_equals (codes "points") refl)

pub inspect_legible : AreLegible options_of_inspect
inspect_legible = legible (codes "at") (λ e. cc) (lacks_equals (codes "at") refl)

pub knows_exec : Knows (rules_of exec_command) options_of_runs
knows_exec = record {
  by_id = every (codes "points") (λ o. takes_value o ≡ true → arg_by_id (rules_of exec_command) o ≡ Some (optioned o)) (λ t. refl) (λ t. refl) (λ t. refl) (λ t. refl) (λ t. refl) (λ t. refl) (λ t. absurd (false_true t));
  by_long = every (codes "points") (λ o. takes_value o ≡ true → arg_by_long (rules_of exec_command) o ≡ Some (optioned o)) (λ t. refl) (λ t. refl) (λ t. refl) (λ t. refl) (λ t. refl) (λ t. refl) (λ t. absurd (false_true t));
  flags = every (codes "points") (λ o. takes_value o ≡ false → arg_by_long (rules_of exec_command) o ≡ Some (flagged o)) (λ t. absurd (false_true (sym t))) (λ t. absurd (false_true (sym t))) (λ t. absurd (false_true (sym t))) (λ t. absurd (false_true (sym t))) (λ t. absurd (false_true (sym t))) (λ t. absurd (false_true (sym t))) (λ t. refl);
  none = λ o no. rw (
    differs (codes "switches") o (λ e. no (inl e)),
    differs (codes "points") o (λ e. no (inr (inl e))),
    differs (codes "heap") o (λ e. no (inr (inr (inl e)))),
    differs (codes "stack") o (λ e. no (inr (inr (inr (inl e))))),
    differs (codes "threads") o (λ e. no (inr (inr (inr (inr (inl e)))))),
    differs (codes "input") o (λ e. no (inr (inr (inr (inr (inr (inl e))))))),
    differs (codes "young") o (λ e. no (inr (inr (inr (inr (inr (inr (inl e)))))))),
  ) refl;
  no_short = λ x. refl;
  lacks = runs_legible.lacks;
  some = runs_legible.some;
}

pub knows_run : Knows (rules_of run_command) options_of_runs
knows_run = record {
  by_id = every (codes "points") (λ o. takes_value o ≡ true → arg_by_id (rules_of run_command) o ≡ Some (optioned o)) (λ t. refl) (λ t. refl) (λ t. refl) (λ t. refl) (λ t. refl) (λ t. refl) (λ t. absurd (false_true t));
  by_long = every (codes "points") (λ o. takes_value o ≡ true → arg_by_long (rules_of run_command) o ≡ Some (optioned o)) (λ t. refl) (λ t. refl) (λ t. refl) (λ t. refl) (λ t. refl) (λ t. refl) (λ t. absurd (false_true t));
  flags = every (codes "points") (λ o. takes_value o ≡ false → arg_by_long (rules_of run_command) o ≡ Some (flagged o)) (λ t. absurd (false_true (sym t))) (λ t. absurd (false_true (sym t))) (λ t. absurd (false_true (sym t))) (λ t. absurd (false_true (sym t))) (λ t. absurd (false_true (sym t))) (λ t. absurd (false_true (sym t))) (λ t. refl);
  none = λ o no. rw (
    differs (codes "switches") o (λ e. no (inl e)),
    differs (codes "points") o (λ e. no (inr (inl e))),
    differs (codes "heap") o (λ e. no (inr (inr (inl e)))),
    differs (codes "stack") o (λ e. no (inr (inr (inr (inl e))))),
    differs (codes "threads") o (λ e. no (inr (inr (inr (inr (inl e)))))),
    differs (codes "input") o (λ e. no (inr (inr (inr (inr (inr (inl e))))))),
    differs (codes "young") o (λ e. no (inr (inr (inr (inr (inr (inr (inl e)))))))),
  ) refl;
  no_short = λ x. refl;
  lacks = runs_legible.lacks;
  some = runs_legible.some;
}

pub knows_inspect : Knows (rules_of inspect_command) options_of_inspect
knows_inspect = record {
  by_id = every (codes "at") (λ o. takes_value o ≡ true → arg_by_id (rules_of inspect_command) o ≡ Some (optioned o)) (λ t. refl) (λ t. refl) (λ t. refl) (λ t. refl) (λ t. refl) (λ t. refl) (λ t. absurd (false_true t));
  by_long = every (codes "at") (λ o. takes_value o ≡ true → arg_by_long (rules_of inspect_command) o ≡ Some (optioned o)) (λ t. refl) (λ t. refl) (λ t. refl) (λ t. refl) (λ t. refl) (λ t. refl) (λ t. absurd (false_true t));
  flags = every (codes "at") (λ o. takes_value o ≡ false → arg_by_long (rules_of inspect_command) o ≡ Some (flagged o)) (λ t. absurd (false_true (sym t))) (λ t. absurd (false_true (sym t))) (λ t. absurd (false_true (sym t))) (λ t. absurd (false_true (sym t))) (λ t. absurd (false_true (sym t))) (λ t. absurd (false_true (sym t))) (λ t. refl);
  none = λ o no. rw (
    differs (codes "switches") o (λ e. no (inl e)),
    differs (codes "at") o (λ e. no (inr (inl e))),
    differs (codes "heap") o (λ e. no (inr (inr (inl e)))),
    differs (codes "stack") o (λ e. no (inr (inr (inr (inl e))))),
    differs (codes "threads") o (λ e. no (inr (inr (inr (inr (inl e)))))),
    differs (codes "input") o (λ e. no (inr (inr (inr (inr (inr (inl e))))))),
    differs (codes "young") o (λ e. no (inr (inr (inr (inr (inr (inr (inl e)))))))),
  ) refl;
  no_short = λ x. refl;
  lacks = inspect_legible.lacks;
  some = inspect_legible.some;
}

abbrev KnowsNone : List Rule → Type 0
KnowsNone c = Knows c []

pub knows_build : KnowsNone (rules_of build_command)
knows_build = record { by_id = λ o h t. absurd h; by_long = λ o h t. absurd h; flags = λ o h t. absurd h; none = λ o no. refl; no_short = λ x. refl; lacks = λ o h. absurd h; some = λ o h. absurd h }

pub knows_dump : KnowsNone (rules_of dump_command)
knows_dump = record { by_id = λ o h t. absurd h; by_long = λ o h t. absurd h; flags = λ o h t. absurd h; none = λ o no. refl; no_short = λ x. refl; lacks = λ o h. absurd h; some = λ o h. absurd h }

pub knows_bench : KnowsNone (rules_of bench_command)
knows_bench = record { by_id = λ o h t. absurd h; by_long = λ o h t. absurd h; flags = λ o h t. absurd h; none = λ o no. refl; no_short = λ x. refl; lacks = λ o h. absurd h; some = λ o h. absurd h }

-- ---- names

file_apart : (o : Text) → IsOneOf o options_of_runs → bytes_eq file_id o ≡ false
file_apart = every (codes "points") (λ o. bytes_eq file_id o ≡ false) refl refl refl refl refl refl refl

image_apart : (points : Text) → bytes_eq image_id points ≡ false → (o : Text) → IsOneOf o (options_with points) → bytes_eq image_id o ≡ false
image_apart points differs = every points (λ o. bytes_eq image_id o ≡ false) refl differs refl refl refl refl refl

pub names_exec : TakesNames (codes "exec") (rules_of exec_command) options_of_runs 256 HasFiles IsFirst
names_exec = some_files (codes "exec") (rules_of exec_command) options_of_runs (λ p. refl) refl file_apart

pub names_run : TakesNames (codes "run") (rules_of run_command) options_of_runs 1 (HasName image_id) IsPlaceOf
names_run = one_name (codes "run") image_id (rules_of run_command) options_of_runs (λ p. refl) refl (image_apart (codes "points") refl)

pub names_inspect : TakesNames (codes "inspect") (rules_of inspect_command) options_of_inspect 1 (HasName image_id) IsPlaceOf
names_inspect = one_name (codes "inspect") image_id (rules_of inspect_command) options_of_inspect (λ p. refl) refl (image_apart (codes "at") refl)

pub names_dump : TakesNames (codes "dump") (rules_of dump_command) [] 1 (HasName image_id) IsPlaceOf
names_dump = one_name (codes "dump") image_id (rules_of dump_command) [] (λ p. refl) refl (λ o h. absurd h)

pub names_bench : TakesNames (codes "bench") (rules_of bench_command) [] 1 (HasName (codes "N")) IsPlaceOf
names_bench = one_name (codes "bench") (codes "N") (rules_of bench_command) [] (λ p. refl) refl (λ o h. absurd h)

pub names_build : TakesNames (codes "build") (rules_of build_command) [] 257 HasImage IsPlaceOf
names_build = image_and_files (codes "build") (rules_of build_command) (λ p. refl) refl refl

-- an option leaves them
pub keeps_files : Keeps options_of_runs HasFiles
keeps_files o v rows names among none has = other_values o (reading_by (optioned o)) file_id (v ∷ []) rows (turned file_id o (file_apart o among)) ∙ has

pub keeps_image : (points : Text) → bytes_eq image_id points ≡ false → Keeps (options_with points) (HasName image_id)
keeps_image points differs o v rows names among none has = (other_values o (reading_by (optioned o)) image_id (v ∷ []) rows (turned image_id o (image_apart points differs o among)) ∙ has.0, has.1)

pub keeps_none : (AreNames : List Row → List Text → Type 0) → Keeps [] AreNames
keeps_none AreNames o v rows names among none has = absurd among

-- ---- the start

pub starts : (c : List Rule) (options : List Text) (most : ℕ) (AreNames : List Row → List Text → Type 0) (IsPlace : ℕ → List Text → Type 0) → IsPlace 1 [] → AreNames [] [] → Stands c options most AreNames IsPlace nothing_held 1 [] []
starts c options most AreNames IsPlace at none = record {
  skip = refl;
  place = at;
  full = tt;
  settles = λ e. record { apart = tt; known = λ o among. refl; named = none; explicit = tt };
  fits = λ once few. refl;
}

-- no option is spelled where a command has none
pub no_given : (words : List Text) (given : Given) (names : List Text) → Spell [] words given names → given ≡ []
no_given ws gs ns ended = refl
no_given ws gs ns (behind names) = refl
no_given ws gs ns (name word words given names is spell) = no_given words given names spell
no_given ws gs ns (apart o v words given names among takes is spell) = absurd among
no_given ws gs ns (joined o v words given names among takes spell) = absurd among
no_given ws gs ns (flag o words given names among none spell) = absurd among
