-- Loops of sound turns are sound.
use Rattle.std.proofs.Common.{◌≡◌, ℕ, zero, suc, ◌≤◌, ◌<◌, Bool, true, false, List, length, refl, sym, ap, ◌∙◌, subst, arith}
use Rattle.std.specs.Prelude.{nat_lt}
use Rattle.std.proofs.lemmas.Bool.Decides.{nat_tests}
use Rattle.m3_base.specs.declared.outcomes.FaultKind.TheVariants.{Overflow}
use Rattle.m3_values.specs.Programs.{Program}
use Rattle.m3_values.specs.Store.{Store}
use Rattle.m3_source_meaning.specs.Meanings.{Told, Around, Now, Exits, End, Faulted, Evaluates, Acts, done}
use Rattle.m3_source_meaning.specs.Loops.{repeatedly}
use Rattle.m3_source_laws.proofs.Turns.{Takes, goes_on}
use Rattle.m3_source_typing.specs.Stores.{IsLater}
use Rattle.m3_source_typing.specs.Sound.{Scope, Leaving, IsDefined, IsSound, IsGood, AreSoundFor, Does}
use Rattle.m3_source_typing.proofs.Leaving.{same_so_far, Nothing}

-- the end of a course, or any other that is defined
abbrev pub or_any : Bool → End → End
or_any true e = e
or_any false e = Faulted Overflow (record { file = 0; line = 0; col = 0 })

pub is_less : (m n : ℕ) → m < n → nat_lt m n ≡ true
is_less m n h = grind (arith, nat_tests)

pub below : (m n : ℕ) → nat_lt m n ≡ true → m < n
below m n h = grind (arith, nat_tests)

module _ (p : Program) (own : Scope) (a : Leaving) (turn : Evaluates Bool) (takes : Takes turn) (does : (t : Store) → Does p own a t (λ u b. Unit {0}) turn) where
  -- what follows a turn, where it has taken an answer
  abbrev next_exits : ℕ → Around → Exits (Unit {0}) → Exits Bool
  next_exits n around exits = record {
    gives = λ b later. (elim b as (λ x. Acts) [ true ↦ (λ around now exits. or_any (nat_lt (length now.answers) n) (repeatedly turn around now exits)) | false ↦ done ]) around later exits;
    raised = exits.raised;
    exit = exits.exit;
    return = exits.return;
  }

  -- a turn and what follows it
  one_turn : (around : Around) (now : Now) (exits : Exits (Unit {0})) (answers : List Told) → length answers ≤ length now.answers →
      repeatedly turn around (record now { answers = answers }) exits ≡ turn around (record now { answers = answers }) (next_exits (length now.answers) around exits)
  one_turn around now exits answers less =
      goes_on turn takes around (record now { answers = answers }) exits
      ∙ takes.ends around (record now { answers = answers }) _ (next_exits (length now.answers) around exits)
      (λ later fewer. let within : length later.answers < length now.answers = omega arith in sym (ap (λ b. or_any b (repeatedly turn around later exits)) (is_less (length later.answers) (length now.answers) within)))
      (λ later le. refl)
      (record { raised = λ r later le. refl; exit = λ later le. refl; return = λ v later le. refl })

  abbrev IsSoundHere : Around → Exits (Unit {0}) → Now → Type 0
  IsSoundHere around exits now = IsSound p (λ later. repeatedly turn around later exits) now

  cut_sound : (around : Around) (exits : Exits (Unit {0})) (n : ℕ) (later : Now) (b : Bool) → nat_lt (length later.answers) n ≡ b → (b ≡ true → IsSoundHere around exits later) →
      IsSound p (λ now. or_any (nat_lt (length now.answers) n) (repeatedly turn around now exits)) later
  cut_sound around exits n later true is h =
      let less : length later.answers < n = below (length later.answers) n is in
      same_so_far p (λ now. or_any (nat_lt (length now.answers) n) (repeatedly turn around now exits)) (λ now. repeatedly turn around now exits) later
      (λ answers fewer. let within : length answers < n = omega arith in ap (λ b. or_any b (repeatedly turn around (record later { answers = answers }) exits)) (is_less (length answers) n within))
      (h refl)
  cut_sound around exits n later false is h = λ fit. subst (λ b. IsDefined p (or_any b (repeatedly turn around later exits))) (sym is) tt

  -- what follows a turn is sound, where the loop is from fewer answers on
  follows : (s : Store) (around : Around) (now : Now) (exits : Exits (Unit {0})) → ((later : Now) → length later.answers < length now.answers → IsLater s later.memory.store → IsGood p own later.memory → IsSoundHere around exits later) → AreSoundFor p own a s (Nothing p own a) exits → (x : Bool) (later : Now) → IsLater s later.memory.store → IsGood p own later.memory → IsSound p ((next_exits (length now.answers) around exits).gives x) later
  follows s around now exits fewer b true later k fine = cut_sound around exits (length now.answers) later (nat_lt (length later.answers) (length now.answers)) refl (λ is. fewer later (below (length later.answers) (length now.answers) is) k fine)
  follows s around now exits fewer b false later k fine = b.after.gives tt later k fine tt

  turns_sound : (n : ℕ) (s : Store) (around : Around) (now : Now) (exits : Exits (Unit {0})) → length now.answers < n → IsLater s now.memory.store → IsGood p own now.memory → AreSoundFor p own a s (Nothing p own a) exits → IsSoundHere around exits now
  turns_sound zero s around now exits less l good b = absurd (omega arith)
  turns_sound (suc n) s around now exits less l good b =
      same_so_far p (λ later. repeatedly turn around later exits) (λ later. turn around later (next_exits (length now.answers) around exits)) now
      (one_turn around now exits)
      ((does s).ends around now (next_exits (length now.answers) around exits) l good (record {
        after = record {
          gives = λ x later k fine q. follows s around now exits (λ after fewer m well. turns_sound n s around after exits (omega arith) m well b) b x later k fine;
          raised = b.after.raised;
        };
        exit = b.exit;
        return = b.return;
      }))

  pub does_repeatedly : (s : Store) → Does p own a s (Nothing p own a) (repeatedly turn)
  does_repeatedly s = record { ends = λ around now exits l good b. turns_sound (suc (length now.answers)) s around now exits (omega arith) l good b }
