-- An option stands once, and words behind `--` are names.
use Rattle.std.proofs.Common.{◌≡◌, ◌∙◌, Bool, cond, List, [], ◌∷◌, ◌++◌, None, Some, Option, true, false, refl, sym, ap, subst, codes}
use Rattle.std.specs.Str.{bytes_eq}
use Rattle.std.proofs.lemmas.List.{append_assoc}
use Rattle.std.proofs.lemmas.Slice.Eq.{bytes_eq-Decides}
use Rattle.clap.specs.Walk.{Text}
use Rattle.m3c_words.specs.Asked.{asked}
use Rattle.m3c_words.specs.Orders.{Order}
use Rattle.m3c_words.specs.Sentences.{names_asked, with_behind}
use Rattle.m3c_words_laws.specs.Moving.{HasBehind, NeverTwice, UsedIn, UsedTwice, first, here, past_name, past_option}
use Rattle.m3c_words_laws.specs.Reads.{AreApart, Given, IsOneOf, Reads, Spell, apart, behind, ended, flag, is_free, joined, name, options_of_inspect, options_of_runs, reads_bench, reads_build, reads_dump, reads_exec, reads_inspect, reads_run, value_of, with_value}
use Rattle.m3c_words_laws.proofs.Laws.{asked_reads}
use Rattle.m3c_words_laws.proofs.Leaves.{AreLegible, inspect_legible, runs_legible}
use Rattle.m3c_words_laws.proofs.Moving.{first_name, head_same, no_words, other_name, reading, same_behind, spell_as, tail_same}
use Rattle.m3c_words_laws.proofs.Words.{false_true, same_text}

-- ---- once

IsGiven : Text → Given → Type 0
IsGiven option given = value_of option given ≡ None → ⊥

given_first : (option value : Text) (given : Given) → IsGiven option ((option, value) ∷ given)
unfolding IsGiven
given_first option value given none = let some : Some value ≡ None = rw (same_text option) at none in some_none value some
  where
    some_none : (v : Text) → Some v ≡ None → ⊥
    some_none v e = cc

given_behind : (option : Text) (g : Text × Text) (given : Given) → IsGiven option given → IsGiven option (g ∷ given)
unfolding IsGiven
given_behind option g given h none = go (bytes_eq g.0 option) none
  where
    go : (b : Bool) → cond b (Some g.1) (value_of option given) ≡ None → ⊥
    go true e = cc
    go false e = h e

module _ (options : List Text) (legible : AreLegible options) where
  used : (option : Text) (words : List Text) → UsedIn options option words → (given : Given) (names : List Text) → Spell options words given names → IsGiven option given
  used option ws (here words rest is) given names spell =
      let r = reading options legible words option is in
      let k = r.read rest given names spell in
      subst (IsGiven option) (sym k.1) (given_first option r.value k.0)
  used option ws (past_name word words free further) given names spell = let n = first_name options legible _ given names spell word words free refl in used option words further given n.0 n.2
  used option ws (past_option others other words is further) given names spell =
      let r = reading options legible others other is in
      let k = r.read words given names spell in
      subst (IsGiven option) (sym k.1) (given_behind option (other, r.value) k.0 (used option words further k.0 names k.2))

  twice : (option : Text) (words : List Text) → UsedTwice options option words → (given : Given) (names : List Text) → Spell options words given names → AreApart given → ⊥
  unfolding IsGiven
  twice option ws (first words rest is further) given names spell once =
      let r = reading options legible words option is in
      let k = r.read rest given names spell in
      used option rest further k.0 names k.2 ((subst AreApart k.1 once).0)
  twice option ws (past_name word words free further) given names spell once = let n = first_name options legible _ given names spell word words free refl in twice option words further given n.0 n.2 once
  twice option ws (past_option others other words is further) given names spell once =
      let r = reading options legible others other is in
      let k = r.read words given names spell in
      twice option words further k.0 names k.2 ((subst AreApart k.1 once).1)

none_of : (o : Option Order) → ((order : Order) → o ≡ Some order → ⊥) → o ≡ None
none_of None h = refl
none_of (Some order) h = absurd (h order refl)

run_twice : (option : Text) (words ws : List Text) (order : Order) → UsedTwice options_of_runs option words → Reads ws order → ws ≡ codes "run" ∷ words → ⊥
run_twice option words ws o two (reads_build rest image files spell named some) e = other_name (codes "build") (codes "run") rest words refl e
run_twice option words ws o two (reads_exec rest given files options spell some opts) e = other_name (codes "exec") (codes "run") rest words refl e
run_twice option words ws o two (reads_dump rest image spell named) e = other_name (codes "dump") (codes "run") rest words refl e
run_twice option words ws o two (reads_bench rest digits number spell is low) e = other_name (codes "bench") (codes "run") rest words refl e
run_twice option words ws o two (reads_inspect rest given image options spell named opts) e = other_name (codes "inspect") (codes "run") rest words refl e
run_twice option words ws o two (reads_run rest given image options spell named opts) e =
    twice options_of_runs runs_legible option words two given (image ∷ []) (spell_as options_of_runs runs_legible rest words given (image ∷ []) (tail_same (codes "run") (codes "run") rest words e) spell) opts.apart

exec_twice : (option : Text) (words ws : List Text) (order : Order) → UsedTwice options_of_runs option words → Reads ws order → ws ≡ codes "exec" ∷ words → ⊥
exec_twice option words ws o two (reads_build rest image files spell named some) e = other_name (codes "build") (codes "exec") rest words refl e
exec_twice option words ws o two (reads_run rest given image options spell named opts) e = other_name (codes "run") (codes "exec") rest words refl e
exec_twice option words ws o two (reads_dump rest image spell named) e = other_name (codes "dump") (codes "exec") rest words refl e
exec_twice option words ws o two (reads_bench rest digits number spell is low) e = other_name (codes "bench") (codes "exec") rest words refl e
exec_twice option words ws o two (reads_inspect rest given image options spell named opts) e = other_name (codes "inspect") (codes "exec") rest words refl e
exec_twice option words ws o two (reads_exec rest given files options spell some opts) e =
    twice options_of_runs runs_legible option words two given files (spell_as options_of_runs runs_legible rest words given files (tail_same (codes "exec") (codes "exec") rest words e) spell) opts.apart

inspect_twice : (option : Text) (words ws : List Text) (order : Order) → UsedTwice options_of_inspect option words → Reads ws order → ws ≡ codes "inspect" ∷ words → ⊥
inspect_twice option words ws o two (reads_build rest image files spell named some) e = other_name (codes "build") (codes "inspect") rest words refl e
inspect_twice option words ws o two (reads_exec rest given files options spell some opts) e = other_name (codes "exec") (codes "inspect") rest words refl e
inspect_twice option words ws o two (reads_dump rest image spell named) e = other_name (codes "dump") (codes "inspect") rest words refl e
inspect_twice option words ws o two (reads_bench rest digits number spell is low) e = other_name (codes "bench") (codes "inspect") rest words refl e
inspect_twice option words ws o two (reads_run rest given image options spell named opts) e = other_name (codes "run") (codes "inspect") rest words refl e
inspect_twice option words ws o two (reads_inspect rest given image options spell named opts) e =
    twice options_of_inspect inspect_legible option words two given (image ∷ []) (spell_as options_of_inspect inspect_legible rest words given (image ∷ []) (tail_same (codes "inspect") (codes "inspect") rest words e) spell) opts.apart

pub never_twice_run : NeverTwice options_of_runs (codes "run")
never_twice_run option words two texts = none_of (asked (codes "run" ∷ words)) (λ order e. run_twice option words _ order two (asked_reads (codes "run" ∷ words) order texts e) refl)

pub never_twice_exec : NeverTwice options_of_runs (codes "exec")
never_twice_exec option words two texts = none_of (asked (codes "exec" ∷ words)) (λ order e. exec_twice option words _ order two (asked_reads (codes "exec" ∷ words) order texts e) refl)

pub never_twice_inspect : NeverTwice options_of_inspect (codes "inspect")
never_twice_inspect option words two texts = none_of (asked (codes "inspect" ∷ words)) (λ order e. inspect_twice option words _ order two (asked_reads (codes "inspect" ∷ words) order texts e) refl)

-- ---- words behind `--`

EndsWith : List Text → List Text → Type 0
EndsWith back names = (before : List Text) × (names ≡ before ++ back)

one_more : (word : Text) (names back : List Text) → EndsWith back names → EndsWith back (word ∷ names)
unfolding EndsWith
one_more word names back h = (word ∷ h.0, ap (λ (ns : List Text). word ∷ ns) h.1)

no_end : (front back : List Text) → [] ≡ front ++ codes "--" ∷ back → ⊥
no_end [] back e = no_words (codes "--") back e
no_end (f ∷ front) back e = no_words f (front ++ codes "--" ∷ back) e

not_free : is_free (codes "--") ≡ true → ⊥
not_free e = false_true e

module _ (options : List Text) (some : (o : Text) → IsOneOf o options → o ≡ [] → ⊥) where
  behind_names : (names front back : List Text) → codes "--" ∷ names ≡ front ++ codes "--" ∷ back → EndsWith back names
  unfolding EndsWith
  behind_names names [] back e = ([], tail_same (codes "--") (codes "--") names back e)
  behind_names names (f ∷ front) back e = (front ++ codes "--" ∷ [], tail_same (codes "--") f names (front ++ codes "--" ∷ back) e ∙ sym (append_assoc front (codes "--" ∷ []) back))

  ends : (ws : List Text) (given : Given) (names : List Text) → Spell options ws given names → (front back : List Text) → ws ≡ front ++ codes "--" ∷ back → EndsWith back names
  ends ws gs ns ended front back e = absurd (no_end front back e)
  ends ws gs ns (behind names) front back e = behind_names names front back e
  ends ws gs ns (name w words given names free spell) [] back e = absurd (not_free (subst (λ (x : Text). is_free x ≡ true) (head_same w (codes "--") words back e) free))
  ends ws gs ns (name w words given names free spell) (f ∷ front) back e = one_more w names back (ends words given names spell front back (tail_same w f words (front ++ codes "--" ∷ back) e))
  ends ws gs ns (apart o v words given names among takes free spell) [] back e = absurd (some o among (same_behind o [] (head_same (codes "--" ++ o) (codes "--") (v ∷ words) back e)))
  ends ws gs ns (apart o v words given names among takes free spell) (f ∷ []) back e =
      let rest = tail_same (codes "--" ++ o) f (v ∷ words) (codes "--" ∷ back) e in
      absurd (not_free (subst (λ (x : Text). is_free x ≡ true) (head_same v (codes "--") words back rest) free))
  ends ws gs ns (apart o v words given names among takes free spell) (f ∷ g ∷ front) back e =
      let rest = tail_same (codes "--" ++ o) f (v ∷ words) (g ∷ (front ++ codes "--" ∷ back)) e in
      ends words given names spell front back (tail_same v g words (front ++ codes "--" ∷ back) rest)
  ends ws gs ns (joined o v words given names among takes spell) [] back e = absurd (no_value o v (sym (same_behind (o ++ 61 ∷ v) [] (head_same (with_value o v) (codes "--") words back e))))
    where
      no_value : (o v : Text) → [] ≡ o ++ 61 ∷ v → ⊥
      no_value [] v e = no_words 61 v e
      no_value (x ∷ o) v e = no_words x (o ++ 61 ∷ v) e
  ends ws gs ns (joined o v words given names among takes spell) (f ∷ front) back e = ends words given names spell front back (tail_same (with_value o v) f words (front ++ codes "--" ∷ back) e)
  ends ws gs ns (flag o words given names among none spell) [] back e = absurd (some o among (same_behind o [] (head_same (codes "--" ++ o) (codes "--") words back e)))
  ends ws gs ns (flag o words given names among none spell) (f ∷ front) back e = ends words given names spell front back (tail_same (codes "--" ++ o) f words (front ++ codes "--" ∷ back) e)

no_option : (o : Text) → IsOneOf o [] → o ≡ [] → ⊥
no_option o h e = h

-- of whatever command is read
read_behind : (ws : List Text) (order : Order) → Reads ws order → (command : Text) (front back : List Text) → bytes_eq command (codes "bench") ≡ false → ws ≡ with_behind command front back → EndsWith back (names_asked order)
read_behind ws o (reads_build rest image files spell named some) command front back other e = ends [] no_option rest [] (image ∷ files) spell front back (tail_same (codes "build") command rest (front ++ codes "--" ∷ back) e)
read_behind ws o (reads_run rest given image options spell named opts) command front back other e = ends options_of_runs runs_legible.some rest given (image ∷ []) spell front back (tail_same (codes "run") command rest (front ++ codes "--" ∷ back) e)
read_behind ws o (reads_inspect rest given image options spell named opts) command front back other e = ends options_of_inspect inspect_legible.some rest given (image ∷ []) spell front back (tail_same (codes "inspect") command rest (front ++ codes "--" ∷ back) e)
read_behind ws o (reads_exec rest given files options spell some opts) command front back other e = ends options_of_runs runs_legible.some rest given files spell front back (tail_same (codes "exec") command rest (front ++ codes "--" ∷ back) e)
read_behind ws o (reads_dump rest image spell named) command front back other e = ends [] no_option rest [] (image ∷ []) spell front back (tail_same (codes "dump") command rest (front ++ codes "--" ∷ back) e)
read_behind ws o (reads_bench rest digits number spell is low) command front back other e = absurd (false_true (sym other ∙ (bytes_eq-Decides command (codes "bench")).1 (sym (head_same (codes "bench") command rest (front ++ codes "--" ∷ back) e))))

pub behind_are_names : (command : Text) → bytes_eq command (codes "bench") ≡ false → HasBehind command
unfolding EndsWith
behind_are_names command other front back order texts e = read_behind _ order (asked_reads (with_behind command front back) order texts e) command front back other refl
