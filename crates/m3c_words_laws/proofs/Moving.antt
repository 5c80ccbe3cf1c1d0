-- An option may change its place.
use Rattle.std.proofs.Common.{◌≡◌, ◌≢◌, ◌∙◌, ℕ, Bool, cond, List, [], ◌∷◌, ◌++◌, None, Some, Option, true, false, refl, sym, ap, subst, codes}
use Rattle.std.specs.Prelude.{is_some}
use Rattle.std.specs.Str.{bytes_eq}
use Rattle.std.proofs.lemmas.Slice.Eq.{bytes_eq-Decides}
use Rattle.clap.proofs.LexerLemmas.{name_and_value-at, name_and_value-without}
use Rattle.clap.specs.Lexer.{name_and_value}
use Rattle.clap.specs.Walk.{Text}
use Rattle.m3c_words.specs.Asked.{asked}
use Rattle.m3c_words.specs.Orders.{Options, Order}
use Rattle.m3c_words_laws.specs.Moving.{IsOption, IsSameMoved, Moved, alone, behind_name, behind_option, in_one, in_two, over_name, over_option}
use Rattle.m3c_words_laws.specs.Reads.{AreApart, AreOptionsBy, Given, IsGivenName, IsLimit, IsOneOf, IsSaid, Reads, Spell, apart, behind, ended, flag, flag_value, is_free, joined, name, options_of_inspect, options_of_runs, reads_bench, reads_build, reads_dump, reads_exec, reads_inspect, reads_run, takes_value, value_of, with_value}
use Rattle.m3c_words_laws.proofs.Laws.{asked_reads, reads_asked}
use Rattle.m3c_words_laws.proofs.Leaves.{AreLegible, inspect_legible, runs_legible}
use Rattle.m3c_words_laws.proofs.Words.{false_true, some_bytes}

-- ---- lists

pub head_same : {X : Type 0} (x y : X) (xs ys : List X) → x ∷ xs ≡ y ∷ ys → x ≡ y
head_same x y xs ys e = cc

pub tail_same : {X : Type 0} (x y : X) (xs ys : List X) → x ∷ xs ≡ y ∷ ys → xs ≡ ys
tail_same x y xs ys e = cc

pub no_words : {X : Type 0} (x : X) (xs : List X) → [] ≡ x ∷ xs → ⊥
no_words x xs e = cc

-- ---- words that are options aren't free

pub dashed : (o : Text) → is_free (45 ∷ 45 ∷ o) ≡ true → ⊥
dashed o e = some_bytes 45 o e

pub same_behind : (a b : Text) → 45 ∷ 45 ∷ a ≡ 45 ∷ 45 ∷ b → a ≡ b
same_behind a b e = tail_same 45 45 a b (tail_same 45 45 (45 ∷ a) (45 ∷ b) e)

-- ---- the same options in another order

record Alike (given other : Given) : Type 0 where
  values : (o : Text) → value_of o given ≡ value_of o other
  once : AreApart given → AreApart other

alike : (given : Given) → Alike given given
alike given = record { values = λ o. refl; once = λ h. h }

alike_behind : (g : Text × Text) (given other : Given) → Alike given other → Alike (g ∷ given) (g ∷ other)
alike_behind g given other h = record {
  values = λ o. ap (λ (v : Option Text). cond (bytes_eq g.0 o) (Some g.1) v) (h.values o);
  once = λ k. (sym (h.values g.0) ∙ k.0, h.once k.1);
}

unlike : (a b : Text) → a ≢ b → bytes_eq a b ≡ false
unlike a b h = go (bytes_eq a b) refl
  where
    go : (t : Bool) → bytes_eq a b ≡ t → t ≡ false
    go true e = absurd (h ((bytes_eq-Decides a b).0 e))
    go false e = refl

swapped : (g k : Text × Text) (given : Given) → g.0 ≢ k.0 → Alike (g ∷ k ∷ given) (k ∷ g ∷ given)
swapped g k given h = record { values = value; once = once }
  where
    value : (o : Text) → value_of o (g ∷ k ∷ given) ≡ value_of o (k ∷ g ∷ given)
    value o = go (bytes_eq g.0 o) (bytes_eq k.0 o) refl refl
      where
        go : (a b : Bool) → bytes_eq g.0 o ≡ a → bytes_eq k.0 o ≡ b → cond a (Some g.1) (cond b (Some k.1) (value_of o given)) ≡ cond b (Some k.1) (cond a (Some g.1) (value_of o given))
        go true true e f = absurd (h ((bytes_eq-Decides g.0 o).0 e ∙ sym ((bytes_eq-Decides k.0 o).0 f)))
        go true false e f = refl
        go false true e f = refl
        go false false e f = refl

    once : AreApart (g ∷ k ∷ given) → AreApart (k ∷ g ∷ given)
    once a =
        let first : value_of g.0 given ≡ None = rw (unlike k.0 g.0 (λ e. h (sym e))) at a.0 in
        (rw (unlike g.0 k.0 h) a.1.0, (first, a.1.1))

-- a flag is no option with a value
never_flag : (o p : Text) → takes_value o ≡ false → takes_value p ≡ true → o ≡ p → ⊥
never_flag o p none takes e = false_true (sym none ∙ ap takes_value e ∙ takes)

module _ (options : List Text) (legible : AreLegible options) where
  -- a name without `=` is no name with a value
  never_both : (o p v : Text) → IsOneOf o options → IsOneOf p options → o ≡ p ++ 61 ∷ v → ⊥
  never_both o p v h k e = none_some (sym (name_and_value-without o (legible.lacks o h)) ∙ ap name_and_value e ∙ name_and_value-at p v (legible.lacks p k))
    where
      none_some : ◌≡◌ {A = Text × Option Text} (o, None) (p, Some v) → ⊥
      none_some e = let second : None ≡ Some v = ap (λ (q : Text × Option Text). q.1) e in cc

  same_value : (o p v w : Text) → IsOneOf o options → IsOneOf p options → o ++ 61 ∷ v ≡ p ++ 61 ∷ w → (o ≡ p) × (v ≡ w)
  same_value o p v w h k e =
      let both : ◌≡◌ {A = Text × Option Text} (o, Some v) (p, Some w) = sym (name_and_value-at o v (legible.lacks o h)) ∙ ap name_and_value e ∙ name_and_value-at p w (legible.lacks p k) in
      (ap (λ (q : Text × Option Text). q.0) both, same v w (ap (λ (q : Text × Option Text). q.1) both))
    where
      same : (v w : Text) → Some v ≡ Some w → v ≡ w
      same v w e = cc

  no_rest : (o v : Text) → IsOneOf o options → [] ≡ o ++ 61 ∷ v → ⊥
  no_rest o v h e = never_empty o e
    where
      never_empty : (o : Text) → [] ≡ o ++ 61 ∷ v → ⊥
      never_empty [] e = no_words 61 v e
      never_empty (x ∷ o) e = no_words x (o ++ 61 ∷ v) e

  -- ---- what a first word spells

  abbrev pub Spells : List Text → Given → List Text → Type 0
  Spells = Spell options

  abbrev pub Named : Text → List Text → Given → List Text → Type 0
  Named word rest given names = (others : List Text) × (names ≡ word ∷ others) × Spells rest given others

  pub spell_as : (a b : List Text) (given : Given) (names : List Text) → a ≡ b → Spells a given names → Spells b given names
  spell_as a b given names e h = subst (λ (ws : List Text). Spells ws given names) e h

  pub first_name : (ws : List Text) (given : Given) (names : List Text) → Spells ws given names → (word : Text) (rest : List Text) → is_free word ≡ true → ws ≡ word ∷ rest → Named word rest given names
  first_name ws gs ns ended word rest is e = absurd (no_words word rest e)
  first_name ws gs ns (behind names) word rest is e = absurd (dashes_free (subst (λ (w : Text). is_free w ≡ true) (sym (head_same (codes "--") word names rest e)) is))
    where
      dashes_free : is_free (codes "--") ≡ true → ⊥
      dashes_free e = false_true e
  first_name ws gs ns (name w words given names free spell) word rest is e = (names, ap (λ (x : Text). x ∷ names) (head_same w word words rest e), spell_as words rest given names (tail_same w word words rest e) spell)
  first_name ws gs ns (apart o v words given names among takes free spell) word rest is e = absurd (dashed o (subst (λ (w : Text). is_free w ≡ true) (sym (head_same (codes "--" ++ o) word (v ∷ words) rest e)) is))
  first_name ws gs ns (joined o v words given names among takes spell) word rest is e = absurd (dashed (o ++ 61 ∷ v) (subst (λ (w : Text). is_free w ≡ true) (sym (head_same (with_value o v) word words rest e)) is))
  first_name ws gs ns (flag o words given names among none spell) word rest is e = absurd (dashed o (subst (λ (w : Text). is_free w ≡ true) (sym (head_same (codes "--" ++ o) word words rest e)) is))

  abbrev pub Opted : Text → Text → List Text → Given → List Text → Type 0
  Opted option value rest given names = (others : Given) × (given ≡ (option, value) ∷ others) × Spells rest others names

  first_two : (ws : List Text) (given : Given) (names : List Text) → Spells ws given names → (o v : Text) (rest : List Text) → IsOneOf o options → takes_value o ≡ true → is_free v ≡ true → ws ≡ (codes "--" ++ o) ∷ v ∷ rest → Opted o v rest given names
  first_two ws gs ns ended o v rest h t is e = absurd (no_words (codes "--" ++ o) (v ∷ rest) e)
  first_two ws gs ns (behind names) o v rest h t is e = absurd (legible.some o h (sym (same_behind [] o (head_same (codes "--") (codes "--" ++ o) names (v ∷ rest) e))))
  first_two ws gs ns (name w words given names free spell) o v rest h t is e = absurd (dashed o (subst (λ (x : Text). is_free x ≡ true) (head_same w (codes "--" ++ o) words (v ∷ rest) e) free))
  first_two ws gs ns (apart p u words given names among takes free spell) o v rest h t is e =
      let behind_it = tail_same (codes "--" ++ p) (codes "--" ++ o) (u ∷ words) (v ∷ rest) e in
      let option : p ≡ o = same_behind p o (head_same (codes "--" ++ p) (codes "--" ++ o) (u ∷ words) (v ∷ rest) e) in
      (given, pair_same p o u v given option (head_same u v words rest behind_it), spell_as words rest given names (tail_same u v words rest behind_it) spell)
    where
      pair_same : (p o u v : Text) (given : Given) → p ≡ o → u ≡ v → (p, u) ∷ given ≡ (o, v) ∷ given
      pair_same p o u v given e f = rw (e, f) refl
  first_two ws gs ns (joined p u words given names among takes spell) o v rest h t is e = absurd (never_both o p u h among (sym (same_behind (p ++ 61 ∷ u) o (head_same (with_value p u) (codes "--" ++ o) words (v ∷ rest) e))))
  first_two ws gs ns (flag p words given names among none spell) o v rest h t is e =
      absurd (never_flag p o none t (same_behind p o (head_same (codes "--" ++ p) (codes "--" ++ o) words (v ∷ rest) e)))

  first_one : (ws : List Text) (given : Given) (names : List Text) → Spells ws given names → (o v : Text) (rest : List Text) → IsOneOf o options → ws ≡ with_value o v ∷ rest → Opted o v rest given names
  first_one ws gs ns ended o v rest h e = absurd (no_words (with_value o v) rest e)
  first_one ws gs ns (behind names) o v rest h e = absurd (no_rest o v h (same_behind [] (o ++ 61 ∷ v) (head_same (codes "--") (with_value o v) names rest e)))
  first_one ws gs ns (name w words given names free spell) o v rest h e = absurd (dashed (o ++ 61 ∷ v) (subst (λ (x : Text). is_free x ≡ true) (head_same w (with_value o v) words rest e) free))
  first_one ws gs ns (apart p u words given names among takes free spell) o v rest h e = absurd (never_both p o v among h (same_behind p (o ++ 61 ∷ v) (head_same (codes "--" ++ p) (with_value o v) (u ∷ words) rest e)))
  first_one ws gs ns (flag p words given names among none spell) o v rest h e = absurd (never_both p o v among h (same_behind p (o ++ 61 ∷ v) (head_same (codes "--" ++ p) (with_value o v) words rest e)))
  first_one ws gs ns (joined p u words given names among takes spell) o v rest h e =
      let s = same_value p o u v among h (same_behind (p ++ 61 ∷ u) (o ++ 61 ∷ v) (head_same (with_value p u) (with_value o v) words rest e)) in
      (given, pair_same p o u v given s.0 s.1, spell_as words rest given names (tail_same (with_value p u) (with_value o v) words rest e) spell)
    where
      pair_same : (p o u v : Text) (given : Given) → p ≡ o → u ≡ v → (p, u) ∷ given ≡ (o, v) ∷ given
      pair_same p o u v given e f = rw (e, f) refl

  first_flag : (ws : List Text) (given : Given) (names : List Text) → Spells ws given names → (o : Text) (rest : List Text) → IsOneOf o options → takes_value o ≡ false → ws ≡ (codes "--" ++ o) ∷ rest → Opted o flag_value rest given names
  first_flag ws gs ns ended o rest h none e = absurd (no_words (codes "--" ++ o) rest e)
  first_flag ws gs ns (behind names) o rest h none e = absurd (legible.some o h (sym (same_behind [] o (head_same (codes "--") (codes "--" ++ o) names rest e))))
  first_flag ws gs ns (name w words given names free spell) o rest h none e = absurd (dashed o (subst (λ (x : Text). is_free x ≡ true) (head_same w (codes "--" ++ o) words rest e) free))
  first_flag ws gs ns (apart p u words given names among takes free spell) o rest h none e =
      absurd (never_flag o p none takes (sym (same_behind p o (head_same (codes "--" ++ p) (codes "--" ++ o) (u ∷ words) rest e))))
  first_flag ws gs ns (joined p u words given names among takes spell) o rest h none e = absurd (never_both o p u h among (sym (same_behind (p ++ 61 ∷ u) o (head_same (with_value p u) (codes "--" ++ o) words rest e))))
  first_flag ws gs ns (flag p words given names among other spell) o rest h none e =
      let option : p ≡ o = same_behind p o (head_same (codes "--" ++ p) (codes "--" ++ o) words rest e) in
      (given, ap (λ (x : Text). (x, flag_value) ∷ given) option, spell_as words rest given names (tail_same (codes "--" ++ p) (codes "--" ++ o) words rest e) spell)

  -- ---- an option at the front

  -- the words of an option are read and spelled as it with its value
  pub record Reading (words : List Text) (option : Text) : Type 0 where
    pub value : Text
    pub read : (rest : List Text) (given : Given) (names : List Text) → Spells (words ++ rest) given names → Opted option value rest given names
    pub spelled : (rest : List Text) (given : Given) (names : List Text) → Spells rest given names → Spells (words ++ rest) ((option, value) ∷ given) names

  pub reading : (words : List Text) (option : Text) → IsOption options words option → Reading words option
  reading ws o (in_two option value h takes is) = record {
    value = value;
    read = λ rest given names spell. first_two _ given names spell option value rest h takes is refl;
    spelled = λ rest given names spell. apart option value rest given names h takes is spell;
  }
  reading ws o (in_one option value h takes) = record {
    value = value;
    read = λ rest given names spell. first_one _ given names spell option value rest h refl;
    spelled = λ rest given names spell. joined option value rest given names h takes spell;
  }
  reading ws o (alone option h none) = record {
    value = flag_value;
    read = λ rest given names spell. first_flag _ given names spell option rest h none refl;
    spelled = λ rest given names spell. flag option rest given names h none spell;
  }

  -- ---- moved words

  record Other (given : Given) (words : List Text) (names : List Text) : Type 0 where
    other : Given
    like : Alike given other
    spell : Spells words other names

  over_there : (words : List Text) (option word : Text) (rest : List Text) (given : Given) (names : List Text) → IsOption options words option → is_free word ≡ true → Spells (word ∷ (words ++ rest)) given names → Other given (words ++ (word ∷ rest)) names
  over_there words option word rest given names is free spell =
      let r = reading words option is in
      let n = first_name _ given names spell word (words ++ rest) free refl in
      let o = r.read rest given n.0 n.2 in
      record {
        other = (option, r.value) ∷ o.0;
        like = subst (λ (g : Given). Alike given g) o.1 (alike given);
        spell = r.spelled (word ∷ rest) o.0 names (subst (λ (ns : List Text). Spells (word ∷ rest) o.0 ns) (sym n.1) (name word rest o.0 n.0 free o.2));
      }

  over_back : (words : List Text) (option word : Text) (rest : List Text) (given : Given) (names : List Text) → IsOption options words option → is_free word ≡ true → Spells (words ++ (word ∷ rest)) given names → Other given (word ∷ (words ++ rest)) names
  over_back words option word rest given names is free spell =
      let r = reading words option is in
      let o = r.read (word ∷ rest) given names spell in
      let n = first_name _ o.0 names o.2 word rest free refl in
      record {
        other = (option, r.value) ∷ o.0;
        like = subst (λ (g : Given). Alike given g) o.1 (alike given);
        spell = subst (λ (ns : List Text). Spells (word ∷ (words ++ rest)) ((option, r.value) ∷ o.0) ns) (sym n.1) (name word (words ++ rest) ((option, r.value) ∷ o.0) n.0 free (r.spelled rest o.0 n.0 n.2));
      }

  swap_there : (words others : List Text) (option other : Text) (rest : List Text) (given : Given) (names : List Text) → IsOption options words option → IsOption options others other → other ≢ option → Spells (others ++ (words ++ rest)) given names
      → Other given (words ++ (others ++ rest)) names
  swap_there words others option other rest given names is are differ spell =
      let r = reading words option is in
      let q = reading others other are in
      let o = q.read (words ++ rest) given names spell in
      let k = r.read rest o.0 names o.2 in
      let all : given ≡ (other, q.value) ∷ (option, r.value) ∷ k.0 = o.1 ∙ ap (λ (g : Given). (other, q.value) ∷ g) k.1 in
      record {
        other = (option, r.value) ∷ (other, q.value) ∷ k.0;
        like = subst (λ (g : Given). Alike g ((option, r.value) ∷ (other, q.value) ∷ k.0)) (sym all) (swapped (other, q.value) (option, r.value) k.0 differ);
        spell = r.spelled (others ++ rest) ((other, q.value) ∷ k.0) names (q.spelled rest k.0 names k.2);
      }

  under_name : (word : Text) (words words' : List Text) → is_free word ≡ true → ((given : Given) (names : List Text) → Spells words given names → Other given words' names)
      → (given : Given) (names : List Text) → Spells (word ∷ words) given names → Other given (word ∷ words') names
  under_name word words words' free further given names spell =
      let n = first_name _ given names spell word words free refl in
      let o = further given n.0 n.2 in
      record { other = o.other; like = o.like; spell = subst (λ (ns : List Text). Spells (word ∷ words') o.other ns) (sym n.1) (name word words' o.other n.0 free o.spell) }

  under_option : (others : List Text) (option : Text) (words words' : List Text) → IsOption options others option → ((given : Given) (names : List Text) → Spells words given names → Other given words' names)
      → (given : Given) (names : List Text) → Spells (others ++ words) given names → Other given (others ++ words') names
  under_option others option words words' is further given names spell =
      let r = reading others option is in
      let k = r.read words given names spell in
      let o = further k.0 names k.2 in
      record {
        other = (option, r.value) ∷ o.other;
        like = subst (λ (g : Given). Alike g ((option, r.value) ∷ o.other)) (sym k.1) (alike_behind (option, r.value) k.0 o.other o.like);
        spell = r.spelled words' o.other names o.spell;
      }

  there : (words words' : List Text) → Moved options words words' → (given : Given) (names : List Text) → Spells words given names → Other given words' names
  there ws ws' (over_name words option word rest is free) given names spell = over_there words option word rest given names is free spell
  there ws ws' (over_option words others option other rest is are differ) given names spell = swap_there words others option other rest given names is are differ spell
  there ws ws' (behind_name word words words' free moved) given names spell = under_name word words words' free (there words words' moved) given names spell
  there ws ws' (behind_option others option words words' is moved) given names spell = under_option others option words words' is (there words words' moved) given names spell

  back : (words words' : List Text) → Moved options words words' → (given : Given) (names : List Text) → Spells words' given names → Other given words names
  back ws ws' (over_name words option word rest is free) given names spell = over_back words option word rest given names is free spell
  back ws ws' (over_option words others option other rest is are differ) given names spell = swap_there others words other option rest given names are is (λ e. differ (sym e)) spell
  back ws ws' (behind_name word words words' free moved) given names spell = under_name word words' words free (back words words' moved) given names spell
  back ws ws' (behind_option others option words words' is moved) given names spell = under_option others option words' words is (back words words' moved) given names spell

-- ---- what is asked for

-- a relation says of the points what the option of this name has
options_alike : (says : Option Text → ℕ → Type 0) (points : Text) (given other : Given) (options : Options) → Alike given other
    → AreOptionsBy (says (value_of points given)) given options → AreOptionsBy (says (value_of points other)) other options
options_alike says points given other options like h = record {
  apart = like.once h.apart;
  switches = subst (λ (v : Option Text). IsGivenName v options.switches) (like.values (codes "switches")) h.switches;
  input = subst (λ (v : Option Text). IsGivenName v options.input) (like.values (codes "input")) h.input;
  points = subst (λ (v : Option Text). says v options.bounds.points) (like.values points) h.points;
  heap = subst (λ (v : Option Text). IsLimit 64 67108864 1048576 v options.bounds.heap) (like.values (codes "heap")) h.heap;
  stack = subst (λ (v : Option Text). IsLimit 1024 1048576 65536 v options.bounds.stack) (like.values (codes "stack")) h.stack;
  threads = subst (λ (v : Option Text). IsLimit 1 64 8 v options.bounds.threads) (like.values (codes "threads")) h.threads;
  young = h.young ∙ ap (λ (v : Option Text). is_some v) (like.values (codes "young"));
}

-- how a command reads words from what these spell
abbrev Carries : (options : List Text) → AreLegible options → List Text → List Text → Type 0
Carries options legible words words' = (given : Given) (names : List Text) → Spell options words given names → Other options legible given words' names

pub other_name : (a b : Text) (xs ys : List Text) → bytes_eq a b ≡ false → a ∷ xs ≡ b ∷ ys → ⊥
other_name a b xs ys differ e = let same = (bytes_eq-Decides a b).1 (head_same a b xs ys e) in false_true (sym differ ∙ same)

run_carries : (ws words words' : List Text) (order : Order) → Carries options_of_runs runs_legible words words' → Reads ws order → ws ≡ codes "run" ∷ words → Reads (codes "run" ∷ words') order
run_carries ws words words' o carries (reads_build rest image files spell named some) e = absurd (other_name (codes "build") (codes "run") rest words refl e)
run_carries ws words words' o carries (reads_exec rest given files options spell some opts) e = absurd (other_name (codes "exec") (codes "run") rest words refl e)
run_carries ws words words' o carries (reads_dump rest image spell named) e = absurd (other_name (codes "dump") (codes "run") rest words refl e)
run_carries ws words words' o carries (reads_bench rest digits number spell is low) e = absurd (other_name (codes "bench") (codes "run") rest words refl e)
run_carries ws words words' o carries (reads_inspect rest given image options spell named opts) e = absurd (other_name (codes "inspect") (codes "run") rest words refl e)
run_carries ws words words' o carries (reads_run rest given image options spell named opts) e =
    let k = carries given (image ∷ []) (spell_as options_of_runs runs_legible rest words given (image ∷ []) (tail_same (codes "run") (codes "run") rest words e) spell) in
    reads_run words' k.other image options k.spell named (options_alike (IsLimit 0 9223372036854775807 1000000000) (codes "points") given k.other options k.like opts)

exec_carries : (ws words words' : List Text) (order : Order) → Carries options_of_runs runs_legible words words' → Reads ws order → ws ≡ codes "exec" ∷ words → Reads (codes "exec" ∷ words') order
exec_carries ws words words' o carries (reads_build rest image files spell named some) e = absurd (other_name (codes "build") (codes "exec") rest words refl e)
exec_carries ws words words' o carries (reads_run rest given image options spell named opts) e = absurd (other_name (codes "run") (codes "exec") rest words refl e)
exec_carries ws words words' o carries (reads_dump rest image spell named) e = absurd (other_name (codes "dump") (codes "exec") rest words refl e)
exec_carries ws words words' o carries (reads_bench rest digits number spell is low) e = absurd (other_name (codes "bench") (codes "exec") rest words refl e)
exec_carries ws words words' o carries (reads_inspect rest given image options spell named opts) e = absurd (other_name (codes "inspect") (codes "exec") rest words refl e)
exec_carries ws words words' o carries (reads_exec rest given files options spell some opts) e =
    let k = carries given files (spell_as options_of_runs runs_legible rest words given files (tail_same (codes "exec") (codes "exec") rest words e) spell) in
    reads_exec words' k.other files options k.spell some (options_alike (IsLimit 0 9223372036854775807 1000000000) (codes "points") given k.other options k.like opts)

inspect_carries : (ws words words' : List Text) (order : Order) → Carries options_of_inspect inspect_legible words words' → Reads ws order → ws ≡ codes "inspect" ∷ words → Reads (codes "inspect" ∷ words') order
inspect_carries ws words words' o carries (reads_build rest image files spell named some) e = absurd (other_name (codes "build") (codes "inspect") rest words refl e)
inspect_carries ws words words' o carries (reads_exec rest given files options spell some opts) e = absurd (other_name (codes "exec") (codes "inspect") rest words refl e)
inspect_carries ws words words' o carries (reads_dump rest image spell named) e = absurd (other_name (codes "dump") (codes "inspect") rest words refl e)
inspect_carries ws words words' o carries (reads_bench rest digits number spell is low) e = absurd (other_name (codes "bench") (codes "inspect") rest words refl e)
inspect_carries ws words words' o carries (reads_run rest given image options spell named opts) e = absurd (other_name (codes "run") (codes "inspect") rest words refl e)
inspect_carries ws words words' o carries (reads_inspect rest given image options spell named opts) e =
    let k = carries given (image ∷ []) (spell_as options_of_inspect inspect_legible rest words given (image ∷ []) (tail_same (codes "inspect") (codes "inspect") rest words e) spell) in
    reads_inspect words' k.other image options k.spell named (options_alike (IsSaid 0 9223372036854775807) (codes "at") given k.other options k.like opts)

-- two answers that hold of the same orders
same_answer : (one other : Option Order) → ((order : Order) → one ≡ Some order → other ≡ Some order) → ((order : Order) → other ≡ Some order → one ≡ Some order) → one ≡ other
same_answer None None f g = refl
same_answer None (Some order) f g = g order refl
same_answer (Some order) other f g = sym (f order refl)

pub run_moved : IsSameMoved options_of_runs (codes "run")
run_moved words words' moved texts texts' = same_answer (asked (codes "run" ∷ words)) (asked (codes "run" ∷ words'))
    (λ order e. reads_asked (codes "run" ∷ words') order (run_carries _ words words' order (there options_of_runs runs_legible words words' moved) (asked_reads (codes "run" ∷ words) order texts e) refl))
    (λ order e. reads_asked (codes "run" ∷ words) order (run_carries _ words' words order (back options_of_runs runs_legible words words' moved) (asked_reads (codes "run" ∷ words') order texts' e) refl))

pub exec_moved : IsSameMoved options_of_runs (codes "exec")
exec_moved words words' moved texts texts' = same_answer (asked (codes "exec" ∷ words)) (asked (codes "exec" ∷ words'))
    (λ order e. reads_asked (codes "exec" ∷ words') order (exec_carries _ words words' order (there options_of_runs runs_legible words words' moved) (asked_reads (codes "exec" ∷ words) order texts e) refl))
    (λ order e. reads_asked (codes "exec" ∷ words) order (exec_carries _ words' words order (back options_of_runs runs_legible words words' moved) (asked_reads (codes "exec" ∷ words') order texts' e) refl))

pub inspect_moved : IsSameMoved options_of_inspect (codes "inspect")
inspect_moved words words' moved texts texts' = same_answer (asked (codes "inspect" ∷ words)) (asked (codes "inspect" ∷ words'))
    (λ order e. reads_asked (codes "inspect" ∷ words') order (inspect_carries _ words words' order (there options_of_inspect inspect_legible words words' moved) (asked_reads (codes "inspect" ∷ words) order texts e) refl))
    (λ order e. reads_asked (codes "inspect" ∷ words) order (inspect_carries _ words' words order (back options_of_inspect inspect_legible words words' moved) (asked_reads (codes "inspect" ∷ words') order texts' e) refl))
