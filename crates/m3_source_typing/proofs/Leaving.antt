-- Sound phrases that may be left by EXIT and RETURN, and how they are put together.
use Rattle.std.proofs.Common.{◌≡◌, ℕ, ◌≤◌, true, List, [], ◌∷◌, ◌++◌, length, Option, sym, ap, ◌∙◌, subst, arith}
use Rattle.m3_values.specs.Values.{Value}
use Rattle.m3_values.specs.Programs.{Program}
use Rattle.m3_values.specs.Places.{Thing}
use Rattle.m3_values.specs.Store.{Store, Memory}
use Rattle.m3_source_meaning.specs.Meanings.{Told, Raised, Now, Exits, End, Evaluates, Acts, given, done, there, holding, in_scope, raising, changing, ◌>>=◌, ◌>>◌}
use Rattle.m3_source_meaning.specs.Phrases.{Expression}
use Rattle.m3_source_meaning.specs.Exceptions.{returning}
use Rattle.m3_source_meaning.specs.Loops.{exit_loop}
use Rattle.m3_source_meaning.specs.Travelling.{argument_type}
use Rattle.m3_source_typing.specs.ValueTypes.{HasType}
use Rattle.m3_source_typing.specs.Stores.{IsLater}
use Rattle.m3_source_typing.specs.Points.{IsArgument}
use Rattle.m3_source_typing.specs.Sound.{Owned, Knows, Becomes, Scope, Leaving, IsDefined, IsSound, IsGood, Gives, AreSoundFor, Does, IsOfType}
use Rattle.m3_source_typing.proofs.Staying.{now_itself, and_later}
use Rattle.m3_source_typing.proofs.Combining.{later_exits}
use Rattle.m3_source_typing.proofs.Operating.{Typed}
use Rattle.m3_source_typing.proofs.Places.{good_after}

length_front : {A : Type 0} (xs ys : List A) → length xs ≤ length (xs ++ ys)
length_front [] ys = omega arith
length_front (x ∷ xs) ys = let less : length xs ≤ length (xs ++ ys) = length_front xs ys in omega arith

-- two courses that are the same for as many answers as are left, and fewer
pub same_so_far : (p : Program) (f g : Now → End) (now : Now) → ((answers : List Told) → length answers ≤ length now.answers → f (record now { answers = answers }) ≡ g (record now { answers = answers })) → IsSound p g now → IsSound p f now
same_so_far p f g now same sound fit =
    let all : length now.answers ≤ length now.answers = omega arith in
    subst (IsDefined p) (sym (same now.answers all))
    (sound (λ before after told action standing s is leads.
    let front : length before ≤ length (before ++ told ∷ after) = length_front before (told ∷ after) in
    let less : length before ≤ length now.answers = subst (λ xs. length before ≤ length xs) (sym is) front in
    fit before after told action standing s is (same before less ∙ leads)))

module _ (p : Program) (own : Scope) (a : Leaving) where
  pub later_for : {A : Type 0} (s t : Store) (P : Store → A → Type 0) (exits : Exits A) → IsLater s t → AreSoundFor p own a s P exits → AreSoundFor p own a t P exits
  later_for s t P exits h b = record {
    after = later_exits p own s t P exits h b.after;
    exit = λ is later l good. b.exit is later (and_later s t later.memory.store h l) good;
    return = λ v later l good q. b.return v later (and_later s t later.memory.store h l) good q;
  }

  -- what is left by exceptions alone
  pub gives_does : {A : Type 0} (s : Store) (P : Store → A → Type 0) (e : Evaluates A) → Gives p own s P e → Does p own a s P e
  gives_does s P e h = record { ends = λ around now exits l good b. h.ends around now exits l good b.after }

  pub does_given : {A : Type 0} (s : Store) (P : Store → A → Type 0) (x : A) → ((t : Store) → IsLater s t → P t x) → Does p own a s P (given x)
  does_given s P x h = record { ends = λ around now exits l good b. b.after.gives x now l good (h now.memory.store l) }

  pub does_bind : {A B : Type 0} (s : Store) (P : Store → A → Type 0) (Q : Store → B → Type 0) (e : Evaluates A) (f : A → Evaluates B) → Does p own a s P e → ((x : A) (t : Store) → IsLater s t → P t x → Does p own a t Q (f x)) → Does p own a s Q (e >>= f)
  does_bind s P Q e f h n = record {
    ends = λ around now exits l good b. h.ends around now _ l good (record {
      after = record {
        gives = λ x later k fine q. (n x later.memory.store k q).ends around later exits (now_itself later.memory.store) fine (later_for s later.memory.store Q exits k b);
        raised = b.after.raised;
      };
      exit = b.exit;
      return = b.return;
    });
  }

  abbrev pub Nothing : Store → Unit {0} → Type 0
  Nothing s u = Unit {0}

  pub does_done : (s : Store) → Does p own a s Nothing done
  does_done s = record { ends = λ around now exits l good b. b.after.gives tt now l good tt }

  pub does_then : (s : Store) (e f : Acts) → Does p own a s Nothing e → ((t : Store) → IsLater s t → Does p own a t Nothing f) → Does p own a s Nothing (e >> f)
  does_then s e f h n = does_bind s Nothing Nothing e (λ u. f) h (λ u t l q. n t l)

  pub does_holding : {A : Type 0} (s : Store) (P : Store → A → Type 0) (thing : Thing) (e : Evaluates A) → Does p own a s P e → Does p own a s P (holding thing e)
  does_holding s P thing e h = record { ends = λ around now exits l good b. h.ends (record around { held = thing ∷ around.held }) now exits l good b }

  pub does_exit : (s : Store) → a.in_loop ≡ true → Does p own a s Nothing exit_loop
  does_exit s is = record { ends = λ around now exits l good b. b.exit is now l good }

  pub does_raise : (s : Store) (r : Raised) → ((t : Store) → IsLater s t → IsArgument p t r.argument (argument_type p r.exception)) → Does p own a s Nothing (raising r)
  does_raise s r h = record { ends = λ around now exits l good b. b.after.raised r now l good (h now.memory.store l) }

  pub does_return : (s : Store) (v : Option Value) → ((t : Store) → IsLater s t → IsArgument p t v a.result) → Does p own a s Nothing (returning v)
  does_return s v h = record { ends = λ around now exits l good b. b.return v now l good (h now.memory.store l) }

  pub does_change : (s : Store) (known : Owned) (change : Memory → Option Memory) → Knows known own.holds → ((m : Memory) → IsLater s m.store → IsGood p own m → Becomes p known m (change m)) → Does p own a s Nothing (changing change)
  does_change s known change k h = record {
    ends = λ around now exits l good b.
        let n = h now.memory l good in
        same_so_far p (λ later. changing change around later exits) (λ later. exits.gives tt (record later { memory = n.after })) now
        (λ answers less. ap (λ o. (there o >>= (λ memory around later exits. exits.gives tt (record later { memory = memory }))) around (record now { answers = answers }) exits) n.is)
        (b.after.gives tt (record now { memory = n.after }) (and_later s now.memory.store n.after.store l n.later) (good_after p own known now.memory (change now.memory) k good n) tt);
  }

  pub does_in_scope : {A : Type 0} (s : Store) (P : Store → A → Type 0) (xs : List ℕ) (e : Evaluates A) → Does p own a s P e → Does p own a s P (in_scope xs e)
  does_in_scope s P xs e h = record { ends = λ around now exits l good b. h.ends (record around { scope = around.scope ++ xs }) now exits l good b }

  -- statements that are sound from every store on
  abbrev pub DoesAll : Acts → Type 0
  DoesAll e = (s : Store) → Does p own a s Nothing e

  -- an expression, and what is done with its value
  pub with_value : (e : Expression) (t : ℕ) (f : Value → Acts) → IsOfType p own e t → ((v : Value) (s : Store) → HasType p s v t → Does p own a s Nothing (f v)) → DoesAll (e.value >>= f)
  with_value e t f is h s = does_bind s (Typed p t) Nothing e.value f (gives_does s (Typed p t) e.value (is.value s)) (λ v u l q. h v u q)
