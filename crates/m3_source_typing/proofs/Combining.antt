-- Sound phrases, and how they are put together.
use Rattle.std.proofs.Common.{◌≡◌, Bool, true, false, List, [], ◌∷◌, ◌++◌, Option, Some, None, refl, sym, ap, ◌∙◌, subst}
use Rattle.m3_base.specs.declared.outcomes.FaultKind.{FaultKind}
use Rattle.m3_base.specs.declared.places.Pos.{Pos}
use Rattle.m3_runs.specs.Languages.{Action, Answer}
use Rattle.m3_values.specs.Integers.{Computed, Result, Fault}
use Rattle.m3_values.specs.Programs.{Program}
use Rattle.m3_values.specs.Places.{Thing}
use Rattle.m3_values.specs.Store.{Store, Memory, value_now}
use Rattle.m3_source_meaning.specs.Meanings.{Raised, raising, Told, Around, Now, Exits, End, Evaluates, given, fault, there, computed, unless, seeing, valued, acting, holding, holding_all, standing, ◌>>=◌}
use Rattle.m3_source_meaning.specs.Travelling.{argument_type}
use Rattle.m3_source_typing.specs.Stores.{IsLater, IsTyped}
use Rattle.m3_source_typing.specs.Points.{IsArgument, Fits, AnswerFits, new_cell}
use Rattle.m3_source_typing.specs.Sound.{Scope, IsGood, IsDefined, AllFit, IsSound, AreSound, Gives, IsReadable}
use Rattle.m3_source_typing.proofs.Staying.{place_stays, now_itself, and_later, type_stays}

module _ (p : Program) (own : Scope) where
  pub same_sound : (f g : Now → End) (now : Now) → ((answers : List Told) → f (record now { answers = answers }) ≡ g (record now { answers = answers })) → IsSound p g now → IsSound p f now
  same_sound f g now same sound fit =
      subst (IsDefined p) (sym (same now.answers))
      (sound (λ before after told action standing s is leads. fit before after told action standing s is (same before ∙ leads)))

  -- what follows is sound from a later store on too
  pub later_exits : {A : Type 0} (s t : Store) (P : Store → A → Type 0) (exits : Exits A) → IsLater s t → AreSound p own s P exits → AreSound p own t P exits
  later_exits s t P exits h b = record {
    gives = λ x later l typed q. b.gives x later (and_later s t later.memory.store h l) typed q;
    raised = λ r later l typed q. b.raised r later (and_later s t later.memory.store h l) typed q;
  }

  pub given_sound : {A : Type 0} (s : Store) (P : Store → A → Type 0) (x : A) → ((t : Store) → IsLater s t → P t x) → Gives p own s P (given x)
  given_sound s P x h = record { ends = λ around now exits l typed b. b.gives x now l typed (h now.memory.store l) }

  pub bind_sound : {A B : Type 0} (s : Store) (P : Store → A → Type 0) (Q : Store → B → Type 0) (e : Evaluates A) (f : A → Evaluates B) → Gives p own s P e → ((x : A) (t : Store) → IsLater s t → P t x → Gives p own t Q (f x)) → Gives p own s Q (e >>= f)
  bind_sound s P Q e f h n = record {
    ends = λ around now exits l typed b. h.ends around now _ l typed (record {
      gives = λ x later k good q. (n x later.memory.store k q).ends around later exits (now_itself later.memory.store) good (later_exits s later.memory.store Q exits k b);
      raised = b.raised;
    });
  }

  pub holding_sound : {A : Type 0} (s : Store) (P : Store → A → Type 0) (thing : Thing) (e : Evaluates A) → Gives p own s P e → Gives p own s P (holding thing e)
  holding_sound s P thing e h = record { ends = λ around now exits l typed b. h.ends (record around { held = thing ∷ around.held }) now exits l typed b }

  pub holding_all_sound : {A : Type 0} (s : Store) (P : Store → A → Type 0) (things : List Thing) (e : Evaluates A) → Gives p own s P e → Gives p own s P (holding_all things e)
  holding_all_sound s P things e h = record { ends = λ around now exits l typed b. h.ends (record around { held = things ++ around.held }) now exits l typed b }

  pub fault_sound : {A : Type 0} (s : Store) (P : Store → A → Type 0) (kind : FaultKind) (at : Pos) → Gives p own s P (fault {A = A} kind at)
  fault_sound s P kind at = record { ends = λ around now exits l typed b fit. tt }

  pub unless_sound : (s : Store) (kind : FaultKind) (at : Pos) (b : Bool) → Gives p own s (λ t u. b ≡ false) (unless kind at b)
  unless_sound s kind at true = fault_sound s _ kind at
  unless_sound s kind at false = given_sound s _ tt (λ t l. refl)

  pub computed_sound : {A : Type 0} (s : Store) (P : Store → A → Type 0) (at : Pos) (c : Computed A) → ((x : A) → c ≡ Result x → (t : Store) → IsLater s t → P t x) → Gives p own s P (computed at c)
  computed_sound s P at (Result x) h = given_sound s P x (h x refl)
  computed_sound s P at (Fault kind) h = fault_sound s P kind at

  pub seeing_sound : {A : Type 0} (s : Store) (P : Store → A → Type 0) (look : Memory → Option A) → ((m : Memory) → IsLater s m.store → IsGood p own m → (x : A) × (look m ≡ Some x) × P m.store x) → Gives p own s P (seeing look)
  seeing_sound s P look h = record {
    ends = λ around now exits l typed b.
        let found = h now.memory l typed in
        same_sound (λ later. seeing look around later exits) (exits.gives found.0) now
        (λ answers. ap (λ o. there o around (record now { answers = answers }) exits) found.1)
        (b.gives found.0 now l typed found.2);
  }

  pub valued_sound : (s : Store) (thing : Thing) → IsReadable p own s thing → Gives p own s (λ t v. Unit {0}) (valued thing)
  valued_sound s thing h = seeing_sound s _ (λ m. value_now m thing) (λ m l typed. let r = h.reads m l typed in (r.0, r.1, tt))

  -- memory where others have gone on with the store
  pub told_good : (m : Memory) (t : Store) → IsLater m.store t → IsTyped p None t → IsGood p own m → IsGood p own (record m { store = t })
  told_good m t l typed good = record {
    fair = record {
      store = typed;
      room = good.fair.room;
      variables = λ x k is. let v = good.fair.variables x k is in record { value = v.value; is = v.is; typed = type_stays p m.store t l v.value k v.typed };
    };
    names = λ x a is. let n = good.names x a is in record { place = n.place; is = n.is; leads = place_stays p a.known a.is_variable m.store t n.place a.kind l n.leads };
  }

  -- an action to which an answer comes that fits, and that makes no cell whose defaults are missing
  acting_at : (s : Store) (action : Action Thing) (around : Around) (m : Memory) (answers : List Told) (exits : Exits (Answer Thing)) → IsLater s m.store → IsGood p own m → ((a : Answer Thing) → new_cell action a ≡ None) → AreSound p own s (λ t a. AnswerFits p t action a) exits →
      AllFit p (λ later. acting action around later exits) (record { memory = m; answers = answers }) → IsDefined p (acting action around (record { memory = m; answers = answers }) exits)
  acting_at s action around m [] exits l good old b fit = good.fair.store
  acting_at s action around m (told ∷ answers) exits l good old b fit =
      let now : Now = record { memory = m; answers = told ∷ answers } in
      let one : Fits p m.store action told = fit [] answers told action (standing around now) m.store refl refl in
      b.gives told.answer (record { memory = record m { store = told.store }; answers = answers })
      (and_later s m.store told.store l one.later)
      (told_good m told.store one.later (subst (λ new. IsTyped p new told.store) (old told.answer) one.typed) good)
      one.answer
      (λ before after more next st t is leads. fit (told ∷ before) after more next st t (ap (λ xs. told ∷ xs) is) leads)

  pub acting_sound : (s : Store) (action : Action Thing) → ((a : Answer Thing) → new_cell action a ≡ None) → Gives p own s (λ t a. AnswerFits p t action a) (acting action)
  acting_sound s action old = record { ends = λ around now exits l typed b. acting_at s action around now.memory now.answers exits l typed old b }

  -- an exception that goes on outwards
  pub raising_sound : {A : Type 0} (s : Store) (P : Store → A → Type 0) (r : Raised) → ((t : Store) → IsLater s t → IsArgument p t r.argument (argument_type p r.exception)) → Gives p own s P (raising r)
  raising_sound s P r h = record { ends = λ around now exits l good b. b.raised r now l good (h now.memory.store l) }
