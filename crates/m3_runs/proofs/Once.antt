-- A run of a determined language is one.
use Rattle.std.proofs.Common.{◌≡◌, ℕ, Bool, true, false, List, length, Option, Some, None, refl, sym, ap, ◌∙◌, subst, arith}
use Rattle.m3_base.specs.declared.outcomes.Entry.{Entry}
use Rattle.m3_base.specs.declared.outcomes.Outcome.TheVariants as outcome
use Rattle.m3_runs.specs.Languages.{ThreadCell, Action, Forks, Gives, Move, Begins, Overflows, Thread, Parts, Language}
use Rattle.m3_runs.specs.States.{Given, State, thread_at, with_parts}
use Rattle.m3_runs.specs.Choice.{lowest, choice, all_known}
use Rattle.m3_runs.specs.Services.{Done, Comes_to, Stops, answers}
use Rattle.m3_runs.specs.Runs as run
use Rattle.m3_runs.specs.Runs.{Settled, Settles, Result, Goes, Ends, Undefined, Does, Finishes, Carries_out, Collected_if, Turns, Runs, forked, settled, passed, runs_on, first_entry, later_entries}
use Rattle.m3_runs.specs.Laws.{IsDetermined, HasOneRun}

one_of : {A : Type 0} (o : Option A) (x y : A) → o ≡ Some x → o ≡ Some y → x ≡ y
one_of o x y e h = let q : Some x ≡ Some y = sym e ∙ h in let r : x ≡ y = cc in r

module _ {S V M : Type 0} (L : Language S V M) (D : IsDetermined L) where
  settles_once : (rest : List S) (move : Move S V M) (to to' : Settled S V M) → Settles L rest move to → Settles L rest move to' → to ≡ to'
  settles_once rest move to to' (run.stands _ _ _ _) (run.stands _ _ _ _) = refl
  settles_once rest move to to' (run.over _ _) (run.over _ _) = refl
  settles_once rest move to to' (run.back s ss a m next _ g k) (run.back _ _ _ _ next' _ g' k') =
      settles_once ss next to to' k (subst (λ i. Settles L ss i to') (D.goes s a m next' next g' g) k')
  settles_once rest move to to' (run.faults _ _ _ _) (run.faults _ _ _ _) = refl
  settles_once rest move to to' (run.breaks _) (run.breaks _) = refl

  module _ (given : Given) where
    module _ (n : ℕ) (s : State S V M) where
      made_once : (v v' : V) (parts parts' : Parts S V M) (t t' : Thread S V) → Some v ≡ Some v' → parts ≡ parts' → thread_at parts.threads n ≡ Some t → thread_at parts'.threads n ≡ Some t' →
          answers (with_parts s parts) t (Gives (Some v)) ≡ answers (with_parts s parts') t' (Gives (Some v'))
      made_once v v' parts parts' t t' ev ep at at' =
          let same_v : v ≡ v' = cc in
          let same_t : t ≡ t' = one_of (thread_at parts'.threads n) t t' (ap (λ p. thread_at p.threads n) (sym ep) ∙ at) at' in
          ap (λ x. answers (with_parts s parts) t (Gives (Some x))) same_v ∙ ap (λ p. answers (with_parts s p) t (Gives (Some v'))) ep ∙ ap (λ x. answers (with_parts s parts') x (Gives (Some v'))) same_t

      forked_once : (v v' : V) (parts parts' : Parts S V M) (t t' : Thread S V) (c c' : V) → Some v ≡ Some v' → parts ≡ parts' → thread_at parts.threads n ≡ Some t → thread_at parts'.threads n ≡ Some t' → t.action ≡ Forks c → t'.action ≡ Forks c' →
          forked L (with_parts s parts) t v (L.begins parts.memory c) ≡ forked L (with_parts s parts') t' v' (L.begins parts'.memory c')
      forked_once v v' parts parts' t t' c c' ev ep at at' is is' =
          let same_v : v ≡ v' = cc in
          let same_t : t ≡ t' = one_of (thread_at parts'.threads n) t t' (ap (λ p. thread_at p.threads n) (sym ep) ∙ at) at' in
          let forks : Forks c ≡ Forks c' = sym is ∙ ap (λ x. x.action) same_t ∙ is' in
          let same_c : c ≡ c' = cc in
          ap (λ x. forked L (with_parts s parts) t x (L.begins parts.memory c)) same_v
          ∙ ap (λ p. forked L (with_parts s p) t v' (L.begins p.memory c)) ep
          ∙ ap (λ x. forked L (with_parts s parts') x v' (L.begins parts'.memory c)) same_t
          ∙ ap (λ x. forked L (with_parts s parts') t' v' (L.begins parts'.memory x)) same_c

      does_once : (t : Thread S V) (a : Action V) (d d' : Done S V M) → Does L given n t s a d → Does L given n t s a d' → d ≡ d'
      does_once t a d d' run.passes run.passes = refl
      does_once t a d d' (run.begins p v vs move e) (run.begins _ _ _ move' e') =
          let q = D.enters t.stack p v vs s.parts.memory (Begins move) (Begins move') e e' in let same : move ≡ move' = cc in ap (Comes_to s t.stack) same
      does_once t a d d' (run.begins p v vs move e) (run.overflows _ _ _ e') = absurd (let bad = D.enters t.stack p v vs s.parts.memory (Begins move) Overflows e e' in let no : ⊥ = cc in no)
      does_once t a d d' (run.overflows p v vs e) (run.begins _ _ _ move' e') = absurd (let bad = D.enters t.stack p v vs s.parts.memory Overflows (Begins move') e e' in let no : ⊥ = cc in no)
      does_once t a d d' (run.overflows p v vs e) (run.overflows _ _ _ e') = refl
      does_once t a d d' (run.makes new v parts x e at) (run.makes _ v' parts' x' e' at') =
          made_once v v' parts parts' x x' (D.made s.parts n new (Some v) (Some v') parts parts' e e') (D.makes s.parts n new (Some v) (Some v') parts parts' e e') at at'
      does_once t a d d' (run.makes new v parts x e at) (run.finds_no_room _ parts' e') = absurd (let bad = D.made s.parts n new (Some v) None parts parts' e e' in let no : ⊥ = cc in no)
      does_once t a d d' (run.finds_no_room new parts e) (run.makes _ v' parts' x' e' at') = absurd (let bad = D.made s.parts n new None (Some v') parts parts' e e' in let no : ⊥ = cc in no)
      does_once t a d d' (run.finds_no_room new parts e) (run.finds_no_room _ parts' e') = ap (λ p. Stops (with_parts s p) outcome.HeapFull) (D.makes s.parts n new None None parts parts' e e')
      does_once t a d d' (run.too_many c many) (run.too_many _ many') = refl
      does_once t a d d' (run.too_many c many) (run.forks _ v parts x moved few e at is) = absurd (omega (arith, many, few))
      does_once t a d d' (run.too_many c many) (run.finds_no_cell _ parts few e) = absurd (omega (arith, many, few))
      does_once t a d d' (run.forks _ v parts x moved few e at is) (run.too_many c many) = absurd (omega (arith, many, few))
      does_once t a d d' (run.forks c v parts x moved few e at is) (run.forks _ v' parts' x' moved' few' e' at' is') =
          let new = ThreadCell (length s.parts.threads) in
          forked_once v v' parts parts' x x' moved moved' (D.made s.parts n new (Some v) (Some v') parts parts' e e') (D.makes s.parts n new (Some v) (Some v') parts parts' e e') at at' is is'
      does_once t a d d' (run.forks c v parts x moved few e at is) (run.finds_no_cell _ parts' few' e') = absurd (let bad = D.made s.parts n (ThreadCell (length s.parts.threads)) (Some v) None parts parts' e e' in let no : ⊥ = cc in no)
      does_once t a d d' (run.finds_no_cell _ parts few e) (run.too_many c many) = absurd (omega (arith, many, few))
      does_once t a d d' (run.finds_no_cell c parts few e) (run.forks _ v parts' x moved few' e' at is) = absurd (let bad = D.made s.parts n (ThreadCell (length s.parts.threads)) None (Some v) parts parts' e e' in let no : ⊥ = cc in no)
      does_once t a d d' (run.finds_no_cell c parts few e) (run.finds_no_cell _ parts' few' e') =
          ap (λ p. Stops (with_parts s p) outcome.HeapFull) (D.makes s.parts n (ThreadCell (length s.parts.threads)) None None parts parts' e e')
      does_once t a d d' (run.served service) (run.served _) = refl

    finishes_once : (n : ℕ) (d : Done S V M) (r r' : Result S V M) → Finishes L n d r → Finishes L n d r' → r ≡ r'
    finishes_once n d r r' (run.comes s stack move to k) (run.comes _ _ _ to' k') = ap (settled L s n) (settles_once stack move to to' k k')
    finishes_once n d r r' (run.rests s) (run.rests _) = refl
    finishes_once n d r r' (run.stops s o) (run.stops _ _) = refl

    carries_once : (n : ℕ) (s : State S V M) (r r' : Result S V M) → Carries_out L given n s r → Carries_out L given n s r' → r ≡ r'
    carries_once n s r r' (run.carries_out t d _ at does fin) (run.carries_out t' d' _ at' does' fin') =
        let same_t : t' ≡ t = one_of (thread_at s.parts.threads n) t' t at' at in
        let same_d : d' ≡ d = does_once n s t t.action d' d (subst (λ x. Does L given n x s x.action d') same_t does') does in
        finishes_once n d r r' fin (subst (λ x. Finishes L n x r') same_d fin')

    collected_once : (parts after after' : Parts S V M) (collect : Bool) → Collected_if L parts collect after → Collected_if L parts collect after' → after ≡ after'
    collected_once parts after after' collect run.left run.left = refl
    collected_once parts after after' collect (run.made _ c) (run.made _ c') = D.collects parts after after' c c'

    known_and_not : (s : State S V M) → all_known L s.parts.memory s.parts.threads ≡ true → all_known L s.parts.memory s.parts.threads ≡ false → ⊥
    known_and_not s e h = let bad : true ≡ false = sym e ∙ h in let no : ⊥ = cc in no

    some_and_none : (s : State S V M) (k : ℕ) → lowest L s.parts ≡ Some k → lowest L s.parts ≡ None → ⊥
    some_and_none s k e h = let bad : Some k ≡ None = sym e ∙ h in let no : ⊥ = cc in no

    turns_once : (s : State S V M) (entry : Entry) (r r' : Result S V M) → Turns L given s entry r → Turns L given s entry r' → r ≡ r'
    turns_once s entry r r' (run.unknown e) (run.unknown e') = refl
    turns_once s entry r r' (run.unknown e) (run.nobody e' h) = absurd (known_and_not s e' e)
    turns_once s entry r r' (run.unknown e) (run.spent k e' h full) = absurd (known_and_not s e' e)
    turns_once s entry r r' (run.unknown e) (run.goes k n parts _ e' h few coll chosen c) = absurd (known_and_not s e' e)
    turns_once s entry r r' (run.nobody e h) (run.unknown e') = absurd (known_and_not s e e')
    turns_once s entry r r' (run.nobody e h) (run.nobody e' h') = refl
    turns_once s entry r r' (run.nobody e h) (run.spent k e' h' full) = absurd (some_and_none s k h' h)
    turns_once s entry r r' (run.nobody e h) (run.goes k n parts _ e' h' few coll chosen c) = absurd (some_and_none s k h' h)
    turns_once s entry r r' (run.spent k e h full) (run.unknown e') = absurd (known_and_not s e e')
    turns_once s entry r r' (run.spent k e h full) (run.nobody e' h') = absurd (some_and_none s k h h')
    turns_once s entry r r' (run.spent k e h full) (run.spent k' e' h' full') = refl
    turns_once s entry r r' (run.spent k e h full) (run.goes k' n parts _ e' h' few coll chosen c) = absurd (omega (arith, full, few))
    turns_once s entry r r' (run.goes k n parts _ e h few coll chosen c) (run.unknown e') = absurd (known_and_not s e e')
    turns_once s entry r r' (run.goes k n parts _ e h few coll chosen c) (run.nobody e' h') = absurd (some_and_none s k h h')
    turns_once s entry r r' (run.goes k n parts _ e h few coll chosen c) (run.spent k' e' h' full) = absurd (omega (arith, full, few))
    turns_once s entry r r' (run.goes k n parts _ e h few coll chosen c) (run.goes k' n' parts' _ e' h' few' coll' chosen' c') =
        let same_p : parts' ≡ parts = collected_once s.parts parts' parts entry.collect coll' coll in
        let same_n : n' ≡ n = one_of (choice L parts entry.to s.running) n' n (ap (λ p. choice L p entry.to s.running) (sym same_p) ∙ chosen') chosen in
        carries_once n (runs_on n (passed (with_parts s parts))) r r' c
        (subst (λ i. Carries_out L given i (runs_on i (passed (with_parts s parts))) r') same_n
        (subst (λ p. Carries_out L given n' (runs_on n' (passed (with_parts s p))) r') same_p c'))

    same_state : (s u u' : State S V M) (entry : Entry) → Turns L given s entry (Goes u) → Turns L given s entry (Goes u') → u' ≡ u
    same_state s u u' entry t t' = let e = turns_once s entry (Goes u') (Goes u) t' t in let q : u' ≡ u = cc in q

    pub runs_once : HasOneRun L given
    runs_once s schedule turns r r' (run.stays _ _) (run.stays _ _) = refl
    runs_once s schedule turns r r' (run.turn _ u _ n _ t k) (run.turn _ u' _ _ _ t' k') =
        runs_once u (later_entries schedule) n r r' k (subst (λ x. Runs L given x (later_entries schedule) n r') (same_state s u u' (first_entry schedule) t t') k')
    runs_once s schedule turns r r' (run.turn _ u _ n _ t k) (run.ends _ u' _ _ o t') = absurd (let bad = turns_once s (first_entry schedule) (Goes u) (Ends u' o) t t' in let no : ⊥ = cc in no)
    runs_once s schedule turns r r' (run.turn _ u _ n _ t k) (run.breaks_off _ _ _ t') = absurd (let bad = turns_once s (first_entry schedule) (Goes u) Undefined t t' in let no : ⊥ = cc in no)
    runs_once s schedule turns r r' (run.ends _ u _ n o t) (run.turn _ u' _ _ _ t' k') = absurd (let bad = turns_once s (first_entry schedule) (Ends u o) (Goes u') t t' in let no : ⊥ = cc in no)
    runs_once s schedule turns r r' (run.ends _ u _ n o t) (run.ends _ u' _ _ o' t') = turns_once s (first_entry schedule) (Ends u o) (Ends u' o') t t'
    runs_once s schedule turns r r' (run.ends _ u _ n o t) (run.breaks_off _ _ _ t') = turns_once s (first_entry schedule) (Ends u o) Undefined t t'
    runs_once s schedule turns r r' (run.breaks_off _ _ n t) (run.turn _ u' _ _ _ t' k') = absurd (let bad = turns_once s (first_entry schedule) Undefined (Goes u') t t' in let no : ⊥ = cc in no)
    runs_once s schedule turns r r' (run.breaks_off _ _ n t) (run.ends _ u' _ _ o' t') = turns_once s (first_entry schedule) Undefined (Ends u' o') t t'
    runs_once s schedule turns r r' (run.breaks_off _ _ n t) (run.breaks_off _ _ _ t') = refl
