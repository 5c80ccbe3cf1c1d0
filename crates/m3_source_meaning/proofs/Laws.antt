-- The laws.
use Rattle.std.proofs.Common.{◌≡◌, ℕ, zero, suc, ◌+◌, ◌≤◌, ◌<◌, ◌⊎◌, inl, inr, ⊎_elim, Bool, true, false, List, [], ◌∷◌, ◌++◌, length, Option, Some, None, refl, sym, ap, ◌∙◌, subst, arith}
use Rattle.std.specs.Prelude.{◌==◌, ◌||◌, cond, sum_by, slice_get}
use Rattle.std.specs.List.{flat_map, filter, range_with_len}
use Rattle.std.specs.Option.{option_map_or}
use Rattle.std.proofs.Math.Nat.{eq-or-lt_of_le}
use Rattle.std.proofs.lemmas.List.Concat.{flat_map-cons}
use Rattle.std.proofs.lemmas.List.Folds.{list_any-append}
use Rattle.std.proofs.lemmas.List.Sums.{sum_by-cons}
use Rattle.m3_base.specs.declared.outcomes.FaultKind.{FaultKind}
use Rattle.m3_base.specs.declared.places.Pos.{Pos}
use Rattle.m3_core.specs.declared.exprs.Compared.TheVariants.{Structures}
use Rattle.m3_runs.specs.Languages.{Thread, Parts}
use Rattle.m3_runs.specs.States.{thread_at}
use Rattle.m3_values.specs.Programs.{Program}
use Rattle.m3_values.specs.Places.{Thing}
use Rattle.m3_values.specs.Store.{Store, cell_at}
use Rattle.m3_source_meaning.specs.Meanings.{fault, holding, ◌>>=◌}
use Rattle.m3_source_meaning.specs.Phrases.{Expression, Operated}
use Rattle.m3_source_meaning.specs.Operators.{is_structural, relation_of, both_read, operated_on, first_operated, operated_further}
use Rattle.m3_source_meaning.specs.Programs.{Activation, Activity, Within}
use Rattle.m3_source_meaning.specs.Reach as reaching
use Rattle.m3_source_meaning.specs.Reach.{in_things, in_action, in_status, in_thing}
use Rattle.m3_source_meaning.specs.Laws.{LeftFaultsFirst, IsAssociative, FinallyNothing, FinallyRuns, FinallyReplaces, NothingHandled, ElseHandlesAll, ExitEndsLoop, PendingCounts}

-- ---- expressions

first_faults : (structural : Bool) (first : Expression) (o : Operated) (kind : FaultKind) (at : Pos) → first.value ≡ fault kind at → first.unread ≡ fault kind at → first_operated structural first o ≡ fault kind at
first_faults true first o kind at value unread = ap (λ e. e >>= (λ left. holding left o.right.unread >>= both_read (relation_of o.operator) Structures left)) unread
first_faults false first o kind at value unread = ap (λ e. e >>= operated_on first.pos o) value

pub left_faults_first : LeftFaultsFirst
left_faults_first first o os kind at value unread =
    ap (λ e. e >>= operated_further first.pos os) (first_faults (is_structural o.operator) first o kind at value unread)

-- ---- statements

pub associative : IsAssociative
associative r s t = refl

pub finally_nothing : FinallyNothing
finally_nothing p here body = refl

pub finally_runs : FinallyRuns
finally_runs p here last v r = (refl, refl, refl, refl)

pub finally_replaces : FinallyReplaces
finally_replaces p here v u r = (refl, refl, refl)

pub nothing_handled : NothingHandled
nothing_handled p here body nothing = refl

pub else_handles_all : ElseHandlesAll
else_handles_all p here other v r = (refl, refl, refl)

pub exit_ends_loop : ExitEndsLoop
exit_ends_loop = refl

-- ---- what a state needs

module _ (p : Program) where
  abbrev Among : ℕ → List ℕ → Type 0
  Among c xs = reaching.is_among p c xs ≡ true

  or_left : (a b : Bool) → a ≡ true → (a || b) ≡ true
  or_left true b h = refl
  or_left false b h = absurd (let bad : false ≡ true = h in cc)

  or_right : (a b : Bool) → b ≡ true → (a || b) ≡ true
  or_right true b h = refl
  or_right false b h = h

  in_front : (c : ℕ) (xs ys : List ℕ) → Among c xs → Among c (xs ++ ys)
  in_front c xs ys h = list_any-append (λ d. d == c) xs ys ∙ or_left _ _ h

  behind : (c : ℕ) (xs ys : List ℕ) → Among c ys → Among c (xs ++ ys)
  behind c xs ys h = list_any-append (λ d. d == c) xs ys ∙ or_right (reaching.is_among p c xs) _ h

  -- what one of a list names
  in_one : {A : Type 0} (f : A → List ℕ) (c : ℕ) (xs : List A) (i : ℕ) (x : A) → slice_get xs i ≡ Some x → Among c (f x) → Among c (flat_map f xs)
  in_one f c [] i x e h = absurd (let bad : None ≡ Some x = e in cc)
  in_one f c (y ∷ xs) zero x e h =
      let q : Some y ≡ Some x = e in
      let same : x ≡ y = cc in
      subst (Among c) (sym (flat_map-cons f y xs)) (in_front c (f y) (flat_map f xs) (subst (λ z. Among c (f z)) same h))
  in_one f c (y ∷ xs) (suc i) x e h = subst (Among c) (sym (flat_map-cons f y xs)) (behind c (f y) (flat_map f xs) (in_one f c xs i x e h))

  in_thread_at : (f : Option (Thread Activity Thing) → List ℕ) (c : ℕ) (ts : List (Option (Thread Activity Thing))) (n : ℕ) (t : Thread Activity Thing) → thread_at ts n ≡ Some t → Among c (f (Some t)) → Among c (flat_map f ts)
  in_thread_at f c [] n t e h = absurd (let bad : None ≡ Some t = e in cc)
  in_thread_at f c (o ∷ ts) zero t e h = subst (Among c) (sym (flat_map-cons f o ts)) (in_front c (f o) (flat_map f ts) (subst (λ z. Among c (f z)) (sym e) h))
  in_thread_at f c (o ∷ ts) (suc n) t e h = subst (Among c) (sym (flat_map-cons f o ts)) (behind c (f o) (flat_map f ts) (in_thread_at f c ts n t e h))

  among_both : (a b : Bool) → (a || b) ≡ true → (a ≡ true) ⊎ (b ≡ true)
  among_both true b h = inl refl
  among_both false b h = inr h

  -- what is pending is among the roots
  pending_in_thread : (s : Store) (t : Thread Activity Thing) (i c : ℕ) (a : Activation) → slice_get t.stack i ≡ Some (Within a) → Among c (in_action t.action ++ in_things a.standing.held) → Among c (reaching.in_thread p s t)
  pending_in_thread s t i c a e h =
      let stack : List ℕ = flat_map (reaching.in_activity p s) t.stack in
      ⊎_elim
      (λ acts. in_front c (in_action t.action ++ in_status t.status ++ in_thing t.cell) stack (in_front c (in_action t.action ++ in_status t.status) (in_thing t.cell) (in_front c (in_action t.action) (in_status t.status) acts)))
      (λ held. behind c (in_action t.action ++ in_status t.status ++ in_thing t.cell) stack (in_one (reaching.in_activity p s) c t.stack i (Within a) e (behind c _ (in_things a.standing.held) held)))
      (among_both _ _ (sym (list_any-append (λ d. d == c) (in_action t.action) (in_things a.standing.held)) ∙ h))

  reached : (steps : ℕ) (parts : Parts Activity Thing Store) (c : ℕ) → Among c (reaching.roots p parts) → reaching.is_reached_by p steps parts c ≡ true
  reached zero parts c h = h
  reached (suc steps) parts c h = or_left _ _ (reached steps parts c h)

  more_or_same : (g : ℕ → ℕ) (b : Bool) (x : ℕ) (xs : List ℕ) (n : ℕ) → n ≤ sum_by g xs → n ≤ sum_by g (cond b (x ∷ xs) xs)
  more_or_same g true x xs n h = let sum : sum_by g (x ∷ xs) ≡ g x + sum_by g xs = sum_by-cons g x xs in subst (λ m. n ≤ m) (sym sum) (omega arith)
  more_or_same g false x xs n h = h

  one_counts : (g : ℕ → ℕ) (x : ℕ) (xs : List ℕ) (b : Bool) → b ≡ true → g x ≤ sum_by g (cond b (x ∷ xs) xs)
  one_counts g x xs true h = let sum : sum_by g (x ∷ xs) ≡ g x + sum_by g xs = sum_by-cons g x xs in subst (λ m. g x ≤ m) (sym sum) (omega arith)
  one_counts g x xs false h = absurd (let bad : false ≡ true = h in cc)

  -- a number of a range that passes counts
  counts : (g : ℕ → ℕ) (f : ℕ → Bool) (a n c : ℕ) → a ≤ c → c < a + n → f c ≡ true → g c ≤ sum_by g (filter f (range_with_len a n))
  counts g f a zero c le less h = absurd (omega arith)
  counts g f a (suc n) c le less h = ⊎_elim
      (λ same. subst (λ m. g m ≤ sum_by g (filter f (range_with_len a (suc n)))) same (one_counts g a (filter f (range_with_len (a + 1) n)) (f a) (ap f same ∙ h)))
      (λ more. more_or_same g (f a) a (filter f (range_with_len (a + 1) n)) (g c) (counts g f (a + 1) n c (omega arith) (omega arith) h))
      (eq-or-lt_of_le le)

pub pending_counts : PendingCounts
pending_counts p parts n i c t a is at h less =
    let in_roots : Among p c (reaching.roots p parts) = behind p c _ _ (in_thread_at p (reaching.in_thread_if p parts.memory) c parts.threads n t is (pending_in_thread p parts.memory t i c a at h)) in
    counts p (λ d. option_map_or (reaching.cell_words p) (cell_at parts.memory d) 0) (reaching.is_reached_by p (length parts.memory.cells) parts) 0 (length parts.memory.cells) c (omega arith) (omega arith)
    (reached p (length parts.memory.cells) parts c in_roots)
