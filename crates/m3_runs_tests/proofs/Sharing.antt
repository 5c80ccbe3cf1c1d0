-- Mutexes, threads' cells and closures over moving cells are those over named cells.
use Rattle.std.proofs.Common.{◌≡◌, ℕ, ◌+◌, ◌<◌, Bool, true, false, [], ◌∷◌, Option, Some, None, refl, sym, ap, ◌∙◌, subst, arith}
use Rattle.std.specs.Prelude.{◌==◌, nat_lt, if◌then◌else◌}
use Rattle.std.proofs.lemmas.Bool.Decides.{nat_tests}
use Rattle.m3_runs.specs.Languages.{Form, Alive, Ended, Joined}
use Rattle.m3_runs.specs.Follows as rel
use Rattle.m3_runs.specs.Follows.{Each, none, more, AsDefined, undefined, defined, IsOne, SameLife, SameBegun}
use Rattle.m3_runs.proofs.Choosing.{by_test}
use Rattle.m3_runs_tests.specs.Code.{Code}
use Rattle.m3_runs_tests.specs.Meaning.{Tagged, Plain, Tidy, Lowest, mapped, found, holder, hold, life_of, life, join, end_with, begun, begins, is_same, bytes}
use Rattle.m3_runs_tests.specs.Named as named
use Rattle.m3_runs_tests.specs.Named.{Word, Number, Cell}
use Rattle.m3_runs_tests.specs.Moving as moving
use Rattle.m3_runs_tests.specs.Moving.{Places}
use Rattle.m3_runs_tests.specs.Sound as sound
use Rattle.m3_runs_tests.specs.Sound.{Sound, World, TidyAs, ValueAs, ActivationAs, MemoryAs, standing}
use Rattle.m3_runs_tests.proofs.Going.{tidy_place, further_place, load_there, store_there}

found_so : {A B C D : Type 0} (P : A → B → Type 0) (Q : C → D → Type 0) (o : Option A) (o' : Option B) (f : A → Option C) (g : B → Option D) →
    AsDefined P o o' → ((x : A) (y : B) → P x y → AsDefined Q (f x) (g y)) → AsDefined Q (found o f) (found o' g)
found_so P Q o o' f g (undefined _) h = undefined (found o' g)
found_so P Q o o' f g (defined x y k) h = h x y k

-- what the first one does only under a test
under : {A B : Type 0} (P : A → B → Type 0) (b : Bool) (o : Option A) (o' : Option B) → (b ≡ true → AsDefined P o o') → AsDefined P (if b then o else None) o'
under P true o o' h = h refl
under P false o o' h = undefined o'

module _ (c : Code) (p : Places) (limit : ℕ) (w : World c p limit) where
  number_of : (v : Word) (k : ℕ) → TidyAs c p limit w v k → AsDefined IsOne (named.as_number v) (Some k)
  number_of (Number n) k h = defined n k h.0
  number_of (Cell e d) k h = undefined (Some k)

  number_found : (o : Option Word) (o' : Option ℕ) → AsDefined (TidyAs c p limit w) o o' → AsDefined IsOne (found o named.as_number) (found o' Some)
  number_found o o' h = found_so (TidyAs c p limit w) IsOne o o' named.as_number Some h number_of

  module _ (m : named.Memory) (m' : moving.Memory) (mem : MemoryAs c p limit w m m') where
    word_so : (u : Word) (k i : ℕ) → TidyAs c p limit w u k → AsDefined (TidyAs c p limit w) (named.load m (named.further u i)) (m'.words (k + i))
    word_so u k i h = load_there c p limit w m m' (named.further u i) (k + i) mem (further_place c p limit w u k i (tidy_place c p limit w u k h))

    pub holder_so : (v : Tagged Word) (v' : Tagged ℕ) → ValueAs c p limit w v v' → AsDefined IsOne (holder (named.words limit) c m v) (holder (moving.words p) c m' v')
    holder_so v v' (sound.plain n) = undefined None
    holder_so v v' (sound.tidy u k h) = number_found (named.load m u) (m'.words k) (load_there c p limit w m m' u k mem (tidy_place c p limit w u k h))

    pub hold_so : (v : Tagged Word) (v' : Tagged ℕ) (n : ℕ) → ValueAs c p limit w v v' → AsDefined (MemoryAs c p limit w) (hold (named.words limit) c m v n) (hold (moving.words p) c m' v' n)
    hold_so v v' n (sound.plain i) = undefined None
    hold_so v v' n (sound.tidy u k h) =
        under (MemoryAs c p limit w) (nat_lt n limit) (named.store m u (Number n)) (moving.with_word m' k n (m'.words k))
        (λ t. let small : n < limit = grind (arith, nat_tests, t) in store_there c p limit w m m' u (Number n) k n mem (tidy_place c p limit w u k h) (refl, small))

    result_so : (o : Option Word) (o' : Option ℕ) → AsDefined (TidyAs c p limit w) o o' → AsDefined (SameLife (standing c p limit) w) (mapped (λ x. Ended (Tidy x)) o) (mapped (λ x. Ended (Tidy x)) o')
    result_so o o' (undefined _) = undefined _
    result_so o o' (defined v k h) = defined _ _ (rel.ended (Tidy v) (Tidy k) (sound.tidy v k h))

    lives_so : (ended over joined : Bool) (o : Option Word) (o' : Option ℕ) → AsDefined (TidyAs c p limit w) o o' →
        AsDefined (SameLife (standing c p limit) w) (if ended then Some Alive else if over then mapped (λ x. Ended (Tidy x)) o else if joined then Some Joined else None)
        (if ended then Some Alive else if over then mapped (λ x. Ended (Tidy x)) o' else if joined then Some Joined else None)
    lives_so true over joined o o' h = defined Alive Alive rel.alive
    lives_so false true joined o o' h = result_so o o' h
    lives_so false false true o o' h = defined Joined Joined rel.joined
    lives_so false false false o o' h = undefined None

    pub life_so : (v : Tagged Word) (v' : Tagged ℕ) → ValueAs c p limit w v v' → AsDefined (SameLife (standing c p limit) w) (life (named.words limit) c m v) (life (moving.words p) c m' v')
    life_so v v' (sound.plain n) = undefined None
    life_so v v' (sound.tidy u k h) =
        found_so IsOne (SameLife (standing c p limit) w) (found (named.load m (named.further u 1)) named.as_number) (found (m'.words (k + 1)) Some) (life_of (named.words limit) c (named.load m (named.further u 2))) (life_of (moving.words p) c (m'.words (k + 2)))
        (number_found (named.load m (named.further u 1)) (m'.words (k + 1)) (word_so u k 1 h))
        (λ i j e. subst (λ z. AsDefined (SameLife (standing c p limit) w) (life_of (named.words limit) c (named.load m (named.further u 2)) i) (life_of (moving.words p) c (m'.words (k + 2)) z)) e
        (lives_so (i == 0) (i == 1) (i == 2) (named.load m (named.further u 2)) (m'.words (k + 2)) (word_so u k 2 h)))

    begun_so : (u : Word) (k : ℕ) (o o' : Option ℕ) → TidyAs c p limit w u k → AsDefined IsOne o o' → AsDefined (SameBegun (standing c p limit) w) (mapped (begun (named.words limit) c u) o) (mapped (begun (moving.words p) c k) o')
    begun_so u k o o' h (undefined _) = undefined _
    begun_so u k o o' h (defined i j e) =
        subst (λ z. AsDefined (SameBegun (standing c p limit) w) (Some (begun (named.words limit) c u i)) (Some (begun (moving.words p) c k z))) e
        (defined (begun (named.words limit) c u i) (begun (moving.words p) c k i) (record {
          action = rel.calls i (Plain (Number 0)) (Plain 0) (Tidy u ∷ []) (Tidy k ∷ []) (sound.plain 0) (more (Tidy u) (Tidy k) [] [] (sound.tidy u k h) none);
          stack = more Lowest Lowest [] [] sound.lowest none;
        }))

    pub begins_so : (v : Tagged Word) (v' : Tagged ℕ) → ValueAs c p limit w v v' → AsDefined (SameBegun (standing c p limit) w) (begins (named.words limit) c m v) (begins (moving.words p) c m' v')
    begins_so v v' (sound.plain n) = undefined None
    begins_so v v' (sound.tidy u k h) = begun_so u k (found (named.load m u) named.as_number) (found (m'.words k) Some) h (number_found (named.load m u) (m'.words k) (load_there c p limit w m m' u k mem (tidy_place c p limit w u k h)))

    -- ---- references that are the same

    cells_same : (e f k l : ℕ) → w e ≡ Some k → w f ≡ Some l → (e == f) ≡ (k == l)
    cells_same e f k l we wf = by_test (k == l) ((e == f) ≡ (k == l))
        (λ t.
        let same : k ≡ l = grind (arith, nat_tests, t) in
        let one : e ≡ f = mem.one e f k we (wf ∙ ap (λ z. Some z) (sym same)) in
        let q : (e == f) ≡ true = grind (arith, nat_tests, one) in q ∙ sym t)
        (λ t. by_test (e == f) ((e == f) ≡ (k == l))
        (λ s.
        let one : e ≡ f = grind (arith, nat_tests, s) in
        let both : Some k ≡ Some l = sym we ∙ ap w one ∙ wf in
        let same : k ≡ l = cc in
        let q : (k == l) ≡ true = grind (arith, nat_tests, same) in s ∙ sym q)
        (λ s. s ∙ sym t))

    words_same : (v u : Word) (k l : ℕ) → TidyAs c p limit w v k → TidyAs c p limit w u l → named.is_one v u ≡ (k == l)
    words_same (Number n) (Number i) k l h q = ap (λ z. z == i) h.0 ∙ ap (λ z. k == z) q.0
    words_same (Cell e d) (Cell f i) k l h q = cells_same e f k l h.1 q.1
    words_same (Number n) (Cell f i) k l h q = let low = h.1 in let above = mem.high f l q.1 in let no : false ≡ (k == l) = grind (arith, nat_tests, low, above) in no
    words_same (Cell e d) (Number i) k l h q = let low = q.1 in let above = mem.high e k h.1 in let no : false ≡ (k == l) = grind (arith, nat_tests, low, above) in no

    pub is_same_so : (v u : Tagged Word) (v' u' : Tagged ℕ) → ValueAs c p limit w v v' → ValueAs c p limit w u u' → is_same (named.words limit) c v u ≡ is_same (moving.words p) c v' u'
    is_same_so v u v' u' (sound.plain n) (sound.plain i) = refl
    is_same_so v u v' u' (sound.plain n) (sound.tidy x k h) = refl
    is_same_so v u v' u' (sound.tidy x k h) (sound.plain n) = refl
    is_same_so v u v' u' (sound.tidy x k h) (sound.tidy y l q) = words_same x y k l h q

    pub bytes_so : (form : Form) (v : Tagged Word) (v' : Tagged ℕ) → ValueAs c p limit w v v' → AsDefined IsOne (bytes (named.words limit) c m form v) (bytes (moving.words p) c m' form v')
    bytes_so form v v' (sound.plain n) = defined (n ∷ []) (n ∷ []) refl
    bytes_so form v v' (sound.tidy u k h) = undefined None

  put_so : (n : named.Memory) (n' : moving.Memory) (u v : Word) (k l i : ℕ) → MemoryAs c p limit w n n' → TidyAs c p limit w u k → TidyAs c p limit w v l → AsDefined (MemoryAs c p limit w) (named.store n (named.further u i) v) (moving.with_word n' (k + i) l (n'.words (k + i)))
  put_so n n' u v k l i mem h q = store_there c p limit w n n' (named.further u i) v (k + i) l mem (further_place c p limit w u k i (tidy_place c p limit w u k h)) q

  module _ (m : named.Memory) (m' : moving.Memory) (mem : MemoryAs c p limit w m m') (heap : 2 < limit) where
    pub join_so : (v : Tagged Word) (v' : Tagged ℕ) → ValueAs c p limit w v v' → AsDefined (MemoryAs c p limit w) (join (named.words limit) c m v) (join (moving.words p) c m' v')
    join_so v v' (sound.plain n) = undefined None
    join_so v v' (sound.tidy u k h) = put_so m m' u (Number 2) k 2 1 mem h (refl, heap)

    pub end_so : (v r : Tagged Word) (v' r' : Tagged ℕ) → ValueAs c p limit w v v' → ValueAs c p limit w r r' → AsDefined (MemoryAs c p limit w) (end_with (named.words limit) c m v r) (end_with (moving.words p) c m' v' r')
    end_so v r v' r' (sound.plain n) (sound.plain i) = undefined None
    end_so v r v' r' (sound.plain n) (sound.tidy x l q) = undefined None
    end_so v r v' r' (sound.tidy u k h) (sound.plain i) = undefined None
    end_so v r v' r' (sound.tidy u k h) (sound.tidy x l q) =
        let one : 1 < limit = omega (arith, heap) in
        found_so (MemoryAs c p limit w) (MemoryAs c p limit w) (named.store m (named.further u 2) x) (moving.with_word m' (k + 2) l (m'.words (k + 2)))
        (λ n. named.store n (named.further u 1) (Number 1)) (λ n. moving.with_word n (k + 1) 1 (n.words (k + 1)))
        (put_so m m' u x k l 2 mem h q) (λ n n' same. put_so n n' u (Number 1) k 1 1 same h (refl, one))
