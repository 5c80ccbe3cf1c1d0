-- An activation over moving cells goes on as the one does that it shows.
use Rattle.std.proofs.Common.{◌≡◌, ◌≢◌, ℕ, zero, suc, ◌+◌, ◌<◌, ◌⊎◌, inl, ⊎_elim, Bool, true, false, List, [], ◌∷◌, Option, Some, None, refl, sym, ap, ◌∙◌, subst, arith}
use Rattle.std.specs.Prelude.{◌==◌, ◌&&◌, if◌then◌else◌, slice_get}
use Rattle.std.proofs.lemmas.Bool.{cases_lt}
use Rattle.std.proofs.lemmas.Bool.Decides.{nat_tests}
use Rattle.m3_runs.specs.Languages.{Action, Calls, Makes, Forks, Serves, Passes, Answer, Gives, Raises, Fails, Move, Acts, Leaves, Faults, Breaks}
use Rattle.m3_runs.specs.Languages as asked
use Rattle.m3_runs.specs.Follows as rel
use Rattle.m3_runs.specs.Follows.{Each, none, more, Both, neither, both, AsDefined, undefined, defined, SameShown, SameService, SameAction, SameAnswer}
use Rattle.m3_runs_tests.specs.Code as code
use Rattle.m3_runs_tests.specs.Code.{Kind, Numeric, Pointer, Derived, Op, Asked, Ask, End, Block, Start, Code}
use Rattle.m3_runs_tests.specs.Meaning.{Tagged, Plain, Tidy, Waiting, Activation, Within, mapped, service_of, waiting_for, Going, setting, storing, run_op, tag, tagged, with_row, row, asking, action, leaving, returned, raised, choosing, run_end, run_ops, run_block, run_blocks, answered, nothing, with_shown, shown_row, shows, go_from, go_within, go_on, begin}
use Rattle.m3_runs_tests.specs.Named as named
use Rattle.m3_runs_tests.specs.Named.{Word, Number, Cell}
use Rattle.m3_runs_tests.specs.Moving as moving
use Rattle.m3_runs_tests.specs.Moving.{Places, Apart}
use Rattle.m3_runs_tests.specs.Sound as sound
use Rattle.m3_runs_tests.specs.Sound.{Live, Closed, Sets, Within_live, NumberFits, StepFits, IsAddress, SoundOp, SoundRow, AllLive, SoundAsk, SoundEnd, SoundOps, SoundStart, Sound, World, TidyAs, ValueAs, FitsAs, Fits, WaitingAs, ActivationAs, WordThere, MemoryAs, MoveAs, standing}

by_cases : (i n : ℕ) (P : Type 0) → (i ≡ n → P) → (i ≢ n → P) → P
by_cases i n P f g = ⊎_elim (λ lt. g (λ e. absurd (omega arith))) (λ le. ⊎_elim (λ lt. g (λ e. absurd (omega arith))) (λ le'. f (omega arith)) (cases_lt n i)) (cases_lt i n)

word_same : (f : named.Frame) (t : ℕ) (v : Word) → named.set f t v t ≡ v
word_same f t v = grind (arith, nat_tests)

word_other : (f : named.Frame) (t u : ℕ) (v : Word) → u ≢ t → named.set f t v u ≡ f u
word_other f t u v ne = grind (arith, nat_tests)

slot_same : (f : moving.Frame) (t v : ℕ) → moving.set f t v t ≡ v
slot_same f t v = grind (arith, nat_tests)

slot_other : (f : moving.Frame) (t u v : ℕ) → u ≢ t → moving.set f t v u ≡ f u
slot_other f t u v ne = grind (arith, nat_tests)

further_zero : (v : Word) → named.further v 0 ≡ v
further_zero (Number n) = let e : n + 0 ≡ n = omega arith in ap Number e
further_zero (Cell e d) = let q : d + 0 ≡ d = omega arith in ap (λ i. Cell e i) q

further_more : (v : Word) (a b : ℕ) → named.further (named.further v a) b ≡ named.further v (a + b)
further_more (Number n) a b = let e : n + a + b ≡ n + (a + b) = omega arith in ap Number e
further_more (Cell e d) a b = let q : d + a + b ≡ d + (a + b) = omega arith in ap (λ i. Cell e i) q

module _ (c : Code) (p : Places) (limit : ℕ) (w : World c p limit) where
  fits_eq : (kd : Kind) (v u : Word) (k l : ℕ) (f : named.Frame) (f' : moving.Frame) → v ≡ u → k ≡ l → FitsAs c p limit w kd v k f f' → FitsAs c p limit w kd u l f f'
  fits_eq kd v u k l f f' e q h = subst (λ i. FitsAs c p limit w kd u i f f') q (subst (λ x. FitsAs c p limit w kd x k f f') e h)

  fits_stays : (kd : Kind) (v : Word) (k : ℕ) (f g : named.Frame) (f' g' : moving.Frame) → ((b : ℕ) → kd ≡ Derived b → (g b ≡ f b) × (g' (p.place b) ≡ f' (p.place b))) →
      FitsAs c p limit w kd v k f f' → FitsAs c p limit w kd v k g g'
  fits_stays Numeric v k f g f' g' h e = e
  fits_stays Pointer v k f g f' g' h e = e
  fits_stays (Derived b) v k f g f' g' h e =
      let q = h b refl in
      (e.0, e.1 ∙ ap (λ x. named.further x e.0) (sym q.0), e.2 ∙ ap (λ x. x + e.0) (sym q.1))

  -- a live base has another place than what is set
  base_apart : (x y : Live) (t b : ℕ) → Sets c p limit x t y → y b ≡ true → b ≢ t → p.place b ≢ p.place t
  base_apart x y t b sets yb ne = ⊎_elim (λ e. absurd (ne e)) (λ h. h.2) (sets b yb)

  bases_stay : (x y : Live) (t : ℕ) (v : Word) (k : ℕ) (f : named.Frame) (f' : moving.Frame) (b : ℕ) → Sets c p limit x t y → y b ≡ true → b ≢ t →
      (named.set f t v b ≡ f b) × (moving.set f' (p.place t) k (p.place b) ≡ f' (p.place b))
  bases_stay x y t v k f f' b sets yb ne = (word_other f t b v ne, slot_other f' (p.place t) (p.place b) k (base_apart x y t b sets yb ne))

  -- its base is tidy, so it is another one
  other_base : (t b : ℕ) → c.kind t ≡ Derived b → c.kind b ≡ Pointer → b ≢ t
  other_base t b e q = λ same. absurd (let bad : Derived b ≡ Pointer = sym e ∙ ap c.kind (sym same) ∙ q in cc)

  pub assigned : (x y : Live) (t : ℕ) (v : Word) (k : ℕ) (f : named.Frame) (f' : moving.Frame) → Sets c p limit x t y → Closed c p limit y → Fits c p limit w x f f' →
      (y t ≡ true → FitsAs c p limit w (c.kind t) v k f f') → Fits c p limit w y (named.set f t v) (moving.set f' (p.place t) k)
  assigned x y t v k f f' sets closed fits new u yu =
      let g = named.set f t v in
      let g' = moving.set f' (p.place t) k in
      let own : y t ≡ true → FitsAs c p limit w (c.kind t) (g t) (g' (p.place t)) g g' = λ yt.
      fits_eq (c.kind t) v (g t) k (g' (p.place t)) g g' (sym (word_same f t v)) (sym (slot_same f' (p.place t) k))
      (fits_stays (c.kind t) v k f g f' g' (λ b e. let q = closed t b yt e in bases_stay x y t v k f f' b sets q.0 (other_base t b e q.1)) (new yt)) in
      ⊎_elim
      (λ e. subst (λ i. y i ≡ true → FitsAs c p limit w (c.kind i) (g i) (g' (p.place i)) g g') (sym e) own yu)
      (λ h. fits_eq (c.kind u) (f u) (g u) (f' (p.place u)) (g' (p.place u)) g g' (sym (word_other f t u v h.1)) (sym (slot_other f' (p.place t) (p.place u) k h.2))
      (fits_stays (c.kind u) (f u) (f' (p.place u)) f g f' g' (λ b e. bases_stay x y t v k f f' b sets (closed u b yu e).0 (h.3 b e)) (fits u h.0)))
      (sets u yu)

  number_fits : (kd : Kind) (n : ℕ) (f : named.Frame) (f' : moving.Frame) → NumberFits c p limit n kd → FitsAs c p limit w kd (Number n) n f f'
  number_fits Numeric n f f' h = refl
  number_fits Pointer n f f' h = (refl, h)
  number_fits (Derived b) n f f' h = absurd h

  step_fits : (a n : ℕ) (ka kt : Kind) (f : named.Frame) (f' : moving.Frame) → StepFits c p limit a n ka kt → FitsAs c p limit w ka (f a) (f' (p.place a)) f f' →
      FitsAs c p limit w kt (named.further (f a) n) (f' (p.place a) + n) f f'
  step_fits a n ka kt f f' (sound.numeric _) h = ap (λ v. named.further v n) h
  step_fits a n ka kt f f' sound.pointer h =
      let e : f' (p.place a) ≡ f' (p.place a) + 0 = omega arith in
      fits_eq Pointer (f a) (named.further (f a) 0) (f' (p.place a)) (f' (p.place a) + 0) f f' (sym (further_zero (f a))) e h
  step_fits a n ka kt f f' (sound.derives _) h = (n, refl, refl)
  step_fits a n ka kt f f' (sound.derived _ b) h =
      let e : f' (p.place b) + h.0 + n ≡ f' (p.place b) + (h.0 + n) = omega arith in
      (h.0 + n, ap (λ v. named.further v n) h.1 ∙ further_more (f b) h.0 n, ap (λ i. i + n) h.2 ∙ e)

  -- ---- addresses

  pub data PlaceAs : Word → ℕ → Type 0 where
    nowhere : (n k : ℕ) → PlaceAs (Number n) k
    in_cell : (e d a k : ℕ) → w e ≡ Some a → k ≡ a + d → PlaceAs (Cell e d) k

  pub tidy_place : (v : Word) (k : ℕ) → TidyAs c p limit w v k → PlaceAs v k
  tidy_place (Number n) k h = nowhere n k
  tidy_place (Cell e d) k h = let q : k ≡ k + d = omega (arith, h.0) in in_cell e d k k h.1 q

  pub further_place : (v : Word) (k d : ℕ) → PlaceAs v k → PlaceAs (named.further v d) (k + d)
  further_place v k d (nowhere n _) = nowhere (n + d) (k + d)
  further_place v k d (in_cell e i a _ h q) = let r : k + d ≡ a + (i + d) = omega (arith, q) in in_cell e (i + d) a (k + d) h r

  address_so : (kd : Kind) (v : Word) (k : ℕ) (f : named.Frame) (f' : moving.Frame) → IsAddress c p limit kd → ((b : ℕ) → kd ≡ Derived b → TidyAs c p limit w (f b) (f' (p.place b))) →
      FitsAs c p limit w kd v k f f' → PlaceAs v k
  address_so kd v k f f' sound.pointer base h = tidy_place v k h
  address_so kd v k f f' (sound.derived b) base h =
      let q = further_place (f b) (f' (p.place b)) h.0 (tidy_place (f b) (f' (p.place b)) (base b refl)) in
      subst (λ i. PlaceAs v i) (sym h.2) (subst (λ x. PlaceAs x (f' (p.place b) + h.0)) (sym h.1) q)

  pub live_address : (x : Live) (a : ℕ) (f : named.Frame) (f' : moving.Frame) → Closed c p limit x → Fits c p limit w x f f' → x a ≡ true → IsAddress c p limit (c.kind a) → PlaceAs (f a) (f' (p.place a))
  live_address x a f f' closed fits xa is =
      address_so (c.kind a) (f a) (f' (p.place a)) f f' is (λ b e. let q = closed a b xa e in subst (λ kd. FitsAs c p limit w kd (f b) (f' (p.place b)) f f') q.1 (fits b q.0)) (fits a xa)

  -- ---- goings

  abbrev pub GoingA : Type 0
  GoingA = Going (named.words limit) c

  abbrev pub GoingB : Type 0
  GoingB = Going (moving.words p) c

  -- where the machine comes to a move, the other comes to the same one
  abbrev pub SameGoing : GoingA → GoingB → Type 0
  SameGoing r r' = (move' : Move (Activation moving.Frame) (Tagged ℕ) moving.Memory) → r' ≡ Some move' →
      (move : Move (Activation named.Frame) (Tagged Word) named.Memory) × (r ≡ Some move) × MoveAs c p limit w move move'

  broken_so : (r' : GoingB) → SameGoing (Some Breaks) r'
  broken_so r' move' e = (Breaks, refl, sound.breaks move')

  some_so : (move : Move (Activation named.Frame) (Tagged Word) named.Memory) (move' : Move (Activation moving.Frame) (Tagged ℕ) moving.Memory) → MoveAs c p limit w move move' → SameGoing (Some move) (Some move')
  some_so move move' h other e = let same : move' ≡ other = cc in (move, refl, subst (λ i. MoveAs c p limit w move i) same h)

  -- ---- memory

  stored : (m : named.Memory) (m' : moving.Memory) (e d a k : ℕ) (x old : Word) → MemoryAs c p limit w m m' → w e ≡ Some a → m.words e d ≡ Some old → TidyAs c p limit w x k →
      MemoryAs c p limit w (record m { words = λ e2 i. if e2 == e && i == d then Some x else m.words e2 i }) (record m' { words = λ at. if at == a + d then Some k else m'.words at })
  stored m m' e d a k x old mem we there fits = record {
    words = λ e2 a2 i v w2 is.
        let decide : (q : Bool) → (e2 == e && i == d) ≡ q → (if q then Some x else m.words e2 i) ≡ Some v → WordThere c p limit w (record m' { words = λ at. if at == a + d then Some k else m'.words at }) a2 i v =
        λ q. elim q as (λ q. (e2 == e && i == d) ≡ q → (if q then Some x else m.words e2 i) ≡ Some v → WordThere c p limit w (record m' { words = λ at. if at == a + d then Some k else m'.words at }) a2 i v) [
          | true ↦ λ t is'.
              let same_e : e2 ≡ e = grind (arith, nat_tests) in
              let same_i : i ≡ d = grind (arith, nat_tests) in
              let both : Some a2 ≡ Some a = sym w2 ∙ ap w same_e ∙ we in
              let same_a : a2 ≡ a = cc in
              let same_x : x ≡ v = cc in
              let o = mem.words e a d old we there in
              let at : a2 + i ≡ a + d = omega (arith, same_a, same_i) in
              record {
                size = o.size;
                sized = ap m'.sizes same_a ∙ o.sized;
                within = let q : i < o.size = omega (arith, same_i, o.within) in q;
                word = k;
                there = let q : (if (a2 + i) == (a + d) then Some k else m'.words (a2 + i)) ≡ Some k = grind (arith, nat_tests) in q;
                same = subst (λ y. TidyAs c p limit w y k) same_x fits;
              }
          | false ↦ λ t is'.
              let o = mem.words e2 a2 i v w2 is' in
              let q = mem.words e a d old we there in
              let ne : (a2 + i ≢ a + d) = λ at.
              let h = mem.apart a2 a i d o.size q.size o.sized q.sized o.within q.within at in
              let w3 : w e ≡ Some a2 = we ∙ ap (λ z. Some z) (sym h.0) in
              let same_e : e2 ≡ e = mem.one e2 e a2 w2 w3 in
              let bad : (e2 == e && i == d) ≡ true = grind (arith, nat_tests, same_e, h.1) in
              absurd (let no : true ≡ false = sym bad ∙ t in cc) in
              record {
                size = o.size;
                sized = o.sized;
                within = o.within;
                word = o.word;
                there = let q2 : (if (a2 + i) == (a + d) then Some k else m'.words (a2 + i)) ≡ m'.words (a2 + i) = grind (arith, nat_tests, ne) in q2 ∙ o.there;
                same = o.same;
              }
        ] in
        decide (e2 == e && i == d) refl is;
    sized = mem.sized;
    fresh = mem.fresh;
    one = mem.one;
    high = mem.high;
    apart = mem.apart;
  }

  -- ---- loads and stores

  load_in : (m : named.Memory) (m' : moving.Memory) (e d a k : ℕ) (o : Option Word) → MemoryAs c p limit w m m' → w e ≡ Some a → k ≡ a + d → m.words e d ≡ o → AsDefined (TidyAs c p limit w) o (m'.words k)
  load_in m m' e d a k None mem we q is = undefined (m'.words k)
  load_in m m' e d a k (Some u) mem we q is =
      let o = mem.words e a d u we is in
      let there : m'.words k ≡ Some o.word = ap m'.words q ∙ o.there in
      subst (λ z. AsDefined (TidyAs c p limit w) (Some u) z) (sym there) (defined u o.word o.same)

  pub load_there : (m : named.Memory) (m' : moving.Memory) (v : Word) (k : ℕ) → MemoryAs c p limit w m m' → PlaceAs v k → AsDefined (TidyAs c p limit w) (named.load m v) (m'.words k)
  load_there m m' v k mem (nowhere n _) = undefined (m'.words k)
  load_there m m' v k mem (in_cell e d a _ we q) = load_in m m' e d a k (m.words e d) mem we q refl

  store_in : (m : named.Memory) (m' : moving.Memory) (e d a k : ℕ) (u : Word) (l : ℕ) (o : Option Word) → MemoryAs c p limit w m m' → TidyAs c p limit w u l → w e ≡ Some a → k ≡ a + d → m.words e d ≡ o →
      AsDefined (MemoryAs c p limit w) (named.with_word m e d u o) (moving.with_word m' k l (m'.words k))
  store_in m m' e d a k u l None mem tidy we q is = undefined (moving.with_word m' k l (m'.words k))
  store_in m m' e d a k u l (Some old) mem tidy we q is =
      let o = mem.words e a d old we is in
      let there : m'.words k ≡ Some o.word = ap m'.words q ∙ o.there in
      let new = record m { words = λ e2 i. if e2 == e && i == d then Some u else m.words e2 i } in
      let new' = record m' { words = λ at. if at == a + d then Some l else m'.words at } in
      let after : MemoryAs c p limit w new new' = stored m m' e d a l u old mem we is tidy in
      subst (λ z. AsDefined (MemoryAs c p limit w) (Some new) (moving.with_word m' k l z)) (sym there)
      (subst (λ at. AsDefined (MemoryAs c p limit w) (Some new) (Some (record m' { words = λ i. if i == at then Some l else m'.words i }))) (sym q)
      (defined new new' after))

  pub store_there : (m : named.Memory) (m' : moving.Memory) (v u : Word) (k l : ℕ) → MemoryAs c p limit w m m' → PlaceAs v k → TidyAs c p limit w u l → AsDefined (MemoryAs c p limit w) (named.store m v u) (moving.with_word m' k l (m'.words k))
  store_there m m' v u k l mem (nowhere n _) tidy = undefined (moving.with_word m' k l (m'.words k))
  store_there m m' v u k l mem (in_cell e d a _ we q) tidy = store_in m m' e d a k u l (m.words e d) mem tidy we q refl

  -- ---- operations

  -- what follows an operation, in each frame and memory that shows the other one
  abbrev pub Next : Live → (named.Frame → named.Memory → GoingA) → (moving.Frame → moving.Memory → GoingB) → Type 0
  Next y go go' = (g : named.Frame) (g' : moving.Frame) (m : named.Memory) (m' : moving.Memory) → Fits c p limit w y g g' → MemoryAs c p limit w m m' → SameGoing (go g m) (go' g' m')

  module _ (x y : Live) (f : named.Frame) (f' : moving.Frame) (m : named.Memory) (m' : moving.Memory) (closed : Closed c p limit y) (fits : Fits c p limit w x f f') (mem : MemoryAs c p limit w m m')
      (go : named.Frame → named.Memory → GoingA) (go' : moving.Frame → moving.Memory → GoingB) (next : Next y go go') where
    sets_so : (t : ℕ) (v : Word) (k : ℕ) → Sets c p limit x t y → (y t ≡ true → FitsAs c p limit w (c.kind t) v k f f') → SameGoing (go (named.set f t v) m) (go' (moving.set f' (p.place t) k) m')
    sets_so t v k sets new = next (named.set f t v) (moving.set f' (p.place t) k) m m' (assigned x y t v k f f' sets closed fits new) mem

    load_so : (t : ℕ) (o : Option Word) (o' : Option ℕ) → Sets c p limit x t y → c.kind t ≡ Pointer → AsDefined (TidyAs c p limit w) o o' →
        SameGoing (setting (named.words limit) c go f m t o) (setting (moving.words p) c go' f' m' t o')
    load_so t o o' sets kd (undefined _) = broken_so _
    load_so t o o' sets kd (defined u k h) = sets_so t u k sets (λ yt. subst (λ z. FitsAs c p limit w z u k f f') (sym kd) h)

    store_so : (o : Option named.Memory) (o' : Option moving.Memory) → Within_live c p limit y x → AsDefined (MemoryAs c p limit w) o o' →
        SameGoing (storing (named.words limit) c go f o) (storing (moving.words p) c go' f' o')
    store_so o o' within (undefined _) = broken_so _
    store_so o o' within (defined n n' h) = next f f' n n' (λ t yt. fits t (within t yt)) h

  op_so : (x y : Live) (op : Op) (f : named.Frame) (f' : moving.Frame) (m : named.Memory) (m' : moving.Memory) (go : named.Frame → named.Memory → GoingA) (go' : moving.Frame → moving.Memory → GoingB) →
      SoundOp c p limit x y op → Closed c p limit x → Closed c p limit y → Fits c p limit w x f f' → MemoryAs c p limit w m m' → Next y go go' →
      SameGoing (run_op (named.words limit) c op f m go) (run_op (moving.words p) c op f' m' go')
  op_so x y op f f' m m' go go' (sound.number t n sets h) cx cy fits mem next = sets_so x y f f' m m' cy fits mem go go' next t (Number n) n sets (λ yt. number_fits (c.kind t) n f f' h)
  op_so x y op f f' m m' go go' (sound.move t a sets xa h) cx cy fits mem next =
      let k0 : f' (p.place a) + 0 ≡ f' (p.place a) = omega arith in
      sets_so x y f f' m m' cy fits mem go go' next t (f a) (f' (p.place a)) sets
      (λ yt. fits_eq (c.kind t) (named.further (f a) 0) (f a) (f' (p.place a) + 0) (f' (p.place a)) f f' (further_zero (f a)) k0 (step_fits a 0 (c.kind a) (c.kind t) f f' h (fits a xa)))
  op_so x y op f f' m m' go go' (sound.advance t a n sets xa h) cx cy fits mem next =
      sets_so x y f f' m m' cy fits mem go go' next t (named.further (f a) n) (f' (p.place a) + n) sets (λ yt. step_fits a n (c.kind a) (c.kind t) f f' h (fits a xa))
  op_so x y op f f' m m' go go' (sound.load t a sets xa is kd) cx cy fits mem next =
      load_so x y f f' m m' cy fits mem go go' next t (named.load m (f a)) (m'.words (f' (p.place a))) sets kd (load_there m m' (f a) (f' (p.place a)) mem (live_address x a f f' cx fits xa is))
  op_so x y op f f' m m' go go' (sound.store a v within xa xv is kd) cx cy fits mem next =
      store_so x y f f' m m' cy fits mem go go' next (named.store m (f a) (f v)) (moving.with_word m' (f' (p.place a)) (f' (p.place v)) (m'.words (f' (p.place a)))) within
      (store_there m m' (f a) (f v) (f' (p.place a)) (f' (p.place v)) mem (live_address x a f f' cx fits xa is) (subst (λ z. FitsAs c p limit w z (f v) (f' (p.place v)) f f') kd (fits v xv)))

  -- ---- rows and actions

  tag_so : (kd : Kind) (v : Word) (k : ℕ) (f : named.Frame) (f' : moving.Frame) (u : Tagged Word) → FitsAs c p limit w kd v k f f' → tag (named.words limit) c kd v ≡ Some u →
      (o : Tagged ℕ) × (tag (moving.words p) c kd k ≡ Some o) × ValueAs c p limit w u o
  tag_so Numeric v k f f' u h e =
      let same : Plain v ≡ u = cc in
      (Plain k, refl, subst (λ z. ValueAs c p limit w z (Plain k)) (ap (λ z. Plain z) (sym h) ∙ same) (sound.plain k))
  tag_so Pointer v k f f' u h e = let same : Tidy v ≡ u = cc in (Tidy k, refl, subst (λ z. ValueAs c p limit w z (Tidy k)) same (sound.tidy v k h))
  tag_so (Derived b) v k f f' u h e = absurd (let bad : None ≡ Some u = e in cc)

  module _ (x : Live) (f : named.Frame) (f' : moving.Frame) (fits : Fits c p limit w x f f') where
    tagged_so : (t : ℕ) (u : Tagged Word) → x t ≡ true → tagged (named.words limit) c f t ≡ Some u → (o : Tagged ℕ) × (tagged (moving.words p) c f' t ≡ Some o) × ValueAs c p limit w u o
    tagged_so t u xt e = tag_so (c.kind t) (f t) (f' (p.place t)) f f' u (fits t xt) e

    abbrev Row : List ℕ → List (Tagged Word) → Type 0
    Row ts us = (os : List (Tagged ℕ)) × (row (moving.words p) c f' ts ≡ Some os) × Each (ValueAs c p limit w) us os

    row_with : (t : ℕ) (ts : List ℕ) (us : List (Tagged Word)) (o : Option (Tagged Word)) (r : Option (List (Tagged Word))) → x t ≡ true → tagged (named.words limit) c f t ≡ o →
        ((vs : List (Tagged Word)) → r ≡ Some vs → Row ts vs) → with_row (named.words limit) c o r ≡ Some us → Row (t ∷ ts) us
    row_with t ts us None r xt h rows e = absurd (let bad : None ≡ Some us = e in cc)
    row_with t ts us (Some u) None xt h rows e = absurd (let bad : None ≡ Some us = e in cc)
    row_with t ts us (Some u) (Some vs) xt h rows e =
        let q = tagged_so t u xt h in
        let r = rows vs refl in
        let same : u ∷ vs ≡ us = cc in (
          q.0 ∷ r.0,
          ap (λ z. with_row (moving.words p) c z (row (moving.words p) c f' ts)) q.1 ∙ ap (with_row (moving.words p) c (Some q.0)) r.1,
          subst (λ z. Each (ValueAs c p limit w) z (q.0 ∷ r.0)) same (more u q.0 vs r.0 q.2 r.2),
        )

    row_so : (ts : List ℕ) (us : List (Tagged Word)) → AllLive c p limit x ts → row (named.words limit) c f ts ≡ Some us → Row ts us
    row_so ts us sound.none e = let same : [] ≡ us = cc in ([], refl, subst (λ z. Each (ValueAs c p limit w) z []) same none)
    row_so ts us (sound.more t rest xt all) e = row_with t rest us (tagged (named.words limit) c f t) (row (named.words limit) c f rest) xt refl (λ vs h. row_so rest vs all h) e

    mapped_so : {A B : Type 0} (g : A → B) (o : Option A) (b : B) → mapped g o ≡ Some b → (a : A) × (o ≡ Some a) × (g a ≡ b)
    mapped_so g None b e = absurd (let bad : None ≡ Some b = e in cc)
    mapped_so g (Some a) b e = let same : g a ≡ b = cc in (a, refl, same)

    abbrev ActionThere : Ask → Action (Tagged Word) → Type 0
    ActionThere ask a = (a' : Action (Tagged ℕ)) × (action (moving.words p) c f' ask ≡ Some a') × SameAction (standing c p limit) w a a'

    service_so : (service : Asked) (v : Tagged Word) (v' : Tagged ℕ) → ValueAs c p limit w v v' → SameService (standing c p limit) w (service_of service v) (service_of service v')
    service_so code.Put v v' h = rel.put asked.Decimal v v' h
    service_so code.Acquire v v' h = rel.acquire v v' h
    service_so code.Release v v' h = rel.release v v' h
    service_so code.Signal v v' h = rel.signal v v' h
    service_so (code.Join alertable) v v' h = rel.join v v' alertable h

    waits_so : (alertable : Bool) (t u : ℕ) (o r : Option (Tagged Word)) (a : Action (Tagged Word)) → x t ≡ true → x u ≡ true → tagged (named.words limit) c f t ≡ o → tagged (named.words limit) c f u ≡ r → waiting_for alertable o r ≡ Some a →
        ActionThere (code.Wait t u alertable) a
    waits_so alertable t u None r a xt xu h k e = absurd (let bad : None ≡ Some a = e in cc)
    waits_so alertable t u (Some v) None a xt xu h k e = absurd (let bad : None ≡ Some a = e in cc)
    waits_so alertable t u (Some v) (Some z) a xt xu h k e =
        let q = tagged_so t v xt h in
        let r = tagged_so u z xu k in
        let there : Serves (asked.Wait v z alertable) ≡ a = cc in (
          Serves (asked.Wait q.0 r.0 alertable),
          ap (λ i. waiting_for alertable i (tagged (moving.words p) c f' u)) q.1 ∙ ap (waiting_for alertable (Some q.0)) r.1,
          subst (λ i. SameAction (standing c p limit) w i (Serves (asked.Wait q.0 r.0 alertable))) there (rel.serves (asked.Wait v z alertable) (asked.Wait q.0 r.0 alertable) (rel.wait v z q.0 r.0 alertable q.2 r.2)),
        )

    action_so : (ask : Ask) (a : Action (Tagged Word)) → SoundAsk c p limit x ask → action (named.words limit) c f ask ≡ Some a → ActionThere ask a
    action_so (code.Call q ts) a all e =
        let h = mapped_so (Calls q (Plain (Number 0))) (row (named.words limit) c f ts) a e in
        let r = row_so ts h.0 all h.1 in
        (Calls q (Plain 0) r.0, ap (mapped (Calls q (Plain 0))) r.1, subst (λ z. SameAction (standing c p limit) w z (Calls q (Plain 0) r.0)) h.2 (rel.calls q (Plain (Number 0)) (Plain 0) h.0 r.0 (sound.plain 0) r.2))
    action_so (code.New n) a all e =
        let same : Makes (asked.Cell n []) ≡ a = cc in
        (Makes (asked.Cell n []), refl, subst (λ z. SameAction (standing c p limit) w z (Makes (asked.Cell n []))) same (rel.makes (asked.Cell n []) (asked.Cell n []) (rel.cell n [] [] none)))
    action_so (code.Fork t) a xt e =
        let h = mapped_so Forks (tagged (named.words limit) c f t) a e in
        let r = tagged_so t h.0 xt h.1 in
        (Forks r.0, ap (mapped Forks) r.1, subst (λ z. SameAction (standing c p limit) w z (Forks r.0)) h.2 (rel.forks h.0 r.0 r.2))
    action_so (code.Serve service t) a xt e =
        let h = mapped_so (λ v. Serves (service_of service v)) (tagged (named.words limit) c f t) a e in
        let r = tagged_so t h.0 xt h.1 in (
          Serves (service_of service r.0),
          ap (mapped (λ v. Serves (service_of service v))) r.1,
          subst (λ z. SameAction (standing c p limit) w z (Serves (service_of service r.0))) h.2 (rel.serves (service_of service h.0) (service_of service r.0) (service_so service h.0 r.0 r.2)),
        )
    action_so (code.Wait t u alertable) a live e = waits_so alertable t u (tagged (named.words limit) c f t) (tagged (named.words limit) c f u) a live.0 live.1 refl refl e
    action_so code.Point a all e = let same : Passes ≡ a = cc in (Passes, refl, subst (λ z. SameAction (standing c p limit) w z Passes) same rel.passes)

    leaving_so : (t : ℕ) (how : Tagged Word → Answer (Tagged Word)) (how' : Tagged ℕ → Answer (Tagged ℕ)) (m : named.Memory) (m' : moving.Memory) → MemoryAs c p limit w m m' →
        ((u : Tagged Word) (o : Tagged ℕ) → ValueAs c p limit w u o → SameAnswer (standing c p limit) w (how u) (how' o)) → (r : Option (Tagged Word)) → x t ≡ true → tagged (named.words limit) c f t ≡ r →
        SameGoing (leaving (named.words limit) c how m r) (leaving (moving.words p) c how' m' (tagged (moving.words p) c f' t))
    leaving_so t how how' m m' mem same None xt e = broken_so _
    leaving_so t how how' m m' mem same (Some u) xt e =
        let r = tagged_so t u xt e in
        subst (λ z. SameGoing (Some (Leaves (how u) m)) (leaving (moving.words p) c how' m' z)) (sym r.1)
        (some_so (Leaves (how u) m) (Leaves (how' r.0) m') (sound.leaves (how u) (how' r.0) m m' (same u r.0 r.2) mem))

    asking_so : (ask : Ask) (s : Waiting named.Frame) (s' : Waiting moving.Frame) (m : named.Memory) (m' : moving.Memory) → MemoryAs c p limit w m m' → WaitingAs c p limit w s s' →
        SoundAsk c p limit x ask → (r : Option (Action (Tagged Word))) → action (named.words limit) c f ask ≡ r →
        SameGoing (asking (named.words limit) c s m r) (asking (moving.words p) c s' m' (action (moving.words p) c f' ask))
    asking_so ask s s' m m' mem act all None e = broken_so _
    asking_so ask s s' m m' mem act all (Some a) e =
        let r = action_so ask a all e in
        subst (λ z. SameGoing (Some (Acts a (Within s) m)) (asking (moving.words p) c s' m' z)) (sym r.1)
        (some_so (Acts a (Within s) m) (Acts r.0 (Within s') m') (sound.does a r.0 (Within s) (Within s') m m' r.2 (sound.within s s' act) mem))

  -- ---- what is shown

  shown_with : (t : ℕ) (kd : Kind) (v : Word) (k : ℕ) (f : named.Frame) (f' : moving.Frame) (us : List (ℕ × Tagged Word)) (os : List (ℕ × Tagged ℕ)) → FitsAs c p limit w kd v k f f' → Each (SameShown (standing c p limit) w) us os →
      Each (SameShown (standing c p limit) w) (with_shown (named.words limit) c t (tag (named.words limit) c kd v) us) (with_shown (moving.words p) c t (tag (moving.words p) c kd k) os)
  shown_with t Numeric v k f f' us os h hs =
      more (t, Plain v) (t, Plain k) us os (record { place = refl; value = subst (λ z. ValueAs c p limit w (Plain z) (Plain k)) (sym h) (sound.plain k) }) hs
  shown_with t Pointer v k f f' us os h hs = more (t, Tidy v) (t, Tidy k) us os (record { place = refl; value = sound.tidy v k h }) hs
  shown_with t (Derived b) v k f f' us os h hs = hs

  shown_so : (x : Live) (f : named.Frame) (f' : moving.Frame) (ts : List ℕ) → Fits c p limit w x f f' → AllLive c p limit x ts → Each (SameShown (standing c p limit) w) (shown_row (named.words limit) c f ts) (shown_row (moving.words p) c f' ts)
  shown_so x f f' ts fits sound.none = none
  shown_so x f f' ts fits (sound.more t rest xt all) =
      shown_with t (c.kind t) (f t) (f' (p.place t)) f f' (shown_row (named.words limit) c f rest) (shown_row (moving.words p) c f' rest) (fits t xt) (shown_so x f f' rest fits all)

  pub shows_so : (s : Activation named.Frame) (s' : Activation moving.Frame) → ActivationAs c p limit w s s' → Each (SameShown (standing c p limit) w) (shows (named.words limit) c s) (shows (moving.words p) c s')
  shows_so s s' sound.lowest = none
  shows_so s s' (sound.within x y h) =
      subst (λ ts. Each (SameShown (standing c p limit) w) (shown_row (named.words limit) c x.frame ts) (shown_row (moving.words p) c y.frame y.shown)) (sym h.shown)
      (shown_so h.row.kept x.frame y.frame y.shown h.words h.live)

  -- ---- tests

  bool_so : (b : Bool) (r1 r2 : GoingA) (r1' r2' : GoingB) → SameGoing r1 r1' → SameGoing r2 r2' → SameGoing (choosing (named.words limit) c (Some b) r1 r2) (choosing (moving.words p) c (Some b) r1' r2')
  bool_so true r1 r2 r1' r2' h1 h2 = h1
  bool_so false r1 r2 r1' r2' h1 h2 = h2

  test_so : (kd : Kind) (v : Word) (k : ℕ) (f : named.Frame) (f' : moving.Frame) (m : named.Memory) (m' : moving.Memory) (r1 r2 : GoingA) (r1' r2' : GoingB) →
      0 < limit → MemoryAs c p limit w m m' → (kd ≡ Numeric) ⊎ (kd ≡ Pointer) → FitsAs c p limit w kd v k f f' → SameGoing r1 r1' → SameGoing r2 r2' →
      SameGoing (choosing (named.words limit) c (named.is_zero v) r1 r2) (choosing (moving.words p) c (Some (k == 0)) r1' r2')
  test_so Numeric v k f f' m m' r1 r2 r1' r2' high mem is h h1 h2 =
      subst (λ z. SameGoing (choosing (named.words limit) c (named.is_zero z) r1 r2) (choosing (moving.words p) c (Some (k == 0)) r1' r2')) (sym h) (bool_so (k == 0) r1 r2 r1' r2' h1 h2)
  test_so Pointer (Number n) k f f' m m' r1 r2 r1' r2' high mem is h h1 h2 =
      subst (λ z. SameGoing (choosing (named.words limit) c (Some (z == 0)) r1 r2) (choosing (moving.words p) c (Some (k == 0)) r1' r2')) (sym h.0) (bool_so (k == 0) r1 r2 r1' r2' h1 h2)
  test_so Pointer (Cell e zero) k f f' m m' r1 r2 r1' r2' high mem is h h1 h2 =
      let above = mem.high e k h.1 in
      let no : false ≡ (k == 0) = grind (arith, nat_tests, above, high) in
      subst (λ z. SameGoing r2 (choosing (moving.words p) c (Some z) r1' r2')) no h2
  test_so Pointer (Cell e (suc d)) k f f' m m' r1 r2 r1' r2' high mem is h h1 h2 = broken_so _
  test_so (Derived b) v k f f' m m' r1 r2 r1' r2' high mem is h h1 h2 =
      ⊎_elim (λ e. absurd (let bad : Derived b ≡ Numeric = e in cc)) (λ e. absurd (let bad : Derived b ≡ Pointer = e in cc)) is

  -- ---- blocks

  abbrev pub Blocks : (ℕ → named.Frame → named.Memory → GoingA) → (ℕ → moving.Frame → moving.Memory → GoingB) → Type 0
  Blocks go go' = (b : ℕ) → Next (p.live b) (go b) (go' b)

  end_so : (x : Live) (end : End) (f : named.Frame) (f' : moving.Frame) (m : named.Memory) (m' : moving.Memory) (go : ℕ → named.Frame → named.Memory → GoingA) (go' : ℕ → moving.Frame → moving.Memory → GoingB) →
      0 < limit → SoundEnd c p limit x end → Fits c p limit w x f f' → MemoryAs c p limit w m m' → Blocks go go' →
      SameGoing (run_end (named.words limit) c end f m go) (run_end (moving.words p) c end f' m' go')
  end_so x end f f' m m' go go' high (sound.goto b within) fits mem blocks = blocks b f f' m m' (λ t yt. fits t (within t yt)) mem
  end_so x end f f' m m' go go' high (sound.choose t first second xt is one two) fits mem blocks =
      test_so (c.kind t) (f t) (f' (p.place t)) f f' m m' (go first f m) (go second f m) (go' first f' m') (go' second f' m') high mem is (fits t xt)
      (blocks first f f' m m' (λ u yu. fits u (one u yu)) mem) (blocks second f f' m m' (λ u yu. fits u (two u yu)) mem)
  end_so x end f f' m m' go go' high (sound.act ask shown dest next all row live within) fits mem blocks =
      asking_so x f f' fits ask _ _ m m' mem (record { dest = refl; next = refl; row = row; shown = refl; live = live; words = λ t kt. fits t (within t kt) }) all (action (named.words limit) c f ask) refl
  end_so x end f f' m m' go go' high (sound.return t xt) fits mem blocks = leaving_so x f f' fits t (returned (named.words limit) c) (returned (moving.words p) c) m m' mem (λ u o h. rel.gives (Some u) (Some o) (both u o h)) (tagged (named.words limit) c f t) xt refl
  end_so x end f f' m m' go go' high (sound.raise exception t xt) fits mem blocks = leaving_so x f f' fits t (raised (named.words limit) c exception) (raised (moving.words p) c exception) m m' mem (λ u o h. rel.raises exception u u o o h h) (tagged (named.words limit) c f t) xt refl
  end_so x end f f' m m' go go' high (sound.fault kind line) fits mem blocks = some_so (Faults kind 0 line) (Faults kind 0 line) (sound.faults kind line)

  ops_so : (x : Live) (ops : List Op) (end : End) (go : ℕ → named.Frame → named.Memory → GoingA) (go' : ℕ → moving.Frame → moving.Memory → GoingB) →
      0 < limit → Closed c p limit x → SoundOps c p limit x ops end → Blocks go go' →
      Next x (λ f m. run_ops (named.words limit) c ops end f m go) (λ f' m'. run_ops (moving.words p) c ops end f' m' go')
  ops_so x ops end go go' high closed (sound.end _ _ h) blocks f f' m m' fits mem = end_so x end f f' m m' go go' high h fits mem blocks
  ops_so x ops end go go' high closed (sound.op _ y o os _ h cy hs) blocks f f' m m' fits mem =
      op_so x y o f f' m m' (λ g n. run_ops (named.words limit) c os end g n go) (λ g' n'. run_ops (moving.words p) c os end g' n' go') h closed cy fits mem (ops_so y os end go go' high cy hs blocks)

  pub heap_there : Sound c p limit → 0 < limit
  heap_there check = let h = check.heap in omega (arith, h)

  module _ (check : Sound c p limit) where
    block_so : (b : ℕ) (o : Option Block) (go : ℕ → named.Frame → named.Memory → GoingA) (go' : ℕ → moving.Frame → moving.Memory → GoingB) → slice_get c.blocks b ≡ o → Blocks go go' →
        Next (p.live b) (λ f m. run_block (named.words limit) c o f m go) (λ f' m'. run_block (moving.words p) c o f' m' go')
    block_so b None go go' e blocks f f' m m' fits mem = broken_so _
    block_so b (Some block) go go' e blocks f f' m m' fits mem =
        let h = check.blocks b block e in
        ops_so (p.live b) block.ops block.end go go' (heap_there check) h.0 h.1 blocks f f' m m' fits mem

    blocks_so : (n : ℕ) → Blocks (run_blocks (named.words limit) c n) (run_blocks (moving.words p) c n)
    blocks_so zero b f f' m m' fits mem = λ move' e. absurd (let bad : None ≡ Some move' = e in cc)
    blocks_so (suc n) b f f' m m' fits mem = block_so b (slice_get c.blocks b) (run_blocks (named.words limit) c n) (run_blocks (moving.words p) c n) refl (blocks_so n) f f' m m' fits mem

    -- a word comes into its place
    put_so : (s : Waiting named.Frame) (s' : Waiting moving.Frame) (m : named.Memory) (m' : moving.Memory) (v : Word) (k n : ℕ) → WaitingAs c p limit w s s' → MemoryAs c p limit w m m' →
        FitsAs c p limit w (c.kind s'.dest) v k s.frame s'.frame →
        SameGoing (run_blocks (named.words limit) c n s.next (named.set s.frame s.dest v) m) (run_blocks (moving.words p) c n s'.next (moving.set s'.frame (p.place s'.dest) k) m')
    put_so s s' m m' v k n act mem h =
        let fits = assigned act.row.kept (p.live s'.next) s'.dest v k s.frame s'.frame act.row.sets act.row.next_closed act.words (λ yt. h) in
        subst (λ b. SameGoing (run_blocks (named.words limit) c n b (named.set s.frame s.dest v) m) (run_blocks (moving.words p) c n s'.next (moving.set s'.frame (p.place s'.dest) k) m')) (sym act.next)
        (subst (λ d. SameGoing (run_blocks (named.words limit) c n s'.next (named.set s.frame d v) m) (run_blocks (moving.words p) c n s'.next (moving.set s'.frame (p.place s'.dest) k) m')) (sym act.dest)
        (blocks_so n s'.next (named.set s.frame s'.dest v) (moving.set s'.frame (p.place s'.dest) k) m m' fits mem))

    answered_so : (kd : Kind) (s : Waiting named.Frame) (s' : Waiting moving.Frame) (m : named.Memory) (m' : moving.Memory) (v : Tagged Word) (v' : Tagged ℕ) (n : ℕ) →
        c.kind s'.dest ≡ kd → WaitingAs c p limit w s s' → ValueAs c p limit w v v' → MemoryAs c p limit w m m' →
        SameGoing (go_from (named.words limit) c n s.next m (answered (named.words limit) c kd s.frame s.dest v)) (go_from (moving.words p) c n s'.next m' (answered (moving.words p) c kd s'.frame s'.dest v'))
    answered_so Numeric s s' m m' v v' n e act (sound.plain k) mem = put_so s s' m m' (Number k) k n act mem (subst (λ z. FitsAs c p limit w z (Number k) k s.frame s'.frame) (sym e) refl)
    answered_so Numeric s s' m m' v v' n e act (sound.tidy u k h) mem = broken_so _
    answered_so Pointer s s' m m' v v' n e act (sound.plain k) mem = broken_so _
    answered_so Pointer s s' m m' v v' n e act (sound.tidy u k h) mem = put_so s s' m m' u k n act mem (subst (λ z. FitsAs c p limit w z u k s.frame s'.frame) (sym e) h)
    answered_so (Derived b) s s' m m' v v' n e act h mem = broken_so _

    nothing_so : (kd : Kind) → ValueAs c p limit w (nothing (named.words limit) c kd) (nothing (moving.words p) c kd)
    nothing_so Numeric = sound.plain 0
    nothing_so Pointer = sound.tidy (Number 0) 0 (refl, heap_there check)
    nothing_so (Derived b) = sound.plain 0

    -- the temporary that is set is the same one on both sides
    given_so : (s : Waiting named.Frame) (s' : Waiting moving.Frame) (m : named.Memory) (m' : moving.Memory) (v : Kind → Tagged Word) (v' : Kind → Tagged ℕ) (n : ℕ) →
        WaitingAs c p limit w s s' → ((kd : Kind) → ValueAs c p limit w (v kd) (v' kd)) → MemoryAs c p limit w m m' →
        SameGoing (go_from (named.words limit) c n s.next m (answered (named.words limit) c (c.kind s.dest) s.frame s.dest (v (c.kind s.dest)))) (go_from (moving.words p) c n s'.next m' (answered (moving.words p) c (c.kind s'.dest) s'.frame s'.dest (v' (c.kind s'.dest))))
    given_so s s' m m' v v' n act h mem =
        subst (λ z. SameGoing (go_from (named.words limit) c n s.next m (answered (named.words limit) c (c.kind z) s.frame s.dest (v (c.kind z)))) (go_from (moving.words p) c n s'.next m' (answered (moving.words p) c (c.kind s'.dest) s'.frame s'.dest (v' (c.kind s'.dest))))) (sym act.dest)
        (answered_so (c.kind s'.dest) s s' m m' (v (c.kind s'.dest)) (v' (c.kind s'.dest)) n refl act (h (c.kind s'.dest)) mem)

    within_so : (s : Waiting named.Frame) (s' : Waiting moving.Frame) (a : Answer (Tagged Word)) (a' : Answer (Tagged ℕ)) (m : named.Memory) (m' : moving.Memory) (n : ℕ) →
        WaitingAs c p limit w s s' → SameAnswer (standing c p limit) w a a' → MemoryAs c p limit w m m' → SameGoing (go_within (named.words limit) c n s a m) (go_within (moving.words p) c n s' a' m')
    within_so s s' a a' m m' n act (rel.gives _ _ (both v v' h)) mem = given_so s s' m m' (λ kd. v) (λ kd. v') n act (λ kd. h) mem
    within_so s s' a a' m m' n act (rel.gives _ _ neither) mem = given_so s s' m m' (nothing (named.words limit) c) (nothing (moving.words p) c) n act nothing_so mem
    within_so s s' a a' m m' n act (rel.raises e v u v' u' h k) mem = some_so (Leaves (Raises e v u) m) (Leaves (Raises e v' u') m') (sound.leaves (Raises e v u) (Raises e v' u') m m' (rel.raises e v u v' u' h k) mem)
    within_so s s' a a' m m' n act (rel.fails kind) mem =
        subst (λ b. SameGoing (Some (Faults kind 0 b)) (Some (Faults kind 0 s'.next))) (sym act.next) (some_so (Faults kind 0 s'.next) (Faults kind 0 s'.next) (sound.faults kind s'.next))

    pub go_so : (s : Activation named.Frame) (s' : Activation moving.Frame) (a : Answer (Tagged Word)) (a' : Answer (Tagged ℕ)) (m : named.Memory) (m' : moving.Memory) (n : ℕ) →
        ActivationAs c p limit w s s' → SameAnswer (standing c p limit) w a a' → MemoryAs c p limit w m m' → SameGoing (go_on (named.words limit) c n s a m) (go_on (moving.words p) c n s' a' m')
    go_so s s' a a' m m' n sound.lowest h mem = some_so (Leaves a m) (Leaves a' m') (sound.leaves a a' m m' h mem)
    go_so s s' a a' m m' n (sound.within t t' act) h mem = within_so t t' a a' m m' n act h mem

    -- ---- beginnings

    nobody : Fits c p limit w (λ t. false) named.no_words moving.no_words
    nobody t e = absurd (let bad : false ≡ true = e in cc)

    begun_so : (start : Start) (v : Word) (k n : ℕ) (m : named.Memory) (m' : moving.Memory) → SoundStart c p limit start → MemoryAs c p limit w m m' → FitsAs c p limit w (c.kind start.formal) v k named.no_words moving.no_words →
        SameGoing (run_blocks (named.words limit) c n start.block (named.set named.no_words start.formal v) m) (run_blocks (moving.words p) c n start.block (moving.set moving.no_words (p.place start.formal) k) m')
    begun_so start v k n m m' h mem fits =
        let sets : Sets c p limit (λ t. false) start.formal (p.live start.block) = λ u ku. inl (h.alone u ku) in
        blocks_so n start.block (named.set named.no_words start.formal v) (moving.set moving.no_words (p.place start.formal) k) m m'
        (assigned (λ t. false) (p.live start.block) start.formal v k named.no_words moving.no_words sets h.closed nobody (λ yt. fits)) mem

    starts_so : (start : Start) (kd : Kind) (v : Tagged Word) (v' : Tagged ℕ) (n : ℕ) (m : named.Memory) (m' : moving.Memory) → SoundStart c p limit start → c.kind start.formal ≡ kd → ValueAs c p limit w v v' → MemoryAs c p limit w m m' →
        SameGoing (go_from (named.words limit) c n start.block m (answered (named.words limit) c kd named.no_words start.formal v)) (go_from (moving.words p) c n start.block m' (answered (moving.words p) c kd moving.no_words start.formal v'))
    starts_so start Numeric v v' n m m' h e (sound.plain k) mem = begun_so start (Number k) k n m m' h mem (subst (λ z. FitsAs c p limit w z (Number k) k named.no_words moving.no_words) (sym e) refl)
    starts_so start Numeric v v' n m m' h e (sound.tidy u k q) mem = broken_so _
    starts_so start Pointer v v' n m m' h e (sound.plain k) mem = broken_so _
    starts_so start Pointer v v' n m m' h e (sound.tidy u k q) mem = begun_so start u k n m m' h mem (subst (λ z. FitsAs c p limit w z u k named.no_words moving.no_words) (sym e) q)
    starts_so start (Derived b) v v' n m m' h e q mem = broken_so _

    begins_so : (q n : ℕ) (o : Option Start) (vs : List (Tagged Word)) (vs' : List (Tagged ℕ)) (m : named.Memory) (m' : moving.Memory) → slice_get c.starts q ≡ o → Each (ValueAs c p limit w) vs vs' → MemoryAs c p limit w m m' →
        SameGoing (begin (named.words limit) c n named.no_words o vs m) (begin (moving.words p) c n moving.no_words o vs' m')
    begins_so q n None vs vs' m m' h hs mem = broken_so _
    begins_so q n (Some start) vs vs' m m' h none mem = broken_so _
    begins_so q n (Some start) vs vs' m m' h (more v v' us us' k none) mem = starts_so start (c.kind start.formal) v v' n m m' (check.starts q start h) refl k mem
    begins_so q n (Some start) vs vs' m m' h (more v v' us us' k (more v2 v2' us2 us2' k2 ks)) mem = broken_so _

    pub enters_so : (q n : ℕ) (vs : List (Tagged Word)) (vs' : List (Tagged ℕ)) (m : named.Memory) (m' : moving.Memory) → Each (ValueAs c p limit w) vs vs' → MemoryAs c p limit w m m' →
        SameGoing (begin (named.words limit) c n named.no_words (slice_get c.starts q) vs m) (begin (moving.words p) c n moving.no_words (slice_get c.starts q) vs' m')
    enters_so q n vs vs' m m' hs mem = begins_so q n (slice_get c.starts q) vs vs' m m' refl hs mem
