-- Collections and new cells; and the theorem.
use Rattle.std.proofs.Common.{◌∷◌, ◌≡◌, ◌≢◌, ℕ, suc, ◌+◌, ◌-◌, ◌<◌, ◌≤◌, inl, inr, ⊎_elim, Bool, true, false, List, Option, Some, None, refl, sym, ap, ◌∙◌, subst, arith}
use Rattle.std.specs.Prelude.{◌==◌, ◌&&◌, if◌then◌else◌, nat_lt, nat_le, map}
use Rattle.std.proofs.lemmas.Bool.{cases_lt}
use Rattle.std.proofs.lemmas.Bool.Decides.{nat_tests}
use Rattle.m3_runs.specs.Languages.{New, Thread, Answer, Move, Entered}
use Rattle.m3_runs.specs.Follows as rel
use Rattle.m3_runs.specs.Follows.{Each, none, more, Both, AsDefined, undefined, Standing, SameNew, SameAnswer, SameMove, SameThread, SameParts, SameShown, IsActing, GoesSo, EntersSo, MakesSo, anything, Follows}
use Rattle.m3_runs.proofs.Rows.{each_mapped, each_length, map_each}
use Rattle.m3_runs.proofs.Composing.{each_through, threads_through}
use Rattle.m3_runs.proofs.Settling.{threads_stay}
use Rattle.m3_runs.proofs.Lifting.{runs_so}
use Rattle.m3_runs.proofs.Keeping.{keeps_anything}
use Rattle.m3_runs_tests.specs.Code.{Kind, Numeric, Pointer, Derived, Code}
use Rattle.m3_runs_tests.specs.Meaning.{Tagged, Tidy, Waiting, Activation, words_of}
use Rattle.m3_runs_tests.specs.Named as named
use Rattle.m3_runs_tests.specs.Named.{Word, Number, Cell, Named_parts, named}
use Rattle.m3_runs_tests.specs.Moving as moving
use Rattle.m3_runs_tests.specs.Moving.{Places, Machine, Apart, Moving_parts, moving, Forwards, ForwardsAs, FrameMoved, ActivationMoved, TaggedMoved, moves, CellMoved, Collected, Adds}
use Rattle.m3_runs_tests.specs.Sound as sound
use Rattle.m3_runs_tests.specs.Sound.{AllLive, SoundRow, Sound, World, TidyAs, ValueAs, FitsAs, WaitingAs, ActivationAs, WordThere, MemoryAs, MoveAs, standing, room}
use Rattle.m3_runs_tests.specs.Laws.{MovesUnseen}
use Rattle.m3_runs_tests.proofs.Going.{heap_there, shows_so, go_so, enters_so}
use Rattle.m3_runs_tests.proofs.Sharing.{holder_so, hold_so, life_so, join_so, end_so, begins_so, is_same_so, bytes_so}

by_cases : (i n : ℕ) (P : Type 0) → (i ≡ n → P) → (i ≢ n → P) → P
by_cases i n P f g = ⊎_elim (λ lt. g (λ e. absurd (omega arith))) (λ le. ⊎_elim (λ lt. g (λ e. absurd (omega arith))) (λ le'. f (omega arith)) (cases_lt n i)) (cases_lt i n)

abbrev through : Option ℕ → (ℕ → Option ℕ) → Option ℕ
through None f = None
through (Some a) f = f a

through_back : (o : Option ℕ) (f : ℕ → Option ℕ) (b : ℕ) → through o f ≡ Some b → (a : ℕ) × (o ≡ Some a) × (f a ≡ Some b)
through_back None f b e = absurd (let bad : None ≡ Some b = e in cc)
through_back (Some a) f b e = (a, refl, e)

through_there : (o : Option ℕ) (f : ℕ → Option ℕ) (a b : ℕ) → o ≡ Some a → f a ≡ Some b → through o f ≡ Some b
through_there o f a b e h = ap (λ z. through z f) e ∙ h

module _ (c : Code) (p : Places) (limit : ℕ) (w : World c p limit) where
  -- ---- collections

  module _ (moved : ℕ → Option ℕ) (starts : (a b : ℕ) → moved a ≡ Some b → (limit ≤ a) × (limit ≤ b)) (high : (e a : ℕ) → w e ≡ Some a → limit ≤ a) where
    -- where the cells are afterwards
    abbrev after : World c p limit
    after e = through (w e) moved

    tidy_moves : (v : Word) (k k' : ℕ) → TidyAs c p limit w v k → Forwards limit moved k k' → TidyAs c p limit after v k'
    tidy_moves (Number n) k k' h (inl f) = (h.0 ∙ sym f.1, let q : k' < limit = omega (arith, f.0, f.1) in q)
    tidy_moves (Number n) k k' h (inr f) = absurd (let q = starts k k' f in omega (arith, q.0, h.1))
    tidy_moves (Cell e d) k k' h (inl f) = absurd (let q = high e k h.1 in omega (arith, q, f.0))
    tidy_moves (Cell e d) k k' h (inr f) = (h.0, through_there (w e) moved k k' h.1 f)

    value_moves : (v : Tagged Word) (o n : Tagged ℕ) → ValueAs c p limit w v o → TaggedMoved limit moved o n → ValueAs c p limit after v n
    value_moves v o n (sound.plain k) (moving.plain _) = sound.plain k
    value_moves v o n (sound.tidy u k h) (moving.tidy _ k' f) = sound.tidy u k' (tidy_moves u k k' h f)

    word_moves : (kd : Kind) (t : ℕ) (f : named.Frame) (g g' : moving.Frame) → FitsAs c p limit w kd (f t) (g (p.place t)) f g → ForwardsAs p limit moved kd t g g' → FitsAs c p limit after kd (f t) (g' (p.place t)) f g'
    word_moves Numeric t f g g' h m = h ∙ ap Number (sym m)
    word_moves Pointer t f g g' h m = tidy_moves (f t) (g (p.place t)) (g' (p.place t)) h m
    word_moves (Derived b) t f g g' h m = (h.0, h.1, let q : g' (p.place t) ≡ g' (p.place b) + h.0 = omega (arith, m, h.2) in q)

    frame_moves : (s : Waiting named.Frame) (o n : Waiting moving.Frame) → WaitingAs c p limit w s o → FrameMoved c p limit moved o n → WaitingAs c p limit after s n
    frame_moves s o n h m = record {
      dest = h.dest ∙ sym m.dest;
      next = h.next ∙ sym m.next;
      row = subst (λ b. SoundRow c p limit n.dest b) (sym m.next) (subst (λ d. SoundRow c p limit d o.next) (sym m.dest) h.row);
      shown = h.shown ∙ sym m.shown;
      live = subst (AllLive c p limit h.row.kept) (sym m.shown) h.live;
      words = λ t kt. word_moves (c.kind t) t s.frame o.frame n.frame (h.words t kt) (m.words t (sym (h.row.is t) ∙ kt));
    }

    activation_moves : (s : Activation named.Frame) (o n : Activation moving.Frame) → ActivationAs c p limit w s o → ActivationMoved c p limit moved o n → ActivationAs c p limit after s n
    activation_moves s o n sound.lowest moving.lowest = sound.lowest
    activation_moves s o n (sound.within x y h) (moving.within _ z m) = sound.within x z (frame_moves x y z h m)

    threads_move : (ts : List (Option (Thread (Activation named.Frame) (Tagged Word)))) (os ns : List (Option (Thread (Activation moving.Frame) (Tagged ℕ)))) →
        Each (Both (SameThread (standing c p limit) w)) ts os → Each (Both (SameThread (moves c p limit moved) tt)) os ns → Each (Both (SameThread (standing c p limit) after)) ts ns
    threads_move ts os ns h k = threads_through (standing c p limit) (moves c p limit moved) (standing c p limit) w tt after value_moves
        (λ us vs xs a b. each_through (ActivationAs c p limit w) (ActivationMoved c p limit moved) (ActivationAs c p limit after) us vs xs activation_moves a b) ts os ns h k

    memory_moves : (m : named.Memory) (o n : moving.Memory) → MemoryAs c p limit w m o → ((a b d : ℕ) → moved a ≡ Some d → moved b ≡ Some d → a ≡ b) → ((a b : ℕ) → moved a ≡ Some b → CellMoved limit moved o n a b) → Apart n → MemoryAs c p limit after m n
    memory_moves m o n mem one cells apart = record {
      words = λ e b i v we is.
          let q = through_back (w e) moved b we in
          let h = mem.words e q.0 i v q.1 is in
          let k = cells q.0 b q.2 in
          let x = k.words i h.size h.sized h.within h.word h.there in
          record { size = h.size; sized = k.size ∙ h.sized; within = h.within; word = x.0; there = x.1; same = tidy_moves v h.word x.0 h.same x.2 };
      sized = λ e b we.
          let q = through_back (w e) moved b we in
          let h = mem.sized e q.0 q.1 in
          (h.0, (cells q.0 b q.2).size ∙ h.1);
      fresh = λ e b we. let q = through_back (w e) moved b we in mem.fresh e q.0 q.1;
      one = λ d e b wd we.
          let q = through_back (w d) moved b wd in
          let r = through_back (w e) moved b we in
          let same : r.0 ≡ q.0 = one r.0 q.0 b r.2 q.2 in
          mem.one d e q.0 q.1 (r.1 ∙ ap (λ z. Some z) same);
      high = λ e b we. let q = through_back (w e) moved b we in (starts q.0 b q.2).1;
      apart = apart;
    }

  collects_so : (parts : Named_parts) (parts' after' : Moving_parts) → SameParts (standing c p limit) w parts parts' → Collected c p limit parts' after' → (w' : World c p limit) × SameParts (standing c p limit) w' parts after'
  collects_so parts parts' after' same h = (
    after h.moved h.starts same.memory.high,
    record {
      threads = threads_move h.moved h.starts same.memory.high parts.threads parts'.threads after'.threads same.threads h.threads;
      memory = memory_moves h.moved h.starts same.memory.high parts.memory parts'.memory after'.memory same.memory h.one_to_one h.cells h.apart;
    },
  )

  -- ---- new cells

  abbrev with_new : ℕ → ℕ → World c p limit
  with_new e start d = if d == e then Some start else w d

  abbrev Later : World c p limit → Type 0
  Later w' = (e a : ℕ) → w e ≡ Some a → w' e ≡ Some a

  new_later : (m : named.Memory) (m' : moving.Memory) (start : ℕ) → MemoryAs c p limit w m m' → Later (with_new m.next start)
  new_later m m' start mem e a we =
      let lt = mem.fresh e a we in
      let q : (if e == m.next then Some start else w e) ≡ w e = grind (arith, nat_tests, lt) in
      q ∙ we

  module _ (w' : World c p limit) (later : Later w') where
    tidy_stays : (v : Word) (k : ℕ) → TidyAs c p limit w v k → TidyAs c p limit w' v k
    tidy_stays (Number n) k h = h
    tidy_stays (Cell e d) k h = (h.0, later e k h.1)

    value_stays : (v : Tagged Word) (o : Tagged ℕ) → ValueAs c p limit w v o → ValueAs c p limit w' v o
    value_stays v o (sound.plain n) = sound.plain n
    value_stays v o (sound.tidy u k h) = sound.tidy u k (tidy_stays u k h)

    fits_stay : (kd : Kind) (v : Word) (k : ℕ) (f : named.Frame) (f' : moving.Frame) → FitsAs c p limit w kd v k f f' → FitsAs c p limit w' kd v k f f'
    fits_stay Numeric v k f f' h = h
    fits_stay Pointer v k f f' h = tidy_stays v k h
    fits_stay (Derived b) v k f f' h = h

    activation_stays : (s : Activation named.Frame) (s' : Activation moving.Frame) → ActivationAs c p limit w s s' → ActivationAs c p limit w' s s'
    activation_stays s s' sound.lowest = sound.lowest
    activation_stays s s' (sound.within x y h) =
        sound.within x y (record { dest = h.dest; next = h.next; row = h.row; shown = h.shown; live = h.live; words = λ t kt. fits_stay (c.kind t) (x.frame t) (y.frame (p.place t)) x.frame y.frame (h.words t kt) })

  module _ (heap : 0 < limit) (m : named.Memory) (m' n' : moving.Memory) (start count : ℕ) (mem : MemoryAs c p limit w m m') (adds : Adds limit start count m' n') where
    old_size : (a : ℕ) → a ≢ start → n'.sizes a ≡ m'.sizes a
    old_size a ne = let q : (if a == start then Some count else m'.sizes a) ≡ m'.sizes a = grind (arith, nat_tests, ne) in adds.sizes a ∙ q

    new_size : (a : ℕ) → a ≡ start → n'.sizes a ≡ Some count
    new_size a e = let q : (if a == start then Some count else m'.sizes a) ≡ Some count = grind (arith, nat_tests, e) in adds.sizes a ∙ q

    is_old : (a n : ℕ) → m'.sizes a ≡ Some n → a ≢ start
    is_old a n h e = let bad : Some n ≡ None = sym h ∙ ap m'.sizes e ∙ adds.unused in absurd (let no : ⊥ = cc in no)

    -- a word of an old cell is as it was
    old_word : (a i n : ℕ) → m'.sizes a ≡ Some n → i < n → n'.words (a + i) ≡ m'.words (a + i)
    old_word a i n sized within =
        let decide : (q : Bool) → (nat_le start (a + i) && nat_lt (a + i) (start + count)) ≡ q → (if q then Some 0 else m'.words (a + i)) ≡ m'.words (a + i) =
        λ q. elim q as (λ q. (nat_le start (a + i) && nat_lt (a + i) (start + count)) ≡ q → (if q then Some 0 else m'.words (a + i)) ≡ m'.words (a + i)) [
          | true ↦ λ t.
              let le : start ≤ a + i = grind (arith, nat_tests) in
              let lt : a + i < start + count = grind (arith, nat_tests) in
              absurd (adds.free a i n sized within (a + i - start) (omega (arith, le, lt)) (omega (arith, le)))
          | false ↦ λ t. refl
        ] in
        adds.words (a + i) ∙ decide (nat_le start (a + i) && nat_lt (a + i) (start + count)) refl

    new_word : (i : ℕ) (v : Word) → (if nat_lt i count then Some (Number 0) else None) ≡ Some v → (i < count) × (Number 0 ≡ v)
    new_word i v is =
        let decide : (q : Bool) → nat_lt i count ≡ q → (if q then Some (Number 0) else None) ≡ Some v → (i < count) × (Number 0 ≡ v) =
        λ q. elim q as (λ q. nat_lt i count ≡ q → (if q then Some (Number 0) else None) ≡ Some v → (i < count) × (Number 0 ≡ v)) [
          | true ↦ λ t e. (let lt : i < count = grind (arith, nat_tests) in lt, let same : Number 0 ≡ v = cc in same)
          | false ↦ λ t e. absurd (let bad : None ≡ Some v = e in cc)
        ] in
        decide (nat_lt i count) refl is

    apart_added : Apart n'
    apart_added a b i j n k sa sb ltn ltk e =
        let old : (d l : ℕ) → d ≢ start → n'.sizes d ≡ Some l → m'.sizes d ≡ Some l = λ d l ne h. sym (old_size d ne) ∙ h in
        let fresh : (d l : ℕ) → d ≡ start → n'.sizes d ≡ Some l → l ≡ count = λ d l same h. let both : Some l ≡ Some count = sym h ∙ new_size d same in let q : l ≡ count = cc in q in
        by_cases a start ((a ≡ b) × (i ≡ j))
        (λ ea. by_cases b start ((a ≡ b) × (i ≡ j))
        (λ eb. (ea ∙ sym eb, omega (arith, ea, eb, e)))
        (λ nb. let q = fresh a n ea sa in absurd (adds.free b j k (old b k nb sb) ltk i (omega (arith, q, ltn)) (omega (arith, e, ea)))))
        (λ na. by_cases b start ((a ≡ b) × (i ≡ j))
        (λ eb. let q = fresh b k eb sb in absurd (adds.free a i n (old a n na sa) ltn j (omega (arith, q, ltk)) (omega (arith, e, eb))))
        (λ nb. mem.apart a b i j n k (old a n na sa) (old b k nb sb) ltn ltk e))

    module _ (w' : World c p limit) (later : Later w') (here : w' m.next ≡ Some start) (others : (e : ℕ) → e ≢ m.next → w' e ≡ w e) where
      at_start : (e a : ℕ) → e ≡ m.next → w' e ≡ Some a → a ≡ start
      at_start e a same we = let both : Some a ≡ Some start = sym we ∙ ap w' same ∙ here in let q : a ≡ start = cc in q

      words_added : (e a i : ℕ) (v : Word) → w' e ≡ Some a → (if e == m.next then (if nat_lt i count then Some (Number 0) else None) else m.words e i) ≡ Some v → WordThere c p limit w' n' a i v
      words_added e a i v we is = by_cases e m.next (WordThere c p limit w' n' a i v)
          (λ same.
          let q : (if e == m.next then (if nat_lt i count then Some (Number 0) else None) else m.words e i) ≡ (if nat_lt i count then Some (Number 0) else None) = grind (arith, nat_tests, same) in
          let h = new_word i v (sym q ∙ is) in
          let at = at_start e a same we in
          let lt = h.0 in
          let zero_there : (if nat_le start (a + i) && nat_lt (a + i) (start + count) then Some 0 else m'.words (a + i)) ≡ Some 0 = grind (arith, nat_tests, at, lt) in
          record { size = count; sized = new_size a at; within = lt; word = 0; there = adds.words (a + i) ∙ zero_there; same = subst (λ z. TidyAs c p limit w' z 0) h.1 (refl, heap) })
          (λ ne.
          let q : (if e == m.next then (if nat_lt i count then Some (Number 0) else None) else m.words e i) ≡ m.words e i = grind (arith, nat_tests, ne) in
          let o = mem.words e a i v (sym (others e ne) ∙ we) (sym q ∙ is) in
          record { size = o.size; sized = old_size a (is_old a o.size o.sized) ∙ o.sized; within = o.within; word = o.word; there = old_word a i o.size o.sized o.within ∙ o.there; same = tidy_stays w' later v o.word o.same })

      -- an old cell's start isn't the new one
      old_start : (e : ℕ) → w e ≡ Some start → ⊥
      old_start e we = let s = mem.sized e start we in is_old start s.0 s.1 refl

      memory_added : MemoryAs c p limit w' (named.with_cell m count) n'
      memory_added = record {
        words = words_added;
        sized = λ e a we. by_cases e m.next ((n : ℕ) × (n'.sizes a ≡ Some n))
            (λ same. (count, new_size a (at_start e a same we)))
            (λ ne. let s = mem.sized e a (sym (others e ne) ∙ we) in (s.0, old_size a (is_old a s.0 s.1) ∙ s.1));
        fresh = λ e a we. by_cases e m.next (e < suc m.next) (λ same. omega (arith, same)) (λ ne. let q = mem.fresh e a (sym (others e ne) ∙ we) in omega (arith, q));
        one = λ d e a wd we. by_cases d m.next (d ≡ e)
            (λ same_d. by_cases e m.next (d ≡ e) (λ same_e. same_d ∙ sym same_e)
            (λ ne. absurd (old_start e (sym (others e ne) ∙ we ∙ ap (λ z. Some z) (at_start d a same_d wd)))))
            (λ nd. by_cases e m.next (d ≡ e)
            (λ same_e. absurd (old_start d (sym (others d nd) ∙ wd ∙ ap (λ z. Some z) (at_start e a same_e we))))
            (λ ne. mem.one d e a (sym (others d nd) ∙ wd) (sym (others e ne) ∙ we)));
        high = λ e a we. by_cases e m.next (limit ≤ a) (λ same. let q = at_start e a same we in omega (arith, q, adds.high)) (λ ne. mem.high e a (sym (others e ne) ∙ we));
        apart = apart_added;
      }

  module _ (heap : 0 < limit) where
    added_so : (parts : Named_parts) (parts' : Moving_parts) (n start count : ℕ) (new : New (Tagged Word)) (n' : moving.Memory) → SameParts (standing c p limit) w parts parts' → words_of new ≡ Some count → Adds limit start count parts'.memory n' →
        MakesSo (standing c p limit) (named c limit) parts n new (Tidy start) (record parts' { memory = n' })
    added_so parts parts' n start count new n' same is adds =
        let w' = with_new parts.memory.next start in
        let later = new_later parts.memory parts'.memory start same.memory in
        let here : (if parts.memory.next == parts.memory.next then Some start else w parts.memory.next) ≡ Some start = grind (arith, nat_tests) in
        let others : (e : ℕ) → e ≢ parts.memory.next → (if e == parts.memory.next then Some start else w e) ≡ w e = λ e ne. grind (arith, nat_tests, ne) in
        record {
          world = w';
          value = Tidy (Cell parts.memory.next 0);
          after = record parts { memory = named.with_cell parts.memory count };
          makes = named.made count is;
          same = record {
            threads = threads_stay (standing c p limit) w w' (value_stays w' later) (λ ss ss' h. each_mapped (ActivationAs c p limit w) (ActivationAs c p limit w') ss ss' (activation_stays w' later) h) parts.threads parts'.threads same.threads;
            memory = memory_added heap parts.memory parts'.memory n' start count same.memory adds w' later here others;
          };
          given = sound.tidy (Cell parts.memory.next 0) start (refl, here);
        }

words_same : (c : Code) (p : Places) (limit : ℕ) (w : World c p limit) (new : New (Tagged Word)) (new' : New (Tagged ℕ)) → SameNew (standing c p limit) w new new' → words_of new ≡ words_of new'
words_same c p limit w new new' (rel.cell kind sizes others h) = refl
words_same c p limit w new new' (rel.concatenated t u t' u' h k) = refl
words_same c p limit w new new' (rel.byte_text v v' h) = refl
words_same c p limit w new new' (rel.subtext t i n t' i' n' h k l) = refl
words_same c p limit w new new' (rel.thread_cell number) = refl

module _ (c : Code) (k : Machine) (check : Sound c k.places k.limit) where
  abbrev Here : Standing (World c k.places k.limit) (Activation named.Frame) (Tagged Word) named.Memory (Activation moving.Frame) (Tagged ℕ) moving.Memory
  Here = standing c k.places k.limit

  makes_so : (w : World c k.places k.limit) (parts : Named_parts) (parts' after' : Moving_parts) (n : ℕ) (new : New (Tagged Word)) (new' : New (Tagged ℕ)) (v' : Tagged ℕ) (o : Option (Tagged ℕ)) → o ≡ Some v' → SameParts Here w parts parts' → words_of new ≡ words_of new' →
      moving.Made c k.places k.limit parts' new' o after' → MakesSo Here (named c k.limit) parts n new v' after'
  makes_so w parts parts' after' n new new' v' o e same words (moving.at_once count start m is adds) =
      let value : Tidy start ≡ v' = cc in
      subst (λ z. MakesSo Here (named c k.limit) parts n new z (record parts' { memory = m })) value (added_so c k.places k.limit w (heap_there c k.places k.limit w check) parts parts' n start count new m same (words ∙ is) adds)
  makes_so w parts parts' after' n new new' v' o e same words (moving.late count start middle m is coll adds) =
      let q = collects_so c k.places k.limit w parts parts' middle same coll in
      let value : Tidy start ≡ v' = cc in
      subst (λ z. MakesSo Here (named c k.limit) parts n new z (record middle { memory = m })) value (added_so c k.places k.limit q.0 (heap_there c k.places k.limit q.0 check) parts middle n start count new m q.1 (words ∙ is) adds)
  makes_so w parts parts' after' n new new' v' o e same words (moving.no_room _ coll) = absurd (let bad : None ≡ Some v' = e in cc)

  over_stack : (w : World c k.places k.limit) (ss : List (Activation named.Frame)) (ss' : List (Activation moving.Frame)) (m : Move (Activation named.Frame) (Tagged Word) named.Memory) (m' : Move (Activation moving.Frame) (Tagged ℕ) moving.Memory) →
      Each (ActivationAs c k.places k.limit w) ss ss' → MoveAs c k.places k.limit w m m' → SameMove Here w ss ss' m m'
  over_stack w ss ss' m m' st (sound.does a a' s s' n n' act h mem) = rel.acts a a' s s' n n' act (more s s' ss ss' h st) mem
  over_stack w ss ss' m m' st (sound.leaves a a' n n' h mem) = rel.leaves a a' n n' h st mem
  over_stack w ss ss' m m' st (sound.faults kind line) = rel.faults kind 0 line
  over_stack w ss ss' m m' st (sound.breaks _) = rel.breaks m'

  goes_there : (w : World c k.places k.limit) (s : Activation named.Frame) (s' : Activation moving.Frame) (ss : List (Activation named.Frame)) (ss' : List (Activation moving.Frame))
      (a : Answer (Tagged Word)) (a' : Answer (Tagged ℕ)) (m : named.Memory) (m' : moving.Memory) (move' : Move (Activation moving.Frame) (Tagged ℕ) moving.Memory) →
      Each (ActivationAs c k.places k.limit w) (s ∷ ss) (s' ∷ ss') → SameAnswer Here w a a' → MemoryAs c k.places k.limit w m m' → (moving c k).goes s' a' m' move' → GoesSo Here (named c k.limit) w s ss ss' a m move'
  goes_there w s s' ss ss' a a' m m' move' (more _ _ _ _ act st) ans mem go =
      let h = go_so c k.places k.limit w check s s' a a' m m' go.0 act ans mem move' go.1 in
      record { world = w; later = λ e i we. we; move = h.0; goes = (go.0, h.1); same = over_stack w ss ss' h.0 move' st h.2 }

  enters_there : (w : World c k.places k.limit) (parts : Named_parts) (parts' : Moving_parts) (n : ℕ) (t : Thread (Activation named.Frame) (Tagged Word)) (t' : Thread (Activation moving.Frame) (Tagged ℕ)) (q : ℕ) (v : Tagged Word) (vs : List (Tagged Word)) (vs' : List (Tagged ℕ))
      (entered : Entered (Activation moving.Frame) (Tagged ℕ) moving.Memory) → IsActing Here w parts parts' n t t' → Each (ValueAs c k.places k.limit w) vs vs' → moving.Enters c k t'.stack q vs' parts'.memory entered →
      EntersSo Here (named c k.limit) w t.stack t'.stack q v vs parts.memory ((room c k.places k.limit k.depth).no_frame parts n) entered
  enters_there w parts parts' n t t' q v vs vs' entered acting hs (moving.enters i move' short e) =
      let h = enters_so c k.places k.limit w check q i vs vs' parts.memory parts'.memory hs acting.state.memory move' e in
      rel.begins_so w h.0 move' (λ e a we. we) (named.enters i h.0 h.1) (over_stack w t.stack t'.stack h.0 move' acting.same.stack h.2)
  enters_there w parts parts' n t t' q v vs vs' entered acting hs (moving.overflows deep) =
      rel.overflows_so (t, acting.there, subst (λ i. k.depth ≤ i) (sym (each_length (ActivationAs c k.places k.limit w) t.stack t'.stack acting.same.stack)) deep)

  shows_there : (ss : List (Activation named.Frame)) (ss' : List (Activation moving.Frame)) (w : World c k.places k.limit) (m : named.Memory) (m' : moving.Memory) → Each (ActivationAs c k.places k.limit w) ss ss' →
      Each (Each (SameShown Here w)) (map ((named c k.limit).shows m) ss) (map ((moving c k).shows m') ss')
  shows_there ss ss' w m m' st = map_each (ActivationAs c k.places k.limit w) (Each (SameShown Here w)) ((named c k.limit).shows m) ((moving c k).shows m') ss ss' (λ s s' h. shows_so c k.places k.limit w s s' h) st

  -- THE LANGUAGE OF MOVING CELLS FOLLOWS that of named ones
  pub follows : Follows Here (named c k.limit) (moving c k) anything anything (room c k.places k.limit k.depth)
  follows = record {
    same_moment = λ w e a we. we;
    later_still = λ w w' w2 h l e a we. l e a (h e a we);
    value_stays = λ w w' v v' h. value_stays c k.places k.limit w w' h v v';
    stack_stays = λ w w' ss ss' h st. each_mapped (ActivationAs c k.places k.limit w) (ActivationAs c k.places k.limit w') ss ss' (activation_stays c k.places k.limit w w' h) st;
    as_deep = λ w ss ss' st. each_length (ActivationAs c k.places k.limit w) ss ss' st;
    enters = λ w u u' n t t' q v v' vs vs' entered good good' acting is h hs e. enters_there w u.parts u'.parts n t t' q v vs vs' entered acting hs e;
    goes = λ w s s' rest rest' a a' m m' move' u u' n known known' st. goes_there w s s' rest rest' a a' m m' move' st;
    shows = λ w u u' n t t' good good' acting. shows_there t.stack t'.stack w u.parts.memory u'.parts.memory acting.same.stack;
    makes = λ w u u' after' n t t' new new' v' good good' acting needs same e. makes_so w u.parts u'.parts after' n new new' v' (Some v') refl acting.state (words_same c k.places k.limit w new new' same) e;
    full = λ w u u' after' n t t' new new' good good' acting needs same e. tt;
    collects = λ w parts parts' after' same e. collects_so c k.places k.limit w parts parts' after' same e;
    ignores = λ parts. refl;
    number = λ w n. sound.plain n;
    is_same = λ w m m' v u v' u' mem h q. is_same_so c k.places k.limit w m m' mem v u v' u' h q;
    bytes = λ w u u' n t t' form v v' good good' acting is h. bytes_so c k.places k.limit w u.parts.memory u'.parts.memory acting.state.memory form v v' h;
    holder = λ w m m' v v' mem h. holder_so c k.places k.limit w m m' mem v v' h;
    hold = λ w u u' n holder v v' good good' mem h few. hold_so c k.places k.limit w u.parts.memory u'.parts.memory mem v v' holder h;
    number_of = λ w m m' v v' mem h. undefined None;
    life = λ w m m' v v' mem h. life_so c k.places k.limit w m m' mem v v' h;
    join = λ w m m' v v' mem h. join_so c k.places k.limit w m m' mem check.heap v v' h;
    end_with = λ w s s' n m m' v u v' u' known known' mem h q. end_so c k.places k.limit w m m' mem check.heap v u v' u' h q;
    begins = λ w m m' v v' mem h. begins_so c k.places k.limit w m m' mem v v' h;
    alerted = refl;
  }

pub unseen : MovesUnseen
unseen c k given check w s s' schedule turns r' sh h =
    runs_so (standing c k.places k.limit) (named c k.limit) (moving c k) anything anything (room c k.places k.limit k.depth) (follows c k check) given (keeps_anything (named c k.limit) given) (keeps_anything (moving c k) given) w s s' schedule turns r' tt tt sh h
