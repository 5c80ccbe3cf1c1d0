-- The cells of the store stand in memory as everybody writes into them.
use Rattle.std.proofs.Common.{◌≡◌, ℕ, zero, suc, ◌<◌, Bool, true, false, List, [], ◌∷◌, length, Option, Some, None, refl, sym, ap, ◌∙◌, subst, arith, ⊎_elim}
use Rattle.std.specs.Prelude.{◌==◌, ◌&&◌, ◌^◌, slice_get, slice_set, if◌then◌else◌}
use Rattle.std.proofs.lemmas.Bool.{cases_Bool}
use Rattle.m3_runs.specs.Follows.{AsDefined, undefined, defined}
use Rattle.m3_values.specs.Values as value
use Rattle.m3_values.specs.Values.{Pointer}
use Rattle.m3_values.specs.Programs.{Program}
use Rattle.m3_values.specs.Places.{Is}
use Rattle.m3_values.specs.Store.{Cell, Made, Forked, Store, cell_at, with_cell, is_mutex, with_holder_in}
use Rattle.m3_source_meaning.specs.Programs.{joined_in, ended_in}
use Rattle.m3_mid_meaning.specs.Words.{Word, number, pointer, further, number_of, place_of, InCell, ◌>>=◌}
use Rattle.m3_mid_programs.specs.Linked.{Linked}
use Rattle.m3_mid_programs.specs.Values.{Words}
use Rattle.m3_mid_programs.specs.Activations.{Memory}
use Rattle.m3_mid_programs.specs.Cells.{word_at, number_at, with_word, hold, join, end_with}
use Rattle.m3_mid_programs.specs.Standing as standing
use Rattle.m3_mid_programs.specs.Standing.{IsRow, CellStands, CellsStand, WriteTheSame, CellsWriteTheSame}
use Rattle.m3_mid_programs.proofs.Writing.{same_number, one_number, and_false, is_there_at, NotAt, Behind, With, in_another_cell, outside, written, read_back, word_stays, number_stays, spelling_stays}

-- ---- lists

set_length : {A : Type 0} (xs : List A) (c : ℕ) (x : A) → length (slice_set xs c x) ≡ length xs
set_length [] c x = refl
set_length (y ∷ ys) zero x = refl
set_length (y ∷ ys) (suc c) x = ap suc (set_length ys c x)

get_set : {A : Type 0} (xs : List A) (c : ℕ) (old new : A) → slice_get xs c ≡ Some old → slice_get (slice_set xs c new) c ≡ Some new
get_set [] c old new e = absurd (let bad : None ≡ Some old = e in cc)
get_set (x ∷ xs) zero old new e = refl
get_set (x ∷ xs) (suc c) old new e = get_set xs c old new e

pub get_other : {A : Type 0} (xs : List A) (c d : ℕ) (new : A) → (d ≡ c → ⊥) → slice_get (slice_set xs c new) d ≡ slice_get xs d
get_other [] c d new h = refl
get_other (x ∷ xs) zero zero new h = absurd (h refl)
get_other (x ∷ xs) zero (suc d) new h = refl
get_other (x ∷ xs) (suc c) zero new h = refl
get_other (x ∷ xs) (suc c) (suc d) new h = get_other xs c d new (λ e. h (ap suc e))

set_twice : {A : Type 0} (xs : List A) (c : ℕ) (x y : A) → slice_set (slice_set xs c x) c y ≡ slice_set xs c y
set_twice [] c x y = refl
set_twice (z ∷ zs) zero x y = refl
set_twice (z ∷ zs) (suc c) x y = ap (λ zs. z ∷ zs) (set_twice zs c x y)

-- ---- numbers

number_back : (n : ℕ) → n < 2 ^ 64 → number_of (number n) ≡ Some n
number_back n h = ap (λ k. Some k) (omega (arith, h))

found_word : (o : Option Word) (n : ℕ) → (o >>= number_of) ≡ Some n → (w : Word) × (o ≡ Some w)
found_word None n e = absurd (let bad : None ≡ Some n = e in cc)
found_word (Some w) n e = (w, refl)

differs : (c d : ℕ) → (d == c) ≡ false → d ≡ c → ⊥
differs c d e h = let bad : true ≡ false = sym (same_number c) ∙ ap (λ x. x == c) (sym h) ∙ e in cc

-- two words of one cell
beside : (c j k : ℕ) → place_of (further (pointer c) j) ≡ Some (InCell c j) → (j == k) ≡ false → NotAt (further (pointer c) j) (InCell c k)
beside c j k behind e place h = sym (ap (is_there_at (InCell c k)) h) ∙ ap (is_there_at (InCell c k)) behind ∙ ap (λ b. (c == c) && b) e ∙ and_false (c == c)

module _ (p : Program) (linked : Linked) (frames : ℕ → Option ℕ) where
  module _ (m : Memory) (c k : ℕ) (w : Word) (behind : Behind c k) where
    abbrev After : Memory
    After = With linked m c k w behind

    cell_stays : (d : ℕ) (cell : Cell) → (d == c) ≡ false → CellStands p linked frames m d cell → CellStands p linked frames After d cell
    cell_stays d cell e (standing.made kind content holder h) = standing.made kind content holder (λ t. number_stays linked m c k w behind (pointer d) 1 (in_another_cell c d e 1 k) ∙ h t)
    cell_stays d cell e (standing.text_made bytes h) = standing.text_made bytes (spelling_stays linked m c k w behind (pointer d) (in_another_cell c d e) ∙ h)
    cell_stays d cell e (standing.alive n is_joined u h i j) =
        standing.alive n is_joined u (number_stays linked m c k w behind (pointer d) 1 (in_another_cell c d e 1 k) ∙ h) (number_stays linked m c k w behind (pointer d) 2 (in_another_cell c d e 2 k) ∙ i)
        (word_stays linked m c k w behind (pointer d) 3 (in_another_cell c d e 3 k) ∙ j)
    cell_stays d cell e (standing.ended n v is_joined u h i j row) =
        standing.ended n v is_joined u (number_stays linked m c k w behind (pointer d) 1 (in_another_cell c d e 1 k) ∙ h) (number_stays linked m c k w behind (pointer d) 2 (in_another_cell c d e 2 k) ∙ i)
        (word_stays linked m c k w behind (pointer d) 3 (in_another_cell c d e 3 k) ∙ j) row

    -- where the cell that was written into stands as another one, all do
    stand_with : (s : Store) (old new : Cell) → CellsStand p linked frames s m → cell_at s c ≡ Some old → CellStands p linked frames After c new → CellsStand p linked frames (with_cell c new s) After
    stand_with s old new h there stands = record {
      count = set_length s.cells c new ∙ h.count;
      each = λ d cell e. ⊎_elim
          (λ same.
          let one = one_number d c same in
          let this : Some cell ≡ Some new = sym (subst (λ x. slice_get (slice_set s.cells c new) x ≡ Some cell) one e) ∙ get_set s.cells c old new there in
          let it : new ≡ cell = cc in
          subst (λ x. CellStands p linked frames After x cell) (sym one) (subst (λ x. CellStands p linked frames After c x) it stands))
          (λ other. cell_stays d cell other (h.each d cell (sym (get_other s.cells c d new (differs c d other)) ∙ e)))
          (cases_Bool (d == c));
      texts = λ t bytes e. spelling_stays linked m c k w behind (number (linked.around.texts t)) (outside c (linked.around.texts t)) ∙ h.texts t bytes e;
      main_number = number_stays linked m c k w behind (number linked.around.globals) 1 (outside c linked.around.globals 1 k) ∙ h.main_number;
      main_state = number_stays linked m c k w behind (number linked.around.globals) 2 (outside c linked.around.globals 2 k) ∙ h.main_state;
      main_word = h.main_word;
      main_result = word_stays linked m c k w behind (number linked.around.globals) 3 (outside c linked.around.globals 3 k) ∙ h.main_result;
    }

    number_read : (n : ℕ) → number_of w ≡ Some n → number_at linked After (pointer c) k ≡ Some n
    number_read n e = ap (λ o. o >>= number_of) (read_back linked m c k w behind) ∙ e

  -- ---- mutexes

  module _ (s : Store) (m : Memory) (c : ℕ) (h : CellsStand p linked frames s m) where
    -- what middle code writes, where a word is there
    writes_so : (k : ℕ) (w : Word) (behind : Behind c k) (old new : Cell) (store : Option Memory) → (o : Word) → word_at linked m (pointer c) k ≡ Some o → store ≡ with_word m (pointer c) k w → cell_at s c ≡ Some old → CellStands p linked frames (With linked m c k w behind) c new →
        AsDefined (CellsStand p linked frames) (Some (with_cell c new s)) store
    writes_so k w behind old new store o there is at stands =
        subst (λ x. AsDefined (CellsStand p linked frames) (Some (with_cell c new s)) x) (sym (is ∙ written linked m c k w behind o there))
        (defined (with_cell c new s) (With linked m c k w behind) (stand_with m c k w behind s old new h at stands))

    held_if : (test : Bool) (kind : ℕ) (content : value.Value) (before n : ℕ) → n < 2 ^ 64 → is_mutex p kind ≡ test → cell_at s c ≡ Some (Made kind content before) → (is_mutex p kind ≡ true → number_at linked m (pointer c) 1 ≡ Some before) →
        AsDefined (CellsStand p linked frames) (if test then Some (with_cell c (Made kind content n) s) else None) (hold m n (pointer c))
    held_if false kind content before n few is at holds = undefined (hold m n (pointer c))
    held_if true kind content before n few is at holds =
        let o = found_word (word_at linked m (pointer c) 1) before (holds is) in
        writes_so 1 (number n) refl (Made kind content before) (Made kind content n) (hold m n (pointer c)) o.0 o.1 refl at
        (standing.made kind content n (λ e. number_read m c 1 (number n) refl n (number_back n few)))

    hold_cell : (cell : Cell) (n : ℕ) → n < 2 ^ 64 → cell_at s c ≡ Some cell → CellStands p linked frames m c cell → AsDefined (CellsStand p linked frames) (with_holder_in p s c n (Some cell)) (hold m n (pointer c))
    hold_cell cell n few at (standing.made kind content before holds) =
        subst (λ (b : Bool). AsDefined (CellsStand p linked frames) (if b then Some (with_cell c (Made kind content n) s) else None) (hold m n (pointer c))) refl (held_if (is_mutex p kind) kind content before n few refl at holds)
    hold_cell cell n few at (standing.text_made bytes e) = undefined (hold m n (pointer c))
    hold_cell cell n few at (standing.alive i is_joined w e f g) = undefined (hold m n (pointer c))
    hold_cell cell n few at (standing.ended i v is_joined w e f g row) = undefined (hold m n (pointer c))

    -- ---- threads

    join_ended : (n : ℕ) (v : value.Value) (is_joined : Bool) (w : Word) → cell_at s c ≡ Some (Forked n (Some v) is_joined) → number_at linked m (pointer c) 1 ≡ Some n → number_at linked m (pointer c) 2 ≡ Some (standing.state_of is_joined) → word_at linked m (pointer c) 3 ≡ Some w →
        IsRow p linked frames v (w ∷ []) → AsDefined (CellsStand p linked frames) (joined_in p s c (Some (Forked n (Some v) is_joined))) (join m (pointer c))
    join_ended n v true w at e f g row = undefined (join m (pointer c))
    join_ended n v false w at e f g row =
        let o = found_word (word_at linked m (pointer c) 2) 1 f in
        writes_so 2 (number 2) refl (Forked n (Some v) false) (Forked n (Some v) true) (join m (pointer c)) o.0 o.1 refl at
        (standing.ended n v true w (number_stays linked m c 2 (number 2) refl (pointer c) 1 (beside c 1 2 refl refl) ∙ e) (number_read m c 2 (number 2) refl 2 refl)
        (word_stays linked m c 2 (number 2) refl (pointer c) 3 (beside c 3 2 refl refl) ∙ g) row)

    join_cell : (cell : Cell) → cell_at s c ≡ Some cell → CellStands p linked frames m c cell → AsDefined (CellsStand p linked frames) (joined_in p s c (Some cell)) (join m (pointer c))
    join_cell cell at (standing.made kind content before holds) = undefined (join m (pointer c))
    join_cell cell at (standing.text_made bytes e) = undefined (join m (pointer c))
    join_cell cell at (standing.alive i is_joined w e f g) = undefined (join m (pointer c))
    join_cell cell at (standing.ended i v is_joined w e f g row) = join_ended i v is_joined w at e f g row

  -- the result, and then that the thread has ended
  end_alive : (s : Store) (m : Memory) (c n : ℕ) (is_joined : Bool) (w : Word) (u : value.Value) (result : Word) → CellsStand p linked frames s m → cell_at s c ≡ Some (Forked n None is_joined) → number_at linked m (pointer c) 1 ≡ Some n →
      number_at linked m (pointer c) 2 ≡ Some 0 → word_at linked m (pointer c) 3 ≡ Some w → IsRow p linked frames u (result ∷ []) → AsDefined (CellsStand p linked frames) (Some (with_cell c (Forked n (Some u) false) s)) (end_with m result (pointer c))
  end_alive s m c n is_joined w u result h at e f g row =
      let cell : Cell = Forked n None is_joined in
      let m1 : Memory = With linked m c 3 result refl in
      let number1 : number_at linked m1 (pointer c) 1 ≡ Some n = number_stays linked m c 3 result refl (pointer c) 1 (beside c 1 3 refl refl) ∙ e in
      let state1 : number_at linked m1 (pointer c) 2 ≡ Some 0 = number_stays linked m c 3 result refl (pointer c) 2 (beside c 2 3 refl refl) ∙ f in
      let result1 : word_at linked m1 (pointer c) 3 ≡ Some result = read_back linked m c 3 result refl in
      let h1 = stand_with m c 3 result refl s cell cell h at (standing.alive n is_joined result number1 state1 result1) in
      let o = found_word (word_at linked m1 (pointer c) 2) 0 state1 in
      let first : end_with m result (pointer c) ≡ with_word m1 (pointer c) 2 (number 1) = ap (λ x. x >>= λ after. with_word after (pointer c) 2 (number 1)) (written linked m c 3 result refl w g) in
      let all = writes_so (with_cell c cell s) m1 c h1 2 (number 1) refl cell (Forked n (Some u) false) (end_with m result (pointer c)) o.0 o.1 first (get_set s.cells c cell cell at)
      (standing.ended n u false result (number_stays linked m1 c 2 (number 1) refl (pointer c) 1 (beside c 1 2 refl refl) ∙ number1) (number_read m1 c 2 (number 1) refl 1 refl)
      (word_stays linked m1 c 2 (number 1) refl (pointer c) 3 (beside c 3 2 refl refl) ∙ result1) row) in
      subst (λ (cells : List Cell). AsDefined (CellsStand p linked frames) (Some (record s { cells = cells })) (end_with m result (pointer c))) (set_twice s.cells c cell (Forked n (Some u) false)) all

  end_cell : (s : Store) (m : Memory) (c : ℕ) (cell : Cell) (u : value.Value) (result : Word) → CellsStand p linked frames s m → cell_at s c ≡ Some cell → CellStands p linked frames m c cell → IsRow p linked frames u (result ∷ []) →
      AsDefined (CellsStand p linked frames) (ended_in p s c u (Some cell)) (end_with m result (pointer c))
  end_cell s m c cell u result h at (standing.made kind content before holds) row = undefined (end_with m result (pointer c))
  end_cell s m c cell u result h at (standing.text_made bytes e) row = undefined (end_with m result (pointer c))
  end_cell s m c cell u result h at (standing.alive n is_joined w e f g) row = end_alive s m c n is_joined w u result h at e f g row
  end_cell s m c cell u result h at (standing.ended n v is_joined w e f g old) row = undefined (end_with m result (pointer c))

  -- ---- all values

  -- what is there is written into
  cell_so : (f : Option Cell → Option Store) (o : Option Cell) (write : Option Memory) → f None ≡ None → ((cell : Cell) → o ≡ Some cell → AsDefined (CellsStand p linked frames) (f (Some cell)) write) → AsDefined (CellsStand p linked frames) (f o) write
  cell_so f None write none h = subst (λ x. AsDefined (CellsStand p linked frames) x write) (sym none) (undefined write)
  cell_so f (Some cell) write none h = h cell refl

  reference_so : (s : Store) (m : Memory) (c : ℕ) → CellsStand p linked frames s m → WriteTheSame p linked frames s m (Is (Pointer c)) (Words (pointer c ∷ []))
  reference_so s m c h = record {
    hold = λ n few. cell_so (with_holder_in p s c n) (cell_at s c) (hold m n (pointer c)) refl (λ cell e. hold_cell s m c h cell n few e (h.each c cell e));
    join = cell_so (joined_in p s c) (cell_at s c) (join m (pointer c)) refl (λ cell e. join_cell s m c h cell e (h.each c cell e));
    end_with = λ u w row. cell_so (ended_in p s c u) (cell_at s c) (end_with m w (pointer c)) refl (λ cell e. end_cell s m c cell u w h e (h.each c cell e) row);
  }

  writes_same : (s : Store) (m : Memory) (v : value.Value) (ws : List Word) → CellsStand p linked frames s m → IsRow p linked frames v ws → WriteTheSame p linked frames s m (Is v) (Words ws)
  writes_same s m v ws h (standing.ordinal z) = record { hold = λ n few. undefined _; join = undefined _; end_with = λ u w row. undefined _ }
  writes_same s m v ws h standing.no_reference = record { hold = λ n few. undefined _; join = undefined _; end_with = λ u w row. undefined _ }
  writes_same s m v ws h standing.no_procedure = record { hold = λ n few. undefined _; join = undefined _; end_with = λ u w row. undefined _ }
  writes_same s m v ws h (standing.reference c) = reference_so s m c h
  writes_same s m v ws h (standing.text t) = record { hold = λ n few. undefined _; join = undefined _; end_with = λ u w row. undefined _ }
  writes_same s m v ws h standing.main_thread = record { hold = λ n few. undefined _; join = undefined _; end_with = λ u w row. undefined _ }
  writes_same s m v ws h (standing.outermost q) = record { hold = λ n few. undefined _; join = undefined _; end_with = λ u w row. undefined _ }
  writes_same s m v ws h (standing.inner q a frame e) = record { hold = λ n few. undefined _; join = undefined _; end_with = λ u w row. undefined _ }
  writes_same s m v ws h (standing.members ms first count) = record { hold = λ n few. undefined _; join = undefined _; end_with = λ u w row. undefined _ }
  writes_same s m v ws h (standing.record_of vs _ rows) = record { hold = λ n few. undefined _; join = undefined _; end_with = λ u w row. undefined _ }
  writes_same s m v ws h (standing.array below vs _ rows) = record { hold = λ n few. undefined _; join = undefined _; end_with = λ u w row. undefined _ }

pub cells_write_the_same : CellsWriteTheSame
cells_write_the_same p linked frames s m v ws h row = writes_same p linked frames s m v ws h row
