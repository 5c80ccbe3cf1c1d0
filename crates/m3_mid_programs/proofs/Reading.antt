-- What everybody reads of cells is the same in the source and in middle code.
use Rattle.std.proofs.Common.{◌≡◌, ℕ, Bool, true, false, List, [], ◌∷◌, Option, Some, None, refl, sym, ap, ◌∙◌, subst}
use Rattle.std.specs.Prelude.{slice_get, if◌then◌else◌}
use Rattle.std.specs.Option.{option_and_then}
use Rattle.m3_runs.specs.Languages as run
use Rattle.m3_runs.specs.Languages.{Life}
use Rattle.m3_runs.specs.Follows.{AsDefined, undefined, defined, IsOne}
use Rattle.m3_values.specs.Values as value
use Rattle.m3_values.specs.Values.{Pointer, Text, MainThread}
use Rattle.m3_values.specs.Constants.{texts_of}
use Rattle.m3_values.specs.Programs.{Program}
use Rattle.m3_values.specs.Places.{Thing, Is}
use Rattle.m3_values.specs.Store.{Cell, Made, Forked, Store, cell_at, is_mutex, holder_in, bytes_in}
use Rattle.m3_source_meaning.specs.Programs.{number_in, life_in}
use Rattle.m3_mid_meaning.specs.Words.{Word, number, pointer, ◌>>=◌}
use Rattle.m3_mid_programs.specs.Linked.{Linked}
use Rattle.m3_mid_programs.specs.Values.{Words, word}
use Rattle.m3_mid_programs.specs.Activations.{Memory}
use Rattle.m3_mid_programs.specs.Cells.{word_at, number_at, bytes_of, life_at, holder, number_of_thread, life}
use Rattle.m3_mid_programs.specs.Standing as standing
use Rattle.m3_mid_programs.specs.Standing.{IsRow, CellStands, CellsStand, SameLife, ReadTheSame, CellsReadTheSame}

-- what is there is read
read_so : {A : Type 0} (x : A) (o : Option A) → o ≡ Some x → AsDefined IsOne (Some x) o
read_so x o e = subst (λ y. AsDefined IsOne (Some x) y) (sym e) (defined x x refl)

read_if : {A : Type 0} (o o' : Option A) → ((x : A) → o ≡ Some x → o' ≡ Some x) → AsDefined IsOne o o'
read_if None o' h = undefined o'
read_if (Some x) o' h = read_so x o' (h x refl)

module _ (p : Program) (linked : Linked) (frames : ℕ → Option ℕ) where
  -- ---- threads' cells

  told : (m : Memory) (at : Word) (state : ℕ) (w : Word) → number_at linked m at 2 ≡ Some state → word_at linked m at 3 ≡ Some w → life linked m at ≡ life_at state w
  told m at state w e h =
      ap (λ o. o >>= λ state. word_at linked m at 3 >>= λ result. life_at state result) e
      ∙ ap (λ o. o >>= λ result. life_at state result) h

  told_so : (m : Memory) (at : Word) (state : ℕ) (w : Word) (x : Life Thing) → number_at linked m at 2 ≡ Some state → word_at linked m at 3 ≡ Some w → AsDefined (SameLife p linked frames) (Some x) (life_at state w) → AsDefined (SameLife p linked frames) (Some x) (life linked m at)
  told_so m at state w x e h k = subst (λ o. AsDefined (SameLife p linked frames) (Some x) o) (sym (told m at state w e h)) k

  -- ---- a cell that is there

  module _ (s : Store) (m : Memory) (c : ℕ) where
    held_by : (test : Bool) (n x : ℕ) → (test ≡ true → holder linked m (pointer c) ≡ Some n) → (if test then Some n else None) ≡ Some x → holder linked m (pointer c) ≡ Some x
    held_by true n x h e = h refl ∙ e
    held_by false n x h e = absurd (let bad : None ≡ Some x = e in cc)

    held_so : (cell : Cell) → CellStands p linked frames m c cell → AsDefined IsOne (holder_in p cell) (holder linked m (pointer c))
    held_so cell (standing.made kind content n h) = read_if (holder_in p (Made kind content n)) (holder linked m (pointer c)) (λ x e. held_by (is_mutex p kind) n x h e)
    held_so cell (standing.text_made bytes h) = undefined (holder linked m (pointer c))
    held_so cell (standing.alive n is_joined w h k l) = undefined (holder linked m (pointer c))
    held_so cell (standing.ended n v is_joined w h k l row) = undefined (holder linked m (pointer c))

    numbered_so : (cell : Cell) → CellStands p linked frames m c cell → AsDefined IsOne (number_in p cell) (number_of_thread linked m (pointer c))
    numbered_so cell (standing.made kind content n h) = undefined (number_of_thread linked m (pointer c))
    numbered_so cell (standing.text_made bytes h) = undefined (number_of_thread linked m (pointer c))
    numbered_so cell (standing.alive n is_joined w h k l) = read_so n (number_of_thread linked m (pointer c)) h
    numbered_so cell (standing.ended n v is_joined w h k l row) = read_so n (number_of_thread linked m (pointer c)) h

    ended_so : (n : ℕ) (v : value.Value) (is_joined : Bool) (w : Word) → number_at linked m (pointer c) 2 ≡ Some (standing.state_of is_joined) → word_at linked m (pointer c) 3 ≡ Some w → IsRow p linked frames v (w ∷ []) →
        AsDefined (SameLife p linked frames) (life_in p (Forked n (Some v) is_joined)) (life linked m (pointer c))
    ended_so n v false w k l row = told_so m (pointer c) 1 w (run.Ended (Is v)) k l (defined (run.Ended (Is v)) (run.Ended (word w)) (standing.has_ended v (w ∷ []) row))
    ended_so n v true w k l row = told_so m (pointer c) 2 w run.Joined k l (defined run.Joined run.Joined standing.was_joined)

    lives_so : (cell : Cell) → CellStands p linked frames m c cell → AsDefined (SameLife p linked frames) (life_in p cell) (life linked m (pointer c))
    lives_so cell (standing.made kind content n h) = undefined (life linked m (pointer c))
    lives_so cell (standing.text_made bytes h) = undefined (life linked m (pointer c))
    lives_so cell (standing.alive n is_joined w h k l) = told_so m (pointer c) 0 w run.Alive k l (defined run.Alive run.Alive standing.still_alive)
    lives_so cell (standing.ended n v is_joined w h k l row) = ended_so n v is_joined w k l row

    spelt_so : (cell : Cell) → CellStands p linked frames m c cell → AsDefined IsOne (bytes_in p cell) (bytes_of linked m (pointer c))
    spelt_so cell (standing.made kind content n h) = undefined (bytes_of linked m (pointer c))
    spelt_so cell (standing.text_made bytes h) = read_so bytes (bytes_of linked m (pointer c)) h
    spelt_so cell (standing.alive n is_joined w h k l) = undefined (bytes_of linked m (pointer c))
    spelt_so cell (standing.ended n v is_joined w h k l row) = undefined (bytes_of linked m (pointer c))

    -- a cell of this name, where there is one
    cell_so : {A B : Type 0} (P : A → B → Type 0) (f : Cell → Option A) (o : Option Cell) (read : Option B) → ((cell : Cell) → o ≡ Some cell → AsDefined P (f cell) read) → AsDefined P (option_and_then f o) read
    cell_so P f None read h = undefined read
    cell_so P f (Some cell) read h = h cell refl

    reference_so : CellsStand p linked frames s m → ReadTheSame p linked frames s m (Is (Pointer c)) (Words (pointer c ∷ []))
    reference_so h = record {
      holder = cell_so IsOne (holder_in p) (cell_at s c) (holder linked m (pointer c)) (λ cell e. held_so cell (h.each c cell e));
      number = cell_so IsOne (number_in p) (cell_at s c) (number_of_thread linked m (pointer c)) (λ cell e. numbered_so cell (h.each c cell e));
      life = cell_so (SameLife p linked frames) (life_in p) (cell_at s c) (life linked m (pointer c)) (λ cell e. lives_so cell (h.each c cell e));
      bytes = cell_so IsOne (bytes_in p) (cell_at s c) (bytes_of linked m (pointer c)) (λ cell e. spelt_so cell (h.each c cell e));
    }

  -- ---- all values

  text_so : (s : Store) (m : Memory) (t : ℕ) → CellsStand p linked frames s m → ReadTheSame p linked frames s m (Is (Text t)) (Words (number (linked.around.texts t) ∷ []))
  text_so s m t h = record {
    holder = undefined _;
    number = undefined _;
    life = undefined _;
    bytes = read_if (slice_get (texts_of p.texts) t) (bytes_of linked m (number (linked.around.texts t))) (h.texts t);
  }

  main_so : (s : Store) (m : Memory) → CellsStand p linked frames s m → ReadTheSame p linked frames s m (Is MainThread) (Words (number linked.around.globals ∷ []))
  main_so s m h = record {
    holder = undefined _;
    number = read_so 0 (number_of_thread linked m (number linked.around.globals)) h.main_number;
    life = told_so m (number linked.around.globals) 0 h.main_word run.Alive h.main_state h.main_result (defined run.Alive run.Alive standing.still_alive);
    bytes = undefined _;
  }

  reads_so : (s : Store) (m : Memory) (v : value.Value) (ws : List Word) → CellsStand p linked frames s m → IsRow p linked frames v ws → ReadTheSame p linked frames s m (Is v) (Words ws)
  reads_so s m v ws h (standing.ordinal z) = record { holder = undefined _; number = undefined _; life = undefined _; bytes = undefined _ }
  reads_so s m v ws h standing.no_reference = record { holder = undefined _; number = undefined _; life = undefined _; bytes = undefined _ }
  reads_so s m v ws h standing.no_procedure = record { holder = undefined _; number = undefined _; life = undefined _; bytes = undefined _ }
  reads_so s m v ws h (standing.reference c) = reference_so s m c h
  reads_so s m v ws h (standing.text t) = text_so s m t h
  reads_so s m v ws h standing.main_thread = main_so s m h
  reads_so s m v ws h (standing.outermost q) = record { holder = undefined _; number = undefined _; life = undefined _; bytes = undefined _ }
  reads_so s m v ws h (standing.inner q a frame e) = record { holder = undefined _; number = undefined _; life = undefined _; bytes = undefined _ }
  reads_so s m v ws h (standing.members ms first count) = record { holder = undefined _; number = undefined _; life = undefined _; bytes = undefined _ }
  reads_so s m v ws h (standing.record_of vs _ rows) = record { holder = undefined _; number = undefined _; life = undefined _; bytes = undefined _ }
  reads_so s m v ws h (standing.array below vs _ rows) = record { holder = undefined _; number = undefined _; life = undefined _; bytes = undefined _ }

pub cells_read_the_same : CellsReadTheSame
cells_read_the_same p linked frames s m v ws h row = reads_so p linked frames s m v ws h row
