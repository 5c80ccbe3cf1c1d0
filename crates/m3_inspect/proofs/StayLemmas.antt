-- What variables hold stays, but for where cells lie.
use Rattle.std.proofs.Common.{◌≡◌, ℕ, ◌+◌, ◌==◌, Bool, true, false, not, if◌then◌else◌, List, [], ◌∷◌, ◌++◌, map, Option, None, Some, inl, inr, refl, sym, ap, ◌∙◌, arith}
use Rattle.std.specs.List.{AllByRecursion}
use Rattle.std.proofs.lemmas.List.{map-append}
use Rattle.std.proofs.lemmas.Bool.Decides.{nat_tests}
use Rattle.m3_tables.specs.Numbers.{has}
use Rattle.m3_tables.proofs.KeepingLemmas.{choice, and_parts}
use Rattle.m3_heap.specs.Moves.{Move, forwarded}
use Rattle.m3_image_sections.specs.Forms.{none}
use Rattle.m3_image_sections.specs.Parts.{Image, Variable}
use Rattle.m3_run_frames.specs.declared.frame.Frame.{Frame}
use Rattle.m3_roots.specs.ThreadWords.{word_at_place, place_from}
use Rattle.m3_roots.proofs.VisitLemmas.{IsKnown}
use Rattle.m3_inspect.specs.Standing.{Holding, global_at, globals_from, place_at, held_at, locals_from, instruction_of, proc_of_frame, held_in}
use Rattle.m3_inspect.specs.Shown.{ShownFrame, shown_vars, cells_after, shown_frames, cells_after_frames}
use Rattle.m3_inspect.specs.Listed.{is_listed, IsListedAt, FramesList}
use Rattle.m3_inspect.proofs.MoveLemmas.{AreSoundMoves, AllKnown, moved_holding, IsKnownHolding, shown_moved, after_moved, after_known}

-- ---- words

-- tidy words follow their cells, which are known, and what is neither tidy nor derived stays
pub record WordsMove (moves : List Move) (tidy derived old new : List ℕ) : Type 0 where
  pub follow : (q : ℕ) → has tidy q ≡ true → word_at_place new q ≡ forwarded moves (word_at_place old q)
  pub known : (q : ℕ) → has tidy q ≡ true → IsKnown moves (word_at_place old q)
  pub others : (q : ℕ) → has tidy q ≡ false → has derived q ≡ false → word_at_place new q ≡ word_at_place old q

not_true : (b : Bool) → not b ≡ true → b ≡ false
not_true true e = absurd cc
not_true false e = refl

word_moved : (moves : List Move) (tidy derived old new : List ℕ) → WordsMove moves tidy derived old new → (form q : ℕ) → is_listed tidy derived form q ≡ true → word_at_place new q ≡ (if form == 0 then word_at_place old q else forwarded moves (word_at_place old q))
word_moved moves tidy derived old new w form q listed = elim (choice (form == 0)) [
  | inl ordinal ↦ (
      let parts = and_parts (not (has tidy q)) (not (has derived q)) (rw ordinal at listed) in
      rw ordinal (w.others q (not_true (has tidy q) parts.0) (not_true (has derived q) parts.1)))
  | inr reference ↦ (let there = rw reference at listed in rw reference (w.follow q there))
]

word_known : (moves : List Move) (tidy derived old new : List ℕ) → WordsMove moves tidy derived old new → (form q : ℕ) → is_listed tidy derived form q ≡ true → (form == 0) ≡ false → IsKnown moves (word_at_place old q)
word_known moves tidy derived old new w form q listed reference = w.known q (rw reference at listed)

abbrev holding_at : ℕ → ℕ → ℕ → Holding
holding_at number form word = record { var = number; form = form; word = word }

-- ---- lists of what is held

-- what is held after a collection is what was held, moved
pub record HoldingsMove (moves : List Move) (old new : List Holding) : Type 0 where
  pub moved : new ≡ map (moved_holding moves) old
  pub known : AllByRecursion (IsKnownHolding moves) old

holdings_none : (moves : List Move) → HoldingsMove moves [] []
holdings_none moves = record { moved = refl; known = tt }

all_append : {A : Type 0} (P : A → Type 0) (xs ys : List A) → AllByRecursion P xs → AllByRecursion P ys → AllByRecursion P (xs ++ ys)
all_append P [] ys h k = k
all_append P (x ∷ xs) ys h k = (h.0, all_append P xs ys h.1 k)

holdings_append : (moves : List Move) (old new olds news : List Holding) → HoldingsMove moves old new → HoldingsMove moves olds news → HoldingsMove moves (old ++ olds) (new ++ news)
holdings_append moves old new olds news h k = record {
  moved = ap (λ (x : List Holding). x ++ news) h.moved ∙ ap (λ (x : List Holding). map (moved_holding moves) old ++ x) k.moved ∙ sym (map-append (moved_holding moves) old olds);
  known = all_append (IsKnownHolding moves) old olds h.known k.known;
}

holdings_one : (moves : List Move) (tidy derived old new : List ℕ) → WordsMove moves tidy derived old new → (number form q : ℕ) → is_listed tidy derived form q ≡ true → HoldingsMove moves (holding_at number form (word_at_place old q) ∷ []) (holding_at number form (word_at_place new q) ∷ [])
holdings_one moves tidy derived old new w number form q listed = record {
  moved = ap (λ (word : ℕ). holding_at number form word ∷ []) (word_moved moves tidy derived old new w form q listed);
  known = (word_known moves tidy derived old new w form q listed, tt);
}

-- ---- globals

global_moves : (moves : List Move) (tidy old new : List ℕ) → WordsMove moves tidy [] old new → (number : ℕ) (v : Variable) → (v.proc ≡ none → is_listed tidy [] v.form v.word ≡ true) → HoldingsMove moves (global_at old number v) (global_at new number v)
global_moves moves tidy old new w number v listed = elim (choice (v.proc == none)) [
  | inl global ↦ (let e : v.proc ≡ none = grind (arith, nat_tests) in rw global (holdings_one moves tidy [] old new w number v.form v.word (listed e)))
  | inr local ↦ rw local (holdings_none moves)
]

pub globals_move : (moves : List Move) (tidy old new : List ℕ) → WordsMove moves tidy [] old new → (number : ℕ) (vs : List Variable) → AllByRecursion (λ v. v.proc ≡ none → is_listed tidy [] v.form v.word ≡ true) vs → HoldingsMove moves (globals_from old number vs) (globals_from new number vs)
globals_move moves tidy old new w number [] listed = holdings_none moves
globals_move moves tidy old new w number (v ∷ vs) listed =
    holdings_append moves (global_at old number v) (global_at new number v) (globals_from old (number + 1) vs) (globals_from new (number + 1) vs) (global_moves moves tidy old new w number v listed.0) (globals_move moves tidy old new w (number + 1) vs listed.1)

-- ---- frames

held_moves : (moves : List Move) (tidy derived old new : List ℕ) → WordsMove moves tidy derived old new → (first number : ℕ) (v : Variable) (place : Option ℕ) → IsListedAt tidy derived first v.form place → HoldingsMove moves (held_at old first number v place) (held_at new first number v place)
held_moves moves tidy derived old new w first number v None listed = holdings_none moves
held_moves moves tidy derived old new w first number v (Some place) listed = holdings_one moves tidy derived old new w number v.form (place_from first place) listed

locals_move : (moves : List Move) (tidy derived old new : List ℕ) → WordsMove moves tidy derived old new → (first instr number : ℕ) (vs : List Variable) → AllByRecursion (λ v. IsListedAt tidy derived first v.form (place_at instr v.spans)) vs → HoldingsMove moves (locals_from old first instr number vs) (locals_from new first instr number vs)
locals_move moves tidy derived old new w first instr number [] listed = holdings_none moves
locals_move moves tidy derived old new w first instr number (v ∷ vs) listed =
    let place = place_at instr v.spans in
    holdings_append moves (held_at old first number v place) (held_at new first number v place) (locals_from old first instr (number + 1) vs) (locals_from new first instr (number + 1) vs) (held_moves moves tidy derived old new w first number v place listed.0) (locals_move moves tidy derived old new w first instr (number + 1) vs listed.1)

-- frames show what they showed, and then each cell that is known has moved
pub record FramesStay (i : Image) (moves : List Move) (old new cells : List ℕ) (frames : List Frame) : Type 0 where
  pub shown : shown_frames i new (map (forwarded moves) cells) frames ≡ shown_frames i old cells frames
  pub after : cells_after_frames i new (map (forwarded moves) cells) frames ≡ map (forwarded moves) (cells_after_frames i old cells frames)
  pub known : AllKnown moves (cells_after_frames i old cells frames)

pub frames_show : (i : Image) (moves : List Move) (tidy derived old new : List ℕ) → AreSoundMoves moves → WordsMove moves tidy derived old new → (cells : List ℕ) → AllKnown moves cells → (frames : List Frame) → FramesList i tidy derived frames → FramesStay i moves old new cells frames
frames_show i moves tidy derived old new sound w cells known [] listed = record { shown = refl; after = refl; known = known }
frames_show i moves tidy derived old new sound w cells known (f ∷ fs) listed =
    let goes = forwarded moves in
    let held = held_in i old f in
    let here = locals_move moves tidy derived old new w f.first (instruction_of i f) 0 i.variables listed.0 in
    let vars = ap (shown_vars (map goes cells)) here.moved ∙ shown_moved moves sound cells known held here.known in
    let more = ap (cells_after (map goes cells)) here.moved ∙ after_moved moves sound cells known held here.known in
    let rest = frames_show i moves tidy derived old new sound w (cells_after cells held) (after_known moves cells known held here.known) fs listed.1 in
    let first : ShownFrame = record { proc = proc_of_frame i f; vars = shown_vars cells held } in
    record {
      shown = ap (λ vs. (record { proc = proc_of_frame i f; vars = vs }) ∷ shown_frames i new (cells_after (map goes cells) (held_in i new f)) fs) vars
          ∙ ap (λ cs. first ∷ shown_frames i new cs fs) more ∙ ap (λ (ss : List ShownFrame). first ∷ ss) rest.shown;
      after = ap (λ cs. cells_after_frames i new cs fs) more ∙ rest.after;
      known = rest.known;
    }
