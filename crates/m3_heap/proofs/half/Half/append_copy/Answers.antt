use Rattle.std.proofs.Common.{◌≡◌, ◌+◌, ◌-◌, ◌++◌, ℕ, List, length, take, drop, true, Bool, vec_len, ap, ◌∙◌, arith, refl, sym, subst, length-set}
use Rattle.std.specs.Vec.{with_items}
use Rattle.std.proofs.lemmas.List.{with_items_is}
use Rattle.m3_heap.specs.Cells.{words_from}
use Rattle.m3_heap.specs.declared.half.Half.TheInside.{Inside}
use Rattle.m3_heap.proofs.SpaceLemmas.{has-room, next-start, IsPush, pushed-marks, pushed-rest, IsCleared, cleared-more, push-cells, push-half, source-fits, source-words}
use Rattle.m3_heap.proofs.half.Half.append_copy.Goals as goal
use Rattle.m3_heap.proofs.half.Half.append_copy.Goals.{then-len-end, else-len-end}

pub clear_to-requires-clause-end : goal.clear_to-requires-clause-end
clear_to-requires-clause-end c = has-room c.self.inside c.self.invariant c.args.self.now c.args.count c.self.view_is c.requires.room

pub overflow_sub-first : goal.overflow_sub-first
overflow_sub-first c = (source-fits c.source.inside c.source.invariant c.args.source.now c.source.view_is c.args.from c.args.count c.requires.starts c.requires.words).0

pub copy_words-requires-clause-room : goal.copy_words-requires-clause-room
copy_words-requires-clause-room c = elim c.if-len-end.branch [
  | then-len-end w ↦ omega (arith, c.deref_mut.ensures.len, w.clear_to.ensures.end, ap (λ (now : Inside). vec_len now.words) w.self-inside-is)
  | else-len-end w ↦ omega (arith, c.deref_mut.ensures.len, w.if-len-end.false, c.len.ensures, ap (λ (now : Inside). vec_len now.words) w.self-inside-is)
]

pub copy_words-requires-clause-there : goal.copy_words-requires-clause-there
copy_words-requires-clause-there c =
    let fits = source-fits c.source.inside c.source.invariant c.args.source.now c.source.view_is c.args.from c.args.count c.requires.starts c.requires.words in
    omega (arith, ap (λ (ws : List ℕ). length ws) c.deref.ensures.value, fits.0, fits.2, c.source.invariant.used)

pub set-requires : goal.set-requires
set-requires c =
    let fits = source-fits c.source.inside c.source.invariant c.args.source.now c.source.view_is c.args.from c.args.count c.requires.starts c.requires.words in
    let room = has-room c.self.inside c.self.invariant c.args.self.now c.args.count c.self.view_is c.requires.room in
    omega (arith, fits.1, c.self.invariant.marks)

cleared : (c : goal.After-self-2-1) → IsCleared c.self.inside c.if-len-end.self-inside (c.self.inside.used + c.args.count)
cleared c =
    let half = c.self.inside in
    let P : Inside → Type 0 = λ now. IsCleared half now (half.used + c.args.count) in
    elim c.if-len-end.branch [
      | then-len-end w ↦ subst P (sym w.self-inside-is) (record {
        base = refl;
        size = refl;
        starts = c.set.ensures;
        kept = cleared-more half c.self.invariant half.words.items _ refl w.clear_to.ensures.words.0 w.clear_to.ensures.words.1;
        reach = w.clear_to.ensures.end;
        within = w.clear_to.ensures.within;
        room = w.clear_to.ensures.room;
      })
      | else-len-end w ↦ subst P (sym w.self-inside-is) (record {
        base = refl;
        size = refl;
        starts = c.set.ensures;
        kept = refl;
        reach = omega (arith, w.if-len-end.false, c.len.ensures);
        within = omega (arith, c.self.invariant.within, half.words.ok.0);
        room = c.self.invariant.room;
      })
    ]

kept : (c : goal.After-self-2-1) → (with_items c.if-len-end.self-inside.words c.copy_words.new.words).items ≡ c.copy_words.new.words
kept c = with_items_is c.if-len-end.self-inside.words c.copy_words.new.words (omega (arith, c.copy_words.ensures.length, c.deref_mut.ensures.len))

copied : (c : goal.After-self-2-1) → take c.args.count (drop (c.args.from - c.source.inside.base) c.deref.result.now) ≡ words_from c.args.source.now.cells c.args.from
copied c =
    ap (λ (ws : List ℕ). take c.args.count (drop (c.args.from - c.source.inside.base) ws)) c.deref.ensures.value
    ∙ source-words c.source.inside c.source.invariant c.args.source.now c.source.view_is c.args.from c.args.count c.requires.starts c.requires.words

written : (c : goal.After-self-2-1) → IsPush c.self.inside c.if-len-end.self-inside.starts (with_items c.if-len-end.self-inside.words c.copy_words.new.words).items (words_from c.args.source.now.cells c.args.from) c.args.count
written c =
    let same = kept c in
    let used = c.self.inside.used in
    let first = c.args.from - c.source.inside.base in
    let fits = source-fits c.source.inside c.source.invariant c.args.source.now c.source.view_is c.args.from c.args.count c.requires.starts c.requires.words in
    let room = has-room c.self.inside c.self.invariant c.args.self.now c.args.count c.self.view_is c.requires.room in
    let long : length (with_items c.if-len-end.self-inside.words c.copy_words.new.words).items ≡ vec_len c.if-len-end.self-inside.words = ap (λ (ws : List ℕ). length ws) same ∙ c.copy_words.ensures.length ∙ c.deref_mut.ensures.len in
    record {
      marks_length = ap (λ (l : List Bool). length l) (cleared c).starts ∙ length-set c.self.inside.starts used true;
      marks_rest = pushed-rest c.self.inside c.self.invariant c.if-len-end.self-inside.starts c.args.count (cleared c).starts fits.1;
      marks_now = pushed-marks c.self.inside c.self.invariant c.if-len-end.self-inside.starts c.args.count (cleared c).starts fits.1 room;
      words_reach = omega (arith, long, (cleared c).reach);
      words_within = omega (arith, long, (cleared c).within);
      words_now =
          ap (λ (ws : List ℕ). take (used + c.args.count) ws) same
          ∙ c.copy_words.ensures.words
          ∙ ap (λ (ws : List ℕ). take used ws ++ take c.args.count (drop first c.deref.result.now)) c.deref_mut.ensures.value
          ∙ ap (λ (ws : List ℕ). ws ++ take c.args.count (drop first c.deref.result.now)) (cleared c).kept
          ∙ ap (λ (ws : List ℕ). take used c.self.inside.words.items ++ ws) (copied c);
      added = c.requires.words;
      some = fits.1;
      room = room;
    }

pub invariant_of-self : goal.invariant_of-self
invariant_of-self c = push-half c.self.inside _ c.self.invariant _ c.args.count (written c) (cleared c).base (cleared c).size refl (cleared c).room

pub returns-clause-start : goal.returns-clause-start
returns-clause-start c = ap (λ n. n + c.self.inside.used) (cleared c).base ∙ next-start c.self.inside c.self.invariant c.args.self.now c.self.view_is

pub returns-clause-cells : goal.returns-clause-cells
returns-clause-cells c = push-cells c.self.inside c.self.invariant c.args.self.now c.self.view_is _ _ _ c.args.count (written c) _ (cleared c).base
