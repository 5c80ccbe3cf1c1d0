use Rattle.std.proofs.Common.{◌≡◌, ◌+◌, ◌-◌, ◌∷◌, ◌++◌, [], ℕ, List, length, take, replicate, true, Bool, vec_len, ap, ◌∙◌, arith, refl, sym, subst, length-set}
use Rattle.std.specs.Vec.{with_items}
use Rattle.std.proofs.lemmas.List.{with_items_is, length-replicate}
use Rattle.m3_heap.specs.declared.half.Half.TheInside.{Inside}
use Rattle.m3_heap.proofs.SpaceLemmas.{has-room, next-start, IsPush, pushed-marks, pushed-rest, IsCleared, cleared-more, push-cells, push-half}
use Rattle.m3_heap.proofs.half.Half.append_zeroed.Goals as goal
use Rattle.m3_heap.proofs.half.Half.append_zeroed.Goals.{then-len-end, else-len-end}

pub clear_to-requires-clause-end : goal.clear_to-requires-clause-end
clear_to-requires-clause-end c = has-room c.self.inside c.self.invariant c.args.self.now c.args.count c.self.view_is c.requires.room

pub write_cell-requires-clause-room : goal.write_cell-requires-clause-room
write_cell-requires-clause-room c = elim c.if-len-end.branch [
  | then-len-end w ↦ omega (arith, c.deref_mut.ensures.len, w.clear_to.ensures.end, ap (λ (now : Inside). vec_len now.words) w.self-inside-is)
  | else-len-end w ↦ omega (arith, c.deref_mut.ensures.len, w.if-len-end.false, c.len.ensures, ap (λ (now : Inside). vec_len now.words) w.self-inside-is)
]

pub set-requires : goal.set-requires
set-requires c =
    let room = has-room c.self.inside c.self.invariant c.args.self.now c.args.count c.self.view_is c.requires.room in
    omega (arith, c.self.invariant.marks, c.requires.some)

cleared : (c : goal.After-self-2-1) → IsCleared c.self.inside c.if-len-end.self-inside (c.self.inside.used + c.args.count)
cleared c =
    let half = c.self.inside in
    let P : Inside → Type 0 = λ now. IsCleared half now (half.used + c.args.count) in
    elim c.if-len-end.branch [
      | then-len-end w ↦ subst P (sym w.self-inside-is) (record {
        base = refl;
        size = refl;
        starts = c.set.ensures;
        kept = cleared-more half c.self.invariant half.words.items _ refl w.clear_to.ensures.words.0 w.clear_to.ensures.words.1;
        reach = w.clear_to.ensures.end;
        within = w.clear_to.ensures.within;
        room = w.clear_to.ensures.room;
      })
      | else-len-end w ↦ subst P (sym w.self-inside-is) (record {
        base = refl;
        size = refl;
        starts = c.set.ensures;
        kept = refl;
        reach = omega (arith, w.if-len-end.false, c.len.ensures);
        within = omega (arith, c.self.invariant.within, half.words.ok.0);
        room = c.self.invariant.room;
      })
    ]

kept : (c : goal.After-self-2-1) → (with_items c.if-len-end.self-inside.words c.write_cell.new.words).items ≡ c.write_cell.new.words
kept c = with_items_is c.if-len-end.self-inside.words c.write_cell.new.words (omega (arith, c.write_cell.ensures.length, c.deref_mut.ensures.len))

written : (c : goal.After-self-2-1) → IsPush c.self.inside c.if-len-end.self-inside.starts (with_items c.if-len-end.self-inside.words c.write_cell.new.words).items (c.args.header ∷ replicate (c.self.inside.used + c.args.count - (c.self.inside.used + 1)) 0) c.args.count
written c =
    let same = kept c in
    let used = c.self.inside.used in
    let end = used + c.args.count in
    let room = has-room c.self.inside c.self.invariant c.args.self.now c.args.count c.self.view_is c.requires.room in
    let count : length {A = ℕ} (replicate (end - (used + 1)) 0) ≡ end - (used + 1) = length-replicate (end - (used + 1)) 0 in
    let long : length (with_items c.if-len-end.self-inside.words c.write_cell.new.words).items ≡ vec_len c.if-len-end.self-inside.words = ap (λ (ws : List ℕ). length ws) same ∙ c.write_cell.ensures.length ∙ c.deref_mut.ensures.len in
    record {
      marks_length = ap (λ (l : List Bool). length l) (cleared c).starts ∙ length-set c.self.inside.starts used true;
      marks_rest = pushed-rest c.self.inside c.self.invariant c.if-len-end.self-inside.starts c.args.count (cleared c).starts c.requires.some;
      marks_now = pushed-marks c.self.inside c.self.invariant c.if-len-end.self-inside.starts c.args.count (cleared c).starts c.requires.some room;
      words_reach = omega (arith, long, (cleared c).reach);
      words_within = omega (arith, long, (cleared c).within);
      words_now =
          ap (λ (ws : List ℕ). take end ws) same
          ∙ c.write_cell.ensures.words
          ∙ ap (λ (ws : List ℕ). take used ws ++ c.args.header ∷ replicate (end - (used + 1)) 0) c.deref_mut.ensures.value
          ∙ ap (λ (ws : List ℕ). ws ++ c.args.header ∷ replicate (end - (used + 1)) 0) (cleared c).kept;
      added = omega (arith, count, c.requires.some);
      some = c.requires.some;
      room = room;
    }

pub invariant_of-self : goal.invariant_of-self
invariant_of-self c = push-half c.self.inside _ c.self.invariant _ c.args.count (written c) (cleared c).base (cleared c).size refl (cleared c).room

pub returns-clause-start : goal.returns-clause-start
returns-clause-start c = ap (λ n. n + c.self.inside.used) (cleared c).base ∙ next-start c.self.inside c.self.invariant c.args.self.now c.self.view_is

pub returns-clause-cells : goal.returns-clause-cells
returns-clause-cells c =
    let n : c.self.inside.used + c.args.count - (c.self.inside.used + 1) ≡ c.args.count - 1 = omega arith in
    push-cells c.self.inside c.self.invariant c.args.self.now c.self.view_is _ _ _ c.args.count (written c) _ (cleared c).base
    ∙ ap (λ k. c.args.self.now.cells ++ record { start = c.if-len-end.self-inside.base + c.self.inside.used; words = c.args.header ∷ replicate k 0 } ∷ []) n
