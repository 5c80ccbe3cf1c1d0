-- Marks that are made one part after another.
use Rattle.std.proofs.Common.{◌≡◌, ℕ, Bool, true, false, ◌&&◌, List, [], ◌∷◌, ◌++◌, refl, sym, ap, ◌∙◌}
use Rattle.m3_roots.specs.declared.marks.Mark.{Mark}
use Rattle.m3_roots.specs.Marking.{Act, Marked, AreBefore, goes_with, marked_by, all_go, marked_after, MarksAll, MarksPart}

and_more : (a b c : Bool) → (a && (b && c)) ≡ ((a && b) && c)
and_more true b c = refl
and_more false b c = refl

pub go_append : (s : Marked) (xs ys : List Act) → all_go s (xs ++ ys) ≡ (all_go s xs && all_go (marked_after s xs) ys)
go_append s [] ys = refl
go_append s (x ∷ xs) ys = ap (λ (b : Bool). goes_with s x && b) (go_append (marked_by s x) xs ys) ∙ and_more (goes_with s x) (all_go (marked_by s x) xs) (all_go (marked_after (marked_by s x) xs) ys)

pub after_append : (s : Marked) (xs ys : List Act) → marked_after s (xs ++ ys) ≡ marked_after (marked_after s xs) ys
after_append s [] ys = refl
after_append s (x ∷ xs) ys = after_append (marked_by s x) xs ys

pub before_split : (end : ℕ) (xs ys : List Act) → AreBefore end (xs ++ ys) → AreBefore end xs × AreBefore end ys
before_split end [] ys h = (tt, h)
before_split end (x ∷ xs) ys h = let rest = before_split end xs ys h.1 in ((h.0, rest.0), rest.1)

pub before_join : (end : ℕ) (xs ys : List Act) → AreBefore end xs → AreBefore end ys → AreBefore end (xs ++ ys)
before_join end [] ys h k = k
before_join end (x ∷ xs) ys h k = (h.0, before_join end xs ys h.1 k)

-- ---- parts

pub marks_none : (old : List Mark) (acts : List Act) → MarksPart old old acts acts
marks_none old acts = λ end s tell before. (s, tell, before, refl, refl)

-- some more marks were made
pub marks_more : (old mid new : List Mark) (acts xs rest : List Act) → MarksPart old mid acts (xs ++ rest) → MarksAll mid new xs true → MarksPart old new acts rest
marks_more old mid new acts xs rest part more = λ end s tell before.
    (let p = part end s tell before in
    let t = p.0 in
    let lists = before_split end xs rest p.2 in
    let m = more end t p.1 lists.0 in
    let goes : all_go (marked_after t xs) rest ≡ all_go t (xs ++ rest) = let e = m.0 in sym (go_append t xs rest ∙ rw (← e) refl) in
    (marked_after t xs, m.1 refl, lists.1, goes ∙ p.3, sym (after_append t xs rest) ∙ p.4))

-- the next ones don't go with what is marked
pub marks_stop : (old mid new : List Mark) (acts xs rest : List Act) → MarksPart old mid acts (xs ++ rest) → MarksAll mid new xs false → MarksAll old new acts false
marks_stop old mid new acts xs rest part stop = λ end s tell before.
    (let p = part end s tell before in
    let t = p.0 in
    let lists = before_split end xs rest p.2 in
    let m = stop end t p.1 lists.0 in
    let e = m.0 in
    let goes : all_go t (xs ++ rest) ≡ false = go_append t xs rest ∙ rw (← e) refl in
    (sym (sym p.3 ∙ goes), λ wrong. absurd cc))

-- none is left
pub marks_all : (old new : List Mark) (acts : List Act) → MarksPart old new acts [] → MarksAll old new acts true
marks_all old new acts part = λ end s tell before.
    (let p = part end s tell before in
    let e = p.4 in
    (p.3, λ right. rw (← e) p.1))

-- ---- one list of marks after another

pub marks_then : (old mid new : List Mark) (xs ys : List Act) (r : Bool) → MarksAll old mid xs true → MarksAll mid new ys r → MarksAll old new (xs ++ ys) r
marks_then old mid new xs ys r first second = λ end s tell before.
    (let lists = before_split end xs ys before in
    let f = first end s tell lists.0 in
    let e = f.0 in
    let g = second end (marked_after s xs) (f.1 refl) lists.1 in
    (g.0 ∙ sym (go_append s xs ys ∙ rw (← e) refl), λ right. rw (after_append s xs ys) (g.1 right)))

pub marks_fail : (old new : List Mark) (xs ys : List Act) → MarksAll old new xs false → MarksAll old new (xs ++ ys) false
marks_fail old new xs ys fails = λ end s tell before.
    (let lists = before_split end xs ys before in
    let f = fails end s tell lists.0 in
    let e = f.0 in
    (sym (go_append s xs ys ∙ rw (← e) refl), λ wrong. absurd cc))
