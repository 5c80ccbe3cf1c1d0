use Rattle.std.proofs.Common.{◌≡◌, ◌+◌, ◌-◌, ◌<◌, ◌≤◌, ℕ, Bool, true, false, List, [], ◌∷◌, get_or, length, take, is_some, refl, sym, ap, subst, ◌∙◌, arith, inl, inr, ◌⊎◌, ⊎_elim}
use Rattle.std.proofs.lemmas.Bool.{cases_lt, false≢true}
use Rattle.std.proofs.lemmas.List.{get_or-take}
use Rattle.m3_heap.specs.Cells.{cell_word_at, is_start, words_from, total_words}
use Rattle.m3_heap.specs.CollectorHalf.{IsHalf, space_of}
use Rattle.m3_heap.specs.CollectorSpace.{Space, unmarked, AreLaid}
use Rattle.m3_heap.specs.declared.half.Half.TheInside.{Inside}
use Rattle.m3_heap.proofs.SpaceLemmas.{word_at-outside, start-fits, laid-used, total-used, is_start-used, length-marks_of, length-words_of}
use Rattle.m3_heap.proofs.TraceLemmas.{boundary-laid}
use Rattle.m3_heap.proofs.half.Half.start_of.Goals as goal

inside : (half : Inside) → IsHalf half → (space : Space) → space_of half ≡ space → (at : ℕ) → is_some (cell_word_at space.cells at) ≡ true → (half.base ≤ at) × (at < half.base + half.used)
inside half h space is at some =
    let cells = (space_of half).cells in
    let laid = laid-used half h in
    let total = total-used half h in
    let there : is_some (cell_word_at cells at) ≡ true = ap (λ (s : Space). is_some (cell_word_at s.cells at)) is ∙ some in
    let off : (at < half.base) ⊎ (half.base + total_words cells ≤ at) → ⊥ = λ out. false≢true (sym (ap is_some (word_at-outside half.base at cells laid out)) ∙ there) in (
      ⊎_elim (λ (below : at < half.base). absurd (off (inl below))) (λ (ok : half.base ≤ at). ok) (cases_lt at half.base),
      ⊎_elim (λ (ok : at < half.base + half.used). ok) (λ (past : half.base + half.used ≤ at). absurd (off (inr (omega (arith, total, past))))) (cases_lt at (half.base + half.used)),
    )

first-mark : (bs : List Bool) (ws : List ℕ) → unmarked bs ws ≡ [] → 1 ≤ length bs → 1 ≤ length ws → get_or bs 0 false ≡ true
first-mark [] ws e p q = absurd (omega arith)
first-mark (true ∷ bs) ws e p q = refl
first-mark (false ∷ bs) [] e p q = absurd (omega arith)
first-mark (false ∷ bs) (w ∷ ws) e p q = absurd (cc)

pub overflow_sub-place : goal.overflow_sub-place
overflow_sub-place c = (inside c.self.inside c.self.invariant c.args.self.now c.self.view_is c.args.at c.requires).0

pub last-requires-clause-within : goal.last-requires-clause-within
last-requires-clause-within c =
    let i = inside c.self.inside c.self.invariant c.args.self.now c.self.view_is c.args.at c.requires in
    omega (arith, i.0, i.1, c.self.invariant.used, c.self.invariant.marks)

pub last-requires-clause-first : goal.last-requires-clause-first
last-requires-clause-first c =
    let h = c.self.inside in
    let i = inside h c.self.invariant c.args.self.now c.self.view_is c.args.at c.requires in
    let some : 0 < h.used = omega (arith, i.0, i.1) in
    sym (get_or-take h.used h.starts 0 false some)
    ∙ first-mark (take h.used h.starts) (take h.used h.words.items) c.self.invariant.begins (omega (arith, length-marks_of h c.self.invariant, some)) (omega (arith, length-words_of h c.self.invariant, some))

started : (c : goal.After-last) → is_start c.args.self.now.cells (c.self.inside.base + c.last.result) ≡ true
started c =
    let h = c.self.inside in
    let i = inside h c.self.invariant c.args.self.now c.self.view_is c.args.at c.requires in
    let low : h.base ≤ h.base + c.last.result = omega arith in
    let high : h.base + c.last.result < h.base + h.used = omega (arith, i.0, i.1, c.last.ensures.from) in
    let place : h.base + c.last.result - h.base ≡ c.last.result = omega arith in
    ap (λ (s : Space). is_start s.cells (h.base + c.last.result)) (sym c.self.view_is) ∙ is_start-used h c.self.invariant (h.base + c.last.result) low high ∙ ap (λ n. get_or h.starts n false) place ∙ c.last.ensures.there

pub returns-clause-starts : goal.returns-clause-starts
returns-clause-starts c = started c

pub returns-clause-low : goal.returns-clause-low
returns-clause-low c =
    let i = inside c.self.inside c.self.invariant c.args.self.now c.self.view_is c.args.at c.requires in
    omega (arith, i.0, c.last.ensures.from)

pub returns-clause-within : goal.returns-clause-within
returns-clause-within c =
    let h = c.self.inside in
    let cells = c.args.self.now.cells in
    let start = h.base + c.last.result in
    let end = start + length (words_from cells start) in
    let i = inside h c.self.invariant c.args.self.now c.self.view_is c.args.at c.requires in
    let P : Space → Type 0 = λ s. AreLaid h.base s.cells in
    let laid = subst P c.self.view_is (laid-used h c.self.invariant) in
    let total = ap (λ (s : Space). total_words s.cells) (sym c.self.view_is) ∙ total-used h c.self.invariant in
    ⊎_elim
    (λ (ok : c.args.at < end). ok)
    (λ (past : end ≤ c.args.at). ⊎_elim
    (λ (next : is_start cells end ≡ true).
    let low : h.base ≤ end = omega arith in
    let high : end < h.base + h.used = omega (arith, i.1, past) in
    let mark : get_or h.starts (end - h.base) false ≡ true = sym (is_start-used h c.self.invariant end low high) ∙ ap (λ (s : Space). is_start s.cells end) c.self.view_is ∙ next in
    let some = (start-fits h.base start cells laid (started c)).1 in
    absurd (false≢true (sym (c.last.ensures.between (end - h.base) (omega (arith, some)) (omega (arith, past, i.0))) ∙ mark)))
    (λ (last : end ≡ h.base + total_words cells). absurd (omega (arith, last, total, i.1, past)))
    (boundary-laid h.base start cells laid (started c)))
    (cases_lt c.args.at end)
