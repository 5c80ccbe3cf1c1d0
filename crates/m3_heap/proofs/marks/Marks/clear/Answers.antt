use Rattle.std.proofs.Common.{◌≡◌, ℕ, ◌/◌, ◌<◌, ◌≤◌, length, get_or, ap, sym, ◌∙◌, arith, ⊎_elim, false}
use Rattle.std.proofs.lemmas.Bool.{cases_lt}
use Rattle.m3_heap.specs.CollectorMarks.{marks_in}
use Rattle.m3_heap.proofs.MarksLemmas.{length-marks_in, unmarked-zero, marked-same}
use Rattle.m3_heap.proofs.marks.Marks.clear.Goals as goal

pub index_mut-requires : goal.index_mut-requires
index_mut-requires c =
    let count = ap length c.self.view_is in
    omega (arith, length-marks_in c.self.inside.bits.items c.self.inside.count, count, c.self.invariant, c.requires.end, c.loop-place.invariant.same_length, c.div_ceil-place-end.ensures, c.self.inside.bits.ok.0, c.loop-place.self-inside.bits.ok.0)

pub invariant_of-self : goal.invariant_of-self
invariant_of-self c = omega (arith, c.loop-place.invariant.same_length, c.loop-place.invariant.same_count, c.self.invariant)

pub returns-clause-length : goal.returns-clause-length
returns-clause-length c = length-marks_in c.loop-place.self-inside.bits.items c.loop-place.self-inside.count ∙ c.loop-place.invariant.same_count ∙ sym (length-marks_in c.self.inside.bits.items c.self.inside.count) ∙ ap length c.self.view_is

cleared : (c : goal.After-loop-place) → (k : ℕ) → get_or (marks_in c.loop-place.self-inside.bits.items c.self.inside.count) k false ≡ false
cleared c k =
    let now = c.loop-place.self-inside.bits.items in
    let was = c.self.inside.bits.items in
    let count = c.self.inside.count in
    ⊎_elim
    (λ (low : k / 64 < c.loop-place.place). unmarked-zero now count k (λ _. c.loop-place.invariant.clear (k / 64) low))
    (λ (high : c.loop-place.place ≤ k / 64).
    marked-same now was count k (c.loop-place.invariant.kept (k / 64) high)
    ∙ ap (λ m. get_or m k false) c.self.view_is ∙ c.requires.rest k (omega (arith, c.div_ceil-place-end.ensures)))
    (cases_lt (k / 64) c.loop-place.place)

pub returns-clause-clear : goal.returns-clause-clear
returns-clause-clear c = λ k.
    ap (λ n. get_or (marks_in c.loop-place.self-inside.bits.items n) k false) c.loop-place.invariant.same_count ∙ cleared c k
