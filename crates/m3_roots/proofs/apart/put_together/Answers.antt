use Rattle.std.proofs.Common.{ℕ, get_or, ◌≡◌, ◌+◌, ◌-◌, ◌<◌, ◌∷◌, ◌++◌, None, Some, List, length, drop, ap, ◌∙◌, arith}
use Rattle.std.proofs.lemmas.List.{drop_more}
use Rattle.m3_image_decoded.specs.Ready.{image_of}
use Rattle.m3_roots.proofs.StepLemmas.{no_frame, IsRowOf, together_more, together_stop}
use Rattle.m3_roots.proofs.StepCounts.{listed_frame, listed_from}
use Rattle.m3_roots.specs.RowMeaning.{derived_words}
use Rattle.m3_roots.specs.Steps.{derived_listed}
use Rattle.m3_run_frames.specs.declared.frame.Frame.{Frame}
use Rattle.m3_roots.proofs.apart.put_together.Goals as goal

pub returns-then-not-put_row_together-clause-leaves : goal.returns-then-not-put_row_together-clause-leaves
returns-then-not-put_row_together-clause-leaves g c = λ rows.
    (let p = (image_of c.args.image.now).program in
    let frames = c.args.frames.now in
    let k = c.loop-k.k - 1 in
    let f = get_or frames k no_frame in
    let words = c.args.r.now ++ c.args.stack.now in
    let one : k + 1 ≡ c.loop-k.k = omega arith in
    let lt : k < length frames = omega arith in
    let rest = drop c.loop-k.k frames in
    let e : drop k frames ≡ f ∷ rest = drop_more frames k no_frame lt ∙ ap (λ (n : ℕ). f ∷ drop n frames) one in
    let is : IsRowOf p f c.in-Some.row = record { section = c.in-Some.ensures.some.0; number = c.in-Some.ensures.some.1 } in
    together_stop p frames k words (rw e (together_more p f rest c.in-Some.row words (c.loop-k.r ++ c.loop-k.stack) None is (c.loop-k.invariant.1 rows) c.if-not-put_row_together.ensures.leaves)))

pub loop-k-preserved : goal.loop-k-preserved
loop-k-preserved g c = (
  omega arith,
  λ rows.
      (let p = (image_of c.args.image.now).program in
      let frames = c.args.frames.now in
      let k = c.loop-k.k - 1 in
      let f = get_or frames k no_frame in
      let words = c.args.r.now ++ c.args.stack.now in
      let one : k + 1 ≡ c.loop-k.k = omega arith in
      let lt : k < length frames = omega arith in
      let rest = drop c.loop-k.k frames in
      let e : drop k frames ≡ f ∷ rest = drop_more frames k no_frame lt ∙ ap (λ (n : ℕ). f ∷ drop n frames) one in
      let is : IsRowOf p f c.in-Some.row = record { section = c.in-Some.ensures.some.0; number = c.in-Some.ensures.some.1 } in
      rw e (together_more p f rest c.in-Some.row words (c.loop-k.r ++ c.loop-k.stack) (Some (c.put_row_together.new.r ++ c.put_row_together.new.stack)) is (c.loop-k.invariant.1 rows) c.if-not-put_row_together.ensures.leaves)),
  λ rows.
      (let p = (image_of c.args.image.now).program in
      let frames = c.args.frames.now in
      let k = c.loop-k.k - 1 in
      let f = get_or frames k no_frame in
      let one : k + 1 ≡ c.loop-k.k = omega arith in
      let lt : k < length frames = omega arith in
      let rest = drop c.loop-k.k frames in
      let e : drop k frames ≡ f ∷ rest = drop_more frames k no_frame lt ∙ ap (λ (n : ℕ). f ∷ drop n frames) one in
      let is : IsRowOf p f c.in-Some.row = record { section = c.in-Some.ensures.some.0; number = c.in-Some.ensures.some.1 } in
      let parts = listed_frame p f rest c.in-Some.row is in
      let so_far = c.loop-k.invariant.2 rows in
      rw e (omega (arith, so_far, parts, c.if-not-put_row_together.ensures.cost))),
)

pub returns-then-not-put_row_together-clause-cost : goal.returns-then-not-put_row_together-clause-cost
returns-then-not-put_row_together-clause-cost g c = λ rows.
    (let p = (image_of c.args.image.now).program in
    let frames = c.args.frames.now in
    let k = c.loop-k.k - 1 in
    let f = get_or frames k no_frame in
    let one : k + 1 ≡ c.loop-k.k = omega arith in
    let lt : k < length frames = omega arith in
    let rest = drop c.loop-k.k frames in
    let e : drop k frames ≡ f ∷ rest = drop_more frames k no_frame lt ∙ ap (λ (n : ℕ). f ∷ drop n frames) one in
    let is : IsRowOf p f c.in-Some.row = record { section = c.in-Some.ensures.some.0; number = c.in-Some.ensures.some.1 } in
    let parts = listed_frame p f rest c.in-Some.row is in
    let so_far = c.loop-k.invariant.2 rows in
    let all = listed_from p k frames in
    let here = ap (λ (fs : List Frame). derived_listed (derived_words p fs)) e in
    omega (arith, so_far, parts, all, here, c.if-not-put_row_together.ensures.cost))

pub returns-in_default-clause-cost : goal.returns-in_default-clause-cost
returns-in_default-clause-cost g c = λ rows.
    (let p = (image_of c.args.image.now).program in
    let all = listed_from p c.loop-k.k c.args.frames.now in
    let so_far = c.loop-k.invariant.2 rows in
    omega (arith, so_far, all))
