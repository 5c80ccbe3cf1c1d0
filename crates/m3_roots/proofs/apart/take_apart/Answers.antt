use Rattle.std.proofs.Common.{get_or, ◌≡◌, ◌+◌, ◌∷◌, ◌++◌, drop, sym, ◌∙◌, arith}
use Rattle.std.proofs.lemmas.List.{drop_more}
use Rattle.m3_image_decoded.specs.Ready.{image_of}
use Rattle.m3_roots.proofs.StepLemmas.{no_frame, IsRowOf, apart_more, apart_stop}
use Rattle.m3_roots.proofs.StepCounts.{listed_frame}
use Rattle.m3_roots.proofs.apart.take_apart.Goals as goal

pub returns-then-not-take_row_apart-clause-leaves : goal.returns-then-not-take_row_apart-clause-leaves
returns-then-not-take_row_apart-clause-leaves g c = λ rows.
    (let p = (image_of c.args.image.now).program in
    let frames = c.args.frames.now in
    let f = get_or frames c.loop-frame.frame-index no_frame in
    let rest = drop (c.loop-frame.frame-index + 1) frames in
    let e : drop c.loop-frame.frame-index frames ≡ f ∷ rest = drop_more frames c.loop-frame.frame-index no_frame c.loop-frame-test.true in
    let so_far = rw e at (c.loop-frame.invariant.0 rows) in
    let is : IsRowOf p f c.in-Some.row = record { section = c.in-Some.ensures.some.0; number = c.in-Some.ensures.some.1 } in
    sym so_far ∙ apart_stop p f rest c.in-Some.row (c.loop-frame.r ++ c.loop-frame.stack) is c.if-not-take_row_apart.ensures.leaves)

pub loop-frame-preserved : goal.loop-frame-preserved
loop-frame-preserved g c = (
  λ rows.
      (let p = (image_of c.args.image.now).program in
      let frames = c.args.frames.now in
      let f = get_or frames c.loop-frame.frame-index no_frame in
      let rest = drop (c.loop-frame.frame-index + 1) frames in
      let e : drop c.loop-frame.frame-index frames ≡ f ∷ rest = drop_more frames c.loop-frame.frame-index no_frame c.loop-frame-test.true in
      let so_far = rw e at (c.loop-frame.invariant.0 rows) in
      let is : IsRowOf p f c.in-Some.row = record { section = c.in-Some.ensures.some.0; number = c.in-Some.ensures.some.1 } in
      apart_more p f rest c.in-Some.row (c.loop-frame.r ++ c.loop-frame.stack) (c.take_row_apart.new.r ++ c.take_row_apart.new.stack) is c.if-not-take_row_apart.ensures.leaves ∙ so_far),
  λ rows.
      (let p = (image_of c.args.image.now).program in
      let frames = c.args.frames.now in
      let f = get_or frames c.loop-frame.frame-index no_frame in
      let rest = drop (c.loop-frame.frame-index + 1) frames in
      let e : drop c.loop-frame.frame-index frames ≡ f ∷ rest = drop_more frames c.loop-frame.frame-index no_frame c.loop-frame-test.true in
      let so_far = rw e at (c.loop-frame.invariant.1 rows) in
      let is : IsRowOf p f c.in-Some.row = record { section = c.in-Some.ensures.some.0; number = c.in-Some.ensures.some.1 } in
      let parts = listed_frame p f rest c.in-Some.row is in
      omega (arith, so_far, parts, c.if-not-take_row_apart.ensures.cost)),
)

pub returns-then-not-take_row_apart-clause-cost : goal.returns-then-not-take_row_apart-clause-cost
returns-then-not-take_row_apart-clause-cost g c = λ rows.
    (let p = (image_of c.args.image.now).program in
    let frames = c.args.frames.now in
    let f = get_or frames c.loop-frame.frame-index no_frame in
    let rest = drop (c.loop-frame.frame-index + 1) frames in
    let e : drop c.loop-frame.frame-index frames ≡ f ∷ rest = drop_more frames c.loop-frame.frame-index no_frame c.loop-frame-test.true in
    let so_far = rw e at (c.loop-frame.invariant.1 rows) in
    let is : IsRowOf p f c.in-Some.row = record { section = c.in-Some.ensures.some.0; number = c.in-Some.ensures.some.1 } in
    let parts = listed_frame p f rest c.in-Some.row is in
    omega (arith, so_far, parts, c.if-not-take_row_apart.ensures.cost))
