use Rattle.std.proofs.Common.{◌≡◌, ◌<◌, ◌^◌, length, refl, sym, ◌∙◌, ap, subst, arith}
use Rattle.m3_types_subtype.specs.Classes.{parent_of, SameClass}
use Rattle.m3_types.specs.Definitions.{parts_at}
use Rattle.m3_types_subtype.specs.Sameness.{Matched, Same}
use Rattle.m3_types_subtype.specs.Assumptions.{Agrees}
use Rattle.m3_types_subtype.proofs.Agreement.{same_agrees, pairwise_length, pairwise_weaker, classes_same}
use Rattle.m3_types_subtype.proofs.Comparing.{at_place, step_done, shrinks, whole}
use Rattle.m3_types_subtype.proofs.sameness.same_lists.Goals as goal

pub returns-then-not-heads_match_at : goal.returns-then-not-heads_match_at
returns-then-not-heads_match_at c =
    let nodes = c.args.nodes.now in
    let p = c.index.result.now in
    (λ h. absurd (let z : ⊥ = cc in z), λ s. c.if-not-heads_match_at.ensures.1 (same_agrees nodes p.0 p.1 (at_place (λ q. Same nodes q.0 q.1) c.loop-next.assumed.pairs.items c.loop-next.next p (c.loop-next.invariant.forced s) (omega arith) c.index.ensures)).0)

pub returns-then-len : goal.returns-then-len
returns-then-len c =
    let nodes = c.args.nodes.now in
    let p = c.index.result.now in (
      λ h. absurd (let z : ⊥ = cc in z),
      λ s.
          let same : Same nodes p.0 p.1 = at_place (λ q. Same nodes q.0 q.1) c.loop-next.assumed.pairs.items c.loop-next.next p (c.loop-next.invariant.forced s) (omega arith) c.index.ensures in
          let alike : length (parts_at nodes p.0) ≡ length (parts_at nodes p.1) = pairwise_length (Same nodes) (parts_at nodes p.0) (parts_at nodes p.1) (same_agrees nodes p.0 p.1 same).1 in
          let lx : length c.in_ok-parts.parts.items ≡ length (parts_at nodes p.0) = ap length c.in_ok-parts.ensures in
          let ly : length c.in_ok-others.others.items ≡ length (parts_at nodes p.1) = ap length c.in_ok-others.ensures in
          absurd (omega (arith, c.in_ok-parts.parts.ok.0, c.in_ok-others.others.ok.0)),
    )

pub loop-next-smaller : goal.loop-next-smaller
loop-next-smaller c =
    let few = c.loop-next.invariant.kept.count (2 ^ 64) (omega arith) in
    shrinks (2 ^ 64) c.loop-next.next (length c.loop-next.assumed.pairs.items) (omega arith) (omega arith)

pub loop-next-preserved : goal.loop-next-preserved
loop-next-preserved c =
    let nodes = c.args.nodes.now in
    let p = c.index.result.now in
    let e = c.in_ok-assume_all-2.ensures in
    let f = parent_of c.loop-next.assumed.classes.parents in
    let g = parent_of c.assume_all-in-loop-next.new.self.classes.parents in
    let old = c.loop-next.assumed.pairs.items in
    let new = c.assume_all-in-loop-next.new.self.pairs.items in
    let was = c.loop-next.invariant in
    let next = c.loop-next.next in
    let l : next < length old = omega arith in
    let xs : c.deref.result.now ≡ parts_at nodes p.0 = c.deref.ensures.value ∙ c.in_ok-parts.ensures in
    let ys : c.deref-in-loop-next.result.now ≡ parts_at nodes p.1 = c.deref-in-loop-next.ensures.value ∙ c.in_ok-others.ensures in
    let R = SameClass g in
    let parts : Matched R (parts_at nodes p.0) (parts_at nodes p.1) = subst (λ a. Matched R a (parts_at nodes p.1)) xs (subst (λ b. Matched R c.deref.result.now b) ys e.joined) in
    let heads = c.if-not-heads_match_at.ensures.0 refl in
    record {
      kept = e.kept;
      first = pairwise_weaker (SameClass f) (SameClass g) e.keeps c.args.xs.now c.args.ys.now was.first;
      place = omega (arith, e.adds.longer);
      done = step_done nodes f g old new next p e.keeps l e.adds.front c.index.ensures was.done (heads, parts);
      forced = λ s.
          let same : Same nodes p.0 p.1 = at_place (λ q. Same nodes q.0 q.1) old next p (was.forced s) l c.index.ensures in
          let a = (same_agrees nodes p.0 p.1 same).1 in
          let b : Matched (Same nodes) c.deref.result.now c.deref-in-loop-next.result.now = subst (λ a. Matched (Same nodes) a c.deref-in-loop-next.result.now) (sym xs) (subst (λ b. Matched (Same nodes) (parts_at nodes p.0) b) (sym ys) a) in
          e.adds.forced nodes b (was.forced s);
    }

pub returns : goal.returns
returns c =
    let nodes = c.args.nodes.now in
    let f = parent_of c.loop-next.assumed.classes.parents in
    let pairs = c.loop-next.assumed.pairs.items in
    (λ h. pairwise_weaker (SameClass f) (Same nodes) (classes_same nodes f pairs c.loop-next.invariant.kept.sound (whole (λ p. Agrees nodes (SameClass f) p.0 p.1) pairs c.loop-next.next (omega arith) c.loop-next.invariant.done)) c.args.xs.now c.args.ys.now c.loop-next.invariant.first, λ s. refl)

pub returns-then-xs-ys : goal.returns-then-xs-ys
returns-then-xs-ys c = (λ h. absurd (let z : ⊥ = cc in z), λ p. let e : length c.args.xs.now ≡ length c.args.ys.now = pairwise_length (Same c.args.nodes.now) c.args.xs.now c.args.ys.now p in absurd (omega arith))
