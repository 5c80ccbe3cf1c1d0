use Rattle.std.proofs.Common.{◌≡◌, ◌<◌, ℕ, length, map, sym, subst, arith, eq-eqb, inl, inr}
use Rattle.std.proofs.lemmas.Bool.{cases_lt}
use Rattle.std.proofs.lemmas.Bool.Decides.{nat_tests}
use Rattle.m3_image_decoded.specs.declared.jumps.Jump.{Jump}
use Rattle.m3_image_decoded.specs.Ancestors.{IsSubtype}
use Rattle.m3_image_decoded.specs.ReadyTypes.{ready_type}
use Rattle.m3_image_decoded.proofs.AncestorLemmas.{is_itself, above_only_itself, orphan, through_parent, at_parent, through_jump, at_jump}
use Rattle.m3_image_decoded.proofs.jumps.is_subtype.Goals as goal

pub loop-at-preserved-then-jump-wanted : goal.loop-at-preserved-then-jump-wanted
loop-at-preserved-then-jump-wanted c =
    let types = map ready_type c.args.types.now in
    let nowhere : Jump = record { to = 0; up = 0 } in
    let here : c.loop-at.at < length c.args.jumps.now = omega (arith, c.loop-at.invariant.2, c.requires.all) in
    let fits = c.requires.jumps c.loop-at.at nowhere here in (
      λ found. c.loop-at.invariant.0 (through_jump types c.loop-at.at c.args.u _ fits found),
      λ found. at_jump types c.requires.forest c.loop-at.at c.args.u _ fits c.if-jump-wanted.true (c.loop-at.invariant.1 found),
      omega (arith, fits.lower, c.loop-at.invariant.2),
    )

pub loop-at-smaller : goal.loop-at-smaller
loop-at-smaller c = c.requires.forest c.loop-at.at c.in-Some.parent (sym c.in-Some.ensures)

pub loop-at-preserved : goal.loop-at-preserved
loop-at-preserved c =
    let types = map ready_type c.args.types.now in
    let below = c.requires.forest c.loop-at.at c.in-Some.parent (sym c.in-Some.ensures) in (
      λ found. c.loop-at.invariant.0 (through_parent types c.loop-at.at c.args.u c.in-Some.parent (sym c.in-Some.ensures) found),
      λ found. at_parent types c.loop-at.at c.args.u c.in-Some.parent c.loop-at-test.true (sym c.in-Some.ensures) (c.loop-at.invariant.1 found),
      omega (arith, below, c.loop-at.invariant.2),
    )

pub returns-in-None : goal.returns-in-None
returns-in-None c =
    let types = map ready_type c.args.types.now in
    (λ wrong. absurd cc, λ found. absurd (orphan types c.loop-at.at c.args.u c.loop-at-test.true (sym c.in-None.ensures) (c.loop-at.invariant.1 found)))

pub returns : goal.returns
returns c =
    let types = map ready_type c.args.types.now in (
      λ same. (let there : c.loop-at.at ≡ c.args.u = grind (arith, nat_tests, same) in
          c.loop-at.invariant.0 (subst (λ (t : ℕ). IsSubtype types t c.args.u) (sym there) (is_itself types c.args.u))),
      λ found.
          (elim (cases_lt c.loop-at.at c.args.u) [
            | inl less ↦ absurd (above_only_itself types c.requires.forest c.loop-at.at c.args.u less (c.loop-at.invariant.1 found))
            | inr more ↦ (let same : c.loop-at.at ≡ c.args.u = omega arith in eq-eqb c.loop-at.at c.args.u same)
          ]),
    )
