use Rattle.std.proofs.Common.{◌+◌, take, get_or, IfSome, IfNone, sym, ap, ◌∙◌, subst, arith}
use Rattle.std.proofs.lemmas.Bool.{false≢true}
use Rattle.std.proofs.lemmas.List.{take_all}
use Rattle.m3_types_subtype.specs.Views.{IsOf, NoneApplies, IsLeastOf}
use Rattle.m3_types_subtype.proofs.Seeing.{same_type, least_next, none_still, least_still}
use Rattle.m3_types_subtype.proofs.seen.least_among.Goals as goal
use Rattle.m3_types_subtype.proofs.seen.least_among.Goals.{then-applies+in_ok-lower, else-applies}

pub loop-reveal-init : goal.loop-reveal-init
loop-reveal-init c = record { none = λ r has of. absurd (omega (arith, has.1)); some = tt }

pub loop-reveal-preserved : goal.loop-reveal-preserved
loop-reveal-preserved c =
    let nodes = c.args.graph.now.nodes.items in
    let reveals = c.args.graph.now.reveals.items in
    let found = c.args.found.now in
    let i = c.loop-reveal.reveal-index in
    let l = c.loop-reveal-test.true in
    let was = c.loop-reveal.invariant in
    elim c.if-applies.branch [
      | then-applies+in_ok-lower w ↦
          let yes = c.applies.ensures.yes w.if-applies.true in
          let next = least_next nodes reveals found c.args.view c.args.t.0 i l c.loop-reveal.least w.in_ok-lower.lower was.none was.some (yes.0, ap (λ o. o.0) yes.1) w.in_ok-lower.ensures.only w.in_ok-lower.ensures.lesser in
          record { none = subst (λ o. IfNone o (NoneApplies (take (i + 1) found) c.args.view c.args.t.0)) (sym w.least-is) tt; some = subst (λ o. IfSome o (λ b. IsLeastOf nodes reveals (take (i + 1) found) c.args.view c.args.t.0 b.0)) (sym w.least-is) next }
      | else-applies w ↦
          let no = λ (of : IsOf c.args.view c.args.t.0 (get_or found i _)). false≢true (sym w.if-applies.false ∙ c.applies.ensures.no of.0 (same_type _ c.args.t of.1)) in
          record {
            none = subst (λ o. IfNone o (NoneApplies (take (i + 1) found) c.args.view c.args.t.0)) (sym w.least-is) (none_still nodes reveals found c.args.view c.args.t.0 i l c.loop-reveal.least was.none no);
            some = subst (λ o. IfSome o (λ b. IsLeastOf nodes reveals (take (i + 1) found) c.args.view c.args.t.0 b.0)) (sym w.least-is) (least_still nodes reveals found c.args.view c.args.t.0 i l c.loop-reveal.least was.some no);
          }
    ]

pub returns-clause-some : goal.returns-clause-some
returns-clause-some c =
    let q = take_all c.loop-reveal.reveal-index c.args.found.now c.loop-reveal-test.false in
    subst (λ xs. IfSome c.loop-reveal.least (λ b. IsLeastOf c.args.graph.now.nodes.items c.args.graph.now.reveals.items xs c.args.view c.args.t.0 b.0)) q c.loop-reveal.invariant.some

pub returns-clause-none : goal.returns-clause-none
returns-clause-none c =
    let q = take_all c.loop-reveal.reveal-index c.args.found.now c.loop-reveal-test.false in
    subst (λ xs. IfNone c.loop-reveal.least (NoneApplies xs c.args.view c.args.t.0)) q c.loop-reveal.invariant.none
