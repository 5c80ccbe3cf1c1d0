use Rattle.std.proofs.Common.{◌≡◌, [], length, refl, sym, ap, ◌∙◌, subst}
use Rattle.m3_mid_additions.specs.Additions.{none}
use Rattle.m3_mid_additions.proofs.Growing.{nothing_added}
use Rattle.m3_gen_bases.specs.Keeping.{HasAdded}
use Rattle.m3_gen_bases.proofs.Adding.{pushed, carried}
use Rattle.m3_gen_bases.proofs.rewriting.Rewriter.rewrite.Goals as goal
use Rattle.m3_gen_bases.proofs.rewriting.Rewriter.rewrite.Goals.{in-Some+in_ok-add_setting-in-Some, in_default+in_ok-push-in_default}

pub returns-then-is_empty : goal.returns-then-is_empty
returns-then-is_empty c e =
    let p = c.args.self.proc.now in nothing_added (length p.temps.now) p.formals c.args.ops.now

pub loop-op-init : goal.loop-op-init
loop-op-init c = (refl, λ e. subst (λ z. HasAdded c.args.self.proc.now [] z) (sym e) none)

pub loop-op-preserved : goal.loop-op-preserved
loop-op-preserved c =
    elim c.match-get.branch [
      | in-Some+in_ok-add_setting-in-Some w ↦ (
        ap (λ z. z.proc) w.self-is ∙ w.in_ok-add_setting-in-Some.ensures.stays ∙ c.loop-op.invariant.0,
        λ e. carried c.args.self.proc c.loop-op.self.proc c.args.ops.now c.loop-op.op-index _ c.loop-op.self.ops.items w.add_setting.new.self.ops.items c.match-get.self.ops.items (ap (λ z. z.ops.items) w.self-is) c.loop-op.invariant.0 c.loop-op-test.true (c.loop-op.invariant.1 e) w.in_ok-add_setting-in-Some.ensures.adds,
      )
      | in_default+in_ok-push-in_default w ↦ (
        ap (λ z. z.proc) w.self-is ∙ c.loop-op.invariant.0,
        λ e. carried c.args.self.proc c.loop-op.self.proc c.args.ops.now c.loop-op.op-index _ c.loop-op.self.ops.items w.push.new.self.items c.match-get.self.ops.items (ap (λ z. z.ops.items) w.self-is) c.loop-op.invariant.0 c.loop-op-test.true (c.loop-op.invariant.1 e) (pushed c.loop-op.self.proc.now _ c.loop-op.self.ops.items w.push.new.self.items w.in_ok-push-in_default.ensures.items),
      )
    ]
