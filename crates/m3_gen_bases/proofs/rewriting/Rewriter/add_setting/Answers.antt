use Rattle.std.proofs.Common.{subst}
use Rattle.m3_gen_bases.specs.Keeping.{OnlyAdds}
use Rattle.m3_gen_bases.proofs.Adding.{pushed, then_adds, adds_then}
use Rattle.m3_gen_bases.proofs.rewriting.Rewriter.add_setting.Goals as goal

pub returns-in_ok-keep_listed-in-Own-clause-adds : goal.returns-in_ok-keep_listed-in-Own-clause-adds
returns-in_ok-keep_listed-in-Own-clause-adds c =
    let p = c.args.self.now.proc.now in
    then_adds p c.args.op c.args.self.now.ops.items c.push.new.self.items c.keep_listed.new.self.ops.items
    (pushed p c.args.op c.args.self.now.ops.items c.push.new.self.items c.in_ok-push-in-Own.ensures.items)
    c.in_ok-keep_listed-in-Own.ensures.adds

pub returns-in_ok-push-in-Terms-clause-adds : goal.returns-in_ok-push-in-Terms-clause-adds
returns-in_ok-push-in-Terms-clause-adds c =
    let p = c.args.self.now.proc.now in
    let listed = c.list_setting.new.self in
    let after = c.keep_listed-in-Terms.new.self.ops.items in
    let kept = subst (λ z. OnlyAdds z.now listed.ops.items after) c.in_ok-list_setting-in-Terms.ensures.proc c.in_ok-keep_listed-in-Terms.ensures.adds in
    let kept' = subst (λ z. OnlyAdds p z.items after) c.in_ok-list_setting-in-Terms.ensures.ops kept in
    adds_then p c.args.op c.args.self.now.ops.items after c.push-in-Terms.new.self.items kept'
    (pushed p c.args.op after c.push-in-Terms.new.self.items c.in_ok-push-in-Terms.ensures.items)

pub returns-in_ok-push-in-Ways-clause-adds : goal.returns-in_ok-push-in-Ways-clause-adds
returns-in_ok-push-in-Ways-clause-adds c =
    let p = c.args.self.now.proc.now in
    let after = c.keep_way.new.self.ops.items in
    adds_then p c.args.op c.args.self.now.ops.items after c.push-in-Ways.new.self.items c.in_ok-keep_way-in-Ways.ensures.adds
    (pushed p c.args.op after c.push-in-Ways.new.self.items c.in_ok-push-in-Ways.ensures.items)

pub returns-in_ok-push-in_default-clause-adds : goal.returns-in_ok-push-in_default-clause-adds
returns-in_ok-push-in_default-clause-adds c =
    pushed c.args.self.now.proc.now c.args.op c.args.self.now.ops.items c.push-in_default.new.self.items c.in_ok-push-in_default.ensures.items
