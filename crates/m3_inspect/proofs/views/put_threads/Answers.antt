use Rattle.std.proofs.Common.{rules, ◌≡◌, ◌++◌, List, [], ◌∷◌, map, sym, ap, subst, arith}
use Rattle.m3_image_decoded.specs.Ready.{image_of}
use Rattle.m3_roots.proofs.CollectedLemmas.{thread_at}
use Rattle.m3_inspect.specs.Shown.{ShownThread, shown_thread, ShowThreads, no_thread}
use Rattle.m3_inspect.proofs.ThreadLemmas.{none_at, matched, missed, all_shown, one_more, is_unframed, within}
use Rattle.m3_inspect.proofs.views.put_threads.Goals as goal

pub loop-place-init : goal.loop-place-init
loop-place-init c =
    let none : map shown_thread c.args.views.now.items ≡ [] = ap (map shown_thread) c.requires in
    record {
      shown = subst (λ (s : List ShownThread). ShowThreads (image_of c.args.image.now) c.args.threads.now c.args.cells.now.keys 0 s c.args.cells.now.keys) (sym none) no_thread;
      few = omega arith;
      last = λ lt. omega (arith, lt);
    }

pub returns-in_default : goal.returns-in_default
returns-in_default c =
    let inv = c.loop-place.invariant in
    all_shown (image_of c.args.image.now) c.args.threads.now c.args.cells.now.keys c.loop-place.place (map shown_thread c.loop-place.views.items) c.loop-place.cells.keys inv.few (none_at c.args.threads.now.threads c.loop-place.place c.in_default.ensures.number) inv.shown

pub returns-in_default-2 : goal.returns-in_default-2
returns-in_default-2 c =
    let all = c.args.threads.now in
    let n = c.loop-place.place in
    let th = thread_at all n c.in-Some.thread c.in-Some.ensures.sound c.in-Some.ensures.number in
    let none = missed _ _ c.in_ok-view.field-0 c.in_default-2.is (c.in_ok-view.ensures th.t th.named th.number) in
    is_unframed (image_of c.args.image.now) all c.args.cells.now.keys n c.in-Some.thread (map shown_thread c.loop-place.views.items) c.loop-place.cells.keys th.t c.loop-place.invariant.shown th.at th.number none

pub loop-place-preserved : goal.loop-place-preserved
loop-place-preserved c =
    let all = c.args.threads.now in
    let n = c.loop-place.place in
    let sound = c.in-Some.ensures.sound in
    let th = thread_at all n c.in-Some.thread sound c.in-Some.ensures.number in
    let shows = matched _ _ c.in_ok-view.field-0 c.in-Some-2.view c.in-Some-2.is (c.in_ok-view.ensures th.t th.named th.number) in
    let pushed : c.push.new.self.items ≡ c.loop-place.views.items ++ c.in-Some-2.view ∷ [] = search rules in
    let room = sound.room in
    let few = sound.few in
    record {
      shown = one_more (image_of c.args.image.now) all c.args.cells.now.keys n c.loop-place.views.items c.push.new.self.items c.in-Some-2.view c.loop-place.cells.keys c.thread_view.new.cells.keys th.t c.loop-place.invariant.shown th.at shows pushed;
      few = let lt = within all.threads n th.t th.at in omega (arith, lt);
      last = λ lt. omega (arith, room, few);
    }

pub returns : goal.returns
returns c =
    let inv = c.loop-place.invariant in
    let past = c.loop-place-test.false in
    let last = inv.last (omega (arith, past)) in
    all_shown (image_of c.args.image.now) c.args.threads.now c.args.cells.now.keys c.loop-place.place (map shown_thread c.loop-place.views.items) c.loop-place.cells.keys inv.few (omega (arith, past, last)) inv.shown
