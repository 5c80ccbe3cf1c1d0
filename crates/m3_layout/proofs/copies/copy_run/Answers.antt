use Rattle.std.proofs.Common.{◌≡◌, ◌+◌, ◌-◌, ◌++◌, [], sym, ◌∙◌, ap, ◌≤◌, ◌<◌, ◌^◌, arith, map, take, drop}
use Rattle.std.proofs.lemmas.List.{append-nil}
use Rattle.std.proofs.lemmas.List.Elements.{All-same}
use Rattle.m3_layout.specs.Walking.{run_of}
use Rattle.m3_layout.proofs.Walks.{run_stays}
use Rattle.m3_layout.proofs.Copying.{none_copied, fits_each, copied_run}
use Rattle.m3_layout.proofs.copies.copy_run.Goals as goal

pub returns-then-run : goal.returns-then-run
returns-then-run c =
    let init = c.args.offsets.now.items in
    let run = c.args.run in
    let z : run.end - run.start ≡ 0 = omega arith in
    let e : run_of init run ≡ [] = ap (λ n. take n (drop run.start init)) z in
    let n = none_copied c.args.words (λ k. map (λ p. p - run.at + k) (run_of init run)) (λ k. ap (map (λ p. p - run.at + k)) e) c.args.count c.args.at in
    sym (ap (λ xs. init ++ xs) n ∙ append-nil init)

pub copy_once-requires-clause-fits : goal.copy_once-requires-clause-fits
copy_once-requires-clause-fits c =
    let init = c.args.offsets.now.items in
    let run = c.args.run in
    let now = c.loop-copy.offsets.items in
    let e : run_of now run ≡ run_of init run = ap (λ xs. run_of xs run) c.loop-copy.invariant.offsets ∙ run_stays init _ run c.requires.ordered c.requires.within in
    All-same (λ p. (run.at ≤ p) × (p - run.at + c.loop-copy.next < 2 ^ 64)) (run_of now run) (run_of init run) e
    (fits_each run.at c.args.words c.args.count c.loop-copy._copy c.args.at c.loop-copy.next (run_of init run) c.loop-copy-test.true c.requires.fits c.loop-copy.invariant.next c.requires.inside)

pub loop-copy-preserved : goal.loop-copy-preserved
loop-copy-preserved c =
    let init = c.args.offsets.now.items in
    let run = c.args.run in
    let now = c.loop-copy.offsets.items in
    let e : run_of now run ≡ run_of init run = ap (λ xs. run_of xs run) c.loop-copy.invariant.offsets ∙ run_stays init _ run c.requires.ordered c.requires.within in
    record {
      offsets = copied_run init now c.copy_once.new.offsets.items run.at c.args.words c.args.at c.loop-copy._copy c.loop-copy.next (run_of init run) (run_of now run) c.loop-copy.invariant.offsets e c.loop-copy.invariant.next c.in_ok-copy_once.ensures;
      next = omega (arith, c.loop-copy.invariant.next);
    }
