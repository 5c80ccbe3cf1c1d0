use Rattle.std.proofs.Common.{sym, subst}
use Rattle.m3_threads.specs.All.{Everyone}
use Rattle.m3_image_decoded.specs.Ready.{image_of}
use Rattle.m3_run_loop.specs.Leading.{KeepsWhole, Stands_in}
use Rattle.m3_run_loop.proofs.strides.stride.Goals as goal

pub returns-clause-keeps : goal.returns-clause-keeps
returns-clause-keeps g c = subst (λ (x : Everyone). KeepsWhole (record c.args.memory.now { threads = x }) c.stride_on.new.memory) c.bring.ensures c.stride_on.ensures.keeps

pub returns-clause-strides : goal.returns-clause-strides
returns-clause-strides g c = λ k st.
    let pace = c.args.pace.now in
    c.stride_on.ensures.strides k
    (subst (λ (x : Everyone). Stands_in (image_of c.args.image.now).program k c.args.stack pace.limit pace.left pace.points c.args.r.now c.args.at.now (record c.args.memory.now { threads = x }))
    (sym c.bring.ensures) st)
