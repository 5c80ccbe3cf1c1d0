use Rattle.std.proofs.Common.{refl, ap, map}
use Rattle.m3c_image_commands.specs.Statuses.{Shelving, shelving}
use Rattle.m3c_source_commands.specs.Orders.{order_of}
use Rattle.m3c_source_commands.proofs.OrderLemmas.{builds_of, execs_of, carried}
use Rattle.m3c_source_commands.proofs.commands.carry_out.Goals as goal

pub returns-in-Build : goal.returns-in-Build
returns-in-Build g c =
    let shelf : Shelving = shelving g.F.Shelf c.args.shelf.now c.build_files.new.shelf in
    carried g.C.Checks.judges _ _ _ _ _ _ (ap order_of c.in-Build.is)
    (builds_of g.C.Checks.judges shelf _ _ _ _ c.build_files.result (ap (λ files. map (λ n. n.now) files) c.deref.ensures.value) c.build_files.ensures, refl)

pub returns-in-Run : goal.returns-in-Run
returns-in-Run g c = carried g.C.Checks.judges _ _ _ _ _ _ (ap order_of c.in-Run.is) c.run_image.ensures

pub returns-in-Exec : goal.returns-in-Exec
returns-in-Exec g c =
    carried g.C.Checks.judges _ _ _ _ _ _ (ap order_of c.in-Exec.is)
    (execs_of g.C.Checks.judges _ _ _ _ _ _ _ _ c.exec_files.result (ap (λ files. map (λ n. n.now) files) c.deref-in-Exec.ensures.value) c.exec_files.ensures)

pub returns-in-Dump : goal.returns-in-Dump
returns-in-Dump g c = carried g.C.Checks.judges _ _ _ _ _ _ (ap order_of c.in-Dump.is) c.dump_image.ensures

pub returns-in-Bench : goal.returns-in-Bench
returns-in-Bench g c = carried g.C.Checks.judges _ _ _ _ _ _ (ap order_of c.in-Bench.is) (c.bench.ensures, refl)

pub returns-in-Inspect : goal.returns-in-Inspect
returns-in-Inspect g c = carried g.C.Checks.judges _ _ _ _ _ _ (ap order_of c.in-Inspect.is) c.inspect_image.ensures
