use Rattle.std.proofs.Common.{refl, ap, ◌∙◌, false, [], inr}
use Rattle.m3c_image_commands.specs.Reports.{Setting}
use Rattle.m3c_image_commands.specs.ImageCommands.{by_schedule}
use Rattle.m3c_source_commands.specs.Judging.{OfSome, names_in, texts_in}
use Rattle.m3c_source_commands.specs.SourceCommands.{IsOfNumber}
use Rattle.m3c_source_commands.specs.Orders.{bench_setting}
use Rattle.m3c_source_commands.proofs.OrderLemmas.{bench_limits, execs_ran, execs_refused, files_refused, refused_too}
use Rattle.m3c_source_commands.proofs.commands.bench.Goals as goal

pub returns-in-Ok-compile_into : goal.returns-in-Ok-compile_into
returns-in-Ok-compile_into g c =
    execs_ran (OfSome g.C.Checks.judges) [] [] c.compile_into.new.image.items [] (IsOfNumber c.args.number) bench_setting false _ c.deref-in-Ok-compile_into.result.now (c.deref-in-Ok-compile_into.ensures.value ∙ c.in-Ok.ensures.schedule)
    c.deref-in-Ok-compile_into-2.result.now false _ c.run_bytes.result c.deref-in-Ok-compile_into-2.ensures.value refl
    (ap (λ (s : Setting). by_schedule s c.deref-in-Ok-compile_into.result.now) (bench_limits c.of_bench.result c.of_bench.ensures)) (inr ((λ name text puts f t p. cc), (_, _, c.in-Ok-compile_into.ensures.accepted), c.in-Ok-compile_into.ensures.ok)) c.run_bytes.ensures

pub returns : goal.returns
returns g c =
    let own = names_in c.deref-3.result.now in
    let written = texts_in c.deref-3.result.now in
    execs_refused (OfSome g.C.Checks.judges) [] [] _ [] (IsOfNumber c.args.number) bench_setting false _ c.in-Err.answer
    (files_refused (OfSome g.C.Checks.judges) [] [] [] c.in-Err.answer (λ name text puts f t p. cc)
    (refused_too (g.C.Checks.judges own written) (OfSome g.C.Checks.judges [] []) [] [] c.in-Err.answer (λ said h. (own, written, h)) c.in-Err.ensures.err)) refl
