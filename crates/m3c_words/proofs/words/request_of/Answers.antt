use Rattle.std.proofs.Common.{refl}
use Rattle.m3c_words.proofs.Readings.{order_of_build, order_of_run, order_of_exec, order_of_dump, order_of_bench, order_of_inspect, order_of_none}
use Rattle.m3c_words.proofs.words.request_of.Goals as goal

pub returns-in-build : goal.returns-in-build
returns-in-build c = rw (c.in-build.is, order_of_build) c.build_request.ensures

pub returns-in-run : goal.returns-in-run
returns-in-run c = rw (c.in-run.is, order_of_run) c.run_request.ensures

pub returns-in-exec : goal.returns-in-exec
returns-in-exec c = rw (c.in-exec.is, order_of_exec) c.exec_request.ensures

pub returns-in-dump : goal.returns-in-dump
returns-in-dump c = rw (c.in-dump.is, order_of_dump) c.dump_request.ensures

pub returns-in-bench : goal.returns-in-bench
returns-in-bench c = rw (c.in-bench.is, order_of_bench) c.bench_request.ensures

pub returns-in-inspect : goal.returns-in-inspect
returns-in-inspect c = rw (c.in-inspect.is, order_of_inspect) c.inspect_request.ensures

pub returns-in_default : goal.returns-in_default
returns-in_default c = rw (order_of_none _ _ c.in_default.not-build c.in_default.not-run c.in_default.not-exec c.in_default.not-dump c.in_default.not-bench c.in_default.not-inspect) refl
