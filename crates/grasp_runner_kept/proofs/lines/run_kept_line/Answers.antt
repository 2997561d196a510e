use Rattle.std.proofs.Common.{sym, subst}
use Rattle.grasp_script_kept.specs.declared.line.KeptLine.{KeptLine}
use Rattle.grasp_runner_kept.specs.Lines.{CanRunKept, RunsKeptLine}
use Rattle.grasp_runner_kept.proofs.Telling.{crash_halts, crash_tells}
use Rattle.grasp_runner_kept.proofs.lines.run_kept_line.Goals as goal

pub run_plain-requires-clause-run : goal.run_plain-requires-clause-run
run_plain-requires-clause-run c = subst (λ (x : KeptLine). CanRunKept c.args.world.now x) c.in-Plain.is c.requires.run

pub returns-in-Plain-clause-runs : goal.returns-in-Plain-clause-runs
returns-in-Plain-clause-runs c = subst (λ (x : KeptLine). RunsKeptLine c.args.world.now c.run_plain.new.world x c.run_plain.result) (sym c.in-Plain.is) c.run_plain.ensures.runs

pub run_crash-requires-clause-run : goal.run_crash-requires-clause-run
run_crash-requires-clause-run c = subst (λ (x : KeptLine). CanRunKept c.args.world.now x) c.in-Crash.is c.requires.run

pub returns-in-Ok-clause-runs : goal.returns-in-Ok-clause-runs
returns-in-Ok-clause-runs c =
    crash_tells c.args.world.now c.run_crash.new.world c.in-Crash.text c.in-Crash.node c.in-Crash.calls c.in-Crash.left c.args.line.now c.in-Crash.is c.in-Ok.image c.crash_told.result
    c.in-Ok.ensures.runs c.crash_told.ensures

pub returns-in-Err-clause-runs : goal.returns-in-Err-clause-runs
returns-in-Err-clause-runs c =
    crash_halts c.args.world.now c.run_crash.new.world c.in-Crash.text c.in-Crash.node c.in-Crash.calls c.in-Crash.left c.args.line.now c.in-Crash.is c.in-Err.stop c.in-Err.ensures.runs
