use Rattle.grasp_kept.proofs.Steps.{crash_can, crash_halts, crash_runs, plain_can, plain_halts, plain_runs}
use Rattle.grasp_kept.proofs.kept_world.KeptWorld.run.Goals as goal

pub happen-requires : goal.happen-requires
happen-requires c = plain_can c.args.self.now c.in-Plain.event c.args.event c.in-Plain.is c.requires

pub crash-requires : goal.crash-requires
crash-requires c = crash_can c.args.self.now c.in-Crash.node c.in-Crash.calls c.in-Crash.left c.args.event c.in-Crash.is c.requires

pub returns-in-Ok-clause-runs : goal.returns-in-Ok-clause-runs
returns-in-Ok-clause-runs c = plain_runs c.args.self.now c.happen.new.self c.in-Plain.event c.args.event c.in-Plain.is c.in-Ok.report c.in-Ok.ensures.happens

pub returns-in-Err-clause-runs : goal.returns-in-Err-clause-runs
returns-in-Err-clause-runs c = plain_halts c.args.self.now c.happen.new.self c.in-Plain.event c.args.event c.in-Plain.is c.in-Err.stop c.in-Err.ensures.happens

pub returns-in-Ok-crash-clause-runs : goal.returns-in-Ok-crash-clause-runs
returns-in-Ok-crash-clause-runs c =
    crash_runs c.args.self.now c.crash.new.self c.in-Crash.node c.in-Crash.calls c.in-Crash.left c.args.event c.in-Crash.is c.in-Ok-crash.image c.in-Ok-crash.ensures.crashes

pub returns-in-Err-crash-clause-runs : goal.returns-in-Err-crash-clause-runs
returns-in-Err-crash-clause-runs c =
    crash_halts c.args.self.now c.crash.new.self c.in-Crash.node c.in-Crash.calls c.in-Crash.left c.args.event c.in-Crash.is c.in-Err-crash.stop c.in-Err-crash.ensures.crashes
