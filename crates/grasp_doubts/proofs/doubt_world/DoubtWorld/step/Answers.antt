use Rattle.std.proofs.Common.{◌∙◌, refl, Some}
use Rattle.grasp_doubts.proofs.Steps.{answers, can_run, halts, stays_stopped}
use Rattle.grasp_doubts.proofs.doubt_world.DoubtWorld.step.Goals as goal

-- the network was stopped before
pub returns-in-Some : goal.returns-in-Some
returns-in-Some c = stays_stopped c.args.self.now c.args.event c.in-Some.stop c.in-Some.is

pub run-requires : goal.run-requires
run-requires c = can_run c.args.self.now c.args.event c.in_default.is c.requires

pub returns-in-Ok : goal.returns-in-Ok
returns-in-Ok c = answers c.args.self.now c.args.event c.in_default.is c.run.new.self c.in-Ok.report c.in-Ok.ensures.runs (c.run.ensures.same_stop ∙ c.in_default.is)

pub returns-in-Err : goal.returns-in-Err
returns-in-Err c = halts c.args.self.now c.args.event c.in_default.is c.run.new.self (record c.run.new.self { stopped = Some c.in-Err.stop }) c.in-Err.stop c.in-Err.ensures.runs refl
