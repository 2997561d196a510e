use Rattle.std.proofs.Common.{refl, ◌∙◌, ◌+◌, Some}
use Rattle.grasp_kept.proofs.Steps.{answers, can_run, halts, stays_stopped}
use Rattle.grasp_kept.proofs.kept_world.KeptWorld.step.Goals as goal

-- the network was stopped before
pub returns-in-Some-clause-stepped : goal.returns-in-Some-clause-stepped
returns-in-Some-clause-stepped c =
    let self = c.args.self.now in
    stays_stopped self c.args.event (record self { steps = self.steps + 1 }) c.in-Some.stop c.in-Some.is c.in-Some.is

pub run-requires : goal.run-requires
run-requires c = can_run c.args.self.now c.args.event c.in_default.is c.requires.few c.requires.asked

pub returns-in-Ok-clause-stepped : goal.returns-in-Ok-clause-stepped
returns-in-Ok-clause-stepped c =
    answers c.args.self.now c.args.event c.in_default.is c.requires.few c.run.new.self c.in-Ok.report c.in-Ok.ensures.runs c.run.ensures.same_steps (c.run.ensures.same_stop ∙ c.in_default.is)

pub returns-in-Err-clause-stepped : goal.returns-in-Err-clause-stepped
returns-in-Err-clause-stepped c =
    halts c.args.self.now c.args.event c.in_default.is c.requires.few c.run.new.self (record c.run.new.self { stopped = Some c.in-Err.stop }) c.in-Err.stop c.in-Err.ensures.runs refl
