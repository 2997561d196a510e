use Rattle.grasp_recorder.proofs.Steps.{can_happen, event_starved}
use Rattle.grasp_recorder.proofs.recorder.Recorder.step.Goals as goal

pub taken_at-requires-clause-happens : goal.taken_at-requires-clause-happens
taken_at-requires-clause-happens c = can_happen c.args.self.now c.args.world.now c.args.event c.requires.can

pub returns-in-Err : goal.returns-in-Err
returns-in-Err c = event_starved c.args.self.now c.args.self.now c.args.world.now c.args.world.now _
