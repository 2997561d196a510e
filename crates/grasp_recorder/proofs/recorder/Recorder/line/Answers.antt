use Rattle.grasp_recorder.proofs.Acts.{act_look}
use Rattle.grasp_recorder.proofs.recorder.Recorder.line.Goals as goal

pub returns-in-State : goal.returns-in-State
returns-in-State c = act_look c.args.self.now c.args.world.now c.args.line.now.act c.in-State.node _ c.in-State.is c.new.ensures
