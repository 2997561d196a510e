use Rattle.grasp_recorder.specs.Taking.{drained_line}
use Rattle.grasp_recorder.proofs.SameTexts.{same_line}
use Rattle.grasp_recorder.proofs.texts.drain_told.Goals as goal

pub returns : goal.returns
returns c = same_line c.drained_line-line.result (drained_line c.args.node c.args.now c.args.max c.args.outputs) c.one_line.result c.drained_line-line.ensures c.one_line.ensures
