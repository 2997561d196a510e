use Rattle.grasp_recorder.specs.Taking.{drained_line}
use Rattle.grasp_recorder.proofs.SameTexts.{same_behind}
use Rattle.grasp_recorder.proofs.texts.step_and_drain_told.Goals as goal

pub returns : goal.returns
returns c =
    same_behind c.args.step.now c.drained_line-drain.result (drained_line c.args.step.now.node c.args.step.now.now c.args.max c.args.outputs) c.two_lines.result
    c.drained_line-drain.ensures c.two_lines.ensures
