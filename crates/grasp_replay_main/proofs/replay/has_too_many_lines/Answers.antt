use Rattle.grasp_replay_main.proofs.Counting.{more_lines}
use Rattle.grasp_replay_main.proofs.replay.has_too_many_lines.Goals as goal

pub returns : goal.returns
returns c = more_lines 200000 c.count_lines.result c.args.input.now c.count_lines.ensures
