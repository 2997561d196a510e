use Rattle.grasp_pool.proofs.Meeting.{false_misses}
use Rattle.grasp_replay_main.proofs.Counting.{few_kept_lines}
use Rattle.grasp_replay_main.proofs.keep.read_script.Goals as goal

pub returns-in-Ok-clause-short : goal.returns-in-Ok-clause-short
returns-in-Ok-clause-short c =
    few_kept_lines c.args.input.now c.in-Ok.script.plan c.in-Ok.script.lines c.in-Ok.ensures.found
    (λ many. false_misses c.has_too_many_lines.result c.if-has_too_many_lines.false (c.has_too_many_lines.ensures.1 many))
