use Rattle.grasp_script_draws.specs.Generator.{agent_line}
use Rattle.grasp_script_draws.proofs.LinesWritten.{none_pushed, same_pushed}
use Rattle.grasp_script_draws.proofs.rounds.push_agents.Goals as goal

pub loop-time-init : goal.loop-time-init
loop-time-init c = none_pushed _

pub loop-time-preserved : goal.loop-time-preserved
loop-time-preserved c = same_pushed c.loop-time._time _ _ _ (agent_line c.args.node) c.loop-time.invariant c.in_ok-push_line.ensures
