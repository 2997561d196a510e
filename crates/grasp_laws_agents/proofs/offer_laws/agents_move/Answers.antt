use Rattle.grasp_laws_agents.proofs.Agents.{agents_move}
use Rattle.grasp_laws_agents.proofs.offer_laws.agents_move.Goals as goal

pub returns : goal.returns
returns c = agents_move c.ties_are_kept.ensures c.calls_mean.ensures c.own_sessions_go_on.ensures.begins
