use Rattle.grasp_own_agents.proofs.Exchanged.{takes_input}
use Rattle.grasp_own_agents.proofs.exchange.take_in.Goals as goal

pub returns-in-Got : goal.returns-in-Got
returns-in-Got c = takes_input _ _ _ _ _ _ c.in-Got.is c.give_in.ensures
