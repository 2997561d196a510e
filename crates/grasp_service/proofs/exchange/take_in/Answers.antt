use Rattle.grasp_service.proofs.Exchanging.{takes_input}
use Rattle.grasp_service.proofs.exchange.take_in.Goals as goal

pub returns-in-Got : goal.returns-in-Got
returns-in-Got c = takes_input _ _ _ _ _ _ c.in-Got.is c.give_in.ensures
