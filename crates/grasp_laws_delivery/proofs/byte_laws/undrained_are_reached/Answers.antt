use Rattle.grasp_laws_delivery.proofs.Holding.{held_reached}
use Rattle.grasp_laws_delivery.proofs.byte_laws.undrained_are_reached.Goals as goal

pub returns : goal.returns
returns c = held_reached
