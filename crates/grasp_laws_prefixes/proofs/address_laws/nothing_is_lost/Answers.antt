use Rattle.grasp_laws_prefixes.proofs.Losing.{nothing_is_lost}
use Rattle.grasp_laws_prefixes.proofs.address_laws.nothing_is_lost.Goals as goal

pub returns : goal.returns
returns c = nothing_is_lost c.grounds_hold.ensures
