use Rattle.grasp_laws_prefixes.proofs.Appearing.{nothing_appears}
use Rattle.grasp_laws_prefixes.proofs.address_laws.nothing_appears.Goals as goal

pub returns : goal.returns
returns c = nothing_appears c.grounds_hold.ensures
