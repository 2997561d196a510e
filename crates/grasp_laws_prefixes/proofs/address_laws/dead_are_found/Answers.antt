use Rattle.grasp_laws_prefixes.proofs.DeadFound.{dead_are_found}
use Rattle.grasp_laws_prefixes.proofs.address_laws.dead_are_found.Goals as goal

pub returns : goal.returns
returns c = dead_are_found c.grounds_hold.ensures
