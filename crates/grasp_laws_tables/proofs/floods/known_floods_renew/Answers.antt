use Rattle.grasp_laws_tables.proofs.FloodLaws.{known_renew}
use Rattle.grasp_laws_tables.proofs.floods.known_floods_renew.Goals as goal

pub returns : goal.returns
returns c = known_renew
