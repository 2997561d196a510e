use Rattle.grasp_laws_prefixes.proofs.Safe.{stay_apart}
use Rattle.grasp_laws_prefixes.proofs.prefix_laws.prefixes_stay_apart.Goals as goal

pub returns : goal.returns
returns c = stay_apart c.grounds_hold.ensures
