use Rattle.grasp_laws_prefixes.proofs.SettledHeld.{settled_are_held}
use Rattle.grasp_laws_prefixes.proofs.address_laws.settled_are_held.Goals as goal

pub returns : goal.returns
returns c = settled_are_held c.grounds_hold.ensures
