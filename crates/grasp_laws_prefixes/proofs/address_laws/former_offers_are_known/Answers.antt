use Rattle.grasp_laws_prefixes.proofs.FormerOffers.{former_offers_are_known}
use Rattle.grasp_laws_prefixes.proofs.address_laws.former_offers_are_known.Goals as goal

pub returns : goal.returns
returns c = former_offers_are_known c.grounds_hold.ensures
