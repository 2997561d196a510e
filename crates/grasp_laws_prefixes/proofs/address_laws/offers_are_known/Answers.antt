use Rattle.grasp_laws_prefixes.proofs.Listings.{offers_are_known}
use Rattle.grasp_laws_prefixes.proofs.address_laws.offers_are_known.Goals as goal

pub returns : goal.returns
returns c = offers_are_known c.grounds_hold.ensures
