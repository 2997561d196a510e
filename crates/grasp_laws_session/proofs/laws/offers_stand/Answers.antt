use Rattle.grasp_laws_session.proofs.Ends.{offers}
use Rattle.grasp_laws_session.proofs.laws.offers_stand.Goals as goal

pub returns : goal.returns
returns c = offers
