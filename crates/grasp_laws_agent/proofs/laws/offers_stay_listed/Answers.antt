use Rattle.grasp_laws_agent.proofs.LawOffers.{offers_stay, doubts_stay}
use Rattle.grasp_laws_agent.proofs.laws.offers_stay_listed.Goals as goal

pub returns-clause-offers : goal.returns-clause-offers
returns-clause-offers c = offers_stay

pub returns-clause-doubts : goal.returns-clause-doubts
returns-clause-doubts c = doubts_stay
