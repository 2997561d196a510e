use Rattle.grasp_laws_listed.proofs.OneEach as lemmas
use Rattle.grasp_laws_listed.proofs.listed_laws.one_offer_a_stream.Goals as goal

pub returns : goal.returns
returns c = lemmas.one_offer_a_stream c.grounds_hold.ensures
