use Rattle.grasp_laws_listed.proofs.Reserved as lemmas
use Rattle.grasp_laws_listed.proofs.listed_laws.reserved_are_offered.Goals as goal

pub returns : goal.returns
returns c = lemmas.reserved_are_offered c.agents_are_kept.ensures c.agents_give.ensures c.nodes_are_sound.ensures.sound c.offers_are_known.ensures
