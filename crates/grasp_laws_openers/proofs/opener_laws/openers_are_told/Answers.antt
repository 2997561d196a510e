use Rattle.grasp_laws_openers.proofs.Networks as lemmas
use Rattle.grasp_laws_openers.proofs.opener_laws.openers_are_told.Goals as goal

pub returns : goal.returns
returns c = lemmas.openers_are_told c.streams_are_ready.ensures
