use Rattle.grasp_laws_listed.proofs.Doubts as lemmas
use Rattle.grasp_laws_listed.proofs.listed_laws.doubted_were_offered.Goals as goal

pub returns : goal.returns
returns c = lemmas.doubted_were_offered c.grounds_hold.ensures
