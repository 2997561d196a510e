use Rattle.grasp_laws_accepted.proofs.Agreeing as lemmas
use Rattle.grasp_laws_accepted.proofs.laws.accepted_doubts_agree.Goals as goal

pub returns : goal.returns
returns c = lemmas.accepted_doubts_agree c.grounds_hold.ensures c.doubted_were_offered.ensures
