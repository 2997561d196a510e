use Rattle.grasp_laws_agent.proofs.LawReaders as lemmas
use Rattle.grasp_laws_agent.proofs.laws.readers_agree.Goals as goal

pub returns : goal.returns
returns c = lemmas.readers_agree
