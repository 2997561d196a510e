use Rattle.grasp_laws_session.proofs.Turns as lemmas
use Rattle.grasp_laws_session.proofs.laws.turns_say.Goals as goal

pub returns : goal.returns
returns c = lemmas.turns_say
