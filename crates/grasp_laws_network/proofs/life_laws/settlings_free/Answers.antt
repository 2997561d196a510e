use Rattle.grasp_laws_network.proofs.TurnsDo as lemmas
use Rattle.grasp_laws_network.proofs.life_laws.settlings_free.Goals as goal

pub returns : goal.returns
returns c = lemmas.settlings_free
