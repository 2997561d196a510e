use Rattle.grasp_laws_network.proofs.TurnsDo as lemmas
use Rattle.grasp_laws_network.proofs.life_laws.restarts_begin_anew.Goals as goal

pub returns : goal.returns
returns c = lemmas.restarts_begin_anew
