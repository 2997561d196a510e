use Rattle.grasp_laws_floods.proofs.Runs as lemmas
use Rattle.grasp_laws_floods.proofs.laws.relays_are_once_here.Goals as goal

pub returns : goal.returns
returns c = lemmas.relays_are_once_here
