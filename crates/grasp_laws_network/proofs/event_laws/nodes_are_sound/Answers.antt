use Rattle.grasp_laws_network.proofs.EachNode as lemmas
use Rattle.grasp_laws_network.proofs.event_laws.nodes_are_sound.Goals as goal

pub returns : goal.returns
returns c = lemmas.nodes_are_sound
