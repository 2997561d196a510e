use Rattle.grasp_laws_node.proofs.Drains as lemmas
use Rattle.grasp_laws_node.proofs.dial_laws.drains_dial_nothing.Goals as goal

pub returns : goal.returns
returns c = lemmas.drains_dial_nothing
