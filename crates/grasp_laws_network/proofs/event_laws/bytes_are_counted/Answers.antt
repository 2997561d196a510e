use Rattle.grasp_laws_network.proofs.Counted as lemmas
use Rattle.grasp_laws_network.proofs.event_laws.bytes_are_counted.Goals as goal

pub returns : goal.returns
returns c = lemmas.bytes_are_counted
