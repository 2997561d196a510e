use Rattle.grasp_laws_datagrams.proofs.Relaying as lemmas
use Rattle.grasp_laws_datagrams.proofs.datagram_laws.other_ways_are_other.Goals as goal

pub returns : goal.returns
returns c = lemmas.other_ways_are_other
