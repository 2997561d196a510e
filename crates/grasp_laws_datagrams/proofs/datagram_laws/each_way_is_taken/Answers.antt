use Rattle.grasp_laws_datagrams.proofs.Relaying as lemmas
use Rattle.grasp_laws_datagrams.proofs.datagram_laws.each_way_is_taken.Goals as goal

pub returns : goal.returns
returns c = lemmas.each_way_is_taken
