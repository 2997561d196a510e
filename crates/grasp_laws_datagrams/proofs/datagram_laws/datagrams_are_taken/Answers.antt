use Rattle.grasp_laws_datagrams.proofs.Datagrams as lemmas
use Rattle.grasp_laws_datagrams.proofs.datagram_laws.datagrams_are_taken.Goals as goal

pub returns : goal.returns
returns c = lemmas.datagrams_are_taken
