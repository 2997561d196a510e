use Rattle.grasp_laws_session.proofs.Outcomes.{accepts}
use Rattle.grasp_laws_session.proofs.Peers.{peer_is_present}
use Rattle.grasp_laws_session.proofs.laws.accepts_the_last.Goals as goal

pub returns : goal.returns
returns c = record { last = accepts; peer = peer_is_present }
