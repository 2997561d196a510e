use Rattle.grasp_laws_negotiation.proofs.Finding.{have_streams}
use Rattle.grasp_laws_negotiation.proofs.session_laws.sessions_have_streams.Goals as goal

pub returns : goal.returns
returns c = have_streams c.grounds_hold.ensures
