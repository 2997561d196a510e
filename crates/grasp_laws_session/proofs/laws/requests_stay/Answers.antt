use Rattle.grasp_laws_session.proofs.Reaching.{request_stays, requester_is_present}
use Rattle.grasp_laws_session.proofs.laws.requests_stay.Goals as goal

pub returns : goal.returns
returns c = record { stay = request_stays; present = requester_is_present }
