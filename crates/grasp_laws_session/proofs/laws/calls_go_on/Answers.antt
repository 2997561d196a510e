use Rattle.grasp_laws_session.proofs.Made.{none_reached}
use Rattle.grasp_laws_session.proofs.Runs.{calls_go_on}
use Rattle.grasp_laws_session.proofs.laws.calls_go_on.Goals as goal

pub returns : goal.returns
returns c = record { none = none_reached; more = calls_go_on }
