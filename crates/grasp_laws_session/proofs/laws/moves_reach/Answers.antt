use Rattle.grasp_laws_session.proofs.Reaching.{quiet_reached, moves_reach, runs_join}
use Rattle.grasp_laws_session.proofs.laws.moves_reach.Goals as goal

pub returns : goal.returns
returns c = record { start = quiet_reached; more = moves_reach; join = runs_join }
