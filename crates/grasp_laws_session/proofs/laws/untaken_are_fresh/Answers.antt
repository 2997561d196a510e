use Rattle.grasp_laws_session.proofs.Fresh.{none_fresh, fresh_stay}
use Rattle.grasp_laws_session.proofs.laws.untaken_are_fresh.Goals as goal

pub returns : goal.returns
returns c = record { none = none_fresh; stay = fresh_stay }
