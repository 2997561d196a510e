use Rattle.grasp_control.proofs.Lines.{places_once}
use Rattle.grasp_control.proofs.laws.requests_go_wrong_once.Goals as goal

pub returns : goal.returns
returns c = places_once
