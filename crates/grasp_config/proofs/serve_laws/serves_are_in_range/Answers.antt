use Rattle.grasp_config.proofs.ServeRanges.{serves_in_range}
use Rattle.grasp_config.proofs.serve_laws.serves_are_in_range.Goals as goal

pub returns : goal.returns
returns c = serves_in_range
