use Rattle.grasp_config.proofs.Ranges.{configs_in_range}
use Rattle.grasp_config.proofs.laws.configs_are_in_range.Goals as goal

pub returns : goal.returns
returns c = configs_in_range
