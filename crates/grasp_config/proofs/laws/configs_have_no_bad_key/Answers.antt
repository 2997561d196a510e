use Rattle.grasp_config.proofs.OneConfig.{no_bad_key}
use Rattle.grasp_config.proofs.laws.configs_have_no_bad_key.Goals as goal

pub returns : goal.returns
returns c = no_bad_key
