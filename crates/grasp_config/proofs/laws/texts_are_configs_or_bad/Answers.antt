use Rattle.grasp_config.proofs.SomeConfig.{config_or_bad}
use Rattle.grasp_config.proofs.laws.texts_are_configs_or_bad.Goals as goal

pub returns : goal.returns
returns c = config_or_bad
