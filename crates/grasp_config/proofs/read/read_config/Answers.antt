use Rattle.toml.specs.View.{table_view}
use Rattle.grasp_config.proofs.OneConfig.{has_first}
use Rattle.grasp_config.proofs.read.read_config.Goals as goal

pub returns-in-Ok-clause-first : goal.returns-in-Ok-clause-first
returns-in-Ok-clause-first c =
    has_first c.args.text.now (table_view c.in-Ok.table) c.config_of.result (record { utf8 = c.in-Ok.ensures.ok.0; parsed = c.in-Ok.ensures.ok.1 }) c.config_of.ensures.first
