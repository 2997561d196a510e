use Rattle.std.proofs.Common.{codes, option_map, ap, ◌∙◌}
use Rattle.toml.specs.View.{view, members_view}
use Rattle.toml.proofs.Views.{view-lookup}
use Rattle.grasp_config.proofs.NodeParts.{view_without}
use Rattle.grasp_config.proofs.node_part.taken.Goals as goal

pub returns-clause-left : goal.returns-clause-left
returns-clause-left c = ap members_view c.remove.ensures.entries ∙ view_without (codes "serve") c.args.table.now.entries

pub returns-clause-taken : goal.returns-clause-taken
returns-clause-taken c = ap (option_map view) c.remove.ensures.value ∙ view-lookup (codes "serve") c.args.table.now.entries
