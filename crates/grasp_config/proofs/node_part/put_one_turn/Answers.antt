use Rattle.std.proofs.Common.{codes, pos, ap, ◌∙◌}
use Rattle.toml.specs.Data.{integer}
use Rattle.toml.specs.View.{members_view}
use Rattle.toml.specs.declared.value.Value.{Integer}
use Rattle.toml.proofs.Views.{view-Integer}
use Rattle.grasp_config.proofs.NodeParts.{view_with_named}
use Rattle.grasp_config.proofs.node_part.put_one_turn.Goals as goal

pub returns : goal.returns
returns c =
    ap members_view c.in_ok-insert.ensures.entries
    ∙ view_with_named c.args.table.now.entries c.in_ok-turns.turns (Integer (pos 1)) (codes "turns") (integer (pos 1)) c.in_ok-turns.ensures.ok (view-Integer (pos 1))
