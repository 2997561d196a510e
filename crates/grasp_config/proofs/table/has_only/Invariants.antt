use Rattle.std.proofs.Common.{◌≡◌}
use Rattle.toml.specs.View.{members_view}
use Rattle.grasp_config.specs.Parts.{keys_of}
use Rattle.grasp_config.specs.Table.{has_only}
use Rattle.grasp_config.proofs.table.has_only.Given as goal

abbrev pub invariant-loop-key : goal.invariant-loop-key
invariant-loop-key l =
    (goal.iterator-loop-key).can_next l.key-iterator × (goal.iterator-loop-key).is_finite l.key-iterator
    × (has_only (keys_of l.part) (members_view l.key-iterator) ≡ has_only (keys_of l.part) (members_view l.table.entries))
