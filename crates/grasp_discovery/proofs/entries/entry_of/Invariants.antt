use Rattle.std.proofs.Common.{◌≡◌, drop}
use Rattle.std.specs.Map.{lookup}
use Rattle.grasp_discovery.specs.Topic.{same_topic, topic_of}
use Rattle.grasp_discovery.proofs.entries.entry_of.Given as goal

-- what is looked up isn't before this entry
abbrev pub invariant-loop-i : goal.invariant-loop-i
invariant-loop-i l =
    lookup (same_topic (topic_of l.name l.kind)) l.entries.entries ≡ lookup (same_topic (topic_of l.name l.kind)) (drop l.i l.entries.entries)
