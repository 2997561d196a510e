use Rattle.std.proofs.Common.{◌≡◌, ◌≤◌, length, fold}
use Rattle.indexmap.specs.IndexMap.{spare}
use Rattle.grasp_flood.specs.Floods.{after_keep}
use Rattle.grasp_flood.proofs.cache.keep_all.Given as goal

-- what is left leads to the same entries, and there is room for all of it
abbrev pub invariant-loop-key : goal.invariant-loop-key
invariant-loop-key l =
    (fold after_keep l.entries.entries l.key-iterator.rest.items ≡ fold after_keep l.fn.entries.entries l.fn.told.items)
    × (length l.key-iterator.rest.items ≤ spare l.entries)
