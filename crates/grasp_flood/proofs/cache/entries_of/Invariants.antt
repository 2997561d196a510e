use Rattle.std.proofs.Common.{◌≡◌, map, take}
use Rattle.grasp_flood.specs.Floods.{entry_of}
use Rattle.grasp_flood.proofs.cache.entries_of.Given as goal

-- the parts before this one
abbrev pub invariant-loop-part : goal.invariant-loop-part
invariant-loop-part l = l.told.items ≡ map (entry_of l.flood l.end) (take l.part-index l.part-items)
