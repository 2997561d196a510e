use Rattle.std.proofs.Common.{◌≡◌, map, filter, take}
use Rattle.grasp_flood.specs.Floods.{read_of, is_named}
use Rattle.grasp_flood.proofs.cache.FloodCache.get.Given as goal

-- what the entries before this one tell
abbrev pub invariant-loop-i : goal.invariant-loop-i
invariant-loop-i l = l.reads ≡ map read_of (filter (is_named l.name) (take l.i l.self.entries))
