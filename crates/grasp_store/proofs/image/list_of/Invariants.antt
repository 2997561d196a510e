use Rattle.std.proofs.Common.{◌≡◌, take}
use Rattle.grasp_store.proofs.image.list_of.Given as goal

abbrev pub invariant-loop-prefix : goal.invariant-loop-prefix
invariant-loop-prefix l = l.list ≡ take l.prefix-index l.prefixes
