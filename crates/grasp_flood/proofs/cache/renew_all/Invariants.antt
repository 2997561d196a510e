use Rattle.std.proofs.Common.{◌≡◌}
use Rattle.grasp_types.proofs.Through.{first_through}
use Rattle.grasp_flood.specs.Floods.{after_renewal}
use Rattle.grasp_flood.proofs.cache.renew_all.Given as goal

-- the entries before this one are renewed
abbrev pub invariant-loop-i : goal.invariant-loop-i
invariant-loop-i l = l.entries.entries ≡ first_through (after_renewal l.fn.flood l.fn.end) l.i l.fn.entries.entries
