use Rattle.std.proofs.Common.{◌≡◌}
use Rattle.grasp_discovery.specs.Discoveries.{live_entry}
use Rattle.grasp_types.proofs.Through.{first_through}
use Rattle.grasp_discovery.proofs.entries.expire_all.Given as goal

-- the entries before this one have expired
abbrev pub invariant-loop-i : goal.invariant-loop-i
invariant-loop-i l = l.entries.entries ≡ first_through (live_entry l.now) l.i l.fn.entries.entries
