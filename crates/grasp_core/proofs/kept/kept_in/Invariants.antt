use Rattle.std.proofs.Common.{◌≡◌, ◌-◌, ◌^◌, min, take}
use Rattle.std.specs.List.{sum_by}
use Rattle.grasp_core.specs.Kept.{kept_on}
use Rattle.grasp_core.proofs.kept.kept_in.Given as goal

-- the total is that of the streams before this one
abbrev pub invariant-loop-stream : goal.invariant-loop-stream
invariant-loop-stream l = l.total ≡ min (sum_by kept_on (take l.stream-index l.streams)) (2 ^ 64 - 1)
