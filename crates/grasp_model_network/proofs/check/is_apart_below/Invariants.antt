use Rattle.std.proofs.Common.{◌<◌, ℕ, slice_index_or}
use Rattle.grasp_model_network.specs.Plans.{AreApart}
use Rattle.grasp_model_network.specs.declared.plan.RootAt.{RootAt}
use Rattle.grasp_model_network.proofs.check.is_apart_below.Given as goal

-- the root at this place has no address in common with those before it that were looked at so far
abbrev pub invariant-loop-before : goal.invariant-loop-before
invariant-loop-before l = (k : ℕ) (d : RootAt) → k < l.before → AreApart (slice_index_or l.roots k d) (slice_index_or l.roots l.place d)
