use Rattle.std.proofs.Common.{◌<◌, ℕ, slice_index_or}
use Rattle.grasp_model_network.specs.Plans.{IsGoodRoot}
use Rattle.grasp_model_network.specs.declared.plan.RootAt.{RootAt}
use Rattle.grasp_model_network.proofs.check.are_good_roots.Given as goal

-- those so far are good
abbrev pub invariant-loop-root : goal.invariant-loop-root
invariant-loop-root l = (k : ℕ) (d : RootAt) → k < l.root-index → IsGoodRoot l.nodes (slice_index_or l.roots k d)
