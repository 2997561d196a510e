use Rattle.std.proofs.Common.{◌≢◌, ◌<◌, ℕ, slice_index_or}
use Rattle.grasp_model_network.proofs.check.is_new_below.Given as goal

-- the number at this place differs from those before it that were looked at so far
abbrev pub invariant-loop-before : goal.invariant-loop-before
invariant-loop-before l = (k : ℕ) (d : ℕ) → k < l.before → slice_index_or l.line k d ≢ slice_index_or l.line l.place d
