use Rattle.std.proofs.Common.{ℕ, ◌<◌, None, slice_index_or}
use Rattle.grasp_session.proofs.Earliest.{EndsFrom}
use Rattle.grasp_session.proofs.places.Places.least_deadline.Given as goal

-- the sessions at the places below this one
abbrev pub invariant-loop-place : goal.invariant-loop-place
invariant-loop-place l = (k : ℕ) → k < l.place → EndsFrom l.least (slice_index_or l.self k None)
