use Rattle.grasp_session.proofs.Oldest.{IsBest}
use Rattle.grasp_session.proofs.table.Table.oldest.Given as goal

abbrev pub invariant-loop-place : goal.invariant-loop-place
invariant-loop-place l = IsBest l.fn.wanted l.self.places l.place l.best

abbrev pub decreases-loop-place : goal.decreases-loop-place
decreases-loop-place l = l.place
