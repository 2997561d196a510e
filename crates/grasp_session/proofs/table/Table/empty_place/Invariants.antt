use Rattle.grasp_session.proofs.Oldest.{AreFilled}
use Rattle.grasp_session.proofs.table.Table.empty_place.Given as goal

abbrev pub invariant-loop-place : goal.invariant-loop-place
invariant-loop-place l = AreFilled l.self.places l.place
