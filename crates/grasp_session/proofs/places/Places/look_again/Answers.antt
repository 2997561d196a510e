use Rattle.std.proofs.Common.{All, sym, subst}
use Rattle.grasp_session.proofs.Earliest.{EndsFrom}
use Rattle.grasp_session.proofs.places.Places.look_again.Goals as goal

pub invariant_of-self : goal.invariant_of-self
invariant_of-self c = (c.self.invariant.0, subst (All (EndsFrom c.least_deadline-self-inside.result)) (sym c.self.view_is) c.least_deadline-self-inside.ensures)
