use Rattle.grasp_service_visits.proofs.Shown.{shows_on}
use Rattle.grasp_service_visits.proofs.words.push_orders.Goals as goal

pub loop-place-preserved : goal.loop-place-preserved
loop-place-preserved c = shows_on _ _ _ c.loop-place.invariant c.in_ok-push_order_at.ensures
