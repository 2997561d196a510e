use Rattle.grasp_control.specs.Orders.{order_words}
use Rattle.grasp_service_visits.proofs.Shown.{shows_through}
use Rattle.grasp_service_visits.proofs.words.push_shown.Goals as goal

pub returns : goal.returns
returns c = shows_through c.push_order-pushed.result _ _ (order_words c.args.order) c.push_order-pushed.ensures.text
