use Rattle.grasp_laws_session.proofs.Runs.{calls_in_order, numbers_new}
use Rattle.grasp_laws_session.proofs.laws.calls_are_in_order.Goals as goal

pub returns : goal.returns
returns c = record { order = calls_in_order; new = numbers_new }
