use Rattle.grasp_laws_session.proofs.Ends.{none_bad}
use Rattle.grasp_laws_session.proofs.Inboxes.{run_taken}
use Rattle.grasp_laws_session.proofs.laws.taken_in_order.Goals as goal

pub returns : goal.returns
returns c = record { taken = run_taken; kept = none_bad }
