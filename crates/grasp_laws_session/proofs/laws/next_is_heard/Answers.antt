use Rattle.grasp_laws_session.proofs.Inboxes.{absent_took}
use Rattle.grasp_laws_session.proofs.Reaching.{heard_next, inbox_is_next}
use Rattle.grasp_laws_session.proofs.laws.next_is_heard.Goals as goal

pub returns : goal.returns
returns c = record { heard = heard_next; inbox = inbox_is_next; absent = absent_took }
