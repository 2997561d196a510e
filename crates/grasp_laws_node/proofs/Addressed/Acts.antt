-- An act that is answered may be done: its session is there, and has no outcome.
use Rattle.std.proofs.Common.{◌≡◌, ℕ, Ok}
use Rattle.grasp_session.specs.Sessions.{check_reply}
use Rattle.grasp_session.specs.declared.answer.Act.{Act}
use Rattle.grasp_types.specs.declared.session.Handle.{Handle}
use Rattle.grasp_model_node.specs.Node.{NodeState}
use Rattle.grasp_model_node.specs.Refusals.{early}
use Rattle.grasp_model_node.specs.Tests.{act_tests}
use Rattle.grasp_laws_node.proofs.Bounded.Tests.{none_of, act_allowed}

pub act_checked : (n : NodeState) (asa : ℕ) (h : Handle) (a : Act) → early (act_tests n asa h a) ≡ Ok tt → check_reply n.sessions asa h a ≡ Ok tt
act_checked n asa h a e = act_allowed n asa h a (none_of (act_tests n asa h a) e)
